use Rattle.std.proofs.Common.{ap, ◌∙◌, ◌∷◌, ◌++◌, []}
use Rattle.std.proofs.lemmas.Result.{err_from_is_err_and}
use Rattle.gu_types.specs.declared.types.ValType.TheVariants as V
use Rattle.gu_read.proofs.Runs.{entry_whole, entry_many, entry_fails}
use Rattle.gu_read.proofs.funcs.read_func.Goals as goal

pub returns-in_err-entry-clause-value : goal.returns-in_err-entry-clause-value
returns-in_err-entry-clause-value c =
    let p = err_from_is_err_and c.from_residual.result c.from_residual.ensures.1 in
    rw (p.1, p.2) (entry_fails c.args.ty c.args.bytes.now c.in_err-entry.field-0.0 c.in_err-entry.ensures.value)

pub returns-in-Whole-clause-value : goal.returns-in-Whole-clause-value
returns-in-Whole-clause-value c = let v = rw c.in-Whole.is at c.in_ok-entry.ensures.value in entry_whole c.args.ty c.args.bytes.now c.in_ok-entry.rest.now c.in-Whole.locals c.in-Whole.body v.0 v.1 v.2.0

pub returns-in_ok-push-in-TooMany-clause-value : goal.returns-in_ok-push-in-TooMany-clause-value
returns-in_ok-push-in-TooMany-clause-value c = let v = rw c.in-TooMany.is at c.in_ok-entry.ensures.value in entry_many c.args.ty c.args.bytes.now c.in_ok-entry.rest.now _ v.0 v.1 v.2 (c.in_ok-push-in-TooMany.ensures.ok ∙ ap (λ l. l ++ (4294967295, V.I32) ∷ []) c.new-locals.ensures)
