use Rattle.std.proofs.Common.{ap, ◌∙◌, Option, List, ℕ}
use Rattle.std.proofs.lemmas.Result.{err_from_is_err_and}
use Rattle.gu_types.specs.declared.types.ValType.{ValType}
use Rattle.gu_syntax.specs.Reading.{got}
use Rattle.gu_read_code.specs.Entries.{held_of}
use Rattle.gu_read_code.proofs.Sizing.{inside_got, inside_fails}
use Rattle.gu_read_code.proofs.entries.read_inside.Goals as goal

pub returns-in_err-body-clause-value : goal.returns-in_err-body-clause-value
returns-in_err-body-clause-value c =
    let p = err_from_is_err_and c.from_residual-in_err-body.result c.from_residual-in_err-body.ensures.1 in
    rw (p.1, p.2) (inside_fails c.in_err-body.field-0.0 1000 c.args.bytes.now c.in_ok-locals.rest.now c.in_ok-locals.locals c.in_ok-locals.ensures.value c.in_err-body.ensures.value)

pub returns-in-Some-clause-value : goal.returns-in-Some-clause-value
returns-in-Some-clause-value c =
    inside_got 1000 c.args.bytes.now c.in_ok-locals.rest.now c.in_ok-body.rest.now c.in_ok-locals.locals c.in_ok-body.body c.in_ok-locals.ensures.value c.in_ok-body.ensures.value
    ∙ ap (λ (found : Option (List (ℕ × ValType))). got (held_of found c.in_ok-body.body) c.in_ok-body.rest.now) c.in-Some.is

pub returns-in-None-clause-value : goal.returns-in-None-clause-value
returns-in-None-clause-value c =
    inside_got 1000 c.args.bytes.now c.in_ok-locals.rest.now c.in_ok-body.rest.now c.in_ok-locals.locals c.in_ok-body.body c.in_ok-locals.ensures.value c.in_ok-body.ensures.value
    ∙ ap (λ (found : Option (List (ℕ × ValType))). got (held_of found c.in_ok-body.body) c.in_ok-body.rest.now) c.in-None.is
