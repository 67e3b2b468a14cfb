use Rattle.std.proofs.Common.{◌∙◌, suc, ap, List, length, arith, Bool, false}
use Rattle.std.proofs.lemmas.Result.{err_from_is_err_and}
use Rattle.gu_syntax.specs.Code.{Code}
use Rattle.gu_syntax.specs.declared.instr.Body.{Body}
use Rattle.gu_syntax.specs.declared.instr.Instr.{Instr}
use Rattle.gu_syntax.proofs.Back.{list_back}
use Rattle.gu_syntax.specs.Reading.{Read, got, ◌>>=◌, until_at, body_of}
use Rattle.gu_read_code.proofs.Opening.{fails_bind}
use Rattle.gu_read_code.proofs.bodies.expression_on.Goals as goal

pub returns-in_err-branch-clause-value : goal.returns-in_err-branch-clause-value
returns-in_err-branch-clause-value c =
    let size = suc (length c.args.bytes.now) in
    let p = err_from_is_err_and c.from_residual.result c.from_residual.ensures.1 in
    rw (p.1, p.2) (fails_bind c.in_err-branch.field-0.0 (until_at size 1000 false c.args.bytes.now) (λ code behind. got (body_of code) behind) (c.in_err-branch.ensures.value size (omega arith)))

pub returns-clause-value : goal.returns-clause-value
returns-clause-value c =
    let size = suc (length c.args.bytes.now) in
    let at : List Instr → Body = λ is. record { code = is } in
    ap (λ (r : Read (Code × Bool)). r >>= λ code behind. got (body_of code) behind) (c.in_ok-branch.ensures.value size (omega arith))
    ∙ ap (λ is. got (at is) c.in_ok-branch.rest.now) (list_back c.in_ok-branch.branch.code.code)
