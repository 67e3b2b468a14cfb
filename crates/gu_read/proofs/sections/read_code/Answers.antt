use Rattle.std.proofs.Common.{ap, ◌∙◌, ◌∷◌, Ok, Err}
use Rattle.std.proofs.lemmas.Result.{err_from_is_err_and}
use Rattle.gu_syntax.specs.Reading.{bodies_at}
use Rattle.gu_read.specs.Standing.{AllStandFor}
use Rattle.gu_read.proofs.Closing.{closes_by, code_fails, customs_fail_behind, code_stands}
use Rattle.gu_read.proofs.sections.read_code.Goals as goal

pub returns-in_err-funcs-in-Some-eq10-default-clause-value : goal.returns-in_err-funcs-in-Some-eq10-default-clause-value
returns-in_err-funcs-in-Some-eq10-default-clause-value g c =
    let p = err_from_is_err_and c.from_residual-in_err-funcs-in-Some-eq10-default.result c.from_residual-in_err-funcs-in-Some-eq10-default.ensures.1 in
    let split = c.in-Some-eq10-default.ensures.cases.0 ∙ ap (λ b. b ∷ c.in-Some-eq10-default.behind.now) c.in-Some-eq10-default.field-0-0-test in
    let content = c.in_ok-content-in-Some-eq10-default in
    let closed = closes_by AllStandFor c.read_bodies.result (Err c.in_err-funcs-in-Some-eq10-default.field-0.0) content.rest.now (bodies_at 1000 c.args.tys.now content.content.now) c.in_err-funcs-in-Some-eq10-default.ensures.value c.read_bodies.ensures.value in
    rw (p.1, p.2) (code_fails c.args.tys.now c.args.bytes.now c.in-Some-eq10-default.behind.now content.content.now content.rest.now c.in_err-funcs-in-Some-eq10-default.field-0.0 split content.ensures.value closed)

pub returns-in_err-rest-in-Some-eq10-default-clause-value : goal.returns-in_err-rest-in-Some-eq10-default-clause-value
returns-in_err-rest-in-Some-eq10-default-clause-value g c =
    let p = err_from_is_err_and c.from_residual-in_err-rest-in-Some-eq10-default.result c.from_residual-in_err-rest-in-Some-eq10-default.ensures.1 in
    let split = c.in-Some-eq10-default.ensures.cases.0 ∙ ap (λ b. b ∷ c.in-Some-eq10-default.behind.now) c.in-Some-eq10-default.field-0-0-test in
    let content = c.in_ok-content-in-Some-eq10-default in
    let funcs = c.in_ok-funcs-in-Some-eq10-default in
    let closed = closes_by AllStandFor c.read_bodies.result (Ok (funcs.funcs, funcs.rest)) content.rest.now (bodies_at 1000 c.args.tys.now content.content.now) funcs.ensures.value c.read_bodies.ensures.value in
    rw (p.1, p.2) (customs_fail_behind c.args.tys.now c.args.bytes.now c.in-Some-eq10-default.behind.now content.content.now content.rest.now funcs.rest.now funcs.funcs c.in_err-rest-in-Some-eq10-default.field-0.0 split content.ensures.value closed c.in_err-rest-in-Some-eq10-default.ensures.value)

pub returns-in_ok-rest-in-Some-eq10-default-clause-value : goal.returns-in_ok-rest-in-Some-eq10-default-clause-value
returns-in_ok-rest-in-Some-eq10-default-clause-value g c =
    let split = c.in-Some-eq10-default.ensures.cases.0 ∙ ap (λ b. b ∷ c.in-Some-eq10-default.behind.now) c.in-Some-eq10-default.field-0-0-test in
    let content = c.in_ok-content-in-Some-eq10-default in
    let funcs = c.in_ok-funcs-in-Some-eq10-default in
    let closed = closes_by AllStandFor c.read_bodies.result (Ok (funcs.funcs, funcs.rest)) content.rest.now (bodies_at 1000 c.args.tys.now content.content.now) funcs.ensures.value c.read_bodies.ensures.value in
    code_stands c.args.tys.now c.args.bytes.now c.in-Some-eq10-default.behind.now content.content.now content.rest.now funcs.rest.now c.in_ok-rest-in-Some-eq10-default.rest.now funcs.funcs split content.ensures.value closed c.in_ok-rest-in-Some-eq10-default.ensures.value
