use Rattle.gu_report.specs.Statuses.{of_reader}
use Rattle.wasm_gufa.specs.Steps.{Blames}
use Rattle.wasm_gufa.proofs.Causes.{err_from, blames_reader}
use Rattle.wasm_gufa.proofs.Depths.{types_are_shallow}
use Rattle.wasm_gufa.proofs.top.accepted.Goals as goal

pub returns-in_err-module-clause-err : goal.returns-in_err-module-clause-err
returns-in_err-module-clause-err g c =
    err_from (Blames c.args.bytes.now) c.from_residual.result (of_reader c.in_err-module.field-0.0) c.from_residual.ensures.1
    (blames_reader c.args.bytes.now c.in_err-module.field-0.0 c.in_err-module.ensures.refused)

pub validate-requires-clause-shallow : goal.validate-requires-clause-shallow
validate-requires-clause-shallow g c = types_are_shallow c.in_ok-module.module c.in_ok-module.ensures.ok.within.counted
