use Rattle.std.proofs.Common.{arith}
use Rattle.gu_report.specs.declared.status.Status.TheVariants.{Done}
use Rattle.wasm_gufa.proofs.Answering.{is_due}
use Rattle.wasm_gufa.proofs.top.wasm_gufa_and_keep.Goals as goal

pub returns-in-Ok-clause-due : goal.returns-in-Ok-clause-due
returns-in-Ok-clause-due g c empty read written =
    is_due (g.R.Source.left c.args.input.now) (g.K.Sink.held c.args.output.now) (g.K.Sink.held c.run.new.output) Done c.in-Ok.ensures.says (λ e. cc) (λ e. cc) (λ e. cc)

pub returns-in-Err-clause-due : goal.returns-in-Err-clause-due
returns-in-Err-clause-due g c empty read written =
    is_due (g.R.Source.left c.args.input.now) (g.K.Sink.held c.args.output.now) (g.K.Sink.held c.run.new.output) c.in-Err.status c.in-Err.ensures.says (λ e. omega (arith, c.in-Err.ensures.usage.0 e)) (λ e. read (c.in-Err.ensures.read_fault e)) (λ e. written (c.in-Err.ensures.write_fault e))
