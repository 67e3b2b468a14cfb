use Rattle.wasm_gufa.specs.Steps.{of_run}
use Rattle.wasm_gufa.proofs.Causes.{says_told, keeps_told}
use Rattle.wasm_gufa.proofs.top.run.Goals as goal

pub returns-clause-says : goal.returns-clause-says
returns-clause-says g c =
    says_told (g.R.Source.left c.args.input.now) (g.K.Sink.held c.args.output.now) (g.K.Sink.held c.put_least.new.output) c.in_ok-module.module (of_run c.put_least.result) c.in_ok-module.ensures.ok c.put_least.ensures.says

pub returns-clause-keeps : goal.returns-clause-keeps
returns-clause-keeps g c done =
    keeps_told (g.R.Source.left c.args.input.now) c.in_ok-module.module c.put_least.new.kept c.in_ok-module.ensures.ok (c.put_least.ensures.keeps done)
