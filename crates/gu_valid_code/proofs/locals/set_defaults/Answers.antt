use Rattle.std.proofs.Common.{◌∙◌}
use Rattle.gu_valid_code.proofs.Lookups.{more_defaults}
use Rattle.gu_valid_code.proofs.locals.set_defaults.Goals as goal

pub loop-run-preserved : goal.loop-run-preserved
loop-run-preserved c =
    more_defaults c.loop-run.set.items c.push_flags.new.flags.items c.args.runs.now c.loop-run.run-index c.has_default.result c.loop-run-test.true c.has_default.ensures c.in_ok-push_flags.ensures
    ∙ c.loop-run.invariant
