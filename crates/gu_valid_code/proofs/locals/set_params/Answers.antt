use Rattle.std.proofs.Common.{◌∙◌}
use Rattle.gu_valid_code.proofs.Lookups.{more_set}
use Rattle.gu_valid_code.proofs.locals.set_params.Goals as goal

pub loop-param-preserved : goal.loop-param-preserved
loop-param-preserved c =
    more_set c.loop-param.set.items c.push.new.self.items c.args.params.now c.loop-param._param-index c.loop-param-test.true c.in_ok-push.ensures.items
    ∙ c.loop-param.invariant
