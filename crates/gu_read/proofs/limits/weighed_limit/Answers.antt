use Rattle.std.proofs.Common.{◌≤◌, arith}
use Rattle.std.specs.Prelude.{sum_by}
use Rattle.gu_read.specs.Limits.{locals_of}
use Rattle.gu_read.specs.Rows.{weight}
use Rattle.gu_read.proofs.Counting.{weights_light, light_none, light_sum}
use Rattle.gu_read.proofs.Rowing.{few_locals}
use Rattle.gu_read.proofs.limits.weighed_limit.Goals as goal

pub returns-then-weight-le4000000 : goal.returns-then-weight-le4000000
returns-then-weight-le4000000 c =
    let funcs = c.args.weighed.now.funcs in
    let few : sum_by (λ f. weight (locals_of f)) funcs ≤ 4000000 = weights_light funcs (omega (arith, c.if-weight-le4000000.true, c.weight.ensures)) in
    few_locals funcs (sum_by (λ f. weight (locals_of f)) funcs) few (light_none funcs few) (light_sum funcs few)
