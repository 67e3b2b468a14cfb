use Rattle.std.proofs.Common.{sym, ◌∙◌, arith}
use Rattle.gu_contents.proofs.Cones.{edges_few, cone_few}
use Rattle.gu_contents.proofs.order.cone_le.Goals as goal

pub overflow_add-result : goal.overflow_add-result
overflow_add-result c =
    let k = edges_few c.args.f.now c.in-Cone.other c.args.head c.in-Some.edges (sym c.distance.ensures ∙ c.in-Some.is) in
    let d = cone_few c.args.f.now c.args.head c.args.depth c.requires.first in
    omega arith
