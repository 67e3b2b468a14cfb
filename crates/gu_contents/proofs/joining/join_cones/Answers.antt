use Rattle.std.proofs.Common.{arith}
use Rattle.gu_contents.proofs.Cones.{cone_few}
use Rattle.gu_contents.proofs.joining.join_cones.Goals as goal

pub overflow_add-first : goal.overflow_add-first
overflow_add-first c =
    let k = c.edges.ensures.small in
    let d = cone_few c.args.f.now c.args.a c.args.d c.requires.first in
    omega arith

pub overflow_add-second : goal.overflow_add-second
overflow_add-second c =
    let k = c.edges-2.ensures.small in
    let e = cone_few c.args.f.now c.args.b c.args.e c.requires.second in
    omega arith
