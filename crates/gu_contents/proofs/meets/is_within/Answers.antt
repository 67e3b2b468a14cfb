use Rattle.std.proofs.Common.{ap, sym, ◌∙◌, nat_le, ◌+◌, arith}
use Rattle.gu_rec.specs.Sub.{height}
use Rattle.gu_contents.specs.Order.{reaches}
use Rattle.gu_contents.proofs.Cones.{edges_few, cone_few, within_is}
use Rattle.gu_contents.proofs.meets.is_within.Goals as goal

pub overflow_add-result : goal.overflow_add-result
overflow_add-result c =
    let k = edges_few c.args.f.now c.args.to c.args.head c.in-Some.edges (sym c.distance.ensures ∙ c.in-Some.is) in
    let d = cone_few c.args.f.now c.args.head c.args.depth c.requires.cone in
    omega arith

pub returns-in-None : goal.returns-in-None
returns-in-None c =
    sym (within_is c.args.f.now c.args.head c.args.to c.args.depth c.requires.no_bottom
    ∙ ap (λ o. reaches o c.args.depth (height c.args.f.now.types c.args.to)) (sym c.distance.ensures ∙ c.in-None.is))

pub returns-in-Some : goal.returns-in-Some
returns-in-Some c =
    ap (nat_le (c.in-Some.edges + c.args.depth)) c.height.ensures
    ∙ sym (within_is c.args.f.now c.args.head c.args.to c.args.depth c.requires.no_bottom
    ∙ ap (λ o. reaches o c.args.depth (height c.args.f.now.types c.args.to)) (sym c.distance.ensures ∙ c.in-Some.is))
