use Rattle.std.proofs.Common.{◌++◌, take, ap, sym, ◌∙◌}
use Rattle.std.proofs.lemmas.List.{take_all}
use Rattle.gu_types.specs.Depth.{types_in}
use Rattle.gu_rec.proofs.Groups.{types_next}
use Rattle.gu_valid_types.proofs.check.in_order.Goals as goal

pub loop-group-preserved : goal.loop-group-preserved
loop-group-preserved c =
    c.loop-ty.invariant
    ∙ (ap (λ l. types_in (take c.loop-group.group-index c.as_slice-groups.result.now) ++ l) (take_all c.loop-ty.ty-index c.as_slice-types.result.now c.loop-ty-test.false ∙ c.as_slice-types.ensures)
    ∙ sym (types_next c.as_slice-groups.result.now c.loop-group.group-index c.group-item.result c.loop-group-test.true c.group-item.is))
