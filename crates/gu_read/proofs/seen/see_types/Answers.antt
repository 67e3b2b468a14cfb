use Rattle.std.proofs.Common.{ap, sym, ◌∙◌, subst, take, ◌++◌, ◌∷◌, [], List, append_assoc}
use Rattle.std.proofs.lemmas.List.{take_all, take_more, append-nil}
use Rattle.gu_types.specs.declared.types.SubType.{SubType}
use Rattle.gu_types.specs.Depth.{types_in}
use Rattle.gu_read.specs.Seen.{Sees}
use Rattle.gu_read.proofs.Flat.{types_next}
use Rattle.gu_read.proofs.seen.see_types.Goals as goal

pub types-init : goal.types-init
types-init c = subst (Sees c.groups.seen) (sym (append-nil (types_in (take c.groups.group-index c.args.groups.now)))) c.groups.invariant

pub types-preserved : goal.types-preserved
types-preserved c =
    let before : List SubType = types_in (take c.groups.group-index c.args.groups.now) in
    let more = append_assoc before (take c.types.ty-index c.as_slice-types.result.now) (c.ty-item.result ∷ [])
    ∙ ap (λ l. before ++ l) (ap (λ t. take c.types.ty-index c.as_slice-types.result.now ++ t ∷ []) c.ty-item.is ∙ sym (take_more c.as_slice-types.result.now c.types.ty-index c.ty-item.result c.types-test.true)) in
    subst (Sees c.add.new.self) more (c.in_ok-add.ensures _ c.types.invariant)

pub groups-preserved : goal.groups-preserved
groups-preserved c =
    subst (Sees c.types.seen)
    (ap (λ l. types_in (take c.groups.group-index c.args.groups.now) ++ l) (take_all c.types.ty-index c.as_slice-types.result.now c.types-test.false ∙ c.as_slice-types.ensures)
    ∙ sym (types_next c.args.groups.now c.groups.group-index c.group-item.result c.groups-test.true c.group-item.is))
    c.types.invariant
