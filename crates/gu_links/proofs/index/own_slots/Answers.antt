use Rattle.std.proofs.Common.{◌∙◌, sym}
use Rattle.std.proofs.lemmas.Bool.{cond-true, eq-eqb}
use Rattle.gu_links.specs.Cells.{is_least, slots_of}
use Rattle.gu_links.proofs.Within.{is_least_by, own_slots_other}
use Rattle.gu_links.proofs.index.own_slots.Goals as goal

pub returns-then-canon-ty : goal.returns-then-canon-ty
returns-then-canon-ty c =
    let list = c.args.f.now.types in
    c.slots_of.ensures
    ∙ sym (cond-true (is_least list c.args.ty) (slots_of list c.args.ty) 0 (is_least_by list c.args.ty c.canon.result c.canon.ensures.same c.canon.ensures.least ∙ eq-eqb c.canon.result c.args.ty c.if-canon-ty.true))

pub returns-else-canon-ty : goal.returns-else-canon-ty
returns-else-canon-ty c = own_slots_other c.args.f.now.types c.args.ty c.canon.result c.canon.ensures.same c.canon.ensures.least c.if-canon-ty.false
