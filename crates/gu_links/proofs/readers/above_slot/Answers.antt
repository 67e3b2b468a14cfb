use Rattle.std.proofs.Common.{◌≡◌, ◌+◌, ◌-◌, ◌<◌, ◌^◌, length, refl, sym, ap, ◌∙◌, arith, rules}
use Rattle.std.proofs.lemmas.List.{get_or_default}
use Rattle.gu_types.specs.Depth.{types_of}
use Rattle.gu_contents.specs.Contents.{least_of}
use Rattle.gu_links.specs.Cells.{slots_before}
use Rattle.gu_links.proofs.Owning.{slots_long}
use Rattle.gu_links.proofs.Listed.{slot_of, table_first, above_within, reads_far, above_has, above_is}
use Rattle.gu_links.proofs.readers.above_slot.Goals as goal

pub index-ty-requires : goal.index-ty-requires
index-ty-requires c =
    let cells = c.args.cells.now in
    let all = slots_long c.args.f.now cells c.requires.cells in
    let lt = c.requires.slot in
    let h : c.args.cell < length cells.owners.items = omega arith in search (rules, h)

pub supertype-requires : goal.supertype-requires
supertype-requires c =
    let cells = c.args.cells.now in
    let all = slots_long c.args.f.now cells c.requires.cells in
    let lt = c.requires.slot in
    let long : c.args.cell < length cells.owners.items = omega arith in
    let o = slot_of c.args.f.now cells c.requires.cells c.args.cell c.requires.slot in
    let own : c.index-ty.result.now ≡ o.type = c.index-ty.ensures ∙ get_or_default cells.owners.items c.args.cell c.index-ty.result.now 0 long ∙ o.is in
    let b = o.below in omega arith

pub returns-in_err-above-clause-value : goal.returns-in_err-above-clause-value
returns-in_err-above-clause-value c ty slot has r =
    let cells = c.args.cells.now in
    let all = slots_long c.args.f.now cells c.requires.cells in
    let lt = c.requires.slot in
    let long : c.args.cell < length cells.owners.items = omega arith in
    let far = reads_far c.args.f.now cells c.requires.cells ty slot c.args.cell c.args.up r c.index-ty.result.now (c.index-ty.ensures ∙ get_or_default cells.owners.items c.args.cell c.index-ty.result.now 0 long) in
    let some = c.supertype.ensures.value ty far in
    let none = c.in_err-above.was in
    absurd cc

pub index-requires : goal.index-requires
index-requires c =
    let cells = c.args.cells.now in
    let all = slots_long c.args.f.now cells c.requires.cells in
    let lt = c.requires.slot in
    let long : c.args.cell < length cells.owners.items = omega arith in
    let o = slot_of c.args.f.now cells c.requires.cells c.args.cell c.requires.slot in
    let own : c.index-ty.result.now ≡ o.type = c.index-ty.ensures ∙ get_or_default cells.owners.items c.args.cell c.index-ty.result.now 0 long ∙ o.is in
    let b = o.below in
    let n = c.requires.cells.slots_long in
    let h : c.index-ty.result.now < length cells.slots.items = omega arith in search (rules, h)

pub overflow_sub-slot : goal.overflow_sub-slot
overflow_sub-slot c =
    let cells = c.args.cells.now in
    let all = slots_long c.args.f.now cells c.requires.cells in
    let lt = c.requires.slot in
    let long : c.args.cell < length cells.owners.items = omega arith in
    let o = slot_of c.args.f.now cells c.requires.cells c.args.cell c.requires.slot in
    let own : c.index-ty.result.now ≡ o.type = c.index-ty.ensures ∙ get_or_default cells.owners.items c.args.cell c.index-ty.result.now 0 long ∙ o.is in
    let b = o.below in
    let first = table_first c.args.f.now cells c.requires.cells c.index-ty.result.now c.index.result.now (let n : c.index-ty.result.now < length (types_of c.args.f.now.types) = omega arith in n) c.index.ensures in
    let same = ap (slots_before c.args.f.now) own in
    let at = o.at in omega arith

pub overflow_add-result : goal.overflow_add-result
overflow_add-result c =
    let cells = c.args.cells.now in
    let less = c.if-slot-slots_of.true in
    let many = c.slots_of.ensures in
    let w = above_within c.args.f.now cells c.requires.cells c.in_ok-above.above c.index-then-slot-slots_of.result.now (c.args.cell - c.index.result.now) c.in_ok-above.ensures.in_range c.in_ok-above.ensures.least (omega arith) c.index-then-slot-slots_of.ensures in
    let few = c.requires.few in
    let h : c.index-then-slot-slots_of.result.now + (c.args.cell - c.index.result.now) < 2 ^ 64 = omega arith in search (rules, h)

pub returns-then-slot-slots_of-clause-value : goal.returns-then-slot-slots_of-clause-value
returns-then-slot-slots_of-clause-value c ty slot has r =
    let f = c.args.f.now in
    let cells = c.args.cells.now in
    let all = slots_long f cells c.requires.cells in
    let lt = c.requires.slot in
    let long : c.args.cell < length cells.owners.items = omega arith in
    let own = c.index-ty.ensures ∙ get_or_default cells.owners.items c.args.cell c.index-ty.result.now 0 long in
    let o = slot_of f cells c.requires.cells c.args.cell c.requires.slot in
    let of_range : c.index-ty.result.now < length (types_of f.types) = let b = o.below in let i = own ∙ o.is in omega arith in
    let first = table_first f cells c.requires.cells c.index-ty.result.now c.index.result.now of_range c.index.ensures in
    let base = table_first f cells c.requires.cells c.in_ok-above.above c.index-then-slot-slots_of.result.now c.in_ok-above.ensures.in_range c.index-then-slot-slots_of.ensures in
    let some = sym c.in_ok-above.was ∙ c.supertype.ensures.value ty (reads_far f cells c.requires.cells ty slot c.args.cell c.args.up r c.index-ty.result.now own) in
    let same : c.in_ok-above.above ≡ least_of f.types ty = cc in
    above_is f cells c.requires.cells ty slot c.args.cell c.args.up r c.index-ty.result.now c.in_ok-above.above c.index.result.now c.index-then-slot-slots_of.result.now (c.args.cell - c.index.result.now) own first same base refl

pub returns-then-slot-slots_of-clause-in_range : goal.returns-then-slot-slots_of-clause-in_range
returns-then-slot-slots_of-clause-in_range c =
    let less = c.if-slot-slots_of.true in
    let many = c.slots_of.ensures in
    above_within c.args.f.now c.args.cells.now c.requires.cells c.in_ok-above.above c.index-then-slot-slots_of.result.now (c.args.cell - c.index.result.now) c.in_ok-above.ensures.in_range c.in_ok-above.ensures.least (omega arith) c.index-then-slot-slots_of.ensures

pub returns-else-slot-slots_of-clause-value : goal.returns-else-slot-slots_of-clause-value
returns-else-slot-slots_of-clause-value c ty slot has r =
    let f = c.args.f.now in
    let cells = c.args.cells.now in
    let all = slots_long f cells c.requires.cells in
    let lt = c.requires.slot in
    let long : c.args.cell < length cells.owners.items = omega arith in
    let own = c.index-ty.ensures ∙ get_or_default cells.owners.items c.args.cell c.index-ty.result.now 0 long in
    let o = slot_of f cells c.requires.cells c.args.cell c.requires.slot in
    let of_range : c.index-ty.result.now < length (types_of f.types) = let b = o.below in let i = own ∙ o.is in omega arith in
    let first = table_first f cells c.requires.cells c.index-ty.result.now c.index.result.now of_range c.index.ensures in
    let some = sym c.in_ok-above.was ∙ c.supertype.ensures.value ty (reads_far f cells c.requires.cells ty slot c.args.cell c.args.up r c.index-ty.result.now own) in
    let same : c.in_ok-above.above ≡ least_of f.types ty = cc in
    let h = above_has f cells c.requires.cells ty slot c.args.cell c.args.up r c.index-ty.result.now c.in_ok-above.above c.index.result.now (c.args.cell - c.index.result.now) has own first same refl in
    let no = c.if-slot-slots_of.false in
    let many = c.slots_of.ensures in
    absurd (omega arith)
