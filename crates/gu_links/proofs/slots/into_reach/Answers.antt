use Rattle.std.proofs.Common.{ℕ, map, ap, ◌∙◌}
use Rattle.gu_links.specs.Cells.{slot_cell}
use Rattle.gu_links.proofs.Walks.{item_in, walked}
use Rattle.gu_links.proofs.slots.into_reach.Goals as goal

pub is_over-requires-clause-ty : goal.is_over-requires-clause-ty
is_over-requires-clause-ty c = (item_in c.args.s.now.facts.now c.args.reach c.types-ty-items.result.now c.types.ty-index c.requires c.types-ty-items.ensures c.types-test.true).0

pub slot_cell-requires-clause-ty : goal.slot_cell-requires-clause-ty
slot_cell-requires-clause-ty c = (item_in c.args.s.now.facts.now c.args.reach c.types-ty-items.result.now c.types.ty-index c.requires c.types-ty-items.ensures c.types-test.true).0

pub slot_cell-requires-clause-least : goal.slot_cell-requires-clause-least
slot_cell-requires-clause-least c = (item_in c.args.s.now.facts.now c.args.reach c.types-ty-items.result.now c.types.ty-index c.requires c.types-ty-items.ensures c.types-test.true).1

pub returns : goal.returns
returns c = c.types.invariant ∙ ap (map (λ (t : ℕ). (slot_cell c.args.s.now.facts.now t c.args.slot, c.args.a))) (walked c.args.s.now.facts.now c.args.reach c.args.slot c.types-ty-items.result.now c.types.ty-index c.requires c.types-ty-items.ensures c.types-test.false)
