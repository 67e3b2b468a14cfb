use Rattle.std.proofs.Common.{rules, ◌≡◌, ◌+◌, ◌<◌, length, arith}
use Rattle.gu_links.specs.Cells.{slots_before, slot_cell}
use Rattle.gu_links.proofs.Within.{read_is, least_below, slot_is, slot_least_within}
use Rattle.gu_links.proofs.numbering.Numbering.slot.Goals as goal
use Rattle.gu_links.proofs.numbering.Numbering.slot.Goals.{After-index}

pub index-requires : goal.index-requires
index-requires c = let s = c.args.self.now in let h = least_below s.facts.now c.args.ty c.canon-least.result (length s.slots.items) c.requires.in_range s.slots_long c.canon-least.ensures.same c.canon-least.ensures.least in search rules

cell_is : (c : After-index) → c.index.result.now + c.args.slot ≡ slot_cell c.args.self.now.facts.now c.args.ty c.args.slot
cell_is c =
    let s = c.args.self.now in
    let a = read_is s.slots.items (slots_before s.facts.now) c.canon-least.result c.index.result.now (least_below s.facts.now c.args.ty c.canon-least.result (length s.slots.items) c.requires.in_range s.slots_long c.canon-least.ensures.same c.canon-least.ensures.least) c.index.ensures s.slots_are in
    let e = slot_is s.facts.now c.args.ty c.args.slot c.canon-least.result c.canon-least.ensures.same c.canon-least.ensures.least in omega arith

within : (c : After-index) → c.index.result.now + c.args.slot < c.args.self.now.own
within c = let a = cell_is c in let o = c.args.self.now.own_is in let w = slot_least_within c.args.self.now.facts.now c.args.ty c.args.slot c.requires.in_range c.requires.has_slot in omega arith

pub overflow_add-result : goal.overflow_add-result
overflow_add-result c = let w = within ((goal.at.overflow_add-result c).After-index) in search rules

pub returns-clause-cell : goal.returns-clause-cell
returns-clause-cell c = cell_is ((goal.at.returns-clause-cell c).After-index)

pub returns-clause-within : goal.returns-clause-within
returns-clause-within c = let o = c.args.self.now.own_is in let w = within ((goal.at.returns-clause-within c).After-index) in omega arith
