use Rattle.std.proofs.Common.{◌&&◌, ◌++◌, ◌∷◌, [], ℕ, Some, List, map, get_or, ap, ap₂, sym, ◌∙◌}
use Rattle.std.specs.Prelude.{Contains}
use Rattle.gu_contents.specs.declared.content.Content.{Content}
use Rattle.gu_links.specs.Cells.{slot_cell}
use Rattle.gu_links.specs.Gives.{Asked, slot_of}
use Rattle.gu_links.specs.Known.{cells_of}
use Rattle.gu_links.specs.Over.{has_slot}
use Rattle.gu_links.specs.Kept.{in_reach}
use Rattle.gu_links.proofs.Walks.{item_in, walked, one_of, map_more, kept_same}
use Rattle.gu_contents.specs.Numbers.{extend}
use Rattle.gu_links.proofs.slots.from_reach.Goals as goal
use Rattle.gu_links.proofs.slots.from_reach.Goals.{then-is_over+in_ok-push, else-is_over}

pub is_over-requires-clause-ty : goal.is_over-requires-clause-ty
is_over-requires-clause-ty c = (item_in c.args.s.now.facts.now c.args.reach c.types-ty-items.result.now c.types.ty-index c.requires.head c.types-ty-items.ensures c.types-test.true).0

pub slot_content-a-requires-clause-ty : goal.slot_content-a-requires-clause-ty
slot_content-a-requires-clause-ty c = (item_in c.args.s.now.facts.now c.args.reach c.types-ty-items.result.now c.types.ty-index c.requires.head c.types-ty-items.ensures c.types-test.true).0

pub slot_content-a-requires-clause-least : goal.slot_content-a-requires-clause-least
slot_content-a-requires-clause-least c = (item_in c.args.s.now.facts.now c.args.reach c.types-ty-items.result.now c.types.ty-index c.requires.head c.types-ty-items.ensures c.types-test.true).1

pub slot_content-a-requires-clause-known : goal.slot_content-a-requires-clause-known
slot_content-a-requires-clause-known c =
    let i = item_in c.args.s.now.facts.now c.args.reach c.types-ty-items.result.now c.types.ty-index c.requires.head c.types-ty-items.ensures c.types-test.true in
    one_of c.args.s.now.facts.now (λ (t : ℕ). Contains (cells_of c.args.known.now) (slot_cell c.args.s.now.facts.now t c.args.get.slot)) (Some c.args.reach) c.args.get.slot (get_or c.types-ty-items.result.now c.types.ty-index 0)
    c.requires.known i.0 i.1 (sym c.is_over.ensures ∙ c.if-is_over.true)

pub types-preserved : goal.types-preserved
types-preserved c = elim c.if-is_over.branch [
  | then-is_over+in_ok-push w ↦ λ x h.
      w.asked-is ∙ w.in_ok-push.ensures.ok
      ∙ ap₂ (λ (xs : List Asked) (a : Content). xs ++ (c.args.get.to, a) ∷ []) (c.types.invariant x h) (w.extend.ensures ∙ ap (extend c.args.get.storage c.args.get.signed) (w.slot_content-a.ensures.value x h))
      ∙ sym (map_more (λ (t : ℕ). (c.args.get.to, extend c.args.get.storage c.args.get.signed (slot_of c.args.s.now.facts.now x c.args.get.slot t))) (λ (t : ℕ). has_slot c.args.s.now.facts.now c.args.get.slot t && in_reach c.args.s.now.facts.now (Some c.args.reach) t) c.types-ty-items.result.now c.types.ty-index c.types-test.true (sym c.is_over.ensures ∙ w.if-is_over.true))
  | else-is_over w ↦ λ x h.
      w.asked-is ∙ c.types.invariant x h
      ∙ sym (ap (map (λ (t : ℕ). (c.args.get.to, extend c.args.get.storage c.args.get.signed (slot_of c.args.s.now.facts.now x c.args.get.slot t)))) (kept_same (λ (t : ℕ). has_slot c.args.s.now.facts.now c.args.get.slot t && in_reach c.args.s.now.facts.now (Some c.args.reach) t) c.types-ty-items.result.now c.types.ty-index c.types-test.true (sym c.is_over.ensures ∙ w.if-is_over.false)))
]

pub returns : goal.returns
returns c x h = c.types.invariant x h ∙ ap (map (λ (t : ℕ). (c.args.get.to, extend c.args.get.storage c.args.get.signed (slot_of c.args.s.now.facts.now x c.args.get.slot t)))) (walked c.args.s.now.facts.now c.args.reach c.args.get.slot c.types-ty-items.result.now c.types.ty-index c.requires.head c.types-ty-items.ensures c.types-test.false)
