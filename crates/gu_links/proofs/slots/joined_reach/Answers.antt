use Rattle.std.proofs.Common.{◌&&◌, ℕ, Some, List, map, get_or, subst, ap, ap₂, sym, ◌∙◌}
use Rattle.std.specs.Prelude.{Contains}
use Rattle.gu_contents.specs.declared.content.Content.{Content}
use Rattle.gu_links.specs.Cells.{slot_cell}
use Rattle.gu_links.specs.Gives.{slot_of}
use Rattle.gu_links.specs.Known.{cells_of}
use Rattle.gu_links.specs.Over.{has_slot}
use Rattle.gu_links.specs.Kept.{in_reach}
use Rattle.gu_links.proofs.Walks.{item_in, walked, one_of, map_more, kept_same}
use Rattle.std.specs.Prelude.{fold}
use Rattle.std.proofs.lemmas.List.Sums.{fold_push}
use Rattle.gu_contents.specs.declared.content.Content.TheVariants.{Empty}
use Rattle.gu_contents.specs.Join.{join}
use Rattle.gu_contents.specs.Belongs.{Belongs}
use Rattle.gu_contents.proofs.Belonging.{answers_belong}
use Rattle.std.specs.List.{filter as keep}
use Rattle.std.proofs.Common.{take}
use Rattle.gu_links.proofs.slots.joined_reach.Goals as goal
use Rattle.gu_links.proofs.slots.joined_reach.Goals.{then-is_over, else-is_over}

pub is_over-requires-clause-ty : goal.is_over-requires-clause-ty
is_over-requires-clause-ty c = (item_in c.args.s.now.facts.now c.args.reach c.types-ty-items.result.now c.types.ty-index c.requires.head c.types-ty-items.ensures c.types-test.true).0

pub slot_content-requires-clause-ty : goal.slot_content-requires-clause-ty
slot_content-requires-clause-ty c = (item_in c.args.s.now.facts.now c.args.reach c.types-ty-items.result.now c.types.ty-index c.requires.head c.types-ty-items.ensures c.types-test.true).0

pub slot_content-requires-clause-least : goal.slot_content-requires-clause-least
slot_content-requires-clause-least c = (item_in c.args.s.now.facts.now c.args.reach c.types-ty-items.result.now c.types.ty-index c.requires.head c.types-ty-items.ensures c.types-test.true).1

pub slot_content-requires-clause-known : goal.slot_content-requires-clause-known
slot_content-requires-clause-known c =
    let i = item_in c.args.s.now.facts.now c.args.reach c.types-ty-items.result.now c.types.ty-index c.requires.head c.types-ty-items.ensures c.types-test.true in
    one_of c.args.s.now.facts.now (λ (t : ℕ). Contains (cells_of c.args.known.now) (slot_cell c.args.s.now.facts.now t 0)) (Some c.args.reach) 0 (get_or c.types-ty-items.result.now c.types.ty-index 0)
    c.requires.known i.0 i.1 (sym c.is_over.ensures ∙ c.if-is_over.true)

pub types-preserved : goal.types-preserved
types-preserved c = elim c.if-is_over.branch [
  | then-is_over w ↦ record {
    belongs = subst (λ (a : Content). Belongs c.args.s.now.facts.now a) (sym (w.elements-is ∙ w.join-elements.ensures))
        ((answers_belong c.args.s.now.facts.now).join_does c.types.elements w.slot_content.result c.types.invariant.belongs (w.slot_content.ensures.belongs c.requires.belong));
    is = λ x h.
        w.elements-is ∙ w.join-elements.ensures ∙ ap₂ (join c.args.s.now.facts.now) (c.types.invariant.is x h) (w.slot_content.ensures.value x h)
        ∙ sym (ap (fold (join c.args.s.now.facts.now) Empty) (map_more (slot_of c.args.s.now.facts.now x 0) (λ (t : ℕ). has_slot c.args.s.now.facts.now 0 t && in_reach c.args.s.now.facts.now (Some c.args.reach) t) c.types-ty-items.result.now c.types.ty-index c.types-test.true (sym c.is_over.ensures ∙ w.if-is_over.true))
        ∙ fold_push (join c.args.s.now.facts.now) Empty (map (slot_of c.args.s.now.facts.now x 0) (keep (λ (t : ℕ). has_slot c.args.s.now.facts.now 0 t && in_reach c.args.s.now.facts.now (Some c.args.reach) t) (take c.types.ty-index c.types-ty-items.result.now))) ((slot_of c.args.s.now.facts.now x 0) (get_or c.types-ty-items.result.now c.types.ty-index 0)));
  }
  | else-is_over w ↦ record {
    belongs = subst (λ (a : Content). Belongs c.args.s.now.facts.now a) (sym w.elements-is) c.types.invariant.belongs;
    is = λ x h.
        w.elements-is ∙ c.types.invariant.is x h
        ∙ sym (ap (λ (ts : List ℕ). fold (join c.args.s.now.facts.now) Empty (map (slot_of c.args.s.now.facts.now x 0) ts)) (kept_same (λ (t : ℕ). has_slot c.args.s.now.facts.now 0 t && in_reach c.args.s.now.facts.now (Some c.args.reach) t) c.types-ty-items.result.now c.types.ty-index c.types-test.true (sym c.is_over.ensures ∙ w.if-is_over.false)));
  }
]

pub returns-clause-value : goal.returns-clause-value
returns-clause-value c x h = c.types.invariant.is x h ∙ ap (λ (ts : List ℕ). fold (join c.args.s.now.facts.now) Empty (map (slot_of c.args.s.now.facts.now x 0) ts)) (walked c.args.s.now.facts.now c.args.reach 0 c.types-ty-items.result.now c.types.ty-index c.requires.head c.types-ty-items.ensures c.types-test.false)
