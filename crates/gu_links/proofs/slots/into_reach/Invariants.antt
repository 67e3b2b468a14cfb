use Rattle.std.proofs.Common.{◌≡◌, ◌&&◌, ℕ, Some, map, take}
use Rattle.std.specs.List.{filter}
use Rattle.gu_links.specs.Cells.{slot_cell}
use Rattle.gu_links.specs.Over.{has_slot}
use Rattle.gu_links.specs.Kept.{in_reach}
use Rattle.gu_links.proofs.slots.into_reach.Given as goal

abbrev pub invariant-types : goal.invariant-types
invariant-types l = l.asked ≡ map (λ (t : ℕ). (slot_cell l.s.facts.now t l.slot, l.a)) (filter (λ (t : ℕ). has_slot l.s.facts.now l.slot t && in_reach l.s.facts.now (Some l.fn.reach) t) (take l.ty-index l.ty-items))
