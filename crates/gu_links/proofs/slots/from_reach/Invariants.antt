use Rattle.std.proofs.Common.{◌≡◌, ◌&&◌, ℕ, Some, take}
use Rattle.std.specs.List.{filter}
use Rattle.gu_links.specs.Gives.{Contents}
use Rattle.gu_links.specs.Known.{Has}
use Rattle.gu_links.specs.Over.{has_slot}
use Rattle.gu_links.specs.Kept.{in_reach}
use Rattle.gu_links.specs.Applied.{from_slots}
use Rattle.gu_links.proofs.slots.from_reach.Given as goal

abbrev pub invariant-types : goal.invariant-types
invariant-types l = (x : Contents) → Has l.known x → l.asked ≡ from_slots l.s.facts.now x l.get (filter (λ (t : ℕ). has_slot l.s.facts.now l.get.slot t && in_reach l.s.facts.now (Some l.fn.reach) t) (take l.ty-index l.ty-items))
