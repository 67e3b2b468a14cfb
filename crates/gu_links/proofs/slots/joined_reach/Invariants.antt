use Rattle.std.proofs.Common.{◌≡◌, ◌&&◌, ℕ, Some, take}
use Rattle.std.specs.List.{filter}
use Rattle.gu_contents.specs.Belongs.{Belongs}
use Rattle.gu_links.specs.Gives.{Contents, joined}
use Rattle.gu_links.specs.Known.{Has}
use Rattle.gu_links.specs.Over.{has_slot}
use Rattle.gu_links.specs.Kept.{in_reach}
use Rattle.gu_links.proofs.slots.joined_reach.Given as goal

abbrev pub invariant-types : goal.invariant-types
invariant-types l = record {
  belongs : Belongs l.s.facts.now l.elements;
  is : (x : Contents) → Has l.known x → l.elements ≡ joined l.s.facts.now x (filter (λ (t : ℕ). has_slot l.s.facts.now 0 t && in_reach l.s.facts.now (Some l.fn.reach) t) (take l.ty-index l.ty-items));
}
