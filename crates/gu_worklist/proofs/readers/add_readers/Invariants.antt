use Rattle.std.proofs.Common.{ℕ, ◌≡◌, ◌<◌, Some, slice_get, length, Contains}
use Rattle.gu_links.specs.declared.link.Link.{Link}
use Rattle.gu_links.specs.Ways.{IsReadBy}
use Rattle.gu_worklist.specs.Left.{IsLeftOf, Keeps}
use Rattle.gu_worklist.proofs.readers.add_readers.Given as goal

abbrev pub invariant-ups : goal.invariant-ups
invariant-ups l = record {
  left : IsLeftOf (length l.s.links) l.left;
  readers : (up number : ℕ) (link : Link) → up < l.up → slice_get l.s.links number ≡ Some link → IsReadBy l.s.facts.now l.s.links l.cell up link → Contains l.left.waiting number;
  keeps : Keeps l.fn.left.waiting l.left.waiting;
}
