use Rattle.std.proofs.Common.{take, All, Contains}
use Rattle.gu_worklist.specs.Left.{AddsOnly, IsLeftOf, Keeps}
use Rattle.gu_worklist.proofs.readers.add_all.Given as goal

abbrev pub invariant-links : goal.invariant-links
invariant-links l = record {
  left : IsLeftOf l.fn.left.links l.left;
  added : All (Contains l.left.waiting) (take l.link-index l.links);
  keeps : Keeps l.fn.left.waiting l.left.waiting;
  only : AddsOnly (take l.link-index l.links) l.fn.left.waiting l.left.waiting;
}
