use Rattle.std.proofs.Common.{ℕ, ◌<◌, Contains}
use Rattle.gu_worklist.specs.Left.{IsLeftOf}
use Rattle.gu_solve.proofs.all_left.Given as goal

abbrev pub invariant-links : goal.invariant-links
invariant-links l = record {
  left : IsLeftOf l.links l.left;
  all : (k : ℕ) → k < l.link → Contains l.left.waiting k;
}
