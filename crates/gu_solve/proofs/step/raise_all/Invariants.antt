use Rattle.std.proofs.Common.{◌≤◌, length, take}
use Rattle.gu_links.specs.Solutions.{at}
use Rattle.gu_worklist.specs.Left.{IsLeftOf, Keeps}
use Rattle.gu_solve.specs.Steps.{IsOnTheWay, Rises, weight}
use Rattle.gu_solve.proofs.step.raise_all.Given as goal

abbrev pub invariant-joins : goal.invariant-joins
invariant-joins l = record {
  contents : IsOnTheWay l.s.facts.now l.s.longs l.s.cells l.s.links l.contents.items;
  left : IsLeftOf (length l.s.links) l.left;
  keeps : Keeps l.fn.left.waiting l.left.waiting;
  rises : Rises l.s.facts.now l.s.links l.left.waiting (take l.cell-index l.asked) (at l.fn.contents.items) (at l.contents.items);
  weight : weight l.s.cells (length l.s.links) (at l.contents.items) (length l.left.waiting) ≤ weight l.s.cells (length l.s.links) (at l.fn.contents.items) (length l.fn.left.waiting);
}
