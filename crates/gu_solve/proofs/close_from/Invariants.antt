use Rattle.std.proofs.Common.{length}
use Rattle.gu_links.specs.Solutions.{at}
use Rattle.gu_solve.proofs.Closing.{ClosedBut}
use Rattle.gu_worklist.specs.Left.{IsLeftOf}
use Rattle.gu_solve.specs.Steps.{IsOnTheWay, weight}
use Rattle.gu_solve.proofs.close_from.Given as goal

abbrev pub invariant-left : goal.invariant-left
invariant-left l = record {
  contents : IsOnTheWay l.s.facts.now l.s.longs l.s.cells l.s.links l.contents.items;
  left : IsLeftOf (length l.s.links) l.left;
  closed : ClosedBut l.s.facts.now l.s.links l.left.waiting (at l.contents.items);
}

abbrev pub decreases-left : goal.decreases-left
decreases-left l = weight l.s.cells (length l.s.links) (at l.contents.items) (length l.left.waiting)
