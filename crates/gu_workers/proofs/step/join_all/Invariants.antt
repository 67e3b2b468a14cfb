use Rattle.std.proofs.Common.{◌≡◌, ◌≤◌, length, take}
use Rattle.gu_cells.specs.Views.{IsSameSeat}
use Rattle.gu_worklist.specs.Left.{IsLeftOf, Keeps}
use Rattle.gu_workers.specs.Steps.{Adds, Makes, weight}
use Rattle.gu_workers.proofs.step.join_all.Given as goal

abbrev pub invariant-joins : goal.invariant-joins
invariant-joins g l = record {
  worker : (l.w.index ≡ l.fn.w.index) × (l.w.of ≡ l.fn.w.of) × IsSameSeat l.fn.w.seat l.w.seat;
  left : IsLeftOf (length l.s.links) l.left;
  keeps : Keeps l.fn.left.waiting l.left.waiting;
  makes : Adds (Makes g.N.Ceilings.facts l.s.links l.left.waiting (take l.cell-index l.asked)) l.fn.w.seat.entries l.w.seat.entries;
  weight : weight g.N.Ceilings.facts l.s.cells (length l.s.links) l.w.seat.entries (length l.left.waiting) ≤ weight g.N.Ceilings.facts l.s.cells (length l.s.links) l.fn.w.seat.entries (length l.fn.left.waiting);
}
