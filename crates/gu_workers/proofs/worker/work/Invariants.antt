use Rattle.std.proofs.Common.{◌≡◌, length}
use Rattle.gu_cells.specs.Views.{IsSameSeat}
use Rattle.gu_worklist.specs.Left.{IsLeftOf}
use Rattle.gu_workers.specs.Steps.{Adds, weight}
use Rattle.gu_workers.proofs.Records.{IsGoing}
use Rattle.gu_workers.proofs.worker.work.Given as goal

abbrev pub invariant-roots : goal.invariant-roots
invariant-roots g l = record {
  worker : (l.w.index ≡ l.fn.w.index) × (l.w.of ≡ l.fn.w.of) × IsSameSeat l.fn.w.seat l.w.seat;
  left : IsLeftOf (length l.s.links) l.left;
  going : Adds (IsGoing g.N.Ceilings.facts l.s.links l.fn.w.index l.fn.w.of l.link l.left.waiting) l.fn.w.seat.entries l.w.seat.entries;
}

abbrev pub invariant-left : goal.invariant-left
invariant-left g l = record {
  worker : (l.w.index ≡ l.fn.w.index) × (l.w.of ≡ l.fn.w.of) × IsSameSeat l.fn.w.seat l.w.seat;
  left : IsLeftOf (length l.s.links) l.left;
  going : Adds (IsGoing g.N.Ceilings.facts l.s.links l.fn.w.index l.fn.w.of (length l.s.links) l.left.waiting) l.fn.w.seat.entries l.w.seat.entries;
}

abbrev pub decreases-left : goal.decreases-left
decreases-left g l = weight g.N.Ceilings.facts l.s.cells (length l.s.links) l.w.seat.entries (length l.left.waiting)
