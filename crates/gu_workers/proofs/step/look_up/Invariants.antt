use Rattle.std.proofs.Common.{◌≤◌}
use Rattle.gu_cells.specs.Views.{IsSameSeat}
use Rattle.gu_links.specs.Known.{cells_of, link_at, IsKnown}
use Rattle.gu_worklist.specs.Unread.{others}
use Rattle.gu_workers.specs.Known.{IsHeld, AreKnown}
use Rattle.gu_workers.specs.Steps.{Adds, room}
use Rattle.gu_workers.proofs.step.look_up.Given as goal

abbrev pub invariant-reads : goal.invariant-reads
invariant-reads g l = record {
  seat : IsSameSeat l.fn.seat l.seat;
  known : Adds (AreKnown g.N.Ceilings.facts l.known.items) l.fn.seat.entries l.seat.entries;
  room : room g.N.Ceilings.facts l.s.cells l.seat.entries ≤ room g.N.Ceilings.facts l.s.cells l.fn.seat.entries;
  held : IsHeld g.N.Ceilings.facts g.N.Ceilings.longs g.N.Ceilings.ceilings l.known.items;
  onward : IsKnown g.N.Ceilings.facts g.N.Ceilings.longs l.s.links (link_at l.s.links l.link) l.known.items;
}

abbrev pub decreases-reads : goal.decreases-reads
decreases-reads g l = others l.s.cells (cells_of l.known.items)
