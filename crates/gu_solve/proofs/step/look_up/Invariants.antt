use Rattle.gu_links.specs.Known.{cells_of, link_at, Has, IsKnown}
use Rattle.gu_links.specs.Solutions.{at}
use Rattle.gu_worklist.specs.Unread.{others}
use Rattle.gu_solve.proofs.step.look_up.Given as goal

abbrev pub invariant-reads : goal.invariant-reads
invariant-reads l = record {
  has : Has l.known.items (at l.contents);
  known : IsKnown l.s.facts.now l.s.longs l.s.links (link_at l.s.links l.link) l.known.items;
}

abbrev pub decreases-reads : goal.decreases-reads
decreases-reads l = others l.s.cells (cells_of l.known.items)
