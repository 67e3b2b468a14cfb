use Rattle.std.proofs.Common.{◌≡◌, ◌-◌, List, ◌++◌}
use Rattle.gu_contents.specs.declared.content.Content.{Content}
use Rattle.gu_contents.specs.Order.{AtMost}
use Rattle.gu_contents.specs.Rank.{rank}
use Rattle.gu_cells.specs.Record.{at, BelongsTo, RecordBelongs, seen, reads_of}
use Rattle.gu_cells.specs.Rule.{looked}
use Rattle.gu_cells.specs.Views.{IsSameSeat}
use Rattle.gu_cells.proofs.cells.Cells.join.Given as goal

-- what was found last belongs, is at most the ceiling and at least what was seen at the start; the seat has seen it, and
-- noted reads alone since the start
abbrev pub invariant-tries : goal.invariant-tries
invariant-tries g l = let n = g.N.Ceilings in record {
  same : IsSameSeat l.fn.seat l.seat;
  belongs : BelongsTo n.facts n.longs l.before;
  capped : AtMost n.facts l.before (at n.ceilings l.cell);
  seen_first : AtMost n.facts (seen n.facts l.cell l.fn.seat.entries) l.before;
  sees : AtMost n.facts l.before (seen n.facts l.cell l.seat.entries);
  first_belong : RecordBelongs n.facts n.longs l.fn.seat.entries;
  all_belong : RecordBelongs n.facts n.longs l.seat.entries;
  noted : (found : List Content) × (l.seat.entries ≡ looked n.facts l.cell l.c l.before (reads_of l.cell found ++ l.fn.seat.entries));
}

-- each try finds a greater content
abbrev pub decreases-tries : goal.decreases-tries
decreases-tries g l = 71 - rank l.before

abbrev pub ghosts-look : goal.ghosts-look
ghosts-look g a = record { asked = a.asked }

abbrev pub ghosts-exchange : goal.ghosts-exchange
ghosts-exchange g a = record { asked = a.asked }
