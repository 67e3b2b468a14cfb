use Rattle.std.proofs.Common.{◌≤◌, take}
use Rattle.std.specs.Prelude.{flat_map}
use Rattle.gu_outside.specs.Outside.{Appended}
use Rattle.gu_report.proofs.lines.put_each.Given as goal

abbrev pub invariant-loop-piece : goal.invariant-loop-piece
invariant-loop-piece g l = record {
  added : Appended (g.L.Sink.held l.fn.report) (g.L.Sink.held l.report) (flat_map (λ piece. piece.now) (take l.piece-index l.pieces));
  never_falls : g.L.Sink.faults l.fn.report ≤ g.L.Sink.faults l.report;
}
