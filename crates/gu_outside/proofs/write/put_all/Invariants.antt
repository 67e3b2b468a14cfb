use Rattle.std.proofs.Common.{◌≡◌, ◌≤◌, ◌-◌, length}
use Rattle.gu_outside.specs.Outside.{Added}
use Rattle.gu_outside.proofs.write.put_all.Given as goal

abbrev pub invariant-loop-at : goal.invariant-loop-at
invariant-loop-at g l = record {
  within : l.at ≤ length l.bytes;
  added : Added (g.K.Sink.held l.fn.output) (g.K.Sink.held l.output) l.bytes l.at;
  never_falls : g.K.Sink.faults l.fn.output ≤ g.K.Sink.faults l.output;
  untouched : l.at ≡ 0 → l.output ≡ l.fn.output;
}

abbrev pub decreases-loop-at : goal.decreases-loop-at
decreases-loop-at g l = length l.bytes - l.at
