use Rattle.std.proofs.Common.{◌≡◌, ◌≤◌, ◌+◌, ◌-◌, length, vec_len}
use Rattle.gu_outside.specs.Outside.{Taken}
use Rattle.gu_outside.proofs.read.read_to_limit.Given as goal

abbrev pub invariant-loop-piece : goal.invariant-loop-piece
invariant-loop-piece g l = record {
  within : vec_len l.bytes ≤ l.limit + 1;
  width : length l.piece ≡ 65536;
  taken : Taken (g.R.Source.left l.fn.input) (g.R.Source.left l.input) l.bytes.items;
  never_falls : g.R.Source.faults l.fn.input ≤ g.R.Source.faults l.input;
}

abbrev pub decreases-loop-piece : goal.decreases-loop-piece
decreases-loop-piece g l = l.limit + 1 - vec_len l.bytes
