use Rattle.std.proofs.Common.{◌<◌}
use Rattle.gu_write.proofs.entries.piece_len.Given as goal

abbrev pub invariant-loop-index : goal.invariant-loop-index
invariant-loop-index l = l.work < 16384
