use Rattle.gu_parallel.proofs.parts.+shares.Given as goal
use Rattle.std.proofs.Common.{◌+◌, ◌*◌}

abbrev pub decreases-join+arg2 : goal.decreases-join+arg2
decreases-join+arg2 g l = 3 * l.low + 1

abbrev pub decreases-join+arg3 : goal.decreases-join+arg3
decreases-join+arg3 g l = 3 * l.high + 1

abbrev pub decreases-share_parts : goal.decreases-share_parts
decreases-share_parts g l = 3 * l.threads
