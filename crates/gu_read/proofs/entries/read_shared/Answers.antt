use Rattle.std.proofs.Common.{◌*◌, length}
use Rattle.gu_read.proofs.entries.read_shared.Goals as goal

pub join_parts-requires-clause-follow : goal.join_parts-requires-clause-follow
join_parts-requires-clause-follow g c = (length c.args.tys.now * 4294967296, rw c.in_ok-parts.was at c.do_parts-room.ensures.parts)
