use Rattle.std.proofs.Common.{take}
use Rattle.gu_write_parts.proofs.Sizes.{Filling}
use Rattle.gu_write_parts.proofs.room.fill_long.Given as goal

abbrev pub invariant-bytes : goal.invariant-bytes
invariant-bytes l = Filling l.fn.out.items l.fn.place l.fn.room (take l.byte-index l.byte-items) l.out.items l.at l.left

abbrev pub invariant-left : goal.invariant-left
invariant-left l = Filling l.fn.out.items l.fn.place l.fn.room l.bytes.items l.out.items l.at l.left

abbrev pub decreases-left : goal.decreases-left
decreases-left l = l.left
