use Rattle.std.proofs.Common.{arith, ◌-◌}
use Rattle.gu_write_parts.proofs.Sizes.{filled_at_once}
use Rattle.gu_write_parts.proofs.room.fill_size.Goals as goal

pub returns-then-size-lt128 : goal.returns-then-size-lt128
returns-then-size-lt128 c = filled_at_once c.args.out.now.items c.args.place c.args.room (c.len.result - c.args.place - c.args.room) c.requires (omega (arith, c.len.ensures, c.args.out.now.ok)) c.if-room-eq1.true c.if-size-lt128.true
