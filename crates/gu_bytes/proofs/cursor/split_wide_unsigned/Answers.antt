use Rattle.std.proofs.Common.{arith}
use Rattle.gu_bytes.proofs.Powers.{seven_more, below_64}
use Rattle.gu_bytes.proofs.cursor.split_wide_unsigned.Goals as goal

pub overflow_mul-result : goal.overflow_mul-result
overflow_mul-result c = omega (arith, seven_more c.args.bits (omega arith), below_64 c.args.bits c.requires.high, c.in_ok-high.ensures.fits)

pub overflow_add-result : goal.overflow_add-result
overflow_add-result c = omega (arith, seven_more c.args.bits (omega arith), below_64 c.args.bits c.requires.high, c.in_ok-high.ensures.fits, c.from-2.ensures)
