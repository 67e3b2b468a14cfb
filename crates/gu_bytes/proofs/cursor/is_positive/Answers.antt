use Rattle.std.proofs.Common.{arith}
use Rattle.gu_bytes.proofs.Powers.{at_least_6}
use Rattle.gu_bytes.proofs.cursor.is_positive.Goals as goal

pub returns-then-bits-ge7 : goal.returns-then-bits-ge7
returns-then-bits-ge7 c = grind (arith, at_least_6 c.args.bits)
