use Rattle.std.proofs.Common.{arith}
use Rattle.gu_bytes.proofs.LeastUnsigned.{least_unsigned-last, least_unsigned-more}
use Rattle.gu_bytes.proofs.Writing.{written_byte, written_last}
use Rattle.gu_write_parts.proofs.put.put_size.Goals as goal

pub bytes-preserved : goal.bytes-preserved
bytes-preserved c = written_byte _ _ _ _ _ _ _ c.bytes.invariant (least_unsigned-more c.bytes.rest (omega arith) (omega (arith, c.bytes.auto.rest-fits))) c.in_ok-push.ensures.items

pub returns : goal.returns
returns c = written_last _ _ _ _ _ _ c.bytes.invariant (least_unsigned-last c.bytes.rest (omega arith)) c.in_ok-push-2.ensures.items
