use Rattle.gu_bytes.specs.Numbers.{least_unsigned}
use Rattle.gu_bytes.proofs.Writing.{Written}
use Rattle.gu_write_parts.proofs.put.put_size.Given as goal

abbrev pub invariant-bytes : goal.invariant-bytes
invariant-bytes l = Written (least_unsigned l.size) (least_unsigned l.rest) l.initial.out.items l.out.items

abbrev pub decreases-bytes : goal.decreases-bytes
decreases-bytes l = l.rest
