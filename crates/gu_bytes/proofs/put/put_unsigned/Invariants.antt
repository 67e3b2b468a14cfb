use Rattle.gu_bytes.specs.Numbers.{least_unsigned}
use Rattle.gu_bytes.proofs.Writing.{Written}
use Rattle.gu_bytes.proofs.put.put_unsigned.Given as goal

abbrev pub invariant-bytes : goal.invariant-bytes
invariant-bytes l = Written (least_unsigned l.v) (least_unsigned l.rest) l.initial.out.items l.out.items

abbrev pub decreases-bytes : goal.decreases-bytes
decreases-bytes l = l.rest
