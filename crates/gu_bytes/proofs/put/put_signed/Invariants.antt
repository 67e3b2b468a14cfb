use Rattle.gu_bytes.specs.Numbers.{least_signed}
use Rattle.gu_bytes.proofs.Writing.{Written, magnitude}
use Rattle.gu_bytes.proofs.put.put_signed.Given as goal

abbrev pub invariant-bytes : goal.invariant-bytes
invariant-bytes l = Written (least_signed l.v) (least_signed l.rest) l.initial.out.items l.out.items

abbrev pub decreases-bytes : goal.decreases-bytes
decreases-bytes l = magnitude l.rest
