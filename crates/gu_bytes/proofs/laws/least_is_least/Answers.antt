use Rattle.gu_bytes.proofs.LeastSigned.{least_signed_is_least}
use Rattle.gu_bytes.proofs.LeastUnsigned.{least_unsigned_is_least}
use Rattle.gu_bytes.proofs.laws.least_is_least.Goals as goal

pub returns : goal.returns
returns c = record { unsigned = least_unsigned_is_least; signed = least_signed_is_least }
