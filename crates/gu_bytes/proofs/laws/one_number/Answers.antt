use Rattle.gu_bytes.proofs.Signed.{one_signed}
use Rattle.gu_bytes.proofs.Unsigned.{one_unsigned}
use Rattle.gu_bytes.proofs.laws.one_number.Goals as goal

pub returns : goal.returns
returns c = record { unsigned = one_unsigned; signed = one_signed }
