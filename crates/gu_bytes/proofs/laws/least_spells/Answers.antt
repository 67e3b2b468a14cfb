use Rattle.gu_bytes.proofs.LeastSigned.{least_signed_spells}
use Rattle.gu_bytes.proofs.LeastUnsigned.{least_unsigned_spells}
use Rattle.gu_bytes.proofs.laws.least_spells.Goals as goal

pub returns : goal.returns
returns c = record { unsigned = least_unsigned_spells; signed = least_signed_spells }
