use Rattle.gu_bytes.proofs.Signed.{signed_fits}
use Rattle.gu_bytes.proofs.Unsigned.{unsigned_fits}
use Rattle.gu_bytes.proofs.laws.spelled_fits.Goals as goal

pub returns : goal.returns
returns c = record { unsigned = unsigned_fits; signed = signed_fits }
