use Rattle.gu_bytes.proofs.Signed.{signed_bytes}
use Rattle.gu_bytes.proofs.Unsigned.{unsigned_bytes}
use Rattle.gu_bytes.proofs.laws.spelled_bytes.Goals as goal

pub returns : goal.returns
returns c = record { unsigned = unsigned_bytes; signed = signed_bytes }
