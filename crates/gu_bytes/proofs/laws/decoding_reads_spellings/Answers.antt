use Rattle.gu_bytes.proofs.Signed.{signed_again, signed_taken}
use Rattle.gu_bytes.proofs.Unsigned.{unsigned_again, unsigned_taken}
use Rattle.gu_bytes.proofs.laws.decoding_reads_spellings.Goals as goal

pub returns : goal.returns
returns c = record { unsigned_again = unsigned_again; unsigned_taken = unsigned_taken; signed_again = signed_again; signed_taken = signed_taken }
