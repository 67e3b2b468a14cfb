-- A cursor that moved past what was read passed a spelling.
use Rattle.std.proofs.Common.{ℕ, ◌+◌, ◌≡◌, ap, ◌∙◌, sym, arith, List, ◌++◌, Some, length, ℤ}
use Rattle.std.proofs.lemmas.List.{length-append}
use Rattle.gu_bytes.specs.Place.{Place}
use Rattle.gu_bytes.specs.Reading.{unsigned_at, signed_at}
use Rattle.gu_bytes.specs.Reads.{Passes, PassesUnsigned, PassesSigned}
use Rattle.gu_bytes.proofs.Signed.{signed_taken}
use Rattle.gu_bytes.proofs.Unsigned.{unsigned_taken}

passed : (front more : List ℕ) (old new : Place) → old.rest ≡ front ++ more → new.rest ≡ more → new.at + length more ≡ old.at + length old.rest → Passes front old new
passed front more old new whole rest moved = record {
  whole = whole ∙ ap (λ behind. front ++ behind) (sym rest);
  moved = omega (arith, moved, ap length whole, length-append front more);
}

pub passed_unsigned : (bits n : ℕ) (more : List ℕ) (old new : Place) → unsigned_at bits old.rest ≡ Some (n, more) → new.rest ≡ more → new.at + length more ≡ old.at + length old.rest → PassesUnsigned bits n old new
passed_unsigned bits n more old new read rest moved =
    let it = unsigned_taken bits old.rest more n read in
    record { front = it.0; spells = it.2; passes = passed it.0 more old new it.1 rest moved }

pub passed_signed : (bits : ℕ) (z : ℤ) (more : List ℕ) (old new : Place) → signed_at bits old.rest ≡ Some (z, more) → new.rest ≡ more → new.at + length more ≡ old.at + length old.rest → PassesSigned bits z old new
passed_signed bits z more old new read rest moved =
    let it = signed_taken bits old.rest more z read in
    record { front = it.0; spells = it.2; passes = passed it.0 more old new it.1 rest moved }
