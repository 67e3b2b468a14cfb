-- The integer at the front of a text, and what is behind it (core specification 3.0, 5.2.2 Integers). The laws
-- unsigned_again, unsigned_taken, signed_again and signed_taken tie these functions to what spells an integer.
use Rattle.std.specs.Prelude.{ℕ, ◌+◌, ◌-◌, ◌*◌, ◌^◌, ◌≡◌, List, [], ◌∷◌, length, nat_lt, if◌then◌else◌, Option, Some, None, Result, Ok, Err, ℤ, pos, ◌+ℤ◌, ◌-ℤ◌, ◌*ℤ◌}
use Rattle.gu_bytes.specs.Place.{Place}
use Rattle.gu_bytes.specs.declared.cursor.Bad.{Bad}

-- a byte that is not the last, before what stands behind it
abbrev pub longer : ℕ → Option (ℕ × List ℕ) → Option (ℕ × List ℕ)
longer b None = None
longer b (Some x) = Some (128 * x.0 + (b - 128), x.1)

-- the unsigned integer of that many bits that the text begins with, and the rest
abbrev pub unsigned_at : (bits : ℕ) → List ℕ → Option (ℕ × List ℕ)
unsigned_at bits [] = None
unsigned_at bits (b ∷ more) =
    if nat_lt b 128 then (if nat_lt b (2 ^ bits) then Some (b, more) else None)
    else (if nat_lt b 256 then (if nat_lt 7 bits then longer b (unsigned_at (bits - 7) more) else None) else None)

-- a byte that is not the last, before what stands behind it
abbrev pub longer_signed : ℕ → Option (ℤ × List ℕ) → Option (ℤ × List ℕ)
longer_signed b None = None
longer_signed b (Some x) = Some (pos 128 *ℤ x.0 +ℤ pos (b - 128), x.1)

-- the signed integer of that many bits that the text begins with, and the rest
abbrev pub signed_at : (bits : ℕ) → List ℕ → Option (ℤ × List ℕ)
signed_at bits [] = None
signed_at bits (b ∷ more) =
    if nat_lt b 64 then (if nat_lt b (2 ^ (bits - 1)) then Some (pos b, more) else None)
    else (if nat_lt b 128 then (if nat_lt (b + 2 ^ (bits - 1)) 128 then None else Some (pos b -ℤ pos 128, more))
    else (if nat_lt b 256 then (if nat_lt 7 bits then longer_signed b (signed_at (bits - 7) more) else None) else None))

-- the answer and the place after it, where reading at the old place gives that
abbrev pub Moves : {X : Type 0} → Place → Option (X × List ℕ) → Result X Bad → Place → Type 0
Moves old None result new = (result ≡ Err (record { at = old.at })) × (new ≡ old)
Moves old (Some x) result new = (result ≡ Ok x.0) × (new.rest ≡ x.1) × (new.at + length x.1 ≡ old.at + length old.rest)
