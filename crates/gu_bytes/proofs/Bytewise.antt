-- The least spelling of a signed integer, byte by byte: its lowest seven bits, and the rest by a shift.
use Rattle.std.proofs.Common.{ℕ, ◌+◌, ◌-◌, ◌/◌, ◌%◌, ◌<◌, ◌≤◌, ◌≡◌, refl, ap, ◌∙◌, arith, [], ◌∷◌, inl, inr, ◌⊎◌, ℤ, pos, negsuc, ◌+ℤ◌, ◌≤ℤ◌, ◌<ℤ◌, w64, to_z, of_z}
use Rattle.std.proofs.lemmas.Int.{ints, to_z-of_z}
use Rattle.std.proofs.Math.IntN.{nat_abs}
use Rattle.std.specs.Int.{int_rem_euclid}
use Rattle.std.specs.Int.Signed.{shr_z}
use Rattle.std.specs.Prelude.{FitsSigned}
use Rattle.gu_bytes.specs.Numbers.{least_signed}
use Rattle.gu_bytes.proofs.LeastSigned.{least_signed-last, least_signed-last_negative, least_signed-more, least_signed-more_negative}

-- the lowest seven bits
abbrev pub low_bits : ℤ → ℕ
low_bits (pos n) = n % 128
low_bits (negsuc n) = 127 - n % 128

low_bits-below : (z : ℤ) → low_bits z < 128
low_bits-below (pos n) = omega arith
low_bits-below (negsuc n) = omega arith

remainder : (z : ℤ) → int_rem_euclid z (pos 128) ≡ pos (low_bits z)
remainder (pos n) = refl
remainder (negsuc n) = refl

pub signed_last : (z : ℤ) → pos 0 ≤ℤ (z +ℤ pos 64) → z <ℤ pos 64 → least_signed z ≡ low_bits z ∷ []
signed_last (pos n) low high =
    let small : n < 64 = omega (arith, ints, high) in
    let same : n ≡ n % 128 = omega (arith, small) in
    least_signed-last n small ∙ ap (λ b. b ∷ []) same
signed_last (negsuc n) low high =
    let small : n < 64 = omega (arith, ints, low) in
    let same : 127 - n ≡ 127 - n % 128 = omega (arith, small) in
    least_signed-last_negative n small ∙ ap (λ b. b ∷ []) same

pub signed_more : (z : ℤ) → (z +ℤ pos 64) <ℤ pos 0 ⊎ pos 64 ≤ℤ z → FitsSigned w64 z → least_signed z ≡ (low_bits z + 128) ∷ least_signed (shr_z z 128)
signed_more (pos n) wide fits =
    let large : 64 ≤ n = elim wide [ inl below ↦ absurd (omega (arith, ints, below)) | inr above ↦ omega (arith, ints, above) ] in
    least_signed-more n large (omega (arith, ints, fits))
signed_more (negsuc n) wide fits =
    let large : 64 ≤ n = elim wide [ inl below ↦ omega (arith, ints, below) | inr above ↦ absurd (omega (arith, ints, above)) ] in
    let same : 255 - n % 128 ≡ 127 - n % 128 + 128 = omega arith in
    least_signed-more_negative n large (omega (arith, ints, fits)) ∙ ap (λ b. b ∷ least_signed (negsuc (n / 128))) same

-- a shifted number still fits
pub shifted : (z : ℤ) → FitsSigned w64 z → to_z w64 (of_z w64 (shr_z z 128)) ≡ shr_z z 128
shifted (pos n) fits = to_z-of_z w64 (pos (n / 128)) (omega (arith, ints, fits))
shifted (negsuc n) fits = to_z-of_z w64 (negsuc (n / 128)) (omega (arith, ints, fits))

-- the last byte, and an earlier one
pub last_byte : (z r : ℤ) → r ≡ int_rem_euclid z (pos 128) → nat_abs (to_z w64 (of_z w64 r)) ≡ low_bits z
last_byte z r e =
    let is : r ≡ pos (low_bits z) = e ∙ remainder z in
    let small : low_bits z < 128 = low_bits-below z in
    ap (λ y. nat_abs (to_z w64 (of_z w64 y))) is ∙ ap nat_abs (to_z-of_z w64 (pos (low_bits z)) (omega (arith, ints, small)))

pub earlier_byte : (z r : ℤ) → r ≡ int_rem_euclid z (pos 128) → nat_abs (to_z w64 (of_z w64 (to_z w64 (of_z w64 r) +ℤ pos 128))) ≡ low_bits z + 128
earlier_byte z r e =
    let is : r ≡ pos (low_bits z) = e ∙ remainder z in
    let small : low_bits z < 128 = low_bits-below z in
    let plain : to_z w64 (of_z w64 r) ≡ pos (low_bits z) = ap (λ y. to_z w64 (of_z w64 y)) is ∙ to_z-of_z w64 (pos (low_bits z)) (omega (arith, ints, small)) in
    ap (λ y. nat_abs (to_z w64 (of_z w64 (y +ℤ pos 128)))) plain ∙ ap nat_abs (to_z-of_z w64 (pos (low_bits z + 128)) (omega (arith, ints, small)))
