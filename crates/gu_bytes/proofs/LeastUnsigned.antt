-- The least spelling of an unsigned integer spells it, and no other is shorter.
use Rattle.std.proofs.Common.{ℕ, zero, suc, ◌+◌, ◌-◌, ◌*◌, ◌/◌, ◌%◌, ◌^◌, ◌<◌, ◌≤◌, ◌≡◌, refl, ap, ◌∙◌, sym, arith, List, [], ◌∷◌, nat_lt, length, true, false, inl, inr, subst}
use Rattle.std.proofs.lemmas.Bool.{cases_lt, cond-true, cond-false}
use Rattle.std.proofs.lemmas.Grind.{pow_more}
use Rattle.std.proofs.Math.Pow.{pow_mono}
use Rattle.gu_bytes.specs.Numbers.{IsUnsigned, shortest, least_unsigned}
use Rattle.gu_bytes.proofs.Powers.{seven_more, at_most_7}
use Rattle.gu_bytes.proofs.Unsigned.{unsigned_more}

-- one byte more gives room for seven bits more
pub byte_more : (k : ℕ) → 128 ^ suc k ≡ 128 * 128 ^ k
byte_more k = ap (λ n. 128 ^ n) (let e : suc k ≡ k + 1 = omega arith in e) ∙ pow_more 128 k ∙ (let e : 128 ^ k * 128 ≡ 128 * 128 ^ k = omega arith in e)

shortest_last : (k n : ℕ) → n < 128 → shortest k n ≡ n ∷ []
shortest_last zero n h = refl
shortest_last (suc k) n h = cond-true _ _ _ (let e : nat_lt n 128 ≡ true = grind (arith, h) in e)

shortest_more : (k n : ℕ) → 128 ≤ n → shortest (suc k) n ≡ (n % 128 + 128) ∷ shortest k (n / 128)
shortest_more k n h = cond-false _ _ _ (let e : nat_lt n 128 ≡ false = grind (arith, h) in e)

-- one byte more than enough changes nothing
shortest_enough : (k n : ℕ) → n < 128 * 128 ^ k → shortest (suc k) n ≡ shortest k n
shortest_enough zero n h = shortest_last 1 n (omega (arith, h))
shortest_enough (suc k) n h = elim (cases_lt n 128) [
  | inl low ↦ (shortest_last (suc (suc k)) n low ∙ sym (shortest_last (suc k) n low))
  | inr high ↦ (
      let room : n / 128 < 128 * 128 ^ k = omega (arith, byte_more k, h) in
      shortest_more (suc k) n high ∙ ap (λ bs. (n % 128 + 128) ∷ bs) (shortest_enough k (n / 128) room) ∙ sym (shortest_more k n high))
]

pub least_unsigned-last : (n : ℕ) → n < 128 → least_unsigned n ≡ n ∷ []
unfolding least_unsigned
least_unsigned-last n h = shortest_last 9 n h

pub least_unsigned-more : (n : ℕ) → 128 ≤ n → n < 2 ^ 70 → least_unsigned n ≡ (n % 128 + 128) ∷ least_unsigned (n / 128)
unfolding least_unsigned
least_unsigned-more n h i =
    let room : n / 128 < 128 * 128 ^ 8 = omega (arith, i) in
    shortest_more 8 n h ∙ ap (λ bs. (n % 128 + 128) ∷ bs) (sym (shortest_enough 8 (n / 128) room))

shortest_spells : (bits k n : ℕ) → n < 2 ^ bits → n < 128 * 128 ^ k → IsUnsigned bits (shortest k n) n
shortest_spells bits zero n fits room = (omega (arith, room), fits, refl)
shortest_spells bits (suc k) n fits room = elim (cases_lt n 128) [
  | inl low ↦ (
      let P : List ℕ → Type 0 = λ bs. IsUnsigned bits bs n in
      subst P (sym (shortest_last (suc k) n low)) (low, fits, refl))
  | inr high ↦ (
      let wide : 7 < bits = elim (cases_lt 7 bits) [ inl w ↦ w | inr narrow ↦ absurd (omega (arith, at_most_7 bits narrow, fits, high)) ] in
      let fits_high : n / 128 < 2 ^ (bits - 7) = omega (arith, seven_more bits wide, fits) in
      let room_high : n / 128 < 128 * 128 ^ k = omega (arith, byte_more k, room) in
      let P : List ℕ → Type 0 = λ bs. IsUnsigned bits bs n in
      subst P (sym (shortest_more k n high)) (unsigned_more bits (n % 128 + 128) n (n / 128) (shortest k (n / 128)) (omega arith) (omega arith) wide (shortest_spells (bits - 7) k (n / 128) fits_high room_high) (omega arith)))
]

pub least_unsigned_spells : (bits n : ℕ) → bits ≤ 70 → n < 2 ^ bits → IsUnsigned bits (least_unsigned n) n
unfolding least_unsigned
least_unsigned_spells bits n within fits =
    let most : 2 ^ bits ≤ 2 ^ 70 = pow_mono within in
    shortest_spells bits 9 n fits (omega (arith, most, fits))

shortest_is_least : (bits k : ℕ) (front : List ℕ) (n : ℕ) → IsUnsigned bits front n → length (shortest k n) ≤ length front
shortest_is_least bits k [] n h = absurd h
shortest_is_least bits zero (b ∷ []) n h = omega arith
shortest_is_least bits (suc k) (b ∷ []) n h = omega (arith, ap length (shortest_last (suc k) n (omega (arith, h.0, h.2))))
shortest_is_least bits zero (b ∷ c ∷ more) n h = omega arith
shortest_is_least bits (suc k) (b ∷ c ∷ more) n h = elim (cases_lt n 128) [
  | inl low ↦ omega (arith, ap length (shortest_last (suc k) n low))
  | inr high ↦ (
      let value = h.3 in
      let below = shortest_is_least (bits - 7) k (c ∷ more) value.0 value.1 in
      let same : n / 128 ≡ value.0 = omega (arith, h.0, h.1, value.2) in
      omega (arith, ap length (shortest_more k n high), ap (λ m. length (shortest k m)) same, below))
]

pub least_unsigned_is_least : (bits : ℕ) (front : List ℕ) (n : ℕ) → IsUnsigned bits front n → length (least_unsigned n) ≤ length front
unfolding least_unsigned
least_unsigned_is_least bits front n h = shortest_is_least bits 9 front n h
