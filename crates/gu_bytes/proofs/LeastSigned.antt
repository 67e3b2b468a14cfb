-- The least spelling of a signed integer spells it, and no other is shorter.
use Rattle.std.proofs.Common.{ℕ, zero, suc, ◌+◌, ◌-◌, ◌*◌, ◌/◌, ◌%◌, ◌^◌, ◌<◌, ◌≤◌, ◌≡◌, refl, ap, ◌∙◌, sym, arith, List, [], ◌∷◌, nat_lt, length, true, false, inl, inr, subst, ℤ, pos, negsuc, ◌+ℤ◌, ◌*ℤ◌}
use Rattle.std.proofs.lemmas.Bool.{cases_lt, cond-true, cond-false}
use Rattle.std.proofs.lemmas.Int.{ints}
use Rattle.std.proofs.Math.Pow.{pow_mono}
use Rattle.gu_bytes.specs.Numbers.{IsSigned, FitsBits, shortest_positive, shortest_negative, least_signed}
use Rattle.gu_bytes.proofs.Powers.{seven_signed, at_most_6}
use Rattle.gu_bytes.proofs.Signed.{signed_more}
use Rattle.gu_bytes.proofs.LeastUnsigned.{byte_more}

positive_last : (k n : ℕ) → n < 64 → shortest_positive k n ≡ n ∷ []
positive_last zero n h = refl
positive_last (suc k) n h = cond-true _ _ _ (let e : nat_lt n 64 ≡ true = grind (arith, h) in e)

positive_more : (k n : ℕ) → 64 ≤ n → shortest_positive (suc k) n ≡ (n % 128 + 128) ∷ shortest_positive k (n / 128)
positive_more k n h = cond-false _ _ _ (let e : nat_lt n 64 ≡ false = grind (arith, h) in e)

negative_last : (k n : ℕ) → n < 64 → shortest_negative k n ≡ (127 - n) ∷ []
negative_last zero n h = refl
negative_last (suc k) n h = cond-true _ _ _ (let e : nat_lt n 64 ≡ true = grind (arith, h) in e)

negative_more : (k n : ℕ) → 64 ≤ n → shortest_negative (suc k) n ≡ (255 - n % 128) ∷ shortest_negative k (n / 128)
negative_more k n h = cond-false _ _ _ (let e : nat_lt n 64 ≡ false = grind (arith, h) in e)

-- one byte more than enough changes nothing
positive_enough : (k n : ℕ) → n < 64 * 128 ^ k → shortest_positive (suc k) n ≡ shortest_positive k n
positive_enough zero n h = positive_last 1 n (omega (arith, h))
positive_enough (suc k) n h = elim (cases_lt n 64) [
  | inl low ↦ (positive_last (suc (suc k)) n low ∙ sym (positive_last (suc k) n low))
  | inr high ↦ (
      let room : n / 128 < 64 * 128 ^ k = omega (arith, byte_more k, h) in
      positive_more (suc k) n high ∙ ap (λ bs. (n % 128 + 128) ∷ bs) (positive_enough k (n / 128) room) ∙ sym (positive_more k n high))
]

negative_enough : (k n : ℕ) → n < 64 * 128 ^ k → shortest_negative (suc k) n ≡ shortest_negative k n
negative_enough zero n h = negative_last 1 n (omega (arith, h))
negative_enough (suc k) n h = elim (cases_lt n 64) [
  | inl low ↦ (negative_last (suc (suc k)) n low ∙ sym (negative_last (suc k) n low))
  | inr high ↦ (
      let room : n / 128 < 64 * 128 ^ k = omega (arith, byte_more k, h) in
      negative_more (suc k) n high ∙ ap (λ bs. (255 - n % 128) ∷ bs) (negative_enough k (n / 128) room) ∙ sym (negative_more k n high))
]

pub least_signed-last : (n : ℕ) → n < 64 → least_signed (pos n) ≡ n ∷ []
unfolding least_signed
least_signed-last n h = positive_last 9 n h

pub least_signed-last_negative : (n : ℕ) → n < 64 → least_signed (negsuc n) ≡ (127 - n) ∷ []
unfolding least_signed
least_signed-last_negative n h = negative_last 9 n h

pub least_signed-more : (n : ℕ) → 64 ≤ n → n < 2 ^ 69 → least_signed (pos n) ≡ (n % 128 + 128) ∷ least_signed (pos (n / 128))
unfolding least_signed
least_signed-more n h i =
    let room : n / 128 < 64 * 128 ^ 8 = omega (arith, i) in
    positive_more 8 n h ∙ ap (λ bs. (n % 128 + 128) ∷ bs) (sym (positive_enough 8 (n / 128) room))

pub least_signed-more_negative : (n : ℕ) → 64 ≤ n → n < 2 ^ 69 → least_signed (negsuc n) ≡ (255 - n % 128) ∷ least_signed (negsuc (n / 128))
unfolding least_signed
least_signed-more_negative n h i =
    let room : n / 128 < 64 * 128 ^ 8 = omega (arith, i) in
    negative_more 8 n h ∙ ap (λ bs. (255 - n % 128) ∷ bs) (sym (negative_enough 8 (n / 128) room))

-- a number that does not fit into six bits needs more than seven with its sign
wider : (bits n : ℕ) → 64 ≤ n → n < 2 ^ (bits - 1) → 7 < bits
wider bits n high fits = elim (cases_lt 7 bits) [ inl w ↦ w | inr narrow ↦ absurd (omega (arith, at_most_6 bits narrow, fits, high)) ]

positive_spells : (bits k n : ℕ) → n < 2 ^ (bits - 1) → n < 64 * 128 ^ k → IsSigned bits (shortest_positive k n) (pos n)
positive_spells bits zero n fits room = inl (omega (arith, room), fits, refl)
positive_spells bits (suc k) n fits room = elim (cases_lt n 64) [
  | inl low ↦ (
      let P : List ℕ → Type 0 = λ bs. IsSigned bits bs (pos n) in
      subst P (sym (positive_last (suc k) n low)) (inl (low, fits, refl)))
  | inr high ↦ (
      let wide : 7 < bits = wider bits n high fits in
      let fits_high : n / 128 < 2 ^ (bits - 7 - 1) = omega (arith, seven_signed bits wide, fits) in
      let room_high : n / 128 < 64 * 128 ^ k = omega (arith, byte_more k, room) in
      let P : List ℕ → Type 0 = λ bs. IsSigned bits bs (pos n) in
      subst P (sym (positive_more k n high)) (signed_more bits (n % 128 + 128) (pos n) (pos (n / 128)) (shortest_positive k (n / 128)) (omega arith) (omega arith) wide (positive_spells (bits - 7) k (n / 128) fits_high room_high) (omega (arith, ints))))
]

negative_spells : (bits k n : ℕ) → n < 2 ^ (bits - 1) → n < 64 * 128 ^ k → IsSigned bits (shortest_negative k n) (negsuc n)
negative_spells bits zero n fits room = inr (omega (arith, room), omega arith, omega (arith, room, fits), omega (arith, ints, room))
negative_spells bits (suc k) n fits room = elim (cases_lt n 64) [
  | inl low ↦ (
      let P : List ℕ → Type 0 = λ bs. IsSigned bits bs (negsuc n) in
      subst P (sym (negative_last (suc k) n low)) (inr (omega (arith, low), omega arith, omega (arith, low, fits), omega (arith, ints, low))))
  | inr high ↦ (
      let wide : 7 < bits = wider bits n high fits in
      let fits_high : n / 128 < 2 ^ (bits - 7 - 1) = omega (arith, seven_signed bits wide, fits) in
      let room_high : n / 128 < 64 * 128 ^ k = omega (arith, byte_more k, room) in
      let P : List ℕ → Type 0 = λ bs. IsSigned bits bs (negsuc n) in
      subst P (sym (negative_more k n high)) (signed_more bits (255 - n % 128) (negsuc n) (negsuc (n / 128)) (shortest_negative k (n / 128)) (omega arith) (omega arith) wide (negative_spells (bits - 7) k (n / 128) fits_high room_high) (omega (arith, ints))))
]

pub least_signed_spells : (bits : ℕ) (z : ℤ) → 1 ≤ bits → bits ≤ 70 → FitsBits bits z → IsSigned bits (least_signed z) z
unfolding least_signed
least_signed_spells bits (pos n) low within fits =
    let most : 2 ^ (bits - 1) ≤ 2 ^ 69 = pow_mono (let e : bits - 1 ≤ 69 = omega (arith, within) in e) in
    let below : n < 2 ^ (bits - 1) = omega (arith, ints, fits.1) in
    positive_spells bits 9 n below (omega (arith, most, below))
least_signed_spells bits (negsuc n) low within fits =
    let most : 2 ^ (bits - 1) ≤ 2 ^ 69 = pow_mono (let e : bits - 1 ≤ 69 = omega (arith, within) in e) in
    let below : n < 2 ^ (bits - 1) = omega (arith, ints, fits.0) in
    negative_spells bits 9 n below (omega (arith, most, below))

-- the bits above the lowest seven
high_positive : (n b : ℕ) (high : ℤ) → 128 ≤ b → b < 256 → pos n ≡ pos 128 *ℤ high +ℤ pos (b - 128) → high ≡ pos (n / 128)
high_positive n b (pos h) low byte e = let same : h ≡ n / 128 = omega (arith, ints, e) in ap pos same
high_positive n b (negsuc h) low byte e = absurd (omega (arith, ints, e))

high_negative : (n b : ℕ) (high : ℤ) → 128 ≤ b → b < 256 → negsuc n ≡ pos 128 *ℤ high +ℤ pos (b - 128) → high ≡ negsuc (n / 128)
high_negative n b (pos h) low byte e = absurd (omega (arith, ints, e))
high_negative n b (negsuc h) low byte e = let same : h ≡ n / 128 = omega (arith, ints, e) in ap negsuc same

positive_is_least : (bits k : ℕ) (front : List ℕ) (n : ℕ) → IsSigned bits front (pos n) → length (shortest_positive k n) ≤ length front
positive_is_least bits k [] n h = absurd h
positive_is_least bits zero (b ∷ []) n h = omega arith
positive_is_least bits (suc k) (b ∷ []) n h = elim h [
  | inl low ↦ (let small : n < 64 = omega (arith, ints, low.0, low.2) in omega (arith, ap length (positive_last (suc k) n small)))
  | inr high ↦ absurd (omega (arith, ints, high.1, high.3))
]
positive_is_least bits zero (b ∷ c ∷ more) n h = omega arith
positive_is_least bits (suc k) (b ∷ c ∷ more) n h = elim (cases_lt n 64) [
  | inl low ↦ omega (arith, ap length (positive_last (suc k) n low))
  | inr high ↦ (
      let P : ℤ → Type 0 = λ z. IsSigned (bits - 7) (c ∷ more) z in
      let value = h.3 in
      let below = positive_is_least (bits - 7) k (c ∷ more) (n / 128) (subst P (high_positive n b value.0 h.0 h.1 value.2) value.1) in
      omega (arith, ap length (positive_more k n high), below))
]

negative_is_least : (bits k : ℕ) (front : List ℕ) (n : ℕ) → IsSigned bits front (negsuc n) → length (shortest_negative k n) ≤ length front
negative_is_least bits k [] n h = absurd h
negative_is_least bits zero (b ∷ []) n h = omega arith
negative_is_least bits (suc k) (b ∷ []) n h = elim h [
  | inl low ↦ absurd (omega (arith, ints, low.2))
  | inr high ↦ (let small : n < 64 = omega (arith, ints, high.0, high.3) in omega (arith, ap length (negative_last (suc k) n small)))
]
negative_is_least bits zero (b ∷ c ∷ more) n h = omega arith
negative_is_least bits (suc k) (b ∷ c ∷ more) n h = elim (cases_lt n 64) [
  | inl low ↦ omega (arith, ap length (negative_last (suc k) n low))
  | inr high ↦ (
      let P : ℤ → Type 0 = λ z. IsSigned (bits - 7) (c ∷ more) z in
      let value = h.3 in
      let below = negative_is_least (bits - 7) k (c ∷ more) (n / 128) (subst P (high_negative n b value.0 h.0 h.1 value.2) value.1) in
      omega (arith, ap length (negative_more k n high), below))
]

pub least_signed_is_least : (bits : ℕ) (front : List ℕ) (z : ℤ) → IsSigned bits front z → length (least_signed z) ≤ length front
unfolding least_signed
least_signed_is_least bits front (pos n) h = positive_is_least bits 9 front n h
least_signed_is_least bits front (negsuc n) h = negative_is_least bits 9 front n h
