-- Rotations turn the bits of a number of n bits.
use Rattle.std.proofs.Common.{ℕ, zero, suc, ◌+◌, ◌-◌, ◌*◌, ◌/◌, ◌%◌, ◌^◌, ◌<◌, ◌≤◌, ◌≡◌, ◌⊎◌, max, sym, ◌∙◌, ap, subst, inl, inr, arith, bit_or}
use Rattle.std.specs.Int.{bit_at}
use Rattle.std.proofs.lemmas.Bool.{cases_lt}
use Rattle.std.proofs.lemmas.Nat.{div-add-mod', or_comm, pow-add, pow_pos}
use Rattle.std.proofs.lemmas.Nat.Bits.{bit_at_or, bit_at_above, bit_at_cat_low, bit_at_cat_high, bit_at-zero}
use Rattle.std.proofs.Math.Nat.{mod-lt, mod-eq_of_lt, add-mod_right, mod_self, div-div-eq-div-mul}
use Rattle.gu_num.specs.Laws.{Rotations}
use Rattle.gu_optab.specs.declared.op.NumType.TheVariants.{I32, I64}

-- the low bits, and the bits of shifted numbers
bit_at-low : (m n j : ℕ) → j < n → bit_at (m % 2 ^ n) j ≡ bit_at m j
bit_at-low m n j below = sym (bit_at_cat_low (m / 2 ^ n) n (m % 2 ^ n) j below) ∙ ap (λ v. bit_at v j) (div-add-mod' m (2 ^ n))

bit_at-up : (a s j : ℕ) → s ≤ j → bit_at (a * 2 ^ s) j ≡ bit_at a (j - s)
bit_at-up a s j from =
    let same : a * 2 ^ s + 0 ≡ a * 2 ^ s = omega arith in
    ap (λ v. bit_at v j) (sym same) ∙ bit_at_cat_high a s 0 j (pow_pos s) from

bit_at-under : (a s j : ℕ) → j < s → bit_at (a * 2 ^ s) j ≡ 0
bit_at-under a s j below =
    let same : a * 2 ^ s + 0 ≡ a * 2 ^ s = omega arith in
    ap (λ v. bit_at v j) (sym same) ∙ bit_at_cat_low a s 0 j below ∙ bit_at-zero j

bit_at-down : (a m j : ℕ) → bit_at (a / 2 ^ m) j ≡ bit_at a (m + j)
bit_at-down a m j = ap (λ v. v % 2) (div-div-eq-div-mul a (2 ^ m) (2 ^ j) ∙ ap (λ v. a / v) (sym (pow-add 2 m j)))

-- the rest of a number that is less than twice the divisor
mod_past : (x n : ℕ) → n ≤ x → x < n + n → x % n ≡ x - n
mod_past x n from below =
    let same : x ≡ (x - n) + n = omega arith in
    ap (λ v. v % n) same ∙ add-mod_right (x - n) n ∙ mod-eq_of_lt (omega arith)

-- where one side has the bit and the other has it too or none
max_is : (u v w : ℕ) → (u ≡ w) × ((v ≡ 0) ⊎ (v ≡ w)) ⊎ (u ≡ 0) × (v ≡ w) → max u v ≡ w
max_is u v w (inl (e, inl f)) = omega arith
max_is u v w (inl (e, inr f)) = omega arith
max_is u v w (inr (e, f)) = omega arith

-- a number of n bits turned left by s, fewer than n
abbrev turned : (n a s : ℕ) → ℕ
turned n a s = bit_or ((a * 2 ^ s) % 2 ^ n) (a / 2 ^ ((n - s) % n))

turned-stays : (n a i : ℕ) → 0 < n → i < n → bit_at (turned n a 0) i ≡ bit_at a i
turned-stays n a i some below =
    let none : (n - 0) % n ≡ 0 = ap (λ v. v % n) (let e : n - 0 ≡ n = omega arith in e) ∙ mod_self n in
    let up : bit_at ((a * 2 ^ 0) % 2 ^ n) i ≡ bit_at a i = bit_at-low (a * 2 ^ 0) n i below ∙ bit_at-up a 0 i (omega arith) ∙ ap (λ v. bit_at a v) (let e : i - 0 ≡ i = omega arith in e) in
    let down : bit_at (a / 2 ^ ((n - 0) % n)) i ≡ bit_at a i = bit_at-down a ((n - 0) % n) i ∙ ap (λ v. bit_at a (v + i)) none ∙ ap (λ v. bit_at a v) (let e : 0 + i ≡ i = omega arith in e) in
    bit_at_or ((a * 2 ^ 0) % 2 ^ n) (a / 2 ^ ((n - 0) % n)) i ∙ max_is _ _ _ (inl (up, inr down))

turned-bit : (n a s i : ℕ) → 0 < s → s < n → a < 2 ^ n → i < n → bit_at (turned n a s) ((i + s) % n) ≡ bit_at a i
turned-bit n a s i some small within below =
    let m : (n - s) % n ≡ n - s = mod-eq_of_lt (omega arith) in
    elim (cases_lt (i + s) n) [
      | inl inside ↦
          let at : (i + s) % n ≡ i + s = mod-eq_of_lt inside in
          let up : bit_at ((a * 2 ^ s) % 2 ^ n) (i + s) ≡ bit_at a i = bit_at-low (a * 2 ^ s) n (i + s) inside ∙ bit_at-up a s (i + s) (omega arith) ∙ ap (λ v. bit_at a v) (let e : i + s - s ≡ i = omega arith in e) in
          let down : bit_at (a / 2 ^ ((n - s) % n)) (i + s) ≡ 0 = bit_at-down a ((n - s) % n) (i + s) ∙ ap (λ v. bit_at a (v + (i + s))) m ∙ bit_at_above a n _ within (omega arith) in
          ap (λ v. bit_at (turned n a s) v) at ∙ bit_at_or ((a * 2 ^ s) % 2 ^ n) (a / 2 ^ ((n - s) % n)) (i + s) ∙ max_is _ _ _ (inl (up, inl down))
      | inr past ↦
          let at : (i + s) % n ≡ i + s - n = mod_past (i + s) n past (omega arith) in
          let up : bit_at ((a * 2 ^ s) % 2 ^ n) (i + s - n) ≡ 0 = bit_at-low (a * 2 ^ s) n (i + s - n) (omega arith) ∙ bit_at-under a s (i + s - n) (omega arith) in
          let down : bit_at (a / 2 ^ ((n - s) % n)) (i + s - n) ≡ bit_at a i = bit_at-down a ((n - s) % n) (i + s - n) ∙ ap (λ v. bit_at a (v + (i + s - n))) m ∙ ap (λ v. bit_at a v) (let e : n - s + (i + s - n) ≡ i = omega arith in e) in
          ap (λ v. bit_at (turned n a s) v) at ∙ bit_at_or ((a * 2 ^ s) % 2 ^ n) (a / 2 ^ ((n - s) % n)) (i + s - n) ∙ max_is _ _ _ (inr (up, down))
    ]

left_bit : (n a s i : ℕ) → 0 < n → s < n → a < 2 ^ n → i < n → bit_at (turned n a s) ((i + s) % n) ≡ bit_at a i
left_bit n a zero i some small within below =
    let at : (i + 0) % n ≡ i = ap (λ v. v % n) (let e : i + 0 ≡ i = omega arith in e) ∙ mod-eq_of_lt below in
    ap (λ v. bit_at (turned n a 0) v) at ∙ turned-stays n a i some below
left_bit n a (suc s) i some small within below = turned-bit n a (suc s) i (omega arith) small within below

-- to the right and back again
around : (n s i : ℕ) → s < n → i < n → (s ≡ (n - (n - s) % n) % n) × (((i + s) % n + (n - s) % n) % n ≡ i)
around n zero i small below =
    let none : (n - 0) % n ≡ 0 = ap (λ v. v % n) (let e : n - 0 ≡ n = omega arith in e) ∙ mod_self n in
    let stays : (i + 0) % n ≡ i = ap (λ v. v % n) (let e : i + 0 ≡ i = omega arith in e) ∙ mod-eq_of_lt below in
    (sym (ap (λ m. (n - m) % n) none ∙ none), ap (λ m. ((i + 0) % n + m) % n) none ∙ ap (λ j. (j + 0) % n) stays ∙ stays)
around n (suc s) i small below =
    let m : (n - suc s) % n ≡ n - suc s = mod-eq_of_lt (omega arith) in
    let back : (n - (n - suc s)) % n ≡ suc s = ap (λ v. v % n) (let e : n - (n - suc s) ≡ suc s = omega arith in e) ∙ mod-eq_of_lt small in
    let place : ((i + suc s) % n + (n - suc s)) % n ≡ i = elim (cases_lt (i + suc s) n) [
      | inl inside ↦ ap (λ j. (j + (n - suc s)) % n) (mod-eq_of_lt inside) ∙ ap (λ v. v % n) (let e : i + suc s + (n - suc s) ≡ i + n = omega arith in e) ∙ add-mod_right i n ∙ mod-eq_of_lt below
      | inr past ↦ ap (λ j. (j + (n - suc s)) % n) (mod_past (i + suc s) n past (omega arith)) ∙ ap (λ v. v % n) (let e : i + suc s - n + (n - suc s) ≡ i = omega arith in e) ∙ mod-eq_of_lt below
    ] in
    (sym (ap (λ k. (n - k) % n) m ∙ back), ap (λ k. ((i + suc s) % n + k) % n) m ∙ place)

-- turned right: left by what is missing to n
right_bit : (n a s i : ℕ) → 0 < n → s < n → a < 2 ^ n → i < n → bit_at (bit_or (a / 2 ^ s) ((a * 2 ^ ((n - s) % n)) % 2 ^ n)) i ≡ bit_at a ((i + s) % n)
right_bit n a s i some small within below =
    let back : (s ≡ (n - (n - s) % n) % n) × (((i + s) % n + (n - s) % n) % n ≡ i) = around n s i small below in
    let left : bit_at (turned n a ((n - s) % n)) (((i + s) % n + (n - s) % n) % n) ≡ bit_at a ((i + s) % n) = left_bit n a ((n - s) % n) ((i + s) % n) some (mod-lt (n - s) some) within (mod-lt (i + s) some) in
    let turn : bit_at (turned n a ((n - s) % n)) i ≡ bit_at a ((i + s) % n) = subst (λ j. bit_at (turned n a ((n - s) % n)) j ≡ bit_at a ((i + s) % n)) back.1 left in
    ap (λ v. bit_at v i) (or_comm (a / 2 ^ s) ((a * 2 ^ ((n - s) % n)) % 2 ^ n) ∙ ap (λ r. bit_or ((a * 2 ^ ((n - s) % n)) % 2 ^ n) (a / 2 ^ r)) back.0) ∙ turn

pub rotations : Rotations
rotations I32 a k i h below = (left_bit 32 a (k % 32) i (omega arith) (mod-lt k (omega arith)) h below, right_bit 32 a (k % 32) i (omega arith) (mod-lt k (omega arith)) h below)
rotations I64 a k i h below = (left_bit 64 a (k % 64) i (omega arith) (mod-lt k (omega arith)) h below, right_bit 64 a (k % 64) i (omega arith) (mod-lt k (omega arith)) h below)
