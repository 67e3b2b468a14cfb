-- What is read is spelled, and what is spelled is read: signed integers.
use Rattle.std.proofs.Common.{ℕ, ◌+◌, ◌-◌, ◌^◌, ◌<◌, ◌≤◌, ◌≡◌, refl, ap, ◌∙◌, sym, arith, List, [], ◌∷◌, ◌++◌, Option, Some, None, nat_lt, cond, length, Bool, true, false, inl, inr, ℤ, pos, ◌+ℤ◌, ◌-ℤ◌, ◌*ℤ◌}
use Rattle.std.specs.List.{AllByRecursion}
use Rattle.std.proofs.lemmas.Bool.{cases_lt, cond-true, cond-false}
use Rattle.std.proofs.lemmas.Int.{ints}
use Rattle.std.proofs.lemmas.List.{append_cancel_right}
use Rattle.std.proofs.lemmas.Option.{cond_some, same_Some, none-some}
use Rattle.gu_bytes.specs.Numbers.{IsSigned, FitsBits}
use Rattle.gu_bytes.specs.Reading.{signed_at, longer_signed}
use Rattle.gu_bytes.specs.Reads.{HoldsNoSigned}
use Rattle.gu_bytes.proofs.Powers.{seven_signed}
use Rattle.gu_bytes.proofs.Unsigned.{kept_test, below_true, below_false}

pub signed_again : (bits : ℕ) (front rest : List ℕ) (z : ℤ) → IsSigned bits front z → signed_at bits (front ++ rest) ≡ Some (z, rest)
signed_again bits [] rest z h = absurd h
signed_again bits (b ∷ []) rest z h = elim h [
  | inl low ↦ (grind (arith, low))
  | inr high ↦ (
      let not_low : nat_lt b 64 ≡ false = grind (arith, high.0) in
      let last : nat_lt b 128 ≡ true = grind (arith, high.1) in
      let fits : nat_lt (b + 2 ^ (bits - 1)) 128 ≡ false = grind (arith, high.2) in
      cond-false _ _ _ not_low ∙ cond-true _ _ _ last ∙ cond-false _ _ _ fits ∙ ap (λ (y : ℤ). Some (y, rest)) (sym high.3))
]
signed_again bits (b ∷ c ∷ more) rest z h =
    let high = h.3 in
    let below = signed_again (bits - 7) (c ∷ more) rest high.0 high.1 in
    let not_low : nat_lt b 64 ≡ false = (let h0 : 128 ≤ b = h.0 in grind arith) in
    let not_last : nat_lt b 128 ≡ false = (let h0 : 128 ≤ b = h.0 in grind arith) in
    let byte : nat_lt b 256 ≡ true = (let h1 : b < 256 = h.1 in grind arith) in
    let wide : nat_lt 7 bits ≡ true = (let h2 : 7 < bits = h.2 in grind arith) in
    cond-false _ _ _ not_low ∙ cond-false _ _ _ not_last ∙ cond-true _ _ _ byte ∙ cond-true _ _ _ wide ∙ ap (longer_signed b) below ∙ ap (λ (y : ℤ). Some (y, rest)) (sym high.2)

longer_some : (b : ℕ) (o : Option (ℤ × List ℕ)) (z : ℤ) (rest : List ℕ) → longer_signed b o ≡ Some (z, rest) → (high : ℤ) × (o ≡ Some (high, rest)) × (pos 128 *ℤ high +ℤ pos (b - 128) ≡ z)
longer_some b None z rest h = cc
longer_some b (Some x) z rest h =
    let e = same_Some _ _ h in
    (x.0, ap (λ (r : List ℕ). Some (x.0, r)) (ap (λ (p : ℤ × List ℕ). p.1) e), ap (λ (p : ℤ × List ℕ). p.0) e)

-- one byte more in front
pub signed_more : (bits b : ℕ) (z high : ℤ) (front : List ℕ) → 128 ≤ b → b < 256 → 7 < bits → IsSigned (bits - 7) front high → z ≡ pos 128 *ℤ high +ℤ pos (b - 128) → IsSigned bits (b ∷ front) z
signed_more bits b z high [] h i j s e = absurd s
signed_more bits b z high (c ∷ front) h i j s e = (h, i, j, (high, s, e))

-- an answer that comes only where a test fails
refused_test : {A : Type 0} (b : Bool) (x y : A) → cond b None (Some x) ≡ Some y → (b ≡ false) × (x ≡ y)
refused_test true x y h = absurd (none-some _ h)
refused_test false x y h = (refl, same_Some _ _ h)

-- what a reading says of the first byte
record PositiveByte (bits b : ℕ) (z : ℤ) (more rest : List ℕ) : Type 0 where
  pub within : b < 2 ^ (bits - 1)
  pub value : z ≡ pos b
  pub behind : more ≡ rest

record NegativeByte (bits b : ℕ) (z : ℤ) (more rest : List ℕ) : Type 0 where
  pub within : 128 ≤ b + 2 ^ (bits - 1)
  pub value : z ≡ pos b -ℤ pos 128
  pub behind : more ≡ rest

record EarlierByte (bits b : ℕ) (z : ℤ) (more rest : List ℕ) : Type 0 where
  pub byte : b < 256
  pub wide : 7 < bits
  pub upper : ℤ
  pub read : signed_at (bits - 7) more ≡ Some (upper, rest)
  pub value : z ≡ pos 128 *ℤ upper +ℤ pos (b - 128)

positive_byte : (bits b : ℕ) (z : ℤ) (more rest : List ℕ) → b < 64 → signed_at bits (b ∷ more) ≡ Some (z, rest) → PositiveByte bits b z more rest
positive_byte bits b z more rest low h =
    let is : nat_lt b 64 ≡ true = grind (arith, low) in
    let kept : cond (nat_lt b (2 ^ (bits - 1))) (Some (pos b, more)) None ≡ Some (z, rest) = sym (cond-true _ _ _ is) ∙ h in
    let fits : (nat_lt b (2 ^ (bits - 1)) ≡ true) × ◌≡◌ {A = ℤ × List ℕ} (pos b, more) (z, rest) = cond_some _ _ _ kept in
    record { within = below_true b (2 ^ (bits - 1)) fits.0; value = sym (ap (λ (p : ℤ × List ℕ). p.0) fits.1); behind = ap (λ (p : ℤ × List ℕ). p.1) fits.1 }

negative_byte : (bits b : ℕ) (z : ℤ) (more rest : List ℕ) → 64 ≤ b → b < 128 → signed_at bits (b ∷ more) ≡ Some (z, rest) → NegativeByte bits b z more rest
negative_byte bits b z more rest over last h =
    let not_low : nat_lt b 64 ≡ false = grind (arith, over) in
    let is : nat_lt b 128 ≡ true = grind (arith, last) in
    let kept : cond (nat_lt (b + 2 ^ (bits - 1)) 128) None (Some (pos b -ℤ pos 128, more)) ≡ Some (z, rest) = sym (cond-false _ _ _ not_low ∙ cond-true _ _ _ is) ∙ h in
    let fits : (nat_lt (b + 2 ^ (bits - 1)) 128 ≡ false) × ◌≡◌ {A = ℤ × List ℕ} (pos b -ℤ pos 128, more) (z, rest) = refused_test _ _ _ kept in
    record { within = below_false (b + 2 ^ (bits - 1)) 128 fits.0; value = sym (ap (λ (p : ℤ × List ℕ). p.0) fits.1); behind = ap (λ (p : ℤ × List ℕ). p.1) fits.1 }

earlier_byte : (bits b : ℕ) (z : ℤ) (more rest : List ℕ) → 128 ≤ b → signed_at bits (b ∷ more) ≡ Some (z, rest) → EarlierByte bits b z more rest
earlier_byte bits b z more rest high h =
    let not_low : nat_lt b 64 ≡ false = grind (arith, high) in
    let not_last : nat_lt b 128 ≡ false = grind (arith, high) in
    let long : cond (nat_lt b 256) (cond (nat_lt 7 bits) (longer_signed b (signed_at (bits - 7) more)) None) None ≡ Some (z, rest) = sym (cond-false _ _ _ not_low ∙ cond-false _ _ _ not_last) ∙ h in
    let one = kept_test (nat_lt b 256) _ _ long in
    let two = kept_test (nat_lt 7 bits) _ _ one.1 in
    let o = longer_some b _ z rest two.1 in
    record { byte = below_true b 256 one.0; wide = below_true 7 bits two.0; upper = o.0; read = o.1; value = sym o.2 }

pub signed_taken : (bits : ℕ) (text rest : List ℕ) (z : ℤ) → signed_at bits text ≡ Some (z, rest) → (front : List ℕ) × (text ≡ front ++ rest) × IsSigned bits front z
signed_taken bits [] rest z h = cc
signed_taken bits (b ∷ more) rest z h = elim (cases_lt b 64) [
  | inl low ↦ (
      let it = positive_byte bits b z more rest low h in
      (b ∷ [], ap (λ bs. b ∷ bs) it.behind, inl (low, it.within, it.value)))
  | inr over ↦ elim (cases_lt b 128) [
    | inl last ↦ (
        let it = negative_byte bits b z more rest over last h in
        (b ∷ [], ap (λ bs. b ∷ bs) it.behind, inr (over, last, it.within, it.value)))
    | inr high ↦ (
        let it = earlier_byte bits b z more rest high h in
        let below = signed_taken (bits - 7) more rest it.upper it.read in
        (b ∷ below.0, ap (λ bs. b ∷ bs) below.1, signed_more bits b z it.upper below.0 high it.byte it.wide below.2 it.value))
  ]
]

-- where nothing is read, nothing is spelled
pub signed_refused : (bits : ℕ) (text : List ℕ) → signed_at bits text ≡ None → HoldsNoSigned bits text
signed_refused bits text h front rest z whole spells = none-some _ (sym h ∙ ap (signed_at bits) whole ∙ signed_again bits front rest z spells)

pub one_signed : (bits : ℕ) (f x g y : List ℕ) (a b : ℤ) → IsSigned bits f a → IsSigned bits g b → f ++ x ≡ g ++ y → (a ≡ b) × (f ≡ g) × (x ≡ y)
one_signed bits f x g y a b p q same =
    let e = same_Some _ _ (sym (signed_again bits f x a p) ∙ ap (signed_at bits) same ∙ signed_again bits g y b q) in
    let behind : x ≡ y = ap (λ (r : ℤ × List ℕ). r.1) e in
    (ap (λ (r : ℤ × List ℕ). r.0) e, append_cancel_right f g y (ap (λ t. f ++ t) (sym behind) ∙ same), behind)

pub signed_fits : (bits : ℕ) (front : List ℕ) (z : ℤ) → IsSigned bits front z → FitsBits bits z
signed_fits bits [] z h = absurd h
signed_fits bits (b ∷ []) z h = elim h [
  | inl low ↦ (omega (arith, ints, low.1, low.2), omega (arith, ints, low.1, low.2))
  | inr high ↦ (omega (arith, ints, high.1, high.2, high.3), omega (arith, ints, high.1, high.2, high.3))
]
signed_fits bits (b ∷ c ∷ more) z h =
    let high = h.3 in
    let below = signed_fits (bits - 7) (c ∷ more) high.0 high.1 in
    let wide = seven_signed bits h.2 in
    (omega (arith, ints, wide, below.0, h.0, h.1, high.2), omega (arith, ints, wide, below.1, h.0, h.1, high.2))

pub signed_bytes : (bits : ℕ) (front : List ℕ) (z : ℤ) → IsSigned bits front z → AllByRecursion (λ b. b < 256) front × (0 < length front)
signed_bytes bits [] z h = absurd h
signed_bytes bits (b ∷ []) z h = ((elim h [ inl low ↦ omega (arith, low.0) | inr high ↦ omega (arith, high.1) ], tt), omega arith)
signed_bytes bits (b ∷ c ∷ more) z h = ((h.1, (signed_bytes (bits - 7) (c ∷ more) h.3.0 h.3.1).0), omega arith)
