-- What is read is spelled, and what is spelled is read: unsigned integers.
use Rattle.std.proofs.Common.{ℕ, ◌+◌, ◌-◌, ◌*◌, ◌^◌, ◌<◌, ◌≤◌, ◌≡◌, refl, ap, ◌∙◌, sym, arith, List, [], ◌∷◌, ◌++◌, Option, Some, None, nat_lt, cond, length, Bool, true, false, inl, inr}
use Rattle.std.specs.List.{AllByRecursion}
use Rattle.std.proofs.lemmas.Bool.{cases_lt, cond-true, cond-false}
use Rattle.std.proofs.lemmas.List.{append_cancel_right}
use Rattle.std.proofs.lemmas.Option.{cond_some, same_Some, none-some}
use Rattle.gu_bytes.specs.Numbers.{IsUnsigned}
use Rattle.gu_bytes.specs.Reading.{unsigned_at, longer}
use Rattle.gu_bytes.specs.Reads.{HoldsNoUnsigned}
use Rattle.gu_bytes.proofs.Powers.{seven_more}

pub unsigned_again : (bits : ℕ) (front rest : List ℕ) (n : ℕ) → IsUnsigned bits front n → unsigned_at bits (front ++ rest) ≡ Some (n, rest)
unsigned_again bits [] rest n h = absurd h
unsigned_again bits (b ∷ []) rest n h = grind (arith, h)
unsigned_again bits (b ∷ c ∷ more) rest n h =
    let high = h.3 in
    let below = unsigned_again (bits - 7) (c ∷ more) rest high.0 high.1 in
    grind (arith, h.0, h.1, h.2, below, high.2)

longer_some : (b : ℕ) (o : Option (ℕ × List ℕ)) (n : ℕ) (rest : List ℕ) → longer b o ≡ Some (n, rest) → (high : ℕ) × (o ≡ Some (high, rest)) × (128 * high + (b - 128) ≡ n)
longer_some b None n rest h = cc
longer_some b (Some x) n rest h =
    let e = same_Some _ _ h in
    (x.0, ap (λ (r : List ℕ). Some (x.0, r)) (ap (λ (p : ℕ × List ℕ). p.1) e), ap (λ (p : ℕ × List ℕ). p.0) e)

-- an answer that comes only where a test holds
pub kept_test : {A : Type 0} (b : Bool) (o : Option A) (y : A) → cond b o None ≡ Some y → (b ≡ true) × (o ≡ Some y)
kept_test true o y h = (refl, h)
kept_test false o y h = absurd (none-some _ h)

-- one byte more in front
pub unsigned_more : (bits b n high : ℕ) (front : List ℕ) → 128 ≤ b → b < 256 → 7 < bits → IsUnsigned (bits - 7) front high → n ≡ 128 * high + (b - 128) → IsUnsigned bits (b ∷ front) n
unsigned_more bits b n high [] h i j s e = absurd s
unsigned_more bits b n high (c ∷ front) h i j s e = (h, i, j, (high, s, e))

-- what a test that computes says
pub below_true : (a b : ℕ) → nat_lt a b ≡ true → a < b
below_true a b h = grind (arith, h)

pub below_false : (a b : ℕ) → nat_lt a b ≡ false → b ≤ a
below_false a b h = grind (arith, h)

-- what a reading says of the first byte
record LastByte (bits b n : ℕ) (more rest : List ℕ) : Type 0 where
  pub low : b < 128
  pub within : b < 2 ^ bits
  pub value : n ≡ b
  pub behind : more ≡ rest

record EarlierByte (bits b n : ℕ) (more rest : List ℕ) : Type 0 where
  pub high : 128 ≤ b
  pub byte : b < 256
  pub wide : 7 < bits
  pub upper : ℕ
  pub read : unsigned_at (bits - 7) more ≡ Some (upper, rest)
  pub value : n ≡ 128 * upper + (b - 128)

last_byte : (bits b n : ℕ) (more rest : List ℕ) → b < 128 → unsigned_at bits (b ∷ more) ≡ Some (n, rest) → LastByte bits b n more rest
last_byte bits b n more rest low h =
    let is : nat_lt b 128 ≡ true = grind (arith, low) in
    let kept : cond (nat_lt b (2 ^ bits)) (Some (b, more)) None ≡ Some (n, rest) = sym (cond-true _ _ _ is) ∙ h in
    let fits : (nat_lt b (2 ^ bits) ≡ true) × ◌≡◌ {A = ℕ × List ℕ} (b, more) (n, rest) = cond_some _ _ _ kept in
    record { low = low; within = below_true b (2 ^ bits) fits.0; value = sym (ap (λ (p : ℕ × List ℕ). p.0) fits.1); behind = ap (λ (p : ℕ × List ℕ). p.1) fits.1 }

earlier_byte : (bits b n : ℕ) (more rest : List ℕ) → 128 ≤ b → unsigned_at bits (b ∷ more) ≡ Some (n, rest) → EarlierByte bits b n more rest
earlier_byte bits b n more rest high h =
    let not_last : nat_lt b 128 ≡ false = grind (arith, high) in
    let long : cond (nat_lt b 256) (cond (nat_lt 7 bits) (longer b (unsigned_at (bits - 7) more)) None) None ≡ Some (n, rest) = sym (cond-false _ _ _ not_last) ∙ h in
    let one = kept_test (nat_lt b 256) _ _ long in
    let two = kept_test (nat_lt 7 bits) _ _ one.1 in
    let o = longer_some b _ n rest two.1 in
    record { high = high; byte = below_true b 256 one.0; wide = below_true 7 bits two.0; upper = o.0; read = o.1; value = sym o.2 }

pub unsigned_taken : (bits : ℕ) (text rest : List ℕ) (n : ℕ) → unsigned_at bits text ≡ Some (n, rest) → (front : List ℕ) × (text ≡ front ++ rest) × IsUnsigned bits front n
unsigned_taken bits [] rest n h = cc
unsigned_taken bits (b ∷ more) rest n h = elim (cases_lt b 128) [
  | inl low ↦ (
      let it = last_byte bits b n more rest low h in
      (b ∷ [], ap (λ bs. b ∷ bs) it.behind, (low, it.within, it.value)))
  | inr high ↦ (
      let it = earlier_byte bits b n more rest high h in
      let below = unsigned_taken (bits - 7) more rest it.upper it.read in
      (b ∷ below.0, ap (λ bs. b ∷ bs) below.1, unsigned_more bits b n it.upper below.0 high it.byte it.wide below.2 it.value))
]

-- where nothing is read, nothing is spelled
pub unsigned_refused : (bits : ℕ) (text : List ℕ) → unsigned_at bits text ≡ None → HoldsNoUnsigned bits text
unsigned_refused bits text h front rest n whole spells = none-some _ (sym h ∙ ap (unsigned_at bits) whole ∙ unsigned_again bits front rest n spells)

pub one_unsigned : (bits : ℕ) (f x g y : List ℕ) (m n : ℕ) → IsUnsigned bits f m → IsUnsigned bits g n → f ++ x ≡ g ++ y → (m ≡ n) × (f ≡ g) × (x ≡ y)
one_unsigned bits f x g y m n a b same =
    let e = same_Some _ _ (sym (unsigned_again bits f x m a) ∙ ap (unsigned_at bits) same ∙ unsigned_again bits g y n b) in
    let behind : x ≡ y = ap (λ (r : ℕ × List ℕ). r.1) e in
    (ap (λ (r : ℕ × List ℕ). r.0) e, append_cancel_right f g y (ap (λ t. f ++ t) (sym behind) ∙ same), behind)

pub unsigned_fits : (bits : ℕ) (front : List ℕ) (n : ℕ) → IsUnsigned bits front n → n < 2 ^ bits
unsigned_fits bits [] n h = absurd h
unsigned_fits bits (b ∷ []) n h = omega (arith, h.1, h.2)
unsigned_fits bits (b ∷ c ∷ more) n h =
    let high = h.3 in
    let below = unsigned_fits (bits - 7) (c ∷ more) high.0 high.1 in
    omega (arith, seven_more bits h.2, below, h.1, high.2)

pub unsigned_bytes : (bits : ℕ) (front : List ℕ) (n : ℕ) → IsUnsigned bits front n → AllByRecursion (λ b. b < 256) front × (0 < length front)
unsigned_bytes bits [] n h = absurd h
unsigned_bytes bits (b ∷ []) n h = ((omega (arith, h.0), tt), omega arith)
unsigned_bytes bits (b ∷ c ∷ more) n h = ((h.1, (unsigned_bytes (bits - 7) (c ∷ more) h.3.0 h.3.1).0), omega arith)
