-- Numbers of parts, over the views of all seats.
use Rattle.std.proofs.Common.{ℕ, zero, suc, ◌≡◌, ◌≢◌, ◌+◌, ◌<◌, ◌≤◌, Bool, false, eqb, cond, List, [], ◌∷◌, ◌++◌, set, sym, refl, ap, arith, eq-eqb}
use Rattle.std.proofs.lemmas.Bool.Decides.{nat_tests}
use mathlib.Core.Option.{some, some-injective, some-ne-none}
use lib.ListN.{get_elem?}
use Rattle.gu_cells.specs.declared.record.View.{View}
use Rattle.gu_cells.specs.declared.record.Part.{Part}
use Rattle.gu_cells.specs.Rule.{total, times, held, once, parts, first_view}

pub total_set : (count : View → ℕ) (vs : List View) (i : ℕ) (v w : View) → get_elem? vs i ≡ some v → total count (set vs i w) + count v ≡ total count vs + count w
total_set count [] i v w e = absurd (some-ne-none v (sym e))
total_set count (x ∷ xs) zero v w e = omega (arith, ap count (some-injective x v e))
total_set count (x ∷ xs) (suc i) v w e = omega (arith, total_set count xs i v w e)

pub total_snoc : (count : View → ℕ) (vs : List View) (v : View) → total count (vs ++ v ∷ []) ≡ total count vs + count v
total_snoc count [] v = omega arith
total_snoc count (x ∷ xs) v = omega (arith, total_snoc count xs v)

one_within : (count : View → ℕ) (vs : List View) (i : ℕ) (v : View) → get_elem? vs i ≡ some v → count v ≤ total count vs
one_within count [] i v e = absurd (some-ne-none v (sym e))
one_within count (x ∷ xs) zero v e = omega (arith, ap count (some-injective x v e))
one_within count (x ∷ xs) (suc i) v e = omega (arith, one_within count xs i v e)

pub two_within : (count : View → ℕ) (vs : List View) (i j : ℕ) (v w : View) → i ≢ j → get_elem? vs i ≡ some v → get_elem? vs j ≡ some w → count v + count w ≤ total count vs
two_within count [] i j v w ne p q = absurd (some-ne-none v (sym p))
two_within count (x ∷ xs) zero zero v w ne p q = absurd (ne refl)
two_within count (x ∷ xs) zero (suc j) v w ne p q = omega (arith, ap count (some-injective x v p), one_within count xs j w q)
two_within count (x ∷ xs) (suc i) zero v w ne p q = omega (arith, ap count (some-injective x w q), one_within count xs i v p)
two_within count (x ∷ xs) (suc i) (suc j) v w ne p q = omega (arith, two_within count xs i j v w (λ e. ne (ap suc e)) p q)

pub times_append : (n : ℕ) (ps qs : List Part) → times n (ps ++ qs) ≡ times n ps + times n qs
times_append n [] qs = omega arith
times_append n (p ∷ ps) qs = omega (arith, times_append n ps qs)

pub held_live : (n : ℕ) (v : View) → v.spent ≡ false → held n v ≡ times n (parts v)
held_live n v live = ap (λ (b : Bool). cond b 0 (times n (parts v))) live

-- a seat has a part with its own number
pub held_own : (v : View) → v.spent ≡ false → 1 ≤ held v.number v
held_own v live =
    let one : cond {A = ℕ} (eqb v.number v.number) 1 0 ≡ 1 = ap (λ (b : Bool). cond {A = ℕ} b 1 0) (eq-eqb v.number v.number refl) in
    omega (arith, held_live v.number v live)

pub once_few : (n count : ℕ) → once n count ≤ 1
once_few n count = grind (arith, nat_tests)

pub once_some : (n count : ℕ) → 1 ≤ once n count → n < count
once_some n count h = grind (arith, nat_tests)

pub once_next : (n count : ℕ) → once n count + cond {A = ℕ} (eqb count n) 1 0 ≡ once n (count + 1)
once_next n count = grind (arith, nat_tests)

pub first_once : (n : ℕ) → total (held n) (first_view ∷ []) ≡ once n 1
first_once n = grind (arith, nat_tests)
