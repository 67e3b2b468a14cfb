-- Facts on the kinds of the operators that are computed row by row.
use Rattle.std.proofs.Common.{ℕ, zero, suc, ◌<◌, ◌^◌, ◌≡◌, ◌≢◌, Bool, true, false, ◌&&◌, ◌==◌, Option, IfSome, refl, sym, subst, inl, inr, arith}
use Rattle.std.proofs.lemmas.Bool.{eqb-true}
use Rattle.std.proofs.lemmas.Bool.Decides.{eqb_tells}
use Rattle.gu_num.specs.declared.kind.Binary.{Binary}
use Rattle.gu_num.specs.declared.kind.Kind.{Kind}
use Rattle.gu_num.specs.declared.kind.Kind.TheVariants.{One, Compare, Combine}
use Rattle.gu_num.specs.Numeric.{bits, kind_at, width_of}
use Rattle.gu_optab.specs.declared.op.NumType.{NumType}
use Rattle.gu_optab.specs.declared.op.NumType.TheVariants.{I32, I64}
use Rattle.gu_optab.specs.Operators.{row_at}

-- whether a test holds of each number below n
abbrev every : (ℕ → Bool) → ℕ → Bool
every p zero = true
every p (suc n) = p n && every p n

both : (a b : Bool) → (a && b) ≡ true → (a ≡ true) × (b ≡ true)
both true b e = (refl, e)
both false b e = cc

every_at : (p : ℕ → Bool) (n : ℕ) → every p n ≡ true → (k : ℕ) → k < n → p k ≡ true
every_at p zero e k below = absurd (omega arith)
every_at p (suc n) e k below = elim (eqb_tells k n) [
  | inl same ↦ subst (λ i. p i ≡ true) (sym same.1) (both (p n) (every p n) e).0
  | inr other ↦ let apart : k ≢ n = other.1 in every_at p n (both (p n) (every p n) e).1 k (omega arith)
]

-- how many operands a kind of operator takes
abbrev pub operands_of : Kind → ℕ
operands_of (One u) = 1
operands_of (Compare r) = 2
operands_of (Combine t) = 2

pub operands_of-kind_at : (n : ℕ) → n < 66 → operands_of (kind_at n) ≡ (row_at n).operand_count
operands_of-kind_at n below = eqb-true _ _ (every_at (λ k. operands_of (kind_at k) == (row_at k).operand_count) 66 refl n below)

-- what combines two i64 gives an i64
abbrev keeps : Kind → NumType → NumType → Bool
keeps (One u) from to = true
keeps (Compare r) from to = true
keeps (Combine t) I32 to = true
keeps (Combine t) I64 I64 = true
keeps (Combine t) I64 I32 = false

pub combines_i64 : (n : ℕ) (t : Binary) → n < 66 → kind_at n ≡ Combine t → (row_at n).operand_type ≡ I64 → (row_at n).result_type ≡ I64
combines_i64 n t below kind from =
    let kept : keeps (kind_at n) (row_at n).operand_type (row_at n).result_type ≡ true = every_at (λ k. keeps (kind_at k) (row_at k).operand_type (row_at k).result_type) 66 refl n below in
    let told : keeps (Combine t) I64 (row_at n).result_type ≡ true = subst (λ k. keeps k I64 (row_at n).result_type ≡ true) kind (subst (λ f. keeps (kind_at n) f (row_at n).result_type ≡ true) from kept) in
    wide t (row_at n).result_type told
  where
    wide : (t : Binary) (to : NumType) → keeps (Combine t) I64 to ≡ true → to ≡ I64
    wide t I32 e = cc
    wide t I64 e = refl

-- every number of 64 bits is held as one
pub held_64 : (o : Option ℕ) (to : NumType) → to ≡ I64 → IfSome o (λ c. c < 2 ^ 64) → IfSome o (λ c. c < 2 ^ bits (width_of to))
held_64 o to e fits = subst (λ t. IfSome o (λ c. c < 2 ^ bits (width_of t))) (sym e) fits
