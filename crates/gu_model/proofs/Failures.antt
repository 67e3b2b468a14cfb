-- A module has one first part that fails at most, and none where it is valid.
use Rattle.std.proofs.Common.{ℕ, ◌≡◌, ◌<◌, ◌≤◌, Bool, true, false, ap, nat_lt, nat_eq, inl, inr, arith, refl}
use Rattle.std.proofs.lemmas.Bool.{cases_Bool}
use Rattle.gu_rec.specs.Validity.{ValidTypes}
use Rattle.gu_syntax.specs.declared.module.Module.{Module}
use Rattle.gu_model.specs.declared.part.Part.{Part}
use Rattle.gu_model.specs.declared.part.Part.TheVariants as P
use Rattle.gu_model.specs.Valid.{Valid}
use Rattle.gu_model.specs.ValidFailure.{IsFirstWithout, IsFirstType, IsFirstFailure, Fails, HoldBefore, place}

first_is_one : (n : ℕ) (Q : ℕ → Type 0) (i j : ℕ) → IsFirstWithout n Q i → IsFirstWithout n Q j → i ≡ j
first_is_one n Q i j a b = elim (cases_Bool (nat_lt i j)) [
  | inl before ↦ absurd (a.1 (b.2 i (grind (arith, before))))
  | inr no_earlier ↦ elim (cases_Bool (nat_lt j i)) [
    | inl behind ↦ absurd (b.1 (a.2 j (grind (arith, behind))))
    | inr no_later ↦ grind (arith, no_earlier, no_later)
  ]
]

both : (b : Bool) → b ≡ true → b ≡ false → ⊥
both b yes' no' = absurd (let z : ⊥ = grind (arith, yes', no') in z)

-- the first number at which a test fails is one
first_false : (test : ℕ → Bool) (i j : ℕ) → test i ≡ false → ((k : ℕ) → k < i → test k ≡ true) → test j ≡ false → ((k : ℕ) → k < j → test k ≡ true) → i ≡ j
first_false test i j bad first bad' first' = elim (cases_Bool (nat_lt i j)) [
  | inl before ↦ absurd (both (test i) (first' i (grind (arith, before))) bad)
  | inr no_earlier ↦ elim (cases_Bool (nat_lt j i)) [
    | inl behind ↦ absurd (both (test j) (first j (grind (arith, behind))) bad')
    | inr no_later ↦ grind (arith, no_earlier, no_later)
  ]
]

type_is_one : (m : Module) (i j : ℕ) → IsFirstType m i → IsFirstType m j → i ≡ j
type_is_one m i j (inl a) (inl b) = first_false _ i j a.bad a.first b.bad b.first
type_is_one m i j (inl a) (inr b) = absurd (both _ (b.indices.at i) a.bad)
type_is_one m i j (inr a) (inl b) = absurd (both _ (a.indices.at j) b.bad)
type_is_one m i j (inr a) (inr b) = first_false _ i j a.bad a.first b.bad b.first

no_bad_type : (m : Module) (i : ℕ) → IsFirstType m i → ValidTypes m.types → ⊥
no_bad_type m i (inl a) valid = both _ (valid.indices.at i) a.bad
no_bad_type m i (inr a) valid = both _ (valid.supers i) a.bad

-- what fails does not stand before a place before which all parts hold
no_failure : (m : Module) (n : ℕ) (p : Part) → HoldBefore m n → n ≤ 12 → place p < n → Fails m p → ⊥
no_failure m n (P.Ty i) h last before f = no_bad_type m i f (h.types before)
no_failure m n (P.Import i) h last before f = f.1 (h.imports before i f.0)
no_failure m n (P.Func i) h last before f = f.1 (h.funcs before i f.0)
no_failure m n (P.Table i) h last before f = f.1 (h.tables before i f.0)
no_failure m n (P.Memory i) h last before f = f.1 (h.memories before i f.0)
no_failure m n (P.Tag i) h last before f = f.1 (h.tags before i f.0)
no_failure m n (P.Global i) h last before f = f.1 (h.globals before i f.0)
no_failure m n (P.Export i) h last before f = f.1 (h.exports before i f.0)
no_failure m n P.Start h last before f = f (h.start before)
no_failure m n (P.Element i) h last before f = f.1 (h.elements before i f.0)
no_failure m n P.Count h last before f = f (h.count before)
no_failure m n (P.Code i) h last before f = f.1 (h.code before i f.0)
no_failure m n (P.DataSeg i) h last before f = omega arith

places_end : (p : Part) → place p ≤ 12
places_end (P.Ty i) = omega arith
places_end (P.Import i) = omega arith
places_end (P.Func i) = omega arith
places_end (P.Table i) = omega arith
places_end (P.Memory i) = omega arith
places_end (P.Tag i) = omega arith
places_end (P.Global i) = omega arith
places_end (P.Export i) = omega arith
places_end P.Start = omega arith
places_end (P.Element i) = omega arith
places_end P.Count = omega arith
places_end (P.Code i) = omega arith
places_end (P.DataSeg i) = omega arith

same_place : (m : Module) (p q : Part) → nat_eq (place p) (place q) ≡ true → Fails m p → Fails m q → p ≡ q
same_place m (P.Ty i) (P.Ty j) e a b = ap P.Ty (type_is_one m i j a b)
same_place m (P.Import i) (P.Import j) e a b = ap P.Import (first_is_one _ _ i j a b)
same_place m (P.Func i) (P.Func j) e a b = ap P.Func (first_is_one _ _ i j a b)
same_place m (P.Table i) (P.Table j) e a b = ap P.Table (first_is_one _ _ i j a b)
same_place m (P.Memory i) (P.Memory j) e a b = ap P.Memory (first_is_one _ _ i j a b)
same_place m (P.Tag i) (P.Tag j) e a b = ap P.Tag (first_is_one _ _ i j a b)
same_place m (P.Global i) (P.Global j) e a b = ap P.Global (first_is_one _ _ i j a b)
same_place m (P.Export i) (P.Export j) e a b = ap P.Export (first_is_one _ _ i j a b)
same_place m P.Start P.Start e a b = refl
same_place m (P.Element i) (P.Element j) e a b = ap P.Element (first_is_one _ _ i j a b)
same_place m P.Count P.Count e a b = refl
same_place m (P.Code i) (P.Code j) e a b = ap P.Code (first_is_one _ _ i j a b)
same_place m (P.DataSeg i) (P.DataSeg j) e a b = ap P.DataSeg (first_is_one _ _ i j a b)
same_place m _ _ e a b = absurd (both _ e refl)

pub failure_is_one : (m : Module) (p q : Part) → IsFirstFailure m p → IsFirstFailure m q → p ≡ q
failure_is_one m p q a b = elim (cases_Bool (nat_lt (place p) (place q))) [
  | inl before ↦ absurd (no_failure m (place q) p b.0 (places_end q) (grind (arith, before)) a.1)
  | inr no_earlier ↦ elim (cases_Bool (nat_lt (place q) (place p))) [
    | inl behind ↦ absurd (no_failure m (place p) q a.0 (places_end p) (grind (arith, behind)) b.1)
    | inr no_later ↦ same_place m p q (grind (arith, no_earlier, no_later)) a.1 b.1
  ]
]

fails_not : (m : Module) (p : Part) → Valid m → Fails m p → ⊥
fails_not m (P.Ty i) v f = no_bad_type m i f v.types
fails_not m (P.Import i) v f = f.1 (v.imports i f.0)
fails_not m (P.Func i) v f = f.1 (v.funcs i f.0)
fails_not m (P.Table i) v f = f.1 (v.tables i f.0)
fails_not m (P.Memory i) v f = f.1 (v.memories i f.0)
fails_not m (P.Tag i) v f = f.1 (v.tags i f.0)
fails_not m (P.Global i) v f = f.1 (v.globals i f.0)
fails_not m (P.Export i) v f = f.1 (v.exports i f.0)
fails_not m P.Start v f = f v.start
fails_not m (P.Element i) v f = f.1 (v.elements i f.0)
fails_not m P.Count v f = f v.count
fails_not m (P.Code i) v f = f.1 (v.code i f.0)
fails_not m (P.DataSeg i) v f = f.1 (v.segs i f.0)

pub valid_has_none : (m : Module) (p : Part) → Valid m → IsFirstFailure m p → ⊥
valid_has_none m p v a = fails_not m p v a.1
