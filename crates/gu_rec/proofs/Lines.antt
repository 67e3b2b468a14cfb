-- The line above a type, one step at a time.
use Rattle.std.proofs.Common.{◌≡◌, ℕ, zero, suc, ◌<◌, ◌≤◌, Bool, true, false, List, ◌∷◌, length, slice_get, nat_lt, if◌then◌else◌, Option, Some, None, refl, ap, sym, ◌∙◌, inl, inr, arith, ltb-true}
use Rattle.std.proofs.lemmas.Option.{slice_get_cases}
use Rattle.gu_types.specs.declared.types.HeapType.{HeapType}
use Rattle.gu_types.specs.declared.types.HeapType.TheVariants as H
use Rattle.gu_types.specs.declared.types.SubType.{SubType}
use Rattle.gu_types.specs.declared.types.TypeList.{TypeList}
use Rattle.gu_types.specs.Depth.{types_of, parent, smaller, first_super, one_above, depth_within, depth}
use Rattle.gu_rec.specs.Sub.{root_line, next_line, line_within, line}
use Rattle.gu_rec.specs.Table.{kind_at, next_kind, root_within, root_kind}

smaller_below : (i : ℕ) (o : Option ℕ) (p : ℕ) → smaller i o ≡ Some p → p < i
smaller_below i None p h = cc
smaller_below i (Some s) p h = by_test (nat_lt s i) refl h
  where
    by_test : (b : Bool) → nat_lt s i ≡ b → (if b then Some s else None) ≡ Some p → p < i
    by_test true e k = let f : s ≡ p = cc in let g = ltb-true s i e in omega arith
    by_test false e k = let f : ◌≡◌ {A = Option ℕ} None (Some p) = k in cc

-- a supertype has a smaller index
pub parent_below : (types : List SubType) (i p : ℕ) → parent types i ≡ Some p → p < i
parent_below types i p h = smaller_below i (first_super (slice_get types i)) p h

-- something found at the top of a line, and handed down it
module _ {X : Type 0} (types : List SubType) (top : ℕ → X) (down : ℕ → X → X) where
  abbrev pub handed : (ℕ → X) → ℕ → Option ℕ → X
  handed go i None = top i
  handed go i (Some p) = down i (go p)

  abbrev pub climb : ℕ → ℕ → X
  climb zero i = top i
  climb (suc most) i = handed (climb most) i (parent types i)

  same_handed : (f g : ℕ → X) (i : ℕ) (o : Option ℕ) → ((p : ℕ) → o ≡ Some p → f p ≡ g p) → handed f i o ≡ handed g i o
  same_handed f g i None h = refl
  same_handed f g i (Some p) h = ap (down i) (h p refl)

  at_zero : (most : ℕ) → climb most 0 ≡ top 0
  at_zero zero = refl
  at_zero (suc most) = same_handed (climb most) (climb most) 0 (parent types 0) (λ p e. refl) ∙ no_parent (parent types 0) refl
    where
      no_parent : (o : Option ℕ) → parent types 0 ≡ o → handed (climb most) 0 o ≡ top 0
      no_parent None e = refl
      no_parent (Some p) e = absurd (let h = parent_below types 0 p e in omega arith)

  enough : (m n i : ℕ) → i ≤ m → i ≤ n → climb m i ≡ climb n i
  enough zero n i h k = let e : i ≡ 0 = omega arith in ap top e ∙ (sym (at_zero n) ∙ ap (climb n) (sym e))
  enough (suc m) zero i h k = let e : i ≡ 0 = omega arith in ap (climb (suc m)) e ∙ (at_zero (suc m) ∙ ap top (sym e))
  enough (suc m) (suc n) i h k = same_handed (climb m) (climb n) i (parent types i) (λ p e. let b = parent_below types i p e in enough m n p (omega arith) (omega arith))

  pub climb_root : (i : ℕ) → parent types i ≡ None → climb i i ≡ top i
  climb_root zero e = refl
  climb_root (suc i) e = ap (handed (climb i) (suc i)) e

  pub climb_step : (i p : ℕ) → parent types i ≡ Some p → climb i i ≡ down i (climb p p)
  climb_step zero p e = absurd (let h = parent_below types 0 p e in omega arith)
  climb_step (suc i) p e = ap (handed (climb i) (suc i)) e ∙ ap (down (suc i)) (let b = parent_below types (suc i) p e in enough i p p (omega arith) (omega arith))

depth_climbs : (types : List SubType) (m i : ℕ) → depth_within m types i ≡ climb types (λ _. zero) (λ _ n. suc n) m i
depth_climbs types zero i = refl
depth_climbs types (suc m) i = by_parent (λ p. depth_climbs types m p) (parent types i)
  where
    by_parent : ((p : ℕ) → depth_within m types p ≡ climb types (λ _. zero) (λ _ n. suc n) m p) → (o : Option ℕ) → one_above (depth_within m types) o ≡ handed types (λ _. zero) (λ _ n. suc n) (climb types (λ _. zero) (λ _ n. suc n) m) i o
    by_parent h None = refl
    by_parent h (Some p) = ap suc (h p)

pub depth_root : (types : List SubType) (i : ℕ) → parent types i ≡ None → depth types i ≡ 0
depth_root types i e = depth_climbs types i i ∙ climb_root types (λ _. zero) (λ _ n. suc n) i e

pub depth_step : (types : List SubType) (i p : ℕ) → parent types i ≡ Some p → depth types i ≡ suc (depth types p)
depth_step types i p e = depth_climbs types i i ∙ (climb_step types (λ _. zero) (λ _ n. suc n) i p e ∙ ap suc (sym (depth_climbs types p p)))

abbrev line_top : List SubType → ℕ → List HeapType
line_top types i = H.Idx i ∷ root_line (slice_get types i)

abbrev line_down : ℕ → List HeapType → List HeapType
line_down i above = H.Idx i ∷ above

line_climbs : (types : List SubType) (m i : ℕ) → line_within m types i ≡ climb types (line_top types) line_down m i
line_climbs types zero i = refl
line_climbs types (suc m) i = by_parent (λ p. line_climbs types m p) (parent types i)
  where
    by_parent : ((p : ℕ) → line_within m types p ≡ climb types (line_top types) line_down m p) → (o : Option ℕ) → (H.Idx i ∷ next_line (line_within m types) (root_line (slice_get types i)) o) ≡ handed types (line_top types) line_down (climb types (line_top types) line_down m) i o
    by_parent h None = refl
    by_parent h (Some p) = ap (λ l. H.Idx i ∷ l) (h p)

pub line_root : (list : TypeList) (i : ℕ) → parent (types_of list) i ≡ None → line list (H.Idx i) ≡ H.Idx i ∷ root_line (slice_get (types_of list) i)
unfolding line
line_root list i e = line_climbs (types_of list) i i ∙ climb_root (types_of list) (line_top (types_of list)) line_down i e

pub line_step : (list : TypeList) (i p : ℕ) → parent (types_of list) i ≡ Some p → line list (H.Idx i) ≡ H.Idx i ∷ line list (H.Idx p)
unfolding line
line_step list i p e =
    line_climbs (types_of list) i i ∙ (climb_step (types_of list) (line_top (types_of list)) line_down i p e
    ∙ ap (λ l. H.Idx i ∷ l) (sym (line_climbs (types_of list) p p)))

kind_climbs : (types : List SubType) (m i : ℕ) → root_within m types i ≡ climb types (λ j. kind_at (slice_get types j)) (λ _ k. k) m i
kind_climbs types zero i = refl
kind_climbs types (suc m) i = by_parent (λ p. kind_climbs types m p) (parent types i)
  where
    by_parent : ((p : ℕ) → root_within m types p ≡ climb types (λ j. kind_at (slice_get types j)) (λ _ k. k) m p) → (o : Option ℕ) → next_kind (root_within m types) (kind_at (slice_get types i)) o ≡ handed types (λ j. kind_at (slice_get types j)) (λ _ k. k) (climb types (λ j. kind_at (slice_get types j)) (λ _ k. k) m) i o
    by_parent h None = refl
    by_parent h (Some p) = h p

pub kind_root : (types : List SubType) (i : ℕ) → parent types i ≡ None → root_kind types i ≡ kind_at (slice_get types i)
unfolding root_kind
kind_root types i e = kind_climbs types i i ∙ climb_root types (λ j. kind_at (slice_get types j)) (λ _ k. k) i e

pub kind_step : (types : List SubType) (i p : ℕ) → parent types i ≡ Some p → root_kind types i ≡ root_kind types p
unfolding root_kind
kind_step types i p e = kind_climbs types i i ∙ (climb_step types (λ j. kind_at (slice_get types j)) (λ _ k. k) i p e ∙ sym (kind_climbs types p p))

-- what holds of a type where it holds of its supertype holds of all types
pub along : (types : List SubType) (P : ℕ → Type 0) → ((i : ℕ) → parent types i ≡ None → P i) → ((i p : ℕ) → parent types i ≡ Some p → P p → P i) → (i : ℕ) → P i
along types P root step i = below i i (omega arith)
  where
    by_parent : (i : ℕ) → ((p : ℕ) → p < i → P p) → (o : Option ℕ) → parent types i ≡ o → P i
    by_parent i h None e = root i e
    by_parent i h (Some p) e = step i p e (h p (parent_below types i p e))

    below : (n i : ℕ) → i ≤ n → P i
    below zero i h = by_parent i (λ p b. absurd (omega arith)) (parent types i) refl
    below (suc n) i h = by_parent i (λ p b. below n p (omega arith)) (parent types i) refl

depth_at_most : (types : List SubType) (i : ℕ) → depth types i ≤ i
depth_at_most types = along types (λ i. depth types i ≤ i)
    (λ i e. let d = depth_root types i e in omega arith)
    (λ i p e h. let d = depth_step types i p e in let b = parent_below types i p e in omega arith)

-- in a short list no type is deep
pub few_are_shallow : (types : List SubType) (i : ℕ) → length types ≤ 64 → depth types i ≤ 63
few_are_shallow types i h =
    elim (slice_get_cases types i).1 as (λ _. depth types i ≤ 63) [
      | inl w ↦ let d = depth_at_most types i in let l = w.1 in omega arith
      | inr w ↦ let d = depth_root types i (ap (λ o. smaller i (first_super o)) w.1) in omega arith
    ]
