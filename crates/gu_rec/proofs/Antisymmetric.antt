-- Two heap types that are subtypes of one another are the same.
use Rattle.std.proofs.Common.{◌≡◌, ℕ, zero, suc, ◌<◌, true, false, ◌||◌, ◌⊎◌, List, [], ◌∷◌, map, length, Option, Some, None, refl, ap, ap₂, sym, ◌∙◌, subst, inl, inr, arith}
use Rattle.std.specs.List.{list_any}
use Rattle.std.proofs.lemmas.Bool.{cases_lt}
use Rattle.gu_types.specs.declared.types.Abs.{Abs}
use Rattle.gu_types.specs.declared.types.Abs.TheVariants as A
use Rattle.gu_types.specs.declared.types.HeapType.{HeapType}
use Rattle.gu_types.specs.declared.types.HeapType.TheVariants as H
use Rattle.gu_types.specs.declared.types.TypeList.{TypeList}
use Rattle.gu_types.specs.Depth.{types_of}
use Rattle.gu_rec.specs.Closed.{closed_type, SameType}
use Rattle.gu_rec.specs.Tests.{eq_found, same_type}
use Rattle.gu_rec.specs.Sub.{kind_of, abs_line, line, same_heap, top_over, is_sub, SameHeap}
use Rattle.gu_rec.specs.Validity.{IndicesHold}
use Rattle.gu_rec.proofs.Same.{same_type_decides}
use Rattle.gu_rec.proofs.Lines.{along, parent_below}
use Rattle.gu_rec.proofs.Order.{there, on, either, is_abs, Steps, Ends, abs_steps, abs_ends, idx_steps, idx_root, Heads}
use Rattle.gu_rec.proofs.Decided.{out_ends, same_of, flip, top_is, no_bottom, heads, below_none, below_some, no_top_there}

pub idx_line : (list : TypeList) (t : ℕ) (ks : List Abs) → list_any (same_heap list (H.Idx t)) (map H.Abs ks) ≡ false
idx_line list t [] = refl
idx_line list t (k ∷ ks) = idx_line list t ks

no_idx : (list : TypeList) (t : ℕ) (k : Abs) → on list (H.Idx t) (H.Abs k) ≡ true → ⊥
unfolding line
no_idx list t k h = let z : false ≡ true = sym (idx_line list t (abs_line k)) ∙ h in cc

-- an index on a line is that of its first type, or of a type with a smaller index
abbrev Lower : TypeList → ℕ → ℕ → Type 0
Lower list t i = SameType list t list i ⊎ ((x : ℕ) × (x < i) × SameType list t list x)

lower : (list : TypeList) (t i : ℕ) → on list (H.Idx t) (H.Idx i) ≡ true → Lower list t i
lower list t = along (types_of list) (λ i. on list (H.Idx t) (H.Idx i) ≡ true → Lower list t i)
    (λ i e h. elim (cases_lt i (length (types_of list))) as (λ _. Lower list t i) [
      | inl l ↦
          let a = there list i l in
          elim (either (same_heap list (H.Idx t) (H.Idx i)) (on list (H.Idx t) (H.Abs (kind_of a.type.comp))) (sym ((idx_root list i a.type a.found e).is (H.Idx t)) ∙ h)) as (λ _. Lower list t i) [
            | inl s ↦ inl (same_of list t i s)
            | inr s ↦ absurd (no_idx list t (kind_of a.type.comp) s)
          ]
      | inr l ↦
          elim (either (same_heap list (H.Idx t) (H.Idx i)) false (sym ((out_ends list i l).is (H.Idx t)) ∙ h)) as (λ _. Lower list t i) [
            | inl s ↦ inl (same_of list t i s)
            | inr s ↦ cc
          ]
    ])
    (λ i p e next h.
    let b = parent_below (types_of list) i p e in
    elim (either (same_heap list (H.Idx t) (H.Idx i)) (on list (H.Idx t) (H.Idx p)) (sym ((idx_steps list i p e).is (H.Idx t)) ∙ h)) as (λ _. Lower list t i) [
      | inl s ↦ inl (same_of list t i s)
      | inr s ↦ elim (next s) as (λ _. Lower list t i) [
        | inl v ↦ inr (p, b, v)
        | inr w ↦ let l = w.1 in inr (w.0, omega arith, w.2)
      ]
    ])

pub same_first : (list : TypeList) (i y : ℕ) → SameType list i list y → (zs : List HeapType) → list_any (same_heap list (H.Idx i)) zs ≡ list_any (same_heap list (H.Idx y)) zs
unfolding SameType same_type
same_first list i y v [] = refl
same_first list i y v (H.Abs k ∷ zs) = same_first list i y v zs
same_first list i y v (H.Idx w ∷ zs) = ap₂ (λ a b. a || b) (ap (λ o. eq_found o (closed_type list w)) v) (same_first list i y v zs)

same_there_and_back : (list : TypeList) (one two three : ℕ) → SameType list one list two → SameType list two list three → SameType list one list three
unfolding SameType
same_there_and_back list one two three v w = v ∙ w

alike : (list : TypeList) (i j : ℕ) → SameType list i list j → same_heap list (H.Idx i) (H.Idx j) ≡ true
alike list i j s = (same_type_decides list list i j).1 s

module _ (list : TypeList) (hold : IndicesHold list) where
  turn : (x j i : ℕ) → SameType list j list x → on list (H.Idx i) (H.Idx j) ≡ on list (H.Idx i) (H.Idx x)
  unfolding Heads
  turn x j i s = heads list hold (H.Idx x) (H.Idx j) (H.Idx i) (alike list j x s)

  idx_below : (n i j : ℕ) → i < n → on list (H.Idx j) (H.Idx i) ≡ true → on list (H.Idx i) (H.Idx j) ≡ true → SameType list i list j
  idx_below zero i j l h k = absurd (omega arith)
  idx_below (suc n) i j l h k = from_lower (λ y m. idx_below n y j m) (lower list j i h)
    where
      again : ((y : ℕ) → y < n → on list (H.Idx j) (H.Idx y) ≡ true → on list (H.Idx y) (H.Idx j) ≡ true → SameType list y list j) → (y : ℕ) → y < i → SameType list i list y → SameType list i list j
      again ih y m v =
          same_there_and_back list i y j v (ih y (omega arith) (sym (turn y i j v) ∙ h) (sym (same_first list i y v (line list (H.Idx j))) ∙ k))

      from_lower : ((y : ℕ) → y < n → on list (H.Idx j) (H.Idx y) ≡ true → on list (H.Idx y) (H.Idx j) ≡ true → SameType list y list j) → Lower list j i → SameType list i list j
      from_lower ih (inl s) = flip list j i s
      from_lower ih (inr w) =
          let x : ℕ = w.0 in
          let lx : x < i = w.1 in
          elim (lower list i x (sym (turn x j i w.2) ∙ k)) as (λ _. SameType list i list j) [
            | inl v ↦ again ih x lx v
            | inr u ↦ let m = u.1 in again ih u.0 (omega arith) u.2
          ]

  alike_abs : (k l : Abs) → same_heap list (H.Abs l) (H.Abs k) ≡ true → k ≡ l
  alike_abs k l s = let e : H.Abs l ≡ H.Abs k = is_abs list (H.Abs l) k s in cc

  below_end : (k l : Abs) → Ends list (H.Abs k) → on list (H.Abs l) (H.Abs k) ≡ true → k ≡ l
  below_end k l ends h =
      elim (either (same_heap list (H.Abs l) (H.Abs k)) false (sym (ends.is (H.Abs l)) ∙ h)) as (λ _. k ≡ l) [ inl s ↦ alike_abs k l s | inr s ↦ cc ]

  any_is : (l : Abs) → on list (H.Abs l) (H.Abs A.Any) ≡ true → A.Any ≡ l
  any_is l h = below_end A.Any l (abs_ends list A.Any refl) h

  eq_is : (l : Abs) → on list (H.Abs l) (H.Abs A.Eq) ≡ true → (A.Eq ≡ l) ⊎ (A.Any ≡ l)
  eq_is l h =
      elim (either (same_heap list (H.Abs l) (H.Abs A.Eq)) (on list (H.Abs l) (H.Abs A.Any)) (sym ((abs_steps list A.Eq A.Any refl).is (H.Abs l)) ∙ h)) as (λ _. (A.Eq ≡ l) ⊎ (A.Any ≡ l)) [ inl s ↦ inl (alike_abs A.Eq l s) | inr s ↦ inr (any_is l s) ]

  below_eq : (k l : Abs) → Steps list (H.Abs k) (H.Abs A.Eq) → (on list (H.Abs k) (H.Abs A.Eq) ≡ true → ⊥) → (on list (H.Abs k) (H.Abs A.Any) ≡ true → ⊥) → on list (H.Abs l) (H.Abs k) ≡ true → on list (H.Abs k) (H.Abs l) ≡ true → k ≡ l
  below_eq k l step not_eq not_any h g =
      elim (either (same_heap list (H.Abs l) (H.Abs k)) (on list (H.Abs l) (H.Abs A.Eq)) (sym (step.is (H.Abs l)) ∙ h)) as (λ _. k ≡ l) [
        | inl s ↦ alike_abs k l s
        | inr s ↦ elim (eq_is l s) as (λ _. k ≡ l) [
          | inl e ↦ absurd (not_eq (subst (λ m. on list (H.Abs k) (H.Abs m) ≡ true) (sym e) g))
          | inr e ↦ absurd (not_any (subst (λ m. on list (H.Abs k) (H.Abs m) ≡ true) (sym e) g))
        ]
      ]

  eq_not_any : on list (H.Abs A.Eq) (H.Abs A.Any) ≡ true → ⊥
  unfolding line
  eq_not_any h = cc

  i31_not_eq : on list (H.Abs A.I31) (H.Abs A.Eq) ≡ true → ⊥
  unfolding line
  i31_not_eq h = cc

  i31_not_any : on list (H.Abs A.I31) (H.Abs A.Any) ≡ true → ⊥
  unfolding line
  i31_not_any h = cc

  struct_not_eq : on list (H.Abs A.AnyStruct) (H.Abs A.Eq) ≡ true → ⊥
  unfolding line
  struct_not_eq h = cc

  struct_not_any : on list (H.Abs A.AnyStruct) (H.Abs A.Any) ≡ true → ⊥
  unfolding line
  struct_not_any h = cc

  array_not_eq : on list (H.Abs A.AnyArray) (H.Abs A.Eq) ≡ true → ⊥
  unfolding line
  array_not_eq h = cc

  array_not_any : on list (H.Abs A.AnyArray) (H.Abs A.Any) ≡ true → ⊥
  unfolding line
  array_not_any h = cc

  abs_below : (k l : Abs) → on list (H.Abs l) (H.Abs k) ≡ true → on list (H.Abs k) (H.Abs l) ≡ true → k ≡ l
  abs_below A.Any l h g = any_is l h
  abs_below A.Eq l h g = elim (eq_is l h) as (λ _. A.Eq ≡ l) [ inl e ↦ e | inr e ↦ absurd (eq_not_any (subst (λ m. on list (H.Abs A.Eq) (H.Abs m) ≡ true) (sym e) g)) ]
  abs_below A.I31 l h g = below_eq A.I31 l (abs_steps list A.I31 A.Eq refl) i31_not_eq i31_not_any h g
  abs_below A.AnyStruct l h g = below_eq A.AnyStruct l (abs_steps list A.AnyStruct A.Eq refl) struct_not_eq struct_not_any h g
  abs_below A.AnyArray l h g = below_eq A.AnyArray l (abs_steps list A.AnyArray A.Eq refl) array_not_eq array_not_any h g
  abs_below A.Bot l h g = below_end A.Bot l (abs_ends list A.Bot refl) h
  abs_below A.AnyFunc l h g = below_end A.AnyFunc l (abs_ends list A.AnyFunc refl) h
  abs_below A.NoFunc l h g = below_end A.NoFunc l (abs_ends list A.NoFunc refl) h
  abs_below A.Extern l h g = below_end A.Extern l (abs_ends list A.Extern refl) h
  abs_below A.NoExtern l h g = below_end A.NoExtern l (abs_ends list A.NoExtern refl) h
  abs_below A.Exn l h g = below_end A.Exn l (abs_ends list A.Exn refl) h
  abs_below A.NoExn l h g = below_end A.NoExn l (abs_ends list A.NoExn refl) h

  from_tops : (k l : Abs) (o p : Option Abs) → top_over (H.Abs k) ≡ o → top_over (H.Abs l) ≡ p → is_sub list (H.Abs k) (H.Abs l) ≡ true → is_sub list (H.Abs l) (H.Abs k) ≡ true → k ≡ l
  from_tops k l None None e f h g = abs_below k l (sym (below_none list hold (H.Abs k) (H.Abs l) e) ∙ h) (sym (below_none list hold (H.Abs l) (H.Abs k) f) ∙ g)
  from_tops k l None (Some u) e f h g = absurd (no_bottom list (H.Abs k) (H.Abs l) u e f (sym (below_none list hold (H.Abs k) (H.Abs l) e) ∙ h))
  from_tops k l (Some t) None e f h g = absurd (no_bottom list (H.Abs l) (H.Abs k) t f e (sym (below_none list hold (H.Abs l) (H.Abs k) f) ∙ g))
  from_tops k l (Some t) (Some u) e f h g =
      elim (either (same_heap list (H.Abs l) (H.Abs k)) (on list (H.Abs t) (H.Abs l)) (sym (below_some list hold (H.Abs k) (H.Abs l) t e) ∙ h)) as (λ _. k ≡ l) [
        | inl s ↦ alike_abs k l s
        | inr s ↦ absurd (no_top_there list hold (H.Abs l) t u (top_is k t e) f s)
      ]

  mixed : (k : Abs) (i : ℕ) (o : Option Abs) → top_over (H.Abs k) ≡ o → is_sub list (H.Abs k) (H.Idx i) ≡ true → is_sub list (H.Idx i) (H.Abs k) ≡ true → ⊥
  mixed k i None e h g = no_idx list i k (sym (below_none list hold (H.Abs k) (H.Idx i) e) ∙ h)
  mixed k i (Some t) e h g = no_bottom list (H.Idx i) (H.Abs k) t refl e (sym (below_none list hold (H.Idx i) (H.Abs k) refl) ∙ g)

  pub antisymmetric : (a b : HeapType) → is_sub list a b ≡ true → is_sub list b a ≡ true → SameHeap list a b
  antisymmetric (H.Abs k) (H.Abs l) h g = from_tops k l (top_over (H.Abs k)) (top_over (H.Abs l)) refl refl h g
  antisymmetric (H.Abs k) (H.Idx i) h g = mixed k i (top_over (H.Abs k)) refl h g
  antisymmetric (H.Idx i) (H.Abs k) h g = mixed k i (top_over (H.Abs k)) refl g h
  antisymmetric (H.Idx i) (H.Idx j) h g = idx_below (suc i) i j (omega arith) (sym (below_none list hold (H.Idx i) (H.Idx j) refl) ∙ h) (sym (below_none list hold (H.Idx j) (H.Idx i) refl) ∙ g)
