-- The least common supertype, found on the way up a line.
use Rattle.std.proofs.Common.{◌≡◌, ℕ, ◌+◌, ◌<◌, ◌≤◌, true, false, ◌∷◌, length, Option, Some, None, refl, ap, sym, ◌∙◌, subst, inl, inr, arith}
use Rattle.gu_types.specs.declared.types.Abs.{Abs}
use Rattle.gu_types.specs.declared.types.Abs.TheVariants as A
use Rattle.gu_types.specs.declared.types.HeapType.{HeapType}
use Rattle.gu_types.specs.declared.types.HeapType.TheVariants as H
use Rattle.gu_types.specs.declared.types.TypeList.{TypeList}
use Rattle.gu_types.specs.Depth.{types_of, parent}
use Rattle.gu_rec.specs.Closed.{SameType}
use Rattle.gu_rec.specs.Sub.{kind_of, abs_line, same_heap, top_over, is_sub, IsSub, itself, onward, same, bottom, IsHeapOf, IsLeastCommon, HaveNoCommon}
use Rattle.gu_rec.specs.Table.{kind_at, root_kind, above_type, next_above, IsNamed}
use Rattle.gu_rec.specs.Validity.{IndicesHold}
use Rattle.gu_rec.proofs.Lines.{parent_below, kind_root}
use Rattle.gu_rec.proofs.Order.{there, on, either, or_right, is_abs, Steps, Ends, abs_steps, abs_ends, idx_steps, idx_root}
use Rattle.gu_rec.proofs.Decided.{own_on, same_of, flip, under_is, top_is, no_kind, no_bottom, below_none, below_some, no_top_there, is_sub_sound, is_sub_complete}

-- a measure that falls on the way up a line
abbrev pub rank : HeapType → ℕ
rank (H.Abs kind) = length (abs_line kind)
rank (H.Idx i) = i + 4

low_rank : (kind : Abs) → rank (H.Abs kind) < 4
low_rank A.Any = omega arith
low_rank A.Eq = omega arith
low_rank A.I31 = omega arith
low_rank A.AnyStruct = omega arith
low_rank A.AnyArray = omega arith
low_rank A.Bot = omega arith
low_rank A.AnyFunc = omega arith
low_rank A.NoFunc = omega arith
low_rank A.Extern = omega arith
low_rank A.NoExtern = omega arith
low_rank A.Exn = omega arith
low_rank A.NoExn = omega arith

-- one heap type stands directly above another
pub record Up (list : TypeList) (at next : HeapType) : Type 0 where
  pub steps : Steps list at next
  pub no_bottom : top_over next ≡ None
  pub in_range : IsHeapOf list next
  pub lower : rank next < rank at

any_up : (list : TypeList) → Up list (H.Abs A.Eq) (H.Abs A.Any)
any_up list = record { steps = abs_steps list A.Eq A.Any refl; no_bottom = refl; in_range = tt; lower = omega arith }

eq_up : (list : TypeList) (k : Abs) → abs_line k ≡ k ∷ abs_line A.Eq → Up list (H.Abs k) (H.Abs A.Eq)
eq_up list k e = record { steps = abs_steps list k A.Eq e; no_bottom = refl; in_range = tt; lower = let l : length (abs_line k) ≡ 3 = ap length e in omega arith }

idx_up : (list : TypeList) (i : ℕ) (o : Option ℕ) → parent (types_of list) i ≡ o → i < length (types_of list) → Up list (H.Idx i) (above_type (root_kind (types_of list) i) o)
idx_up list i None e h =
    let a = there list i h in
    let k : root_kind (types_of list) i ≡ kind_of a.type.comp = kind_root (types_of list) i e ∙ ap kind_at a.found in
    subst (λ r. Up list (H.Idx i) (H.Abs r)) (sym k)
    (record { steps = idx_root list i a.type a.found e; no_bottom = no_kind a.type.comp; in_range = tt; lower = let l = low_rank (kind_of a.type.comp) in omega arith })
idx_up list i (Some p) e h =
    let b = parent_below (types_of list) i p e in
    record { steps = idx_steps list i p e; no_bottom = refl; in_range = omega arith; lower = omega arith }

pub up : (list : TypeList) (at next : HeapType) → IsHeapOf list at → next_above list at ≡ Some next → Up list at next
up list (H.Idx i) next h e =
    let f : above_type (root_kind (types_of list) i) (parent (types_of list) i) ≡ next = cc in
    subst (Up list (H.Idx i)) f (idx_up list i (parent (types_of list) i) refl h)
up list (H.Abs A.Eq) next h e = let f : H.Abs A.Any ≡ next = cc in subst (Up list (H.Abs A.Eq)) f (any_up list)
up list (H.Abs A.I31) next h e = let f : H.Abs A.Eq ≡ next = cc in subst (Up list (H.Abs A.I31)) f (eq_up list A.I31 refl)
up list (H.Abs A.AnyStruct) next h e = let f : H.Abs A.Eq ≡ next = cc in subst (Up list (H.Abs A.AnyStruct)) f (eq_up list A.AnyStruct refl)
up list (H.Abs A.AnyArray) next h e = let f : H.Abs A.Eq ≡ next = cc in subst (Up list (H.Abs A.AnyArray)) f (eq_up list A.AnyArray refl)
up list (H.Abs A.Any) next h e = cc
up list (H.Abs A.Bot) next h e = cc
up list (H.Abs A.AnyFunc) next h e = cc
up list (H.Abs A.NoFunc) next h e = cc
up list (H.Abs A.Extern) next h e = cc
up list (H.Abs A.NoExtern) next h e = cc
up list (H.Abs A.Exn) next h e = cc
up list (H.Abs A.NoExn) next h e = cc

last : (list : TypeList) (at : HeapType) → next_above list at ≡ None → Ends list at
last list (H.Idx i) e = cc
last list (H.Abs A.Eq) e = cc
last list (H.Abs A.I31) e = cc
last list (H.Abs A.AnyStruct) e = cc
last list (H.Abs A.AnyArray) e = cc
last list (H.Abs A.Any) e = abs_ends list A.Any refl
last list (H.Abs A.Bot) e = abs_ends list A.Bot refl
last list (H.Abs A.AnyFunc) e = abs_ends list A.AnyFunc refl
last list (H.Abs A.NoFunc) e = abs_ends list A.NoFunc refl
last list (H.Abs A.Extern) e = abs_ends list A.Extern refl
last list (H.Abs A.NoExtern) e = abs_ends list A.NoExtern refl
last list (H.Abs A.Exn) e = abs_ends list A.Exn refl
last list (H.Abs A.NoExn) e = abs_ends list A.NoExn refl

module _ (list : TypeList) (hold : IndicesHold list) where
  same_down : (a x : HeapType) → same_heap list x a ≡ true → IsSub list x a
  same_down (H.Abs k) x h = subst (λ y. IsSub list y (H.Abs k)) (sym (is_abs list x k h)) (itself (H.Abs k))
  same_down (H.Idx i) (H.Abs y) h = cc
  same_down (H.Idx i) (H.Idx t) h = same t i (same_of list t i h)

  -- what stands above is a supertype
  pub up_sub : (at next : HeapType) → top_over at ≡ None → Up list at next → IsSub list at next
  up_sub at next e u = is_sub_sound list hold at next (below_none list hold at next e ∙ (u.steps.is next ∙ or_right (same_heap list next at) (on list next next) (own_on list next)))

  -- what is above a heap type, but not above another below it only there, is above the next one
  pub up_least : (at next b c : HeapType) → top_over at ≡ None → Up list at next → (IsSub list b at → ⊥) → IsSub list at c → IsSub list b c → IsSub list next c
  up_least at next b c e u apart p q =
      elim (either (same_heap list c at) (on list c next) (sym (u.steps.is c) ∙ (sym (below_none list hold at c e) ∙ is_sub_complete list hold p))) as (λ _. IsSub list next c) [
        | inl s ↦ absurd (apart (onward b c at q (same_down at c s)))
        | inr s ↦ is_sub_sound list hold next c (below_none list hold next c u.no_bottom ∙ s)
      ]

  pub last_none : (at b c : HeapType) → top_over at ≡ None → next_above list at ≡ None → (IsSub list b at → ⊥) → IsSub list at c → IsSub list b c → ⊥
  last_none at b c e n apart p q =
      elim (either (same_heap list c at) false (sym ((last list at n).is c) ∙ (sym (below_none list hold at c e) ∙ is_sub_complete list hold p))) as (λ _. ⊥) [
        | inl s ↦ apart (onward b c at q (same_down at c s))
        | inr s ↦ cc
      ]

  -- a bottom is a supertype of what is the same alone
  below_bottom : (k t : Abs) (b : HeapType) (o : Option Abs) → top_over b ≡ o → top_over (H.Abs k) ≡ Some t → is_sub list b (H.Abs k) ≡ true → IsSub list (H.Abs k) b
  below_bottom k t b None e f h = absurd (no_bottom list b (H.Abs k) t e f (sym (below_none list hold b (H.Abs k) e) ∙ h))
  below_bottom k t (H.Idx i) (Some s) e f h = cc
  below_bottom k t (H.Abs y) (Some s) e f h =
      elim (either (same_heap list (H.Abs k) (H.Abs y)) (on list (H.Abs s) (H.Abs k)) (sym (below_some list hold (H.Abs y) (H.Abs k) s e) ∙ h)) as (λ _. IsSub list (H.Abs k) (H.Abs y)) [
        | inl x ↦ same_down (H.Abs y) (H.Abs k) x
        | inr x ↦ absurd (no_top_there list hold (H.Abs k) s t (top_is y s e) f x)
      ]

  above_bottom : (k t : Abs) (c : HeapType) (o : Option Abs) → top_over c ≡ o → top_over (H.Abs k) ≡ Some t → on list (H.Abs t) c ≡ true → IsSub list c (H.Abs t)
  above_bottom k t c None e f h = is_sub_sound list hold c (H.Abs t) (below_none list hold c (H.Abs t) e ∙ h)
  above_bottom k t c (Some s) e f h = absurd (no_top_there list hold c t s (top_is k t f) e h)

  bottom_none_at : (k t : Abs) (b c : HeapType) → top_over (H.Abs k) ≡ Some t → (IsSub list (H.Abs k) b → ⊥) → IsSub list (H.Abs k) c → IsSub list b c → ⊥
  bottom_none_at k t b c f apart p q =
      elim (either (same_heap list c (H.Abs k)) (on list (H.Abs t) c) (sym (below_some list hold (H.Abs k) c t f) ∙ is_sub_complete list hold p)) as (λ _. ⊥) [
        | inl s ↦ apart (below_bottom k t b (top_over b) refl f (is_sub_complete list hold (onward b c (H.Abs k) q (same_down (H.Abs k) c s))))
        | inr s ↦ apart (bottom t k b (under_is k t f) (onward b c (H.Abs t) q (above_bottom k t c (top_over c) refl f s)))
      ]

  -- a bottom that is not below another heap type has no supertype in common with it
  pub bottom_none : (a b : HeapType) (t : Abs) → top_over a ≡ Some t → (IsSub list a b → ⊥) → HaveNoCommon list a b
  bottom_none (H.Abs k) b t f apart = λ c p q. bottom_none_at k t b c f apart p q
  bottom_none (H.Idx i) b t f apart = cc

-- the least common supertype by its least index
pub named_least : (list : TypeList) (a b at named : HeapType) → IsSub list a at → IsSub list b at → ((c : HeapType) → IsSub list a c → IsSub list b c → IsSub list at c) → IsNamed list at named → IsLeastCommon list a b named
named_least list a b at named p q least n = record {
  above_first = onward a at named p n.up;
  above_second = onward b at named q n.up;
  least = λ c r s. onward named at c n.down (least c r s);
  least_index = n.least_index;
}

back_again : (list : TypeList) (i j k : ℕ) → SameType list i list j → SameType list j list k → SameType list i list k
unfolding SameType
back_again list i j k s t = s ∙ t

pub named_index : (list : TypeList) (i c : ℕ) → SameType list i list c → ((j : ℕ) → SameType list i list j → c ≤ j) → IsNamed list (H.Idx i) (H.Idx c)
named_index list i c s least = record {
  up = same i c s;
  down = same c i (flip list i c s);
  least_index = λ j t. least j (back_again list i c j s t);
}

pub named_abs : (list : TypeList) (k : Abs) → IsNamed list (H.Abs k) (H.Abs k)
named_abs list k = record { up = itself (H.Abs k); down = itself (H.Abs k); least_index = tt }
