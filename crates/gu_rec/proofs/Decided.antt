-- The test for subtyping goes on from one to the next, and is exact.
use Rattle.std.proofs.Common.{◌≡◌, ℕ, zero, suc, ◌<◌, ◌≤◌, true, false, ◌||◌, List, [], ◌∷◌, length, slice_get, Option, Some, None, Decides, refl, ap, sym, ◌∙◌, subst, inl, inr, arith}
use Rattle.std.specs.List.{list_any}
use Rattle.std.proofs.lemmas.Bool.{cases_lt}
use Rattle.std.proofs.lemmas.Option.{slice_get_past}
use Rattle.gu_types.specs.declared.types.Abs.{Abs}
use Rattle.gu_types.specs.declared.types.Abs.TheVariants as A
use Rattle.gu_types.specs.declared.types.HeapType.{HeapType}
use Rattle.gu_types.specs.declared.types.HeapType.TheVariants as H
use Rattle.gu_types.specs.declared.types.Comp.{Comp}
use Rattle.gu_types.specs.declared.types.Comp.TheVariants as C
use Rattle.gu_types.specs.declared.types.SubType.{SubType}
use Rattle.gu_types.specs.declared.types.TypeList.{TypeList}
use Rattle.gu_types.specs.Depth.{types_of, parent, smaller, first_super}
use Rattle.gu_rec.specs.Closed.{SameType}
use Rattle.gu_rec.specs.Tests.{eq_abs}
use Rattle.gu_rec.specs.Sub.{kind_of, root_line, line, same_heap, top_over, is_sub_under, is_sub, Declares, IsRootOf, StandsAbove, eq_any, i31_eq, struct_eq, array_eq, IsBottomUnder, none_any, nofunc_func, noextern_extern, noexn_exn, IsSub, itself, onward, same, declared, root, tree, bottom}
use Rattle.gu_rec.specs.Validity.{IndicesHold}
use Rattle.gu_rec.proofs.Same.{same_type_decides, abs_tell}
use Rattle.gu_rec.proofs.Lines.{along, line_root, line_step}
use Rattle.gu_rec.proofs.Entries.{parent_is, type_holds}
use Rattle.gu_rec.proofs.Seats.{same_there}
use Rattle.gu_rec.proofs.Order.{there, on, same_heads, either, or_left, or_right, is_abs, Steps, Ends, abs_steps, abs_ends, idx_steps, idx_root, Passes, Heads, pass_on, pass_end, abs_heads, abs_passes, idx_heads}

no_type : (list : TypeList) (i : ℕ) → length (types_of list) ≤ i → parent (types_of list) i ≡ None
no_type list i h = ap (λ o. smaller i (first_super o)) (slice_get_past (types_of list) i h)

pub out_ends : (list : TypeList) (i : ℕ) → length (types_of list) ≤ i → Ends list (H.Idx i)
out_ends list i h = record { is = λ x. ap (list_any (same_heap list x)) (line_root list i (no_type list i h) ∙ ap (λ o. H.Idx i ∷ root_line o) (slice_get_past (types_of list) i h)) }

pub same_of : (list : TypeList) (t i : ℕ) → same_heap list (H.Idx t) (H.Idx i) ≡ true → SameType list t list i
same_of list t i s = (same_type_decides list list t i).0 s

pub flip : (list : TypeList) (t i : ℕ) → SameType list t list i → SameType list i list t
unfolding SameType
flip list t i s = sym s

first_on : (list : TypeList) (x : HeapType) (i : ℕ) → same_heap list x (H.Idx i) ≡ true → on list x (H.Idx i) ≡ true
first_on list x i h = by_parent (parent (types_of list) i) refl
  where
    by_parent : (o : Option ℕ) → parent (types_of list) i ≡ o → on list x (H.Idx i) ≡ true
    by_parent None e = ap (list_any (same_heap list x)) (line_root list i e) ∙ or_left (same_heap list x (H.Idx i)) (list_any (same_heap list x) (root_line (slice_get (types_of list) i))) h
    by_parent (Some p) e = ap (list_any (same_heap list x)) (line_step list i p e) ∙ or_left (same_heap list x (H.Idx i)) (on list x (H.Idx p)) h

own_heap : (list : TypeList) (a : HeapType) → same_heap list a a ≡ true
unfolding SameType
own_heap list (H.Abs k) = abs_tell.own k
own_heap list (H.Idx i) = (same_type_decides list list i i).1 refl

own_abs : (list : TypeList) (k : Abs) → on list (H.Abs k) (H.Abs k) ≡ true
unfolding line
own_abs list A.Any = refl
own_abs list A.Eq = refl
own_abs list A.I31 = refl
own_abs list A.AnyStruct = refl
own_abs list A.AnyArray = refl
own_abs list A.Bot = refl
own_abs list A.AnyFunc = refl
own_abs list A.NoFunc = refl
own_abs list A.Extern = refl
own_abs list A.NoExtern = refl
own_abs list A.Exn = refl
own_abs list A.NoExn = refl

pub own_on : (list : TypeList) (a : HeapType) → on list a a ≡ true
own_on list (H.Abs k) = own_abs list k
own_on list (H.Idx i) = first_on list (H.Idx i) i (own_heap list (H.Idx i))

same_tops : (list : TypeList) (b a : HeapType) → same_heap list b a ≡ true → top_over b ≡ top_over a
same_tops list b (H.Abs k) h = ap top_over (is_abs list b k h)
same_tops list (H.Abs y) (H.Idx i) h = cc
same_tops list (H.Idx t) (H.Idx i) h = refl

pub data Top : Abs → Type 0 where
  any : Top A.Any
  func : Top A.AnyFunc
  ext : Top A.Extern
  exn : Top A.Exn

pub top_is : (k t : Abs) → top_over (H.Abs k) ≡ Some t → Top t
top_is A.Bot t h = let e : A.Any ≡ t = cc in subst Top e any
top_is A.NoFunc t h = let e : A.AnyFunc ≡ t = cc in subst Top e func
top_is A.NoExtern t h = let e : A.Extern ≡ t = cc in subst Top e ext
top_is A.NoExn t h = let e : A.Exn ≡ t = cc in subst Top e exn
top_is A.Any t h = cc
top_is A.Eq t h = cc
top_is A.I31 t h = cc
top_is A.AnyStruct t h = cc
top_is A.AnyArray t h = cc
top_is A.AnyFunc t h = cc
top_is A.Extern t h = cc
top_is A.Exn t h = cc

pub under_is : (k t : Abs) → top_over (H.Abs k) ≡ Some t → IsBottomUnder t k
under_is A.Bot t h = let e : A.Any ≡ t = cc in subst (λ u. IsBottomUnder u A.Bot) e none_any
under_is A.NoFunc t h = let e : A.AnyFunc ≡ t = cc in subst (λ u. IsBottomUnder u A.NoFunc) e nofunc_func
under_is A.NoExtern t h = let e : A.Extern ≡ t = cc in subst (λ u. IsBottomUnder u A.NoExtern) e noextern_extern
under_is A.NoExn t h = let e : A.Exn ≡ t = cc in subst (λ u. IsBottomUnder u A.NoExn) e noexn_exn
under_is A.Any t h = cc
under_is A.Eq t h = cc
under_is A.I31 t h = cc
under_is A.AnyStruct t h = cc
under_is A.AnyArray t h = cc
under_is A.AnyFunc t h = cc
under_is A.Extern t h = cc
under_is A.Exn t h = cc

top_no_bottom : {t : Abs} → Top t → top_over (H.Abs t) ≡ None
top_no_bottom any = refl
top_no_bottom func = refl
top_no_bottom ext = refl
top_no_bottom exn = refl

bottom_ends : (list : TypeList) (k t : Abs) → top_over (H.Abs k) ≡ Some t → Ends list (H.Abs k)
bottom_ends list A.Bot t h = abs_ends list A.Bot refl
bottom_ends list A.NoFunc t h = abs_ends list A.NoFunc refl
bottom_ends list A.NoExtern t h = abs_ends list A.NoExtern refl
bottom_ends list A.NoExn t h = abs_ends list A.NoExn refl
bottom_ends list A.Any t h = cc
bottom_ends list A.Eq t h = cc
bottom_ends list A.I31 t h = cc
bottom_ends list A.AnyStruct t h = cc
bottom_ends list A.AnyArray t h = cc
bottom_ends list A.AnyFunc t h = cc
bottom_ends list A.Extern t h = cc
bottom_ends list A.Exn t h = cc

no_first : (xs : List ℕ) → slice_get xs 0 ≡ None → xs ≡ []
no_first [] e = refl
no_first (x ∷ xs) e = cc

only_one : (xs : List ℕ) (k j : ℕ) → length xs < 2 → slice_get xs k ≡ Some j → slice_get xs 0 ≡ Some j
only_one xs zero j h e = e
only_one [] (suc k) j h e = cc
only_one (x ∷ []) (suc k) j h e = cc
only_one (x ∷ y ∷ xs) (suc k) j h e = absurd (omega arith)

pub no_kind : (comp : Comp) → top_over (H.Abs (kind_of comp)) ≡ None
no_kind (C.Func ps rs) = refl
no_kind (C.Struct fs) = refl
no_kind (C.Array f) = refl

module _ (list : TypeList) where
  -- no bottom is on a line but its own
  NoBottom : HeapType → Type 0
  NoBottom a = (b : HeapType) (u : Abs) → top_over b ≡ Some u → on list b a ≡ true → ⊥

  none_on : (a next : HeapType) → top_over a ≡ None → Steps list a next → NoBottom next → NoBottom a
  unfolding NoBottom
  none_on a next e step rest b u f h =
      elim (either (same_heap list b a) (on list b next) (sym (step.is b) ∙ h)) as (λ _. ⊥) [
        | inl s ↦ let t : None ≡ Some u = sym e ∙ (sym (same_tops list b a s) ∙ f) in cc
        | inr s ↦ rest b u f s
      ]

  none_end : (a : HeapType) → top_over a ≡ None → Ends list a → NoBottom a
  unfolding NoBottom
  none_end a e ends b u f h =
      elim (either (same_heap list b a) false (sym (ends.is b) ∙ h)) as (λ _. ⊥) [
        | inl s ↦ let t : None ≡ Some u = sym e ∙ (sym (same_tops list b a s) ∙ f) in cc
        | inr s ↦ cc
      ]

  any_none : NoBottom (H.Abs A.Any)
  any_none = none_end (H.Abs A.Any) refl (abs_ends list A.Any refl)

  eq_none : NoBottom (H.Abs A.Eq)
  eq_none = none_on (H.Abs A.Eq) (H.Abs A.Any) refl (abs_steps list A.Eq A.Any refl) any_none

  abs_none : (k : Abs) → top_over (H.Abs k) ≡ None → NoBottom (H.Abs k)
  abs_none A.Any e = any_none
  abs_none A.Eq e = eq_none
  abs_none A.I31 e = none_on (H.Abs A.I31) (H.Abs A.Eq) refl (abs_steps list A.I31 A.Eq refl) eq_none
  abs_none A.AnyStruct e = none_on (H.Abs A.AnyStruct) (H.Abs A.Eq) refl (abs_steps list A.AnyStruct A.Eq refl) eq_none
  abs_none A.AnyArray e = none_on (H.Abs A.AnyArray) (H.Abs A.Eq) refl (abs_steps list A.AnyArray A.Eq refl) eq_none
  abs_none A.AnyFunc e = none_end (H.Abs A.AnyFunc) refl (abs_ends list A.AnyFunc refl)
  abs_none A.Extern e = none_end (H.Abs A.Extern) refl (abs_ends list A.Extern refl)
  abs_none A.Exn e = none_end (H.Abs A.Exn) refl (abs_ends list A.Exn refl)
  abs_none A.Bot e = cc
  abs_none A.NoFunc e = cc
  abs_none A.NoExtern e = cc
  abs_none A.NoExn e = cc

  idx_none : (i : ℕ) → NoBottom (H.Idx i)
  idx_none = along (types_of list) (λ i. NoBottom (H.Idx i))
      (λ i e. elim (cases_lt i (length (types_of list))) as (λ _. NoBottom (H.Idx i)) [
        | inl h ↦ let a = there list i h in none_on (H.Idx i) (H.Abs (kind_of a.type.comp)) refl (idx_root list i a.type a.found e) (abs_none (kind_of a.type.comp) (no_kind a.type.comp))
        | inr h ↦ none_end (H.Idx i) refl (out_ends list i h)
      ])
      (λ i p e next. none_on (H.Idx i) (H.Idx p) refl (idx_steps list i p e) next)

  pub no_bottom : (a b : HeapType) (u : Abs) → top_over a ≡ None → top_over b ≡ Some u → on list b a ≡ true → ⊥
  unfolding NoBottom
  no_bottom (H.Abs k) b u e f h = abs_none k e b u f h
  no_bottom (H.Idx i) b u e f h = idx_none i b u f h

  module _ (hold : IndicesHold list) where
    out_heads : (i : ℕ) → length (types_of list) ≤ i → Heads list (H.Idx i)
    unfolding Heads
    out_heads i h (H.Abs k) c s = cc
    out_heads i h (H.Idx t) c s =
        let e : SameType list t list i = same_of list t i s in
        let l : length (types_of list) ≤ t = elim (cases_lt t (length (types_of list))) as (λ _. length (types_of list) ≤ t) [ inl x ↦ absurd (let y = same_there list t i x e in omega arith) | inr x ↦ x ] in
        (out_ends list t l).is c ∙ (ap (λ b. b || false) (same_heads list hold c t i e) ∙ sym ((out_ends list i h).is c))

    pub heads : (a : HeapType) → Heads list a
    heads (H.Abs k) = abs_heads list k
    heads (H.Idx i) = elim (cases_lt i (length (types_of list))) as (λ _. Heads list (H.Idx i)) [ inl h ↦ idx_heads list hold i h | inr h ↦ out_heads i h ]

    passes : (a : HeapType) → Passes list a
    passes (H.Abs k) = abs_passes list k
    passes (H.Idx i) = along (types_of list) (λ i. Passes list (H.Idx i))
        (λ i e. elim (cases_lt i (length (types_of list))) as (λ _. Passes list (H.Idx i)) [
          | inl h ↦ let a = there list i h in pass_on list (H.Idx i) (H.Abs (kind_of a.type.comp)) (idx_root list i a.type a.found e) (heads (H.Idx i)) (abs_passes list (kind_of a.type.comp))
          | inr h ↦ pass_end list (H.Idx i) (out_ends list i h) (heads (H.Idx i))
        ])
        (λ i p e next. pass_on list (H.Idx i) (H.Idx p) (idx_steps list i p e) (heads (H.Idx i)) next)
        i

    -- the top of a tree stays above on the way up a line
    Stays : Abs → HeapType → Type 0
    Stays t b = (c : HeapType) → on list (H.Abs t) b ≡ true → on list c b ≡ true → on list (H.Abs t) c ≡ true

    stay_on : (t : Abs) (b next : HeapType) → Steps list b next → same_heap list (H.Abs t) b ≡ false → Stays t next → Stays t b
    unfolding Stays Heads
    stay_on t b next step f rest c h k =
        let tail : on list (H.Abs t) next ≡ true = sym (ap (λ x. x || on list (H.Abs t) next) f) ∙ (sym (step.is (H.Abs t)) ∙ h) in
        elim (either (same_heap list c b) (on list c next) (sym (step.is c) ∙ k)) as (λ _. on list (H.Abs t) c ≡ true) [
          | inl s ↦ heads b c (H.Abs t) s ∙ h
          | inr s ↦ rest c tail s
        ]

    stay_end : (t : Abs) (b : HeapType) → Ends list b → Stays t b
    unfolding Stays Heads
    stay_end t b ends c h k =
        elim (either (same_heap list c b) false (sym (ends.is c) ∙ k)) as (λ _. on list (H.Abs t) c ≡ true) [
          | inl s ↦ heads b c (H.Abs t) s ∙ h
          | inr s ↦ cc
        ]

    apart_eq : {t : Abs} → Top t → same_heap list (H.Abs t) (H.Abs A.Eq) ≡ false
    apart_eq any = refl
    apart_eq func = refl
    apart_eq ext = refl
    apart_eq exn = refl

    apart_i31 : {t : Abs} → Top t → same_heap list (H.Abs t) (H.Abs A.I31) ≡ false
    apart_i31 any = refl
    apart_i31 func = refl
    apart_i31 ext = refl
    apart_i31 exn = refl

    apart_struct : {t : Abs} → Top t → same_heap list (H.Abs t) (H.Abs A.AnyStruct) ≡ false
    apart_struct any = refl
    apart_struct func = refl
    apart_struct ext = refl
    apart_struct exn = refl

    apart_array : {t : Abs} → Top t → same_heap list (H.Abs t) (H.Abs A.AnyArray) ≡ false
    apart_array any = refl
    apart_array func = refl
    apart_array ext = refl
    apart_array exn = refl

    eq_stays : (t : Abs) → Top t → Stays t (H.Abs A.Eq)
    eq_stays t w = stay_on t (H.Abs A.Eq) (H.Abs A.Any) (abs_steps list A.Eq A.Any refl) (apart_eq w) (stay_end t (H.Abs A.Any) (abs_ends list A.Any refl))

    abs_stays : (t : Abs) → Top t → (k : Abs) → Stays t (H.Abs k)
    abs_stays t w A.Any = stay_end t (H.Abs A.Any) (abs_ends list A.Any refl)
    abs_stays t w A.Eq = eq_stays t w
    abs_stays t w A.I31 = stay_on t (H.Abs A.I31) (H.Abs A.Eq) (abs_steps list A.I31 A.Eq refl) (apart_i31 w) (eq_stays t w)
    abs_stays t w A.AnyStruct = stay_on t (H.Abs A.AnyStruct) (H.Abs A.Eq) (abs_steps list A.AnyStruct A.Eq refl) (apart_struct w) (eq_stays t w)
    abs_stays t w A.AnyArray = stay_on t (H.Abs A.AnyArray) (H.Abs A.Eq) (abs_steps list A.AnyArray A.Eq refl) (apart_array w) (eq_stays t w)
    abs_stays t w A.Bot = stay_end t (H.Abs A.Bot) (abs_ends list A.Bot refl)
    abs_stays t w A.AnyFunc = stay_end t (H.Abs A.AnyFunc) (abs_ends list A.AnyFunc refl)
    abs_stays t w A.NoFunc = stay_end t (H.Abs A.NoFunc) (abs_ends list A.NoFunc refl)
    abs_stays t w A.Extern = stay_end t (H.Abs A.Extern) (abs_ends list A.Extern refl)
    abs_stays t w A.NoExtern = stay_end t (H.Abs A.NoExtern) (abs_ends list A.NoExtern refl)
    abs_stays t w A.Exn = stay_end t (H.Abs A.Exn) (abs_ends list A.Exn refl)
    abs_stays t w A.NoExn = stay_end t (H.Abs A.NoExn) (abs_ends list A.NoExn refl)

    stays : (t : Abs) → Top t → (b : HeapType) → Stays t b
    stays t w (H.Abs k) = abs_stays t w k
    stays t w (H.Idx i) = along (types_of list) (λ i. Stays t (H.Idx i))
        (λ i e. elim (cases_lt i (length (types_of list))) as (λ _. Stays t (H.Idx i)) [
          | inl h ↦ let a = there list i h in stay_on t (H.Idx i) (H.Abs (kind_of a.type.comp)) (idx_root list i a.type a.found e) refl (abs_stays t w (kind_of a.type.comp))
          | inr h ↦ stay_end t (H.Idx i) (out_ends list i h)
        ])
        (λ i p e next. stay_on t (H.Idx i) (H.Idx p) (idx_steps list i p e) refl next)
        i

    pub below_none : (a b : HeapType) → top_over a ≡ None → is_sub list a b ≡ on list b a
    unfolding is_sub
    below_none a b e = ap (λ o. is_sub_under list o a b) e

    pub below_some : (a b : HeapType) (t : Abs) → top_over a ≡ Some t → is_sub list a b ≡ (same_heap list b a || on list (H.Abs t) b)
    unfolding is_sub
    below_some a b t e = ap (λ o. is_sub_under list o a b) e

    pub no_top_there : (b : HeapType) (t u : Abs) → Top t → top_over b ≡ Some u → on list (H.Abs t) b ≡ true → ⊥
    no_top_there (H.Idx i) t u w e h = cc
    no_top_there (H.Abs k) t u w e h =
        elim (either (same_heap list (H.Abs t) (H.Abs k)) false (sym ((bottom_ends list k u e).is (H.Abs t)) ∙ h)) as (λ _. ⊥) [
          | inl s ↦ let z : None ≡ Some u = sym (top_no_bottom w) ∙ (same_tops list (H.Abs t) (H.Abs k) s ∙ e) in cc
          | inr s ↦ cc
        ]

    trans_from : (a b c : HeapType) (o p : Option Abs) → top_over a ≡ o → top_over b ≡ p → is_sub list a b ≡ true → is_sub list b c ≡ true → is_sub list a c ≡ true
    unfolding Passes Stays
    trans_from a b c None None e f h k = below_none a c e ∙ passes a b c (sym (below_none a b e) ∙ h) (sym (below_none b c f) ∙ k)
    trans_from a b c None (Some u) e f h k = absurd (no_bottom a b u e f (sym (below_none a b e) ∙ h))
    trans_from (H.Idx i) b c (Some t) p e f h k = cc
    trans_from (H.Abs y) b c (Some t) None e f h k =
        elim (either (same_heap list b (H.Abs y)) (on list (H.Abs t) b) (sym (below_some (H.Abs y) b t e) ∙ h)) as (λ _. is_sub list (H.Abs y) c ≡ true) [
          | inl s ↦ subst (λ x. is_sub list x c ≡ true) (is_abs list b y s) k
          | inr s ↦ below_some (H.Abs y) c t e ∙ or_right (same_heap list c (H.Abs y)) (on list (H.Abs t) c) (stays t (top_is y t e) b c s (sym (below_none b c f) ∙ k))
        ]
    trans_from (H.Abs y) b c (Some t) (Some u) e f h k =
        elim (either (same_heap list b (H.Abs y)) (on list (H.Abs t) b) (sym (below_some (H.Abs y) b t e) ∙ h)) as (λ _. is_sub list (H.Abs y) c ≡ true) [
          | inl s ↦ subst (λ x. is_sub list x c ≡ true) (is_abs list b y s) k
          | inr s ↦ absurd (no_top_there b t u (top_is y t e) f s)
        ]

    -- the test goes on from one to the next
    pub is_sub_passes : (a b c : HeapType) → is_sub list a b ≡ true → is_sub list b c ≡ true → is_sub list a c ≡ true
    is_sub_passes a b c h k = trans_from a b c (top_over a) (top_over b) refl refl h k

    -- what the test finds is a subtype
    OnSub : HeapType → Type 0
    OnSub a = (x : HeapType) → on list x a ≡ true → IsSub list a x

    head_sub : (a x : HeapType) → same_heap list x a ≡ true → IsSub list a x
    head_sub (H.Abs k) x h = subst (λ y. IsSub list (H.Abs k) y) (sym (is_abs list x k h)) (itself (H.Abs k))
    head_sub (H.Idx i) (H.Abs y) h = cc
    head_sub (H.Idx i) (H.Idx t) h = same i t (flip list t i (same_of list t i h))

    sub_on : (a next : HeapType) → Steps list a next → IsSub list a next → OnSub next → OnSub a
    unfolding OnSub
    sub_on a next step up rest x h =
        elim (either (same_heap list x a) (on list x next) (sym (step.is x) ∙ h)) as (λ _. IsSub list a x) [
          | inl s ↦ head_sub a x s
          | inr s ↦ onward a next x up (rest x s)
        ]

    sub_end : (a : HeapType) → Ends list a → OnSub a
    unfolding OnSub
    sub_end a ends x h =
        elim (either (same_heap list x a) false (sym (ends.is x) ∙ h)) as (λ _. IsSub list a x) [
          | inl s ↦ head_sub a x s
          | inr s ↦ cc
        ]

    any_sub : OnSub (H.Abs A.Any)
    any_sub = sub_end (H.Abs A.Any) (abs_ends list A.Any refl)

    eq_sub : OnSub (H.Abs A.Eq)
    eq_sub = sub_on (H.Abs A.Eq) (H.Abs A.Any) (abs_steps list A.Eq A.Any refl) (tree A.Any A.Eq eq_any) any_sub

    abs_sub : (k : Abs) → OnSub (H.Abs k)
    abs_sub A.Any = any_sub
    abs_sub A.Eq = eq_sub
    abs_sub A.I31 = sub_on (H.Abs A.I31) (H.Abs A.Eq) (abs_steps list A.I31 A.Eq refl) (tree A.Eq A.I31 i31_eq) eq_sub
    abs_sub A.AnyStruct = sub_on (H.Abs A.AnyStruct) (H.Abs A.Eq) (abs_steps list A.AnyStruct A.Eq refl) (tree A.Eq A.AnyStruct struct_eq) eq_sub
    abs_sub A.AnyArray = sub_on (H.Abs A.AnyArray) (H.Abs A.Eq) (abs_steps list A.AnyArray A.Eq refl) (tree A.Eq A.AnyArray array_eq) eq_sub
    abs_sub A.Bot = sub_end (H.Abs A.Bot) (abs_ends list A.Bot refl)
    abs_sub A.AnyFunc = sub_end (H.Abs A.AnyFunc) (abs_ends list A.AnyFunc refl)
    abs_sub A.NoFunc = sub_end (H.Abs A.NoFunc) (abs_ends list A.NoFunc refl)
    abs_sub A.Extern = sub_end (H.Abs A.Extern) (abs_ends list A.Extern refl)
    abs_sub A.NoExtern = sub_end (H.Abs A.NoExtern) (abs_ends list A.NoExtern refl)
    abs_sub A.Exn = sub_end (H.Abs A.Exn) (abs_ends list A.Exn refl)
    abs_sub A.NoExn = sub_end (H.Abs A.NoExn) (abs_ends list A.NoExn refl)

    root_of : (i : ℕ) (ty : SubType) → slice_get (types_of list) i ≡ Some ty → parent (types_of list) i ≡ None → IsRootOf list i (kind_of ty.comp)
    root_of i ty f e = record { type = ty; found = f; alone = no_first ty.supers (sym (parent_is list hold i ty f) ∙ e); kind_is = refl }

    declares : (i p : ℕ) → parent (types_of list) i ≡ Some p → Declares list i p
    declares i p e =
        elim (cases_lt i (length (types_of list))) as (λ _. Declares list i p) [
          | inl h ↦ let a = there list i h in record { type = a.type; found = a.found; among = (0, sym (parent_is list hold i a.type a.found) ∙ e) }
          | inr h ↦ let z : None ≡ Some p = sym (no_type list i h) ∙ e in cc
        ]

    on_sub : (a : HeapType) → OnSub a
    on_sub (H.Abs k) = abs_sub k
    on_sub (H.Idx i) = along (types_of list) (λ i. OnSub (H.Idx i))
        (λ i e. elim (cases_lt i (length (types_of list))) as (λ _. OnSub (H.Idx i)) [
          | inl h ↦ let a = there list i h in sub_on (H.Idx i) (H.Abs (kind_of a.type.comp)) (idx_root list i a.type a.found e) (root i (kind_of a.type.comp) (root_of i a.type a.found e)) (abs_sub (kind_of a.type.comp))
          | inr h ↦ sub_end (H.Idx i) (out_ends list i h)
        ])
        (λ i p e next. sub_on (H.Idx i) (H.Idx p) (idx_steps list i p e) (declared i p (declares i p e)) next)
        i

    sound_from : (a b : HeapType) (o : Option Abs) → top_over a ≡ o → is_sub list a b ≡ true → IsSub list a b
    unfolding OnSub
    sound_from a b None e h = on_sub a b (sym (below_none a b e) ∙ h)
    sound_from (H.Idx i) b (Some t) e h = cc
    sound_from (H.Abs y) b (Some t) e h =
        elim (either (same_heap list b (H.Abs y)) (on list (H.Abs t) b) (sym (below_some (H.Abs y) b t e) ∙ h)) as (λ _. IsSub list (H.Abs y) b) [
          | inl s ↦ head_sub (H.Abs y) b s
          | inr s ↦ bottom t y b (under_is y t e) (on_sub b (H.Abs t) s)
        ]

    pub is_sub_sound : (a b : HeapType) → is_sub list a b ≡ true → IsSub list a b
    is_sub_sound a b h = sound_from a b (top_over a) refl h

    -- and what is a subtype the test finds
    own_from : (a : HeapType) (o : Option Abs) → top_over a ≡ o → is_sub list a a ≡ true
    own_from a None e = below_none a a e ∙ own_on list a
    own_from a (Some t) e = below_some a a t e ∙ or_left (same_heap list a a) (on list (H.Abs t) a) (own_heap list a)

    complete_root : (i : ℕ) (kind : Abs) → IsRootOf list i kind → is_sub list (H.Idx i) (H.Abs kind) ≡ true
    complete_root i kind w =
        let e : parent (types_of list) i ≡ None = parent_is list hold i w.type w.found ∙ ap (λ l. slice_get l 0) w.alone in
        below_none (H.Idx i) (H.Abs kind) refl
        ∙ ((idx_root list i w.type w.found e).is (H.Abs kind)
        ∙ or_right (same_heap list (H.Abs kind) (H.Idx i)) (on list (H.Abs kind) (H.Abs (kind_of w.type.comp))) (ap (λ k. on list (H.Abs kind) (H.Abs k)) w.kind_is ∙ own_abs list kind))

    complete_declared : (i j : ℕ) → Declares list i j → is_sub list (H.Idx i) (H.Idx j) ≡ true
    complete_declared i j w =
        let t = type_holds list hold i w.type w.found in
        let e : parent (types_of list) i ≡ Some j = parent_is list hold i w.type w.found ∙ only_one w.type.supers w.among.0 j t.few w.among.1 in
        below_none (H.Idx i) (H.Idx j) refl
        ∙ ((idx_steps list i j e).is (H.Idx j) ∙ or_right (same_heap list (H.Idx j) (H.Idx i)) (on list (H.Idx j) (H.Idx j)) (own_on list (H.Idx j)))

    complete_tree : {above below : Abs} → StandsAbove above below → is_sub list (H.Abs below) (H.Abs above) ≡ true
    unfolding is_sub line
    complete_tree eq_any = refl
    complete_tree i31_eq = refl
    complete_tree struct_eq = refl
    complete_tree array_eq = refl

    under_top : {t u : Abs} → IsBottomUnder t u → top_over (H.Abs u) ≡ Some t
    under_top none_any = refl
    under_top nofunc_func = refl
    under_top noextern_extern = refl
    under_top noexn_exn = refl

    one_bottom : {t u : Abs} → IsBottomUnder t u → (y s : Abs) → IsBottomUnder s y → s ≡ t → y ≡ u
    one_bottom none_any y s none_any e = refl
    one_bottom none_any y s nofunc_func e = cc
    one_bottom none_any y s noextern_extern e = cc
    one_bottom none_any y s noexn_exn e = cc
    one_bottom nofunc_func y s none_any e = cc
    one_bottom nofunc_func y s nofunc_func e = refl
    one_bottom nofunc_func y s noextern_extern e = cc
    one_bottom nofunc_func y s noexn_exn e = cc
    one_bottom noextern_extern y s none_any e = cc
    one_bottom noextern_extern y s nofunc_func e = cc
    one_bottom noextern_extern y s noextern_extern e = refl
    one_bottom noextern_extern y s noexn_exn e = cc
    one_bottom noexn_exn y s none_any e = cc
    one_bottom noexn_exn y s nofunc_func e = cc
    one_bottom noexn_exn y s noextern_extern e = cc
    one_bottom noexn_exn y s noexn_exn e = refl

    top_ends : {t u : Abs} → IsBottomUnder t u → Ends list (H.Abs t)
    top_ends none_any = abs_ends list A.Any refl
    top_ends nofunc_func = abs_ends list A.AnyFunc refl
    top_ends noextern_extern = abs_ends list A.Extern refl
    top_ends noexn_exn = abs_ends list A.Exn refl

    complete_bottom : (t u : Abs) (a : HeapType) (o : Option Abs) → IsBottomUnder t u → top_over a ≡ o → is_sub list a (H.Abs t) ≡ true → is_sub list (H.Abs u) a ≡ true
    complete_bottom t u a None w e h = below_some (H.Abs u) a t (under_top w) ∙ or_right (same_heap list a (H.Abs u)) (on list (H.Abs t) a) (sym (below_none a (H.Abs t) e) ∙ h)
    complete_bottom t u (H.Idx i) (Some s) w e h = cc
    complete_bottom t u (H.Abs y) (Some s) w e h =
        let n : top_over (H.Abs t) ≡ None = top_no_bottom (top_is u t (under_top w)) in
        elim (either (same_heap list (H.Abs t) (H.Abs y)) (on list (H.Abs s) (H.Abs t)) (sym (below_some (H.Abs y) (H.Abs t) s e) ∙ h)) as (λ _. is_sub list (H.Abs u) (H.Abs y) ≡ true) [
          | inl x ↦ let z : None ≡ Some s = sym n ∙ (same_tops list (H.Abs t) (H.Abs y) x ∙ e) in cc
          | inr x ↦
              elim (either (same_heap list (H.Abs s) (H.Abs t)) false (sym ((top_ends w).is (H.Abs s)) ∙ x)) as (λ _. is_sub list (H.Abs u) (H.Abs y) ≡ true) [
                | inl v ↦
                    let q : y ≡ u = one_bottom w y s (under_is y s e) (abs_tell.sound s t v) in
                    below_some (H.Abs u) (H.Abs y) t (under_top w) ∙ or_left (same_heap list (H.Abs y) (H.Abs u)) (on list (H.Abs t) (H.Abs y)) (ap (λ k. eq_abs k u) q ∙ abs_tell.own u)
                | inr v ↦ cc
              ]
        ]

    pub is_sub_complete : {a b : HeapType} → IsSub list a b → is_sub list a b ≡ true
    is_sub_complete (itself a) = own_from a (top_over a) refl
    is_sub_complete (onward a b c p q) = is_sub_passes a b c (is_sub_complete p) (is_sub_complete q)
    is_sub_complete (same i j s) = below_none (H.Idx i) (H.Idx j) refl ∙ first_on list (H.Idx j) i ((same_type_decides list list j i).1 (flip list i j s))
    is_sub_complete (declared i j w) = complete_declared i j w
    is_sub_complete (root i kind w) = complete_root i kind w
    is_sub_complete (tree above below w) = complete_tree w
    is_sub_complete (bottom top under a w p) = complete_bottom top under a (top_over a) w refl (is_sub_complete p)

    -- the test is exact
    pub is_sub_decides : (a b : HeapType) → Decides (is_sub list a b) (IsSub list a b)
    is_sub_decides a b = (is_sub_sound a b, is_sub_complete)
