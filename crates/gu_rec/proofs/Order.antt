-- Subtyping is an order, and its test is exact.
use Rattle.std.proofs.Common.{◌≡◌, ℕ, ◌<◌, Bool, true, false, ◌||◌, ◌⊎◌, [], ◌∷◌, map, length, slice_get, Option, Some, None, refl, ap, ap₂, sym, ◌∙◌, inl, inr, arith}
use Rattle.std.specs.List.{list_any}
use Rattle.std.proofs.lemmas.Option.{slice_get_cases, slice_get_within}
use Rattle.gu_types.specs.declared.types.Abs.{Abs}
use Rattle.gu_types.specs.declared.types.Abs.TheVariants as A
use Rattle.gu_types.specs.declared.types.HeapType.{HeapType}
use Rattle.gu_types.specs.declared.types.HeapType.TheVariants as H
use Rattle.gu_types.specs.declared.types.SubType.{SubType}
use Rattle.gu_types.specs.declared.types.TypeList.{TypeList}
use Rattle.gu_types.specs.Depth.{types_of, parent}
use Rattle.gu_rec.specs.Closed.{closed_type, SameType}
use Rattle.gu_rec.specs.Tests.{eq_found, same_type}
use Rattle.gu_rec.specs.Sub.{kind_of, abs_line, root_line, line, same_heap, IsHeapOf}
use Rattle.gu_rec.specs.Validity.{IndicesHold}
use Rattle.gu_rec.proofs.Same.{same_type_decides, abs_tell}
use Rattle.gu_rec.proofs.Lines.{along, parent_below, line_root, line_step}
use Rattle.gu_rec.proofs.Seats.{up, up_none, up_some, kind_up, kind_is, same_there}

-- a type that is there
pub record There (list : TypeList) (i : ℕ) : Type 0 where
  pub type : SubType
  pub found : slice_get (types_of list) i ≡ Some type

pub there : (list : TypeList) (i : ℕ) → i < length (types_of list) → There list i
there list i h = elim (slice_get_cases (types_of list) i).1 as (λ _. There list i) [ inl w ↦ record { type = w.0; found = w.2 } | inr w ↦ absurd (let l = w.0 in omega arith) ]

-- whether a heap type is one of those on the line of another
abbrev pub on : TypeList → HeapType → HeapType → Bool
on list x a = list_any (same_heap list x) (line list a)

module _ (list : TypeList) (hold : IndicesHold list) where
  pub same_root : (i j : ℕ) → i < length (types_of list) → SameType list i list j → parent (types_of list) i ≡ None → parent (types_of list) j ≡ None
  unfolding SameType
  same_root i j h s e =
      let a = there list i h in
      let b = there list j (same_there list i j h s) in
      let u : up (closed_type list j) ≡ None = ap up (sym s) ∙ up_none list hold i a.type a.found e in
      by_parent (parent (types_of list) j) refl u b
    where
      by_parent : (o : Option ℕ) → parent (types_of list) j ≡ o → up (closed_type list j) ≡ None → There list j → parent (types_of list) j ≡ None
      by_parent None f u b = f
      by_parent (Some q) f u b =
          let l = slice_get_within (types_of list) j b.type b.found in
          let below = parent_below (types_of list) j q f in
          let c = there list q (omega arith) in
          let z = up_some list hold j q b.type c.type b.found f c.found in
          absurd (no_type list q c (sym z ∙ u))
        where
          no_type : (list : TypeList) (q : ℕ) → There list q → closed_type list q ≡ None → ⊥
          no_type list q c e = let k : None ≡ Some _ = sym (ap kind_up e) ∙ kind_is list q c.type c.found in cc

  pub record Parents (j p : ℕ) : Type 0 where
    pub other : ℕ
    pub is : parent (types_of list) j ≡ Some other
    pub same : SameType list p list other

  pub same_parent : (i j p : ℕ) → i < length (types_of list) → SameType list i list j → parent (types_of list) i ≡ Some p → Parents j p
  unfolding SameType
  same_parent i j p h s e =
      let a = there list i h in
      let b = there list j (same_there list i j h s) in
      let below = parent_below (types_of list) i p e in
      let c = there list p (omega arith) in
      let u : up (closed_type list j) ≡ closed_type list p = ap up (sym s) ∙ up_some list hold i p a.type c.type a.found e c.found in
      by_parent (parent (types_of list) j) refl u b c
    where
      by_parent : (o : Option ℕ) → parent (types_of list) j ≡ o → up (closed_type list j) ≡ closed_type list p → There list j → There list p → Parents j p
      by_parent None f u b c =
          absurd (let k : None ≡ Some _ = ap kind_up (sym (up_none list hold j b.type b.found f) ∙ u) ∙ kind_is list p c.type c.found in cc)
      by_parent (Some q) f u b c =
          let l = slice_get_within (types_of list) j b.type b.found in
          let below = parent_below (types_of list) j q f in
          let d = there list q (omega arith) in
          record { other = q; is = f; same = sym u ∙ up_some list hold j q b.type d.type b.found f d.found }

  same_roots : (i j : ℕ) → i < length (types_of list) → SameType list i list j → root_line (slice_get (types_of list) i) ≡ root_line (slice_get (types_of list) j)
  unfolding SameType
  same_roots i j h s =
      let a = there list i h in
      let b = there list j (same_there list i j h s) in
      let k : Some (kind_of a.type.comp) ≡ Some (kind_of b.type.comp) = sym (kind_is list i a.type a.found) ∙ (ap kind_up s ∙ kind_is list j b.type b.found) in
      let l : kind_of a.type.comp ≡ kind_of b.type.comp = cc in
      ap root_line a.found ∙ (ap (λ m. map H.Abs (abs_line m)) l ∙ sym (ap root_line b.found))

  pub same_heads : (x : HeapType) (i j : ℕ) → SameType list i list j → same_heap list x (H.Idx i) ≡ same_heap list x (H.Idx j)
  unfolding SameType same_type
  same_heads (H.Abs k) i j s = refl
  same_heads (H.Idx t) i j s = ap (eq_found (closed_type list t)) s

  -- the same types have the same lines
  pub same_lines : (x : HeapType) (i j : ℕ) → i < length (types_of list) → SameType list i list j → on list x (H.Idx i) ≡ on list x (H.Idx j)
  same_lines x i = along (types_of list) (λ i. (j : ℕ) → i < length (types_of list) → SameType list i list j → on list x (H.Idx i) ≡ on list x (H.Idx j))
      (λ i e j h s.
      ap (list_any (same_heap list x)) (line_root list i e)
      ∙ (ap₂ (λ b l. b || list_any (same_heap list x) l) (same_heads x i j s) (same_roots i j h s)
      ∙ sym (ap (list_any (same_heap list x)) (line_root list j (same_root i j h s e)))))
      (λ i p e next j h s.
      let q = same_parent i j p h s e in
      let below = parent_below (types_of list) i p e in
      ap (list_any (same_heap list x)) (line_step list i p e)
      ∙ (ap₂ (λ b l. b || l) (same_heads x i j s) (next q.other (omega arith) q.same)
      ∙ sym (ap (list_any (same_heap list x)) (line_step list j q.other q.is))))
      i

pub either : (a b : Bool) → (a || b) ≡ true → (a ≡ true) ⊎ (b ≡ true)
either true b h = inl refl
either false b h = inr h

pub or_left : (a b : Bool) → a ≡ true → (a || b) ≡ true
or_left a b h = ap (λ c. c || b) h

pub or_right : (a b : Bool) → b ≡ true → (a || b) ≡ true
or_right true b h = refl
or_right false b h = h

abbrev up_abs : Abs → Option Abs
up_abs A.Eq = Some A.Any
up_abs A.I31 = Some A.Eq
up_abs A.AnyStruct = Some A.Eq
up_abs A.AnyArray = Some A.Eq
up_abs k = None

pub is_abs : (list : TypeList) (b : HeapType) (k : Abs) → same_heap list b (H.Abs k) ≡ true → b ≡ H.Abs k
is_abs list (H.Abs y) k h = ap H.Abs (abs_tell.sound y k h)
is_abs list (H.Idx i) k h = cc

module _ (list : TypeList) where
  -- a line is a heap type and the line of the next one
  pub record Steps (a next : HeapType) : Type 0 where
    pub is : (x : HeapType) → on list x a ≡ (same_heap list x a || on list x next)

  pub record Ends (a : HeapType) : Type 0 where
    pub is : (x : HeapType) → on list x a ≡ (same_heap list x a || false)

  pub abs_steps : (k u : Abs) → abs_line k ≡ k ∷ abs_line u → Steps (H.Abs k) (H.Abs u)
  unfolding line
  abs_steps k u e = record { is = λ x. ap (λ l. list_any (same_heap list x) (map H.Abs l)) e }

  pub abs_ends : (k : Abs) → abs_line k ≡ k ∷ [] → Ends (H.Abs k)
  unfolding line
  abs_ends k e = record { is = λ x. ap (λ l. list_any (same_heap list x) (map H.Abs l)) e }

  pub idx_steps : (i p : ℕ) → parent (types_of list) i ≡ Some p → Steps (H.Idx i) (H.Idx p)
  idx_steps i p e = record { is = λ x. ap (list_any (same_heap list x)) (line_step list i p e) }

  pub idx_root : (i : ℕ) (ty : SubType) → slice_get (types_of list) i ≡ Some ty → parent (types_of list) i ≡ None → Steps (H.Idx i) (H.Abs (kind_of ty.comp))
  unfolding line
  idx_root i ty f e = record { is = λ x. ap (list_any (same_heap list x)) (line_root list i e ∙ ap (λ o. H.Idx i ∷ root_line o) f) }

  -- what is on the line of what is on a line is on it
  unfoldable pub Passes : HeapType → Type 0
  Passes a = (b c : HeapType) → on list b a ≡ true → on list c b ≡ true → on list c a ≡ true

  -- what is the same as the first of a line has its line
  unfoldable pub Heads : HeapType → Type 0
  Heads a = (b c : HeapType) → same_heap list b a ≡ true → on list c b ≡ on list c a

  pub pass_on : (a next : HeapType) → Steps a next → Heads a → Passes next → Passes a
  unfolding Passes Heads
  pass_on a next step heads pass b c h k =
      elim (either (same_heap list b a) (on list b next) (sym (step.is b) ∙ h)) as (λ _. on list c a ≡ true) [
        | inl s ↦ sym (heads b c s) ∙ k
        | inr s ↦ step.is c ∙ or_right (same_heap list c a) (on list c next) (pass b c s k)
      ]

  pub pass_end : (a : HeapType) → Ends a → Heads a → Passes a
  unfolding Passes Heads
  pass_end a ends heads b c h k =
      elim (either (same_heap list b a) false (sym (ends.is b) ∙ h)) as (λ _. on list c a ≡ true) [
        | inl s ↦ sym (heads b c s) ∙ k
        | inr s ↦ cc
      ]

  pub abs_heads : (k : Abs) → Heads (H.Abs k)
  unfolding Heads
  abs_heads k b c s = ap (on list c) (is_abs list b k s)

  any_passes : Passes (H.Abs A.Any)
  any_passes = pass_end (H.Abs A.Any) (abs_ends A.Any refl) (abs_heads A.Any)

  eq_passes : Passes (H.Abs A.Eq)
  eq_passes = pass_on (H.Abs A.Eq) (H.Abs A.Any) (abs_steps A.Eq A.Any refl) (abs_heads A.Eq) any_passes

  pub abs_passes : (k : Abs) → Passes (H.Abs k)
  abs_passes A.Any = any_passes
  abs_passes A.Eq = eq_passes
  abs_passes A.I31 = pass_on (H.Abs A.I31) (H.Abs A.Eq) (abs_steps A.I31 A.Eq refl) (abs_heads A.I31) eq_passes
  abs_passes A.AnyStruct = pass_on (H.Abs A.AnyStruct) (H.Abs A.Eq) (abs_steps A.AnyStruct A.Eq refl) (abs_heads A.AnyStruct) eq_passes
  abs_passes A.AnyArray = pass_on (H.Abs A.AnyArray) (H.Abs A.Eq) (abs_steps A.AnyArray A.Eq refl) (abs_heads A.AnyArray) eq_passes
  abs_passes A.Bot = pass_end (H.Abs A.Bot) (abs_ends A.Bot refl) (abs_heads A.Bot)
  abs_passes A.AnyFunc = pass_end (H.Abs A.AnyFunc) (abs_ends A.AnyFunc refl) (abs_heads A.AnyFunc)
  abs_passes A.NoFunc = pass_end (H.Abs A.NoFunc) (abs_ends A.NoFunc refl) (abs_heads A.NoFunc)
  abs_passes A.Extern = pass_end (H.Abs A.Extern) (abs_ends A.Extern refl) (abs_heads A.Extern)
  abs_passes A.NoExtern = pass_end (H.Abs A.NoExtern) (abs_ends A.NoExtern refl) (abs_heads A.NoExtern)
  abs_passes A.Exn = pass_end (H.Abs A.Exn) (abs_ends A.Exn refl) (abs_heads A.Exn)
  abs_passes A.NoExn = pass_end (H.Abs A.NoExn) (abs_ends A.NoExn refl) (abs_heads A.NoExn)

  module _ (hold : IndicesHold list) where
    pub idx_heads : (i : ℕ) → i < length (types_of list) → Heads (H.Idx i)
    unfolding Heads SameType
    idx_heads i h (H.Abs k) c s = cc
    idx_heads i h (H.Idx t) c s =
        let e : SameType list i list t = sym ((same_type_decides list list t i).0 s) in
        sym (same_lines list hold c i t h e)

    idx_passes : (i : ℕ) → i < length (types_of list) → Passes (H.Idx i)
    idx_passes = along (types_of list) (λ i. i < length (types_of list) → Passes (H.Idx i))
        (λ i e h. let a = there list i h in pass_on (H.Idx i) (H.Abs (kind_of a.type.comp)) (idx_root i a.type a.found e) (idx_heads i h) (abs_passes (kind_of a.type.comp)))
        (λ i p e next h. let b = parent_below (types_of list) i p e in pass_on (H.Idx i) (H.Idx p) (idx_steps i p e) (idx_heads i h) (next (omega arith)))

  -- lines go on from one to the next
  pub lines_pass : IndicesHold list → (a b c : HeapType) → IsHeapOf list a → on list b a ≡ true → on list c b ≡ true → on list c a ≡ true
  unfolding Passes
  lines_pass hold (H.Abs k) b c h s t = abs_passes k b c s t
  lines_pass hold (H.Idx i) b c h s t = idx_passes hold i h b c s t
