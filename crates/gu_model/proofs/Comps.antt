-- The types of a valid module: what is below a type has its parts, and kinds are kept.
use Rattle.std.proofs.Common.{◌≡◌, ℕ, zero, suc, Bool, true, false, not, ◌||◌, List, [], ◌∷◌, length, slice_get, Option, Some, None, refl, ap, sym, ◌∙◌, subst, true≢false, inl, inr}
use Rattle.std.specs.List.{list_all}
use Rattle.std.specs.Cmp.Lexicographic.{pointwise}
use Rattle.std.proofs.lemmas.Bool.{cases_lt}
use Rattle.std.proofs.lemmas.Option.{same_Some, none-some, slice_get_within}
use Rattle.gu_types.specs.declared.types.Abs.{Abs}
use Rattle.gu_types.specs.declared.types.Abs.TheVariants as A
use Rattle.gu_types.specs.declared.types.Comp.{Comp}
use Rattle.gu_types.specs.declared.types.Comp.TheVariants as C
use Rattle.gu_types.specs.declared.types.FieldType.{FieldType}
use Rattle.gu_types.specs.declared.types.HeapType.{HeapType}
use Rattle.gu_types.specs.declared.types.HeapType.TheVariants as H
use Rattle.gu_types.specs.declared.types.Storage.{Storage}
use Rattle.gu_types.specs.declared.types.Storage.TheVariants as S
use Rattle.gu_types.specs.declared.types.SubType.{SubType}
use Rattle.gu_types.specs.declared.types.TypeList.{TypeList}
use Rattle.gu_types.specs.declared.types.ValType.{ValType}
use Rattle.gu_types.specs.declared.types.ValType.TheVariants as V
use Rattle.gu_types.specs.Depth.{types_of, parent}
use Rattle.gu_rec.specs.Closed.{SameType}
use Rattle.gu_rec.specs.Sub.{root, declared, is_sub, is_sub_val, kind_of, line, top_over, same_heap}
use Rattle.gu_rec.specs.Validity.{is_sub_storage, is_sub_stored, is_sub_field, has_fields, is_sub_comp, may_extend, supers_hold, supers_hold_at, ValidTypes}
use Rattle.gu_rec.proofs.Same.{left_of, right_of, both_of}
use Rattle.gu_rec.proofs.Entries.{parent_is}
use Rattle.gu_rec.proofs.Lines.{along}
use Rattle.gu_rec.proofs.Order.{there, on, either, idx_steps, idx_root}
use Rattle.gu_rec.proofs.Decided.{out_ends, same_of, flip, below_none, is_sub_passes, is_sub_complete}
use Rattle.gu_rec.proofs.Seats.{same_there}

all_at : {X : Type 0} (test : X → Bool) (xs : List X) (i : ℕ) (x : X) → list_all test xs ≡ true → slice_get xs i ≡ Some x → test x ≡ true
all_at test [] i x h e = absurd (none-some x e)
all_at test (y ∷ xs) zero x h e = subst (λ z. test z ≡ true) (same_Some _ _ e) (left_of (test y) _ h)
all_at test (y ∷ xs) (suc i) x h e = all_at test xs i x (right_of (test y) _ h) e

no_first : (xs : List ℕ) → slice_get xs 0 ≡ None → xs ≡ []
no_first [] e = refl
no_first (x ∷ xs) e = cc

pub no_kind : (c : Comp) → top_over (H.Abs (kind_of c)) ≡ None
no_kind (C.Func ps rs) = refl
no_kind (C.Struct fs) = refl
no_kind (C.Array f) = refl

-- types of one name, in any two places, are below one another
abbrev pub SameComps : TypeList → Type 0
SameComps list = (i j : ℕ) (one other : SubType) → SameType list i list j → slice_get (types_of list) i ≡ Some one → slice_get (types_of list) j ≡ Some other → is_sub_comp list one.comp other.comp ≡ true

module _ (list : TypeList) (valid : ValidTypes list) where
  pub through : (a b c : HeapType) → is_sub list a b ≡ true → is_sub list b c ≡ true → is_sub list a c ≡ true
  through a b c h k = is_sub_passes list valid.indices a b c h k

  implied : (a b c : Bool) → (not a || b) ≡ true → (not b || c) ≡ true → (not a || c) ≡ true
  implied false b c p q = refl
  implied true true c p q = q
  implied true false c p q = absurd (true≢false (sym p))

  val_then : (t u v : ValType) → is_sub_val list t u ≡ true → is_sub_val list u v ≡ true → is_sub_val list t v ≡ true
  val_then V.I32 V.I32 v h k = k
  val_then V.I64 V.I64 v h k = k
  val_then (V.Ref x) (V.Ref y) (V.Ref z) h k = both_of (not x.null || z.null) (is_sub list x.heap z.heap) (implied x.null y.null z.null (left_of (not x.null || y.null) _ h) (left_of (not y.null || z.null) _ k)) (through x.heap y.heap z.heap (right_of (not x.null || y.null) _ h) (right_of (not y.null || z.null) _ k))
  val_then t u v h k = cc

  storage_then : (a b c : Storage) → is_sub_storage list a b ≡ true → is_sub_storage list b c ≡ true → is_sub_storage list a c ≡ true
  storage_then (S.Val a) (S.Val b) (S.Val c) h k = val_then a b c h k
  storage_then S.I8 S.I8 c h k = k
  storage_then S.I16 S.I16 c h k = k
  storage_then a b c h k = cc

  stored_then : (l m n : Bool) (a b c : Storage) → is_sub_stored list l m a b ≡ true → is_sub_stored list m n b c ≡ true → is_sub_stored list l n a c ≡ true
  stored_then false false false a b c h k = storage_then a b c h k
  stored_then true true true a b c h k = both_of (is_sub_storage list a c) (is_sub_storage list c a) (storage_then a b c (left_of (is_sub_storage list a b) _ h) (left_of (is_sub_storage list b c) _ k)) (storage_then c b a (right_of (is_sub_storage list b c) _ k) (right_of (is_sub_storage list a b) _ h))
  stored_then l m n a b c h k = cc

  fields_then : (fs gs hs : List FieldType) → has_fields list fs gs ≡ true → has_fields list gs hs ≡ true → has_fields list fs hs ≡ true
  fields_then [] gs [] h k = refl
  fields_then (f ∷ fs) gs [] h k = refl
  fields_then [] [] (c ∷ hs) h k = k
  fields_then (f ∷ fs) [] (c ∷ hs) h k = cc
  fields_then [] (g ∷ gs) (c ∷ hs) h k = h
  fields_then (f ∷ fs) (g ∷ gs) (c ∷ hs) h k = both_of (is_sub_field list f c) (has_fields list fs hs) (stored_then f.mutable g.mutable c.mutable f.storage g.storage c.storage (left_of (is_sub_field list f g) _ h) (left_of (is_sub_field list g c) _ k)) (fields_then fs gs hs (right_of (is_sub_field list f g) _ h) (right_of (is_sub_field list g c) _ k))

  vals_then : (ts us vs : List ValType) → pointwise (is_sub_val list) ts us ≡ true → pointwise (is_sub_val list) us vs ≡ true → pointwise (is_sub_val list) ts vs ≡ true
  vals_then [] [] vs h k = k
  vals_then (t ∷ ts) (u ∷ us) (v ∷ vs) h k = both_of (is_sub_val list t v) (pointwise (is_sub_val list) ts vs) (val_then t u v (left_of (is_sub_val list t u) _ h) (left_of (is_sub_val list u v) _ k)) (vals_then ts us vs (right_of (is_sub_val list t u) _ h) (right_of (is_sub_val list u v) _ k))
  vals_then ts us vs h k = cc

  comp_then : (a b c : Comp) → is_sub_comp list a b ≡ true → is_sub_comp list b c ≡ true → is_sub_comp list a c ≡ true
  comp_then (C.Func p r) (C.Func q s) (C.Func u v) h k = both_of (pointwise (is_sub_val list) u p) (pointwise (is_sub_val list) r v) (vals_then u q p (left_of (pointwise (is_sub_val list) u q) _ k) (left_of (pointwise (is_sub_val list) q p) _ h)) (vals_then r s v (right_of (pointwise (is_sub_val list) q p) _ h) (right_of (pointwise (is_sub_val list) u q) _ k))
  comp_then (C.Struct f) (C.Struct g) (C.Struct i) h k = fields_then f g i h k
  comp_then (C.Array f) (C.Array g) (C.Array i) h k = stored_then f.mutable g.mutable i.mutable f.storage g.storage i.storage h k
  comp_then a b c h k = cc

  one_kind : (a b : Comp) → is_sub_comp list a b ≡ true → kind_of a ≡ kind_of b
  one_kind (C.Func p r) (C.Func q s) h = refl
  one_kind (C.Struct f) (C.Struct g) h = refl
  one_kind (C.Array f) (C.Array g) h = refl
  one_kind a b h = cc

  -- a declared supertype
  record Above (p : ℕ) (ty : SubType) : Type 0 where
    type : SubType
    found : slice_get (types_of list) p ≡ Some type
    under : is_sub_comp list ty.comp type.comp ≡ true

  above_is : (y p : ℕ) (ty : SubType) → slice_get (types_of list) y ≡ Some ty → parent (types_of list) y ≡ Some p → Above p ty
  unfolding supers_hold_at
  above_is y p ty e h = by (slice_get (types_of list) p) refl (all_at (λ super. may_extend list ty (slice_get (types_of list) super)) ty.supers 0 p (ap (supers_hold list) (sym e) ∙ valid.supers y) (sym (parent_is list valid.indices y ty e) ∙ h))
    where
      by : (o : Option SubType) → slice_get (types_of list) p ≡ o → may_extend list ty o ≡ true → Above p ty
      by None q z = absurd (true≢false (sym z))
      by (Some t) q z = record { type = t; found = q; under = right_of (not t.is_final) _ z }

  -- a type is below the abstract type of its kind
  pub kind_under : (y : ℕ) (ty : SubType) → slice_get (types_of list) y ≡ Some ty → is_sub list (H.Idx y) (H.Abs (kind_of ty.comp)) ≡ true
  kind_under = along (types_of list) (λ y. (ty : SubType) → slice_get (types_of list) y ≡ Some ty → is_sub list (H.Idx y) (H.Abs (kind_of ty.comp)) ≡ true)
      (λ y e ty f. is_sub_complete list valid.indices (root y (kind_of ty.comp) (record { type = ty; found = f; alone = no_first ty.supers (sym (parent_is list valid.indices y ty f) ∙ e); kind_is = refl })))
      (λ y p e next ty f. let a = above_is y p ty f e in through (H.Idx y) (H.Idx p) (H.Abs (kind_of ty.comp)) (is_sub_complete list valid.indices (declared y p (record { type = ty; found = f; among = (0, sym (parent_is list valid.indices y ty f) ∙ e) }))) (subst (λ k. is_sub list (H.Idx p) (H.Abs k) ≡ true) (sym (one_kind ty.comp a.type.comp a.under)) (next a.type a.found)))

  pub kind_below : (k : Abs) (y : ℕ) (ty : SubType) → slice_get (types_of list) y ≡ Some ty → on list (H.Abs k) (H.Idx y) ≡ true → is_sub list (H.Abs (kind_of ty.comp)) (H.Abs k) ≡ true
  kind_below k = along (types_of list) (λ y. (ty : SubType) → slice_get (types_of list) y ≡ Some ty → on list (H.Abs k) (H.Idx y) ≡ true → is_sub list (H.Abs (kind_of ty.comp)) (H.Abs k) ≡ true)
      (λ y e ty f h. elim (either (same_heap list (H.Abs k) (H.Idx y)) (on list (H.Abs k) (H.Abs (kind_of ty.comp))) (sym ((idx_root list y ty f e).is (H.Abs k)) ∙ h)) as (λ _. is_sub list (H.Abs (kind_of ty.comp)) (H.Abs k) ≡ true) [
        | inl s ↦ cc
        | inr s ↦ below_none list valid.indices (H.Abs (kind_of ty.comp)) (H.Abs k) (no_kind ty.comp) ∙ s
      ])
      (λ y p e next ty f h. elim (either (same_heap list (H.Abs k) (H.Idx y)) (on list (H.Abs k) (H.Idx p)) (sym ((idx_steps list y p e).is (H.Abs k)) ∙ h)) as (λ _. is_sub list (H.Abs (kind_of ty.comp)) (H.Abs k) ≡ true) [
        | inl s ↦ cc
        | inr s ↦ let a = above_is y p ty f e in subst (λ j. is_sub list (H.Abs j) (H.Abs k) ≡ true) (sym (one_kind ty.comp a.type.comp a.under)) (next a.type a.found s)
      ])

  -- no index stands among what is above an abstract type
  pub no_index : (t : ℕ) (k : Abs) → on list (H.Idx t) (H.Abs k) ≡ true → ⊥
  unfolding line
  no_index t A.Any h = cc
  no_index t A.Eq h = cc
  no_index t A.I31 h = cc
  no_index t A.AnyStruct h = cc
  no_index t A.AnyArray h = cc
  no_index t A.Bot h = cc
  no_index t A.AnyFunc h = cc
  no_index t A.NoFunc h = cc
  no_index t A.Extern h = cc
  no_index t A.NoExtern h = cc
  no_index t A.Exn h = cc
  no_index t A.NoExn h = cc

  module _ (same_comps : SameComps list) where
    pub record CompUnder (y : ℕ) (above : SubType) : Type 0 where
      pub type : SubType
      pub found : slice_get (types_of list) y ≡ Some type
      pub under : is_sub_comp list type.comp above.comp ≡ true

    -- the same type, in another place
    same_under : (x y : ℕ) (tx : SubType) → slice_get (types_of list) x ≡ Some tx → same_heap list (H.Idx x) (H.Idx y) ≡ true → CompUnder y tx
    same_under x y tx e s = let t = same_of list x y s in let a = there list y (same_there list x y (slice_get_within (types_of list) x tx e) t) in record { type = a.type; found = a.found; under = same_comps y x a.type tx (flip list x y t) a.found e }

    -- what is below a type has its parts
    pub comp_under : (x : ℕ) (tx : SubType) → slice_get (types_of list) x ≡ Some tx → (y : ℕ) → on list (H.Idx x) (H.Idx y) ≡ true → CompUnder y tx
    comp_under x tx ex = along (types_of list) (λ y. on list (H.Idx x) (H.Idx y) ≡ true → CompUnder y tx)
        (λ y e h. elim (cases_lt y (length (types_of list))) as (λ _. CompUnder y tx) [
          | inl l ↦
              let a = there list y l in
              elim (either (same_heap list (H.Idx x) (H.Idx y)) (on list (H.Idx x) (H.Abs (kind_of a.type.comp))) (sym ((idx_root list y a.type a.found e).is (H.Idx x)) ∙ h)) as (λ _. CompUnder y tx) [
                | inl s ↦ same_under x y tx ex s
                | inr s ↦ absurd (no_index x (kind_of a.type.comp) s)
              ]
          | inr l ↦
              elim (either (same_heap list (H.Idx x) (H.Idx y)) false (sym ((out_ends list y l).is (H.Idx x)) ∙ h)) as (λ _. CompUnder y tx) [
                | inl s ↦ same_under x y tx ex s
                | inr s ↦ cc
              ]
        ])
        (λ y p e next h. elim (cases_lt y (length (types_of list))) as (λ _. CompUnder y tx) [
          | inl l ↦
              elim (either (same_heap list (H.Idx x) (H.Idx y)) (on list (H.Idx x) (H.Idx p)) (sym ((idx_steps list y p e).is (H.Idx x)) ∙ h)) as (λ _. CompUnder y tx) [
                | inl s ↦ same_under x y tx ex s
                | inr s ↦ let a = there list y l in let b = above_is y p a.type a.found e in let c = next s in record { type = a.type; found = a.found; under = comp_then a.type.comp b.type.comp tx.comp b.under (subst (λ (t : SubType). is_sub_comp list t.comp tx.comp ≡ true) (same_Some c.type b.type (sym c.found ∙ b.found)) c.under) }
              ]
          | inr l ↦
              elim (either (same_heap list (H.Idx x) (H.Idx y)) false (sym ((out_ends list y l).is (H.Idx x)) ∙ h)) as (λ _. CompUnder y tx) [
                | inl s ↦ same_under x y tx ex s
                | inr s ↦ cc
              ]
        ])
