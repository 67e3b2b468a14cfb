-- The types of a valid module are as the never-wrong law asks.
use Rattle.std.proofs.Common.{◌≡◌, ℕ, Bool, true, false, List, [], ◌∷◌, slice_get, Option, Some, None, refl, ap, sym, ◌∙◌, subst, true≢false}
use Rattle.std.specs.Cmp.Lexicographic.{pointwise}
use Rattle.std.proofs.lemmas.Option.{same_Some, none-some}
use Rattle.gu_types.specs.declared.types.Abs.TheVariants as A
use Rattle.gu_types.specs.declared.types.Comp.{Comp}
use Rattle.gu_types.specs.declared.types.Comp.TheVariants as C
use Rattle.gu_types.specs.declared.types.FieldType.{FieldType}
use Rattle.gu_types.specs.declared.types.HeapType.TheVariants as H
use Rattle.gu_types.specs.declared.types.Storage.{Storage}
use Rattle.gu_types.specs.declared.types.SubType.{SubType}
use Rattle.gu_types.specs.declared.types.TypeList.{TypeList}
use Rattle.gu_types.specs.declared.types.ValType.{ValType}
use Rattle.gu_types.specs.Depth.{types_of}
use Rattle.gu_rec.specs.Sub.{IsSub, same, itself, is_sub, is_sub_val}
use Rattle.gu_rec.specs.Tests.{same_type}
use Rattle.gu_rec.specs.Validity.{is_sub_storage, is_sub_stored, is_sub_field, has_fields, is_sub_comp, ValidTypes}
use Rattle.gu_rec.proofs.Same.{left_of, right_of, same_type_decides}
use Rattle.gu_rec.proofs.Decided.{flip, below_none, is_sub_complete}
use Rattle.gu_model.specs.Index.{FuncType, func_type, struct_type, array_type, comp_as, func_of, fields_of, elements_of}
use Rattle.gu_model.specs.TypingContext.{matches}
use Rattle.gu_model.proofs.GoodTypes.{GoodTypes, FieldUnder, FieldsUnder, StructUnder, ArrayUnder, FuncUnder}
use Rattle.gu_model.proofs.Comps.{SameComps, through, kind_under, kind_below, no_index, CompUnder, comp_under}

-- sameness goes both ways
pub same_back : (list : TypeList) (i j : ℕ) → same_type list i list j ≡ true → same_type list j list i ≡ true
same_back list i j h = (same_type_decides list list j i).1 (flip list i j ((same_type_decides list list i j).0 h))

module _ (list : TypeList) where
  stored_under : (l m : Bool) (a b : Storage) → is_sub_stored list l m a b ≡ true → (is_sub_storage list a b ≡ true) × (m ≡ true → is_sub_storage list b a ≡ true)
  stored_under false false a b h = (h, λ e. absurd (true≢false (sym e)))
  stored_under true true a b h = (left_of (is_sub_storage list a b) _ h, λ e. right_of (is_sub_storage list a b) _ h)
  stored_under true false a b h = absurd (true≢false (sym h))
  stored_under false true a b h = absurd (true≢false (sym h))

  field_under : (g f : FieldType) → is_sub_field list g f ≡ true → FieldUnder list g f
  field_under g f h = let u = stored_under g.mutable f.mutable g.storage f.storage h in record { reads = u.0; writes = u.1 }

  fields_under : (gs fs : List FieldType) → has_fields list gs fs ≡ true → FieldsUnder list gs fs
  fields_under [] [] h = tt
  fields_under (g ∷ gs) [] h = tt
  fields_under [] (f ∷ fs) h = absurd (true≢false (sym h))
  fields_under (g ∷ gs) (f ∷ fs) h = (field_under g f (left_of (is_sub_field list g f) _ h), fields_under gs fs (right_of (is_sub_field list g f) _ h))

  point_matches : (ts us : List ValType) → pointwise (is_sub_val list) ts us ≡ true → matches list ts us ≡ true
  point_matches [] [] h = refl
  point_matches [] (u ∷ us) h = cc
  point_matches (t ∷ ts) [] h = cc
  point_matches (t ∷ ts) (u ∷ us) h = λ i. Rattle.gu_rec.proofs.Same.both_of (is_sub_val list t u) (matches list ts us) (left_of (is_sub_val list t u) _ h) (point_matches ts us (right_of (is_sub_val list t u) _ h)) i

  struct_case : (a b : Comp) (fs : List FieldType) → is_sub_comp list a b ≡ true → fields_of b ≡ Some fs → (gs : List FieldType) × (fields_of a ≡ Some gs) × FieldsUnder list gs fs
  struct_case (C.Struct gs) (C.Struct hs) fs h e = (gs, refl, subst (FieldsUnder list gs) (same_Some _ _ e) (fields_under gs hs h))
  struct_case (C.Func p r) (C.Struct hs) fs h e = absurd (true≢false (sym h))
  struct_case (C.Array g) (C.Struct hs) fs h e = absurd (true≢false (sym h))
  struct_case a (C.Func q s) fs h e = absurd (none-some fs e)
  struct_case a (C.Array k) fs h e = absurd (none-some fs e)

  array_case : (a b : Comp) (f : FieldType) → is_sub_comp list a b ≡ true → elements_of b ≡ Some f → (g : FieldType) × (elements_of a ≡ Some g) × FieldUnder list g f
  array_case (C.Array g) (C.Array k) f h e = (g, refl, subst (FieldUnder list g) (same_Some _ _ e) (field_under g k h))
  array_case (C.Func p r) (C.Array k) f h e = absurd (true≢false (sym h))
  array_case (C.Struct gs) (C.Array k) f h e = absurd (true≢false (sym h))
  array_case a (C.Func q s) f h e = absurd (none-some f e)
  array_case a (C.Struct hs) f h e = absurd (none-some f e)

  func_case : (a b : Comp) (f : FuncType) → is_sub_comp list a b ≡ true → func_of b ≡ Some f → (g : FuncType) × (func_of a ≡ Some g) × (matches list f.params g.params ≡ true) × (matches list g.results f.results ≡ true)
  func_case (C.Func p r) (C.Func q s) f h e = let z = same_Some _ _ e in let g : FuncType = record { params = p; results = r } in (g, refl, subst (λ (f : FuncType). matches list f.params p ≡ true) z (point_matches q p (left_of (pointwise (is_sub_val list) q p) _ h)), subst (λ (f : FuncType). matches list r f.results ≡ true) z (point_matches r s (right_of (pointwise (is_sub_val list) q p) _ h)))
  func_case (C.Struct gs) (C.Func q s) f h e = absurd (true≢false (sym h))
  func_case (C.Array g) (C.Func q s) f h e = absurd (true≢false (sym h))
  func_case a (C.Struct hs) f h e = absurd (none-some f e)
  func_case a (C.Array k) f h e = absurd (none-some f e)

  -- a type that is read as one of a kind
  pub read_is : {X : Type 0} (read : Comp → Option X) (x : ℕ) (v : X) → comp_as read (slice_get (types_of list) x) ≡ Some v → (ty : SubType) × (slice_get (types_of list) x ≡ Some ty) × (read ty.comp ≡ Some v)
  read_is read x v h = by (slice_get (types_of list) x) refl h
    where
      by : (p : Option SubType) → slice_get (types_of list) x ≡ p → comp_as read p ≡ Some v → (ty : SubType) × (slice_get (types_of list) x ≡ Some ty) × (read ty.comp ≡ Some v)
      by None q z = absurd (none-some v z)
      by (Some t) q z = (t, q, z)

  func_kind : (c : Comp) (f : FuncType) → func_of c ≡ Some f → Rattle.gu_rec.specs.Sub.kind_of c ≡ A.AnyFunc
  func_kind (C.Func p r) f h = refl
  func_kind c f h = cc

  module _ (valid : ValidTypes list) where
    -- function types are below the type of all functions
    pub func_under : (t : ℕ) (f : FuncType) → func_type list t ≡ Some f → is_sub list (H.Idx t) (H.Abs A.AnyFunc) ≡ true
    func_under t f h = let r = read_is func_of t f h in subst (λ k. is_sub list (H.Idx t) (H.Abs k) ≡ true) (func_kind r.0.comp f r.2) (kind_under list valid t r.0 r.1)

    module _ (same_comps : SameComps list) where
      below : (y x : ℕ) (tx : SubType) → slice_get (types_of list) x ≡ Some tx → is_sub list (H.Idx y) (H.Idx x) ≡ true → CompUnder list valid same_comps y tx
      below y x tx e h = comp_under list valid same_comps x tx e y (sym (below_none list valid.indices (H.Idx y) (H.Idx x) refl) ∙ h)

      struct_under : (y x : ℕ) (fs : List FieldType) → is_sub list (H.Idx y) (H.Idx x) ≡ true → struct_type list x ≡ Some fs → StructUnder list y fs
      struct_under y x fs h e = let r = read_is fields_of x fs e in let c = below y x r.0 r.1 h in let s = struct_case c.type.comp r.0.comp fs c.under r.2 in record { fields = s.0; found = ap (comp_as fields_of) c.found ∙ s.1; under = s.2 }

      array_under : (y x : ℕ) (f : FieldType) → is_sub list (H.Idx y) (H.Idx x) ≡ true → array_type list x ≡ Some f → ArrayUnder list y f
      array_under y x f h e = let r = read_is elements_of x f e in let c = below y x r.0 r.1 h in let s = array_case c.type.comp r.0.comp f c.under r.2 in record { field = s.0; found = ap (comp_as elements_of) c.found ∙ s.1; under = s.2 }

      funcs_under : (y x : ℕ) (f : FuncType) → is_sub list (H.Idx y) (H.Idx x) ≡ true → func_type list x ≡ Some f → FuncUnder list y f
      funcs_under y x f h e = let r = read_is func_of x f e in let c = below y x r.0 r.1 h in let s = func_case c.type.comp r.0.comp f c.under r.2 in record { type = s.0; found = ap (comp_as func_of) c.found ∙ s.1; params = s.2; results = s.3 }

      pub good_types : GoodTypes list
      good_types = record {
        itself = λ a. is_sub_complete list valid.indices (itself a);
        through = through list valid;
        same = λ i j h. is_sub_complete list valid.indices (same i j ((same_type_decides list list i j).0 h));
        structs = struct_under;
        arrays = array_under;
        funcs = funcs_under;
        roots = λ y ty k e h. kind_below list valid k y ty e (sym (below_none list valid.indices (H.Idx y) (H.Abs k) refl) ∙ h);
        abstract = λ k x e h. no_index list valid x k (sym (below_none list valid.indices (H.Abs k) (H.Idx x) e) ∙ h);
      }
