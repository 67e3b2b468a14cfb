-- Instructions on references, structures and arrays keep to their rows.
use Rattle.std.proofs.Common.{ℕ, zero, suc, ◌<◌, ◌*◌, ◌%◌, ◌^◌, Bool, true, false, cond, not, ◌&&◌, List, [], ◌∷◌, map, reverse, length, drop, take, replicate, Option, Some, None, option_map, slice_get, slice_set, nat_lt, ◌≡◌, refl, ap, ◌∙◌, sym, subst, true≢false, arith}
use Rattle.std.proofs.lemmas.List.{length-map, length-replicate}
use Rattle.std.proofs.lemmas.Nat.{mod_below}
use Rattle.std.proofs.lemmas.Option.{same_Some}
use Rattle.std.specs.List.{list_all}
use Rattle.std.specs.Option.{option_and_then}
use Rattle.gu_types.specs.declared.types.Abs.{Abs}
use Rattle.gu_types.specs.declared.types.Abs.TheVariants as A
use Rattle.gu_types.specs.declared.types.FieldType.{FieldType}
use Rattle.gu_types.specs.declared.types.HeapType.{HeapType}
use Rattle.gu_types.specs.declared.types.HeapType.TheVariants as H
use Rattle.gu_types.specs.declared.types.RefType.{RefType}
use Rattle.gu_types.specs.declared.types.Storage.{Storage}
use Rattle.gu_types.specs.declared.types.Storage.TheVariants as S
use Rattle.gu_types.specs.declared.types.ValType.{ValType}
use Rattle.gu_types.specs.declared.types.ValType.TheVariants.{I32, I64, Ref}
use Rattle.gu_rec.specs.Sub.{is_sub}
use Rattle.gu_rec.specs.Validity.{is_sub_storage}
use Rattle.gu_num.specs.Numeric.{flag}
use Rattle.gu_syntax.specs.declared.instr.Instr.{Instr}
use Rattle.gu_syntax.specs.declared.instr.Instr.TheVariants as I
use Rattle.gu_model.specs.Index.{struct_type, array_type}
use Rattle.gu_model.specs.Outline.{Outline}
use Rattle.gu_model.specs.Value.{Value, i32, null, array, Object, Store, Allocated, allocated, is_under, fits_ref, is_same}
use Rattle.gu_model.specs.Did.{Did, goes, traps, fails, within, part, put, with_array}
use Rattle.gu_model.specs.Aggregates.{Reading, whole, signed, unsigned, packed, unpacked, packed_all, defaults_of, default_of, all_there, joined, ref_null, ref_func, ref_eq, eq_ref, fits_top, ref_test, ref_cast, ref_i31, i31_get, object_below, field_at, new_struct, new_array, struct_new, struct_new_default, struct_get, struct_set, array_new, array_new_default, array_new_fixed, array_new_data, array_new_elem, array_get, array_set, array_len, array_fill, array_copy, array_init_data, array_init_elem, width_of, from_data, all_from_data}
use Rattle.gu_model.specs.Act.{field_count}
use Rattle.gu_model.specs.TypingContext.{Context, ◌>>=◌, given, top_of, abs_or_null, idx, idx_or_null, is_valid_heap}
use Rattle.gu_model.specs.TypingShape.{of}
use Rattle.gu_model.specs.TypingRows as R
use Rattle.gu_model.specs.TypingReferences as T
use Rattle.gu_model.proofs.GoodTypes.{GoodTypes, FieldUnder}
use Rattle.gu_model.proofs.Has.{HasAll, HasTop, all_back, and_first, and_second}
use Rattle.gu_model.proofs.Stores.{Holds, EachHolds, FieldsHold, EachHas, StoreFits, StructFits, ArrayFits, later_same, DidGood, need_good, within_good, each_part}
use Rattle.gu_model.proofs.ActRows.{within_module, RowGoodAt, bind_row, given_row, none_is, one_is, two_is, three_is, four_is, five_is, i32_is, i32_one, i32_two}
use Rattle.gu_model.proofs.ActNumbers.{data_good}
use Rattle.gu_model.proofs.ActTables.{elem_good, each_sub}
use Rattle.gu_model.proofs.References.{GoodFuncs, struct_is, array_is, unboxed_is, any_array_is}
use Rattle.gu_model.proofs.Objects.{struct_new_later, struct_new_has, array_new_later, array_new_has, struct_set_later, array_set_later, holds_sub, each_holds_sub, packed_is, ReadAs, whole_is, signed_is, unsigned_is, default_is, packed_all_is, defaults_all_is, field_is, elem_get, holds_replicate, holds_part, holds_put}

and_both : (a b : Bool) → a ≡ true → b ≡ true → (a && b) ≡ true
and_both true b x y = y
and_both false b x y = x

module _ (o : Outline) (good : GoodTypes o.types) (funcs : GoodFuncs o) (gs : List (ValType × Bool)) (ts es : List RefType) (segs : ℕ) (declared : List Bool) where
  abbrev K : Context
  K = within_module o gs ts es segs declared

  -- rules over so many operands
  abbrev Did1 : (us : List ValType) → (List (Option Value) → Store → List Value → Did) → List (Option Value) → Store → List Value → Type 0
  Did1 us rule ls st vs = DidGood o K us ls st (rule ls st vs)

  -- references

  null_did : (h : HeapType) (ls : List (Option Value)) (st : Store) (vs : List Value) → StoreFits o K st → HasAll o (allocated st) vs [] → DidGood o K (Ref (record { null = true; heap = h }) ∷ []) ls st (ref_null ls st vs)
  null_did h ls st vs f k = none_is o (allocated st) (Did1 (Ref (record { null = true; heap = h }) ∷ []) ref_null ls st) vs k (later_same o K st f, (refl, tt), refl)

  func_did : (x t : ℕ) → slice_get o.funcs x ≡ Some t → (ls : List (Option Value)) (st : Store) (vs : List Value) → StoreFits o K st → HasAll o (allocated st) vs [] → DidGood o K (idx t ∷ []) ls st (ref_func o x ls st vs)
  func_did x t e ls st vs f k = none_is o (allocated st) (Did1 (idx t ∷ []) (ref_func o x) ls st) vs k (need_good o K (idx t ∷ []) ls st (slice_get o.funcs x) _ t e (later_same o K st f, (ap (λ p. is_under o (H.Idx t) (option_map H.Idx p)) e ∙ good.itself (H.Idx t), tt), refl))

  eq_did : (ls : List (Option Value)) (st : Store) (vs : List Value) → StoreFits o K st → HasAll o (allocated st) vs (of (abs_or_null A.Eq) ∷ of (abs_or_null A.Eq) ∷ []) → DidGood o K (I32 ∷ []) ls st (ref_eq o ls st vs)
  eq_did ls st vs f k = two_is o (allocated st) (Did1 (I32 ∷ []) (ref_eq o) ls st) vs (abs_or_null A.Eq) (abs_or_null A.Eq) k (λ w v hw hv. subst (λ b. DidGood o K (I32 ∷ []) ls st (cond b (goes (i32 (flag (is_same v w)) ∷ []) ls st) fails)) (sym (and_both (fits_ref o (allocated st) eq_ref v) (fits_ref o (allocated st) eq_ref w) hv hw)) (later_same o K st f, (tt, tt), refl))

  test_did : (r : RefType) (top : Abs) → top_of o.types r.heap ≡ Some top → (ls : List (Option Value)) (st : Store) (vs : List Value) → StoreFits o K st → HasAll o (allocated st) vs (of (abs_or_null top) ∷ []) → DidGood o K (I32 ∷ []) ls st (ref_test o r ls st vs)
  test_did r top e ls st vs f k = one_is o (allocated st) (Did1 (I32 ∷ []) (ref_test o r) ls st) vs (abs_or_null top) k (λ v hv. subst (λ b. DidGood o K (I32 ∷ []) ls st (cond b (goes (i32 (flag (fits_ref o (allocated st) r v)) ∷ []) ls st) fails)) (sym (ap (λ p. fits_top o p st v) e ∙ hv)) (later_same o K st f, (tt, tt), refl))

  cast_did : (r : RefType) (top : Abs) → top_of o.types r.heap ≡ Some top → (ls : List (Option Value)) (st : Store) (vs : List Value) → StoreFits o K st → HasAll o (allocated st) vs (of (abs_or_null top) ∷ []) → DidGood o K (Ref r ∷ []) ls st (ref_cast o r ls st vs)
  cast_did r top e ls st vs f k = one_is o (allocated st) (Did1 (Ref r ∷ []) (ref_cast o r) ls st) vs (abs_or_null top) k (λ v hv. subst (λ b. DidGood o K (Ref r ∷ []) ls st (cond b (cond (fits_ref o (allocated st) r v) (goes (v ∷ []) ls st) traps) fails)) (sym (ap (λ p. fits_top o p st v) e ∙ hv)) (by v (fits_ref o (allocated st) r v) refl))
    where
      by : (v : Value) (b : Bool) → fits_ref o (allocated st) r v ≡ b → DidGood o K (Ref r ∷ []) ls st (cond b (goes (v ∷ []) ls st) traps)
      by v true q = (later_same o K st f, (q, tt), refl)
      by v false q = tt

  i31_did : (ls : List (Option Value)) (st : Store) (vs : List Value) → StoreFits o K st → HasAll o (allocated st) vs (of I32 ∷ []) → DidGood o K (Rattle.gu_model.specs.TypingContext.abs A.I31 ∷ []) ls st (ref_i31 ls st vs)
  i31_did ls st vs f k = i32_one o (allocated st) (Did1 (Rattle.gu_model.specs.TypingContext.abs A.I31 ∷ []) ref_i31 ls st) vs k (λ n. (later_same o K st f, (ap (λ b. is_under o (H.Abs A.I31) (cond b (Some (H.Abs A.I31)) None)) (small n) ∙ good.itself (H.Abs A.I31), tt), refl))
    where
      small : (n : ℕ) → nat_lt (n % 2 ^ 31) (2 ^ 31) ≡ true
      small n = let q = mod_below n (2 ^ 31) (let z : 0 < 2 ^ 31 = omega arith in z) in grind (arith, q)

  i31_get_did : (read : ℕ → ℕ) (ls : List (Option Value)) (st : Store) (vs : List Value) → StoreFits o K st → HasAll o (allocated st) vs (of (abs_or_null A.I31) ∷ []) → DidGood o K (I32 ∷ []) ls st (i31_get read ls st vs)
  i31_get_did read ls st vs f k = one_is o (allocated st) (Did1 (I32 ∷ []) (i31_get read) ls st) vs (abs_or_null A.I31) k (λ v hv. unboxed_is o good K st f funcs (λ v. Did1 (I32 ∷ []) (i31_get read) ls st (v ∷ [])) true v tt (λ n. (later_same o K st f, (tt, tt), refl)) hv)

  -- structures

  new_struct_did : (x : ℕ) (fs : List FieldType) (ws : List Value) (ls : List (Option Value)) (st : Store) → struct_type o.types x ≡ Some fs → StoreFits o K st → FieldsHold o (allocated st) fs ws → DidGood o K (idx x ∷ []) ls st (new_struct x ws ls st)
  new_struct_did x fs ws ls st e f h = (struct_new_later o K st f x ws fs e h, (struct_new_has o K st f x ws (good.itself (H.Idx x)), tt), refl)

  struct_new_did : (x : ℕ) (fs : List FieldType) → struct_type o.types x ≡ Some fs → (ls : List (Option Value)) (st : Store) (vs : List Value) → StoreFits o K st → HasTop o (allocated st) vs (map T.field_value fs) → DidGood o K (idx x ∷ []) ls st (struct_new o x ls st vs)
  struct_new_did x fs e ls st vs f h = let p = packed_all_is o good (allocated st) fs (reverse vs) (all_back o (allocated st) vs (map T.field_value fs) h) in need_good o K (idx x ∷ []) ls st (struct_type o.types x) _ fs e (need_good o K (idx x ∷ []) ls st (packed_all fs (reverse vs)) _ p.values p.found (new_struct_did x fs p.values ls st e f p.hold))

  struct_default_did : (x : ℕ) (fs : List FieldType) → struct_type o.types x ≡ Some fs → list_all T.field_default fs ≡ true → (ls : List (Option Value)) (st : Store) (vs : List Value) → StoreFits o K st → HasAll o (allocated st) vs [] → DidGood o K (idx x ∷ []) ls st (struct_new_default o x ls st vs)
  struct_default_did x fs e d ls st vs f h = none_is o (allocated st) (Did1 (idx x ∷ []) (struct_new_default o x) ls st) vs h (let p = defaults_all_is o good (allocated st) fs d in need_good o K (idx x ∷ []) ls st (struct_type o.types x) _ fs e (need_good o K (idx x ∷ []) ls st (defaults_of fs) _ p.values p.found (new_struct_did x fs p.values ls st e f p.hold)))

  below_found : (x a : ℕ) (xs : List Object) (u : Object) → slice_get xs a ≡ Some u → is_sub o.types (H.Idx u.type) (H.Idx x) ≡ true → object_below o x (slice_get xs a) ≡ Some u
  below_found x a xs u q s = ap (object_below o x) q ∙ ap (λ b. cond b (Some u) None) s

  field_found : (x i : ℕ) (fs : List FieldType) (y : FieldType) → struct_type o.types x ≡ Some fs → slice_get fs i ≡ Some y → field_at o x i ≡ Some y
  field_found x i fs y e q = ap (option_and_then (λ fs. slice_get fs i)) e ∙ q

  -- the fields of a structure that is there, which are below those of a type
  struct_fields : (al : Allocated) (u : Object) (hs : List FieldType) → struct_type o.types u.type ≡ Some hs → StructFits o al u → FieldsHold o al hs u.values
  struct_fields al u hs e h = subst (λ fs. FieldsHold o al fs u.values) (same_Some _ _ (sym h.found ∙ e)) h.hold

  elements_of : (al : Allocated) (u : Object) (g : FieldType) → array_type o.types u.type ≡ Some g → ArrayFits o al u → EachHolds o al g.storage u.values
  elements_of al u g e h = subst (λ (f : FieldType). EachHolds o al f.storage u.values) (same_Some _ _ (sym h.found ∙ e)) h.hold

  -- how a reading of a field goes
  record Reads (r : Reading) (s : Storage) (t : ValType) : Type 0 where
    field : (al : Allocated) (v : Value) → Holds o al s v → ReadAs o good al r s t v

  struct_get_did : (x i : ℕ) (fs : List FieldType) (y : FieldType) (r : Reading) (t : ValType) → struct_type o.types x ≡ Some fs → slice_get fs i ≡ Some y → Reads r y.storage t → (ls : List (Option Value)) (st : Store) (vs : List Value) → StoreFits o K st → HasAll o (allocated st) vs (of (idx_or_null x) ∷ []) → DidGood o K (t ∷ []) ls st (struct_get o x i r ls st vs)
  struct_get_did x i fs y r t e q reads ls st vs f h =
      one_is o (allocated st) (Did1 (t ∷ []) (struct_get o x i r) ls st) vs (idx_or_null x) h (λ v hv.
      struct_is o good K st f funcs (λ v. Did1 (t ∷ []) (struct_get o x i r) ls st (v ∷ [])) x fs true v e tt (λ a u p sf s.
      let below = good.structs u.type x fs s e in
      let at = field_is o good (allocated st) below.fields fs u.values i y below.under (struct_fields (allocated st) u below.fields below.found sf) q in
      let w = reads.field (allocated st) at.value at.holds in
      need_good o K (t ∷ []) ls st (object_below o x (slice_get st.structs a)) _ u (below_found x a st.structs u p s)
      (need_good o K (t ∷ []) ls st (slice_get u.values i) _ at.value at.found
      (need_good o K (t ∷ []) ls st (field_at o x i) _ y (field_found x i fs y e q)
      (need_good o K (t ∷ []) ls st (unpacked r y.storage at.value) _ w.value w.found (later_same o K st f, (w.has, tt), refl))))) hv)

  struct_set_did : (x i : ℕ) (fs : List FieldType) (y : FieldType) → struct_type o.types x ≡ Some fs → slice_get fs i ≡ Some y → y.mutable ≡ true → (ls : List (Option Value)) (st : Store) (vs : List Value) → StoreFits o K st → HasAll o (allocated st) vs (of (T.field_value y) ∷ of (idx_or_null x) ∷ []) → DidGood o K [] ls st (struct_set o x i ls st vs)
  struct_set_did x i fs y e q m ls st vs f h =
      two_is o (allocated st) (Did1 [] (struct_set o x i) ls st) vs (T.field_value y) (idx_or_null x) h (λ v r hv hr.
      struct_is o good K st f funcs (λ r. Did1 [] (struct_set o x i) ls st (v ∷ r ∷ [])) x fs true r e tt (λ a u p sf s.
      let below = good.structs u.type x fs s e in
      let at = field_is o good (allocated st) below.fields fs u.values i y below.under (struct_fields (allocated st) u below.fields below.found sf) q in
      let w = packed_is o good (allocated st) y.storage v hv in
      need_good o K [] ls st (object_below o x (slice_get st.structs a)) _ u (below_found x a st.structs u p s)
      (need_good o K [] ls st (field_at o x i) _ y (field_found x i fs y e q)
      (need_good o K [] ls st (packed y.storage v) _ w.value w.found (struct_set_later o K st f a u (slice_set u.values i w.value) below.fields p below.found (at.sets w.value m w.holds), tt, refl)))) hr)

  -- arrays

  new_array_did : (x : ℕ) (g : FieldType) (ws : List Value) (ls : List (Option Value)) (st : Store) → array_type o.types x ≡ Some g → StoreFits o K st → EachHolds o (allocated st) g.storage ws → DidGood o K (idx x ∷ []) ls st (new_array x ws ls st)
  new_array_did x g ws ls st e f h = (array_new_later o K st f x ws g e h, (array_new_has o K st f x ws (good.itself (H.Idx x)), tt), refl)

  array_new_did : (x : ℕ) (g : FieldType) → array_type o.types x ≡ Some g → (ls : List (Option Value)) (st : Store) (vs : List Value) → StoreFits o K st → HasAll o (allocated st) vs (of I32 ∷ of (T.field_value g) ∷ []) → DidGood o K (idx x ∷ []) ls st (array_new o x ls st vs)
  array_new_did x g e ls st vs f h = two_is o (allocated st) (Did1 (idx x ∷ []) (array_new o x) ls st) vs I32 (T.field_value g) h (λ n v hn hv. i32_is o (allocated st) (λ n. Did1 (idx x ∷ []) (array_new o x) ls st (n ∷ v ∷ [])) n hn (λ n. let w = packed_is o good (allocated st) g.storage v hv in need_good o K (idx x ∷ []) ls st (array_type o.types x) _ g e (need_good o K (idx x ∷ []) ls st (packed g.storage v) _ w.value w.found (new_array_did x g (replicate n w.value) ls st e f (holds_replicate o good (allocated st) g.storage n w.value w.holds)))))

  array_default_did : (x : ℕ) (g : FieldType) → array_type o.types x ≡ Some g → T.field_default g ≡ true → (ls : List (Option Value)) (st : Store) (vs : List Value) → StoreFits o K st → HasAll o (allocated st) vs (of I32 ∷ []) → DidGood o K (idx x ∷ []) ls st (array_new_default o x ls st vs)
  array_default_did x g e d ls st vs f h = i32_one o (allocated st) (Did1 (idx x ∷ []) (array_new_default o x) ls st) vs h (λ n. let w = default_is o good (allocated st) g d in need_good o K (idx x ∷ []) ls st (array_type o.types x) _ g e (need_good o K (idx x ∷ []) ls st (default_of g.storage) _ w.value w.found (new_array_did x g (replicate n w.value) ls st e f (holds_replicate o good (allocated st) g.storage n w.value w.holds))))

  -- values of one type as they are stored
  record PackedEach (s : Storage) (al : Allocated) (vs : List Value) : Type 0 where
    values : List Value
    found : all_there (map (packed s) vs) ≡ Some values
    hold : EachHolds o al s values

  packed_each : (s : Storage) (al : Allocated) (n : ℕ) (vs : List Value) → HasAll o al vs (map of (replicate n (T.unpacked s))) → PackedEach s al vs
  packed_each s al zero [] h = record { values = []; found = refl; hold = tt }
  packed_each s al zero (v ∷ vs) h = absurd h
  packed_each s al (suc n) [] h = absurd h
  packed_each s al (suc n) (v ∷ vs) h = let p = packed_is o good al s v h.0 in let q = packed_each s al n vs h.1 in record { values = p.value ∷ q.values; found = ap (λ x. joined x (all_there (map (packed s) vs))) p.found ∙ ap (joined (Some p.value)) q.found; hold = (p.holds, q.hold) }

  array_fixed_did : (x n : ℕ) (g : FieldType) → array_type o.types x ≡ Some g → (ls : List (Option Value)) (st : Store) (vs : List Value) → StoreFits o K st → HasTop o (allocated st) vs (replicate n (T.field_value g)) → DidGood o K (idx x ∷ []) ls st (array_new_fixed o x ls st vs)
  array_fixed_did x n g e ls st vs f h = let p = packed_each g.storage (allocated st) n (reverse vs) (all_back o (allocated st) vs (replicate n (T.field_value g)) h) in need_good o K (idx x ∷ []) ls st (array_type o.types x) _ g e (need_good o K (idx x ∷ []) ls st (all_there (map (packed g.storage) (reverse vs))) _ p.values p.found (new_array_did x g p.values ls st e f p.hold))

  -- elements from bytes
  width_is : (s : Storage) → T.is_numeric s ≡ true → (w : ℕ) × (width_of s ≡ Some w)
  width_is (S.Val I32) h = (4, refl)
  width_is (S.Val I64) h = (8, refl)
  width_is (S.Val (Ref r)) h = absurd (true≢false (sym h))
  width_is S.I8 h = (1, refl)
  width_is S.I16 h = (2, refl)

  data_holds : (al : Allocated) (s : Storage) (bs : List ℕ) → T.is_numeric s ≡ true → Holds o al s (from_data s bs)
  data_holds al (S.Val I32) bs h = tt
  data_holds al (S.Val I64) bs h = tt
  data_holds al (S.Val (Ref r)) bs h = absurd (true≢false (sym h))
  data_holds al S.I8 bs h = tt
  data_holds al S.I16 bs h = tt

  all_data_hold : (al : Allocated) (s : Storage) (w n : ℕ) (bs : List ℕ) → T.is_numeric s ≡ true → EachHolds o al s (all_from_data s w n bs)
  all_data_hold al s w zero bs h = tt
  all_data_hold al s w (suc n) bs h = (data_holds al s (take w bs) h, all_data_hold al s w n (drop w bs) h)

  array_data_did : (x y : ℕ) (g : FieldType) → array_type o.types x ≡ Some g → T.fits_data K y g ≡ true → (ls : List (Option Value)) (st : Store) (vs : List Value) → StoreFits o K st → HasAll o (allocated st) vs (of I32 ∷ of I32 ∷ []) → DidGood o K (idx x ∷ []) ls st (array_new_data o x y ls st vs)
  array_data_did x y g e d ls st vs f h = i32_two o (allocated st) (Did1 (idx x ∷ []) (array_new_data o x y) ls st) vs h (λ n i. let w = width_is g.storage (and_first (T.is_numeric g.storage) _ d) in need_good o K (idx x ∷ []) ls st (array_type o.types x) _ g e (need_good o K (idx x ∷ []) ls st (width_of g.storage) _ w.0 w.1 (data_good o K (idx x ∷ []) ls st f y _ (and_second (T.is_numeric g.storage) _ d) (λ bytes. within_good o K (idx x ∷ []) ls st (part i (n * w.0) bytes) _ (λ bs q. new_array_did x g (all_from_data g.storage w.0 n bs) ls st e f (all_data_hold (allocated st) g.storage w.0 n bs (and_first (T.is_numeric g.storage) _ d)))))))

  -- elements from references
  record RefElements (y : ℕ) (g : FieldType) : Type 0 where
    from : RefType
    found : slice_get es y ≡ Some from
    holds : (al : Allocated) (vs : List Value) → EachHas o al (Ref from) vs → EachHolds o al g.storage vs

  ref_elements : (y : ℕ) (g : FieldType) → T.fits_elem K y g ≡ true → RefElements y g
  ref_elements y g = by (slice_get es y) refl g.storage refl
    where
      each : (al : Allocated) (r : RefType) (s : Storage) (vs : List Value) → s ≡ S.Val (Ref r) → EachHas o al (Ref r) vs → EachHolds o al s vs
      each al r s [] q h = tt
      each al r s (v ∷ vs) q h = (subst (λ s. Holds o al s v) (sym q) h.0, each al r s vs q h.1)

      by : (p : Option RefType) → slice_get es y ≡ p → (s : Storage) → g.storage ≡ s → T.fits_refs o.types p (T.ref_of s) ≡ true → RefElements y g
      by None q s z h = absurd (true≢false (sym h))
      by (Some r) q (S.Val (Ref u)) z h = record { from = r; found = q; holds = λ al vs k. each al u g.storage vs z (each_sub o good K al r u vs h k) }
      by (Some r) q (S.Val I32) z h = absurd (true≢false (sym h))
      by (Some r) q (S.Val I64) z h = absurd (true≢false (sym h))
      by (Some r) q S.I8 z h = absurd (true≢false (sym h))
      by (Some r) q S.I16 z h = absurd (true≢false (sym h))

  array_elem_did : (x y : ℕ) (g : FieldType) → array_type o.types x ≡ Some g → T.fits_elem K y g ≡ true → (ls : List (Option Value)) (st : Store) (vs : List Value) → StoreFits o K st → HasAll o (allocated st) vs (of I32 ∷ of I32 ∷ []) → DidGood o K (idx x ∷ []) ls st (array_new_elem o x y ls st vs)
  array_elem_did x y g e d ls st vs f h = let r = ref_elements y g d in i32_two o (allocated st) (Did1 (idx x ∷ []) (array_new_elem o x y) ls st) vs h (λ n i. need_good o K (idx x ∷ []) ls st (array_type o.types x) _ g e (elem_good o good K (idx x ∷ []) ls st f y r.from _ r.found (λ items hi. within_good o K (idx x ∷ []) ls st (part i n items) _ (λ ws q. new_array_did x g ws ls st e f (r.holds (allocated st) ws (each_part o (allocated st) (Ref r.from) i n items ws hi q))))))

  -- the elements of an array that is there, as those of a type that its own is below
  record ElementsAt (al : Allocated) (x : ℕ) (g : FieldType) (u : Object) : Type 0 where
    own : FieldType
    found : array_type o.types u.type ≡ Some own
    under : FieldUnder o.types own g
    hold : EachHolds o al own.storage u.values

  elements_at : (al : Allocated) (x : ℕ) (g : FieldType) (u : Object) → array_type o.types x ≡ Some g → ArrayFits o al u → is_sub o.types (H.Idx u.type) (H.Idx x) ≡ true → ElementsAt al x g u
  elements_at al x g u e h s = let b = good.arrays u.type x g s e in record { own = b.field; found = b.found; under = b.under; hold = elements_of al u b.field b.found h }

  array_get_did : (x : ℕ) (g : FieldType) (r : Reading) (t : ValType) → array_type o.types x ≡ Some g → Reads r g.storage t → (ls : List (Option Value)) (st : Store) (vs : List Value) → StoreFits o K st → HasAll o (allocated st) vs (of I32 ∷ of (idx_or_null x) ∷ []) → DidGood o K (t ∷ []) ls st (array_get o x r ls st vs)
  array_get_did x g r t e reads ls st vs f h =
      two_is o (allocated st) (Did1 (t ∷ []) (array_get o x r) ls st) vs I32 (idx_or_null x) h (λ i v hi hv.
      i32_is o (allocated st) (λ i. Did1 (t ∷ []) (array_get o x r) ls st (i ∷ v ∷ [])) i hi (λ i.
      array_is o good K st f funcs (λ v. Did1 (t ∷ []) (array_get o x r) ls st (i32 i ∷ v ∷ [])) x g true v e tt (λ a u p af s.
      let q = elements_at (allocated st) x g u e af s in
      need_good o K (t ∷ []) ls st (object_below o x (slice_get st.arrays a)) _ u (below_found x a st.arrays u p s)
      (need_good o K (t ∷ []) ls st (array_type o.types x) _ g e
      (within_good o K (t ∷ []) ls st (slice_get u.values i) _ (λ w z.
      let y = reads.field (allocated st) w (holds_sub o good (allocated st) q.own.storage g.storage w q.under.reads (elem_get o good (allocated st) q.own.storage u.values i w q.hold z)) in
      need_good o K (t ∷ []) ls st (unpacked r g.storage w) _ y.value y.found (later_same o K st f, (y.has, tt), refl))))) hv))

  -- values that are put into an array
  puts_did : (x : ℕ) (g : FieldType) (a : ℕ) (u : Object) (i : ℕ) (ws : List Value) (ls : List (Option Value)) (st : Store) → StoreFits o K st → slice_get st.arrays a ≡ Some u → g.mutable ≡ true → ElementsAt (allocated st) x g u → EachHolds o (allocated st) g.storage ws → DidGood o K [] ls st (within (put i ws u.values) (λ new. goes [] ls (with_array st a u.type new)))
  puts_did x g a u i ws ls st f p m q h = within_good o K [] ls st (put i ws u.values) _ (λ new z. (array_set_later o K st f a u new q.own p q.found (holds_put o good (allocated st) q.own.storage i ws u.values new (each_holds_sub o good (allocated st) g.storage q.own.storage ws (q.under.writes m) h) q.hold z), tt, refl))

  array_set_did : (x : ℕ) (g : FieldType) → array_type o.types x ≡ Some g → g.mutable ≡ true → (ls : List (Option Value)) (st : Store) (vs : List Value) → StoreFits o K st → HasAll o (allocated st) vs (of (T.field_value g) ∷ of I32 ∷ of (idx_or_null x) ∷ []) → DidGood o K [] ls st (array_set o x ls st vs)
  array_set_did x g e m ls st vs f h =
      three_is o (allocated st) (Did1 [] (array_set o x) ls st) vs (T.field_value g) I32 (idx_or_null x) h (λ v i r hv hi hr.
      i32_is o (allocated st) (λ i. Did1 [] (array_set o x) ls st (v ∷ i ∷ r ∷ [])) i hi (λ i.
      array_is o good K st f funcs (λ r. Did1 [] (array_set o x) ls st (v ∷ i32 i ∷ r ∷ [])) x g true r e tt (λ a u p af s.
      let w = packed_is o good (allocated st) g.storage v hv in
      need_good o K [] ls st (object_below o x (slice_get st.arrays a)) _ u (below_found x a st.arrays u p s)
      (need_good o K [] ls st (array_type o.types x) _ g e
      (need_good o K [] ls st (packed g.storage v) _ w.value w.found (puts_did x g a u i (w.value ∷ []) ls st f p m (elements_at (allocated st) x g u e af s) (w.holds, tt))))) hr))

  array_len_did : (ls : List (Option Value)) (st : Store) (vs : List Value) → StoreFits o K st → HasAll o (allocated st) vs (of (abs_or_null A.AnyArray) ∷ []) → DidGood o K (I32 ∷ []) ls st (array_len ls st vs)
  array_len_did ls st vs f h = one_is o (allocated st) (Did1 (I32 ∷ []) array_len ls st) vs (abs_or_null A.AnyArray) h (λ v hv. any_array_is o good K st f funcs (λ v. Did1 (I32 ∷ []) array_len ls st (v ∷ [])) true v tt (λ a u p. need_good o K (I32 ∷ []) ls st (slice_get st.arrays a) _ u p (later_same o K st f, (tt, tt), refl)) hv)

  array_fill_did : (x : ℕ) (g : FieldType) → array_type o.types x ≡ Some g → g.mutable ≡ true → (ls : List (Option Value)) (st : Store) (vs : List Value) → StoreFits o K st → HasAll o (allocated st) vs (of I32 ∷ of (T.field_value g) ∷ of I32 ∷ of (idx_or_null x) ∷ []) → DidGood o K [] ls st (array_fill o x ls st vs)
  array_fill_did x g e m ls st vs f h =
      four_is o (allocated st) (Did1 [] (array_fill o x) ls st) vs I32 (T.field_value g) I32 (idx_or_null x) h (λ n v i r hn hv hi hr.
      i32_is o (allocated st) (λ n. Did1 [] (array_fill o x) ls st (n ∷ v ∷ i ∷ r ∷ [])) n hn (λ n.
      i32_is o (allocated st) (λ i. Did1 [] (array_fill o x) ls st (i32 n ∷ v ∷ i ∷ r ∷ [])) i hi (λ i.
      array_is o good K st f funcs (λ r. Did1 [] (array_fill o x) ls st (i32 n ∷ v ∷ i32 i ∷ r ∷ [])) x g true r e tt (λ a u p af s.
      let w = packed_is o good (allocated st) g.storage v hv in
      need_good o K [] ls st (object_below o x (slice_get st.arrays a)) _ u (below_found x a st.arrays u p s)
      (need_good o K [] ls st (array_type o.types x) _ g e
      (need_good o K [] ls st (packed g.storage v) _ w.value w.found (puts_did x g a u i (replicate n w.value) ls st f p m (elements_at (allocated st) x g u e af s) (holds_replicate o good (allocated st) g.storage n w.value w.holds))))) hr)))

  -- three numbers over an array
  over_array : (P : List Value → Type 0) (x : ℕ) (g : FieldType) (st : Store) (vs : List Value) → StoreFits o K st → array_type o.types x ≡ Some g → HasAll o (allocated st) vs (of I32 ∷ of I32 ∷ of I32 ∷ of (idx_or_null x) ∷ []) → ((n j i : ℕ) → P (i32 n ∷ i32 j ∷ i32 i ∷ null ∷ [])) → ((n j i a : ℕ) (u : Object) → slice_get st.arrays a ≡ Some u → ArrayFits o (allocated st) u → is_sub o.types (H.Idx u.type) (H.Idx x) ≡ true → P (i32 n ∷ i32 j ∷ i32 i ∷ array a ∷ [])) → P vs
  over_array P x g st vs f e h pn pa =
      four_is o (allocated st) P vs I32 I32 I32 (idx_or_null x) h (λ n j i r hn hj hi hr.
      i32_is o (allocated st) (λ n. P (n ∷ j ∷ i ∷ r ∷ [])) n hn (λ n.
      i32_is o (allocated st) (λ j. P (i32 n ∷ j ∷ i ∷ r ∷ [])) j hj (λ j.
      i32_is o (allocated st) (λ i. P (i32 n ∷ i32 j ∷ i ∷ r ∷ [])) i hi (λ i.
      array_is o good K st f funcs (λ r. P (i32 n ∷ i32 j ∷ i32 i ∷ r ∷ [])) x g true r e (pn n j i) (λ a u p af s. pa n j i a u p af s) hr))))

  init_data_did : (x y : ℕ) (g : FieldType) → array_type o.types x ≡ Some g → g.mutable ≡ true → T.fits_data K y g ≡ true → (ls : List (Option Value)) (st : Store) (vs : List Value) → StoreFits o K st → HasAll o (allocated st) vs (of I32 ∷ of I32 ∷ of I32 ∷ of (idx_or_null x) ∷ []) → DidGood o K [] ls st (array_init_data o x y ls st vs)
  init_data_did x y g e m d ls st vs f h =
      over_array (Did1 [] (array_init_data o x y) ls st) x g st vs f e h (λ n j i. tt) (λ n j i a u p af s.
      let w = width_is g.storage (and_first (T.is_numeric g.storage) _ d) in
      need_good o K [] ls st (object_below o x (slice_get st.arrays a)) _ u (below_found x a st.arrays u p s)
      (need_good o K [] ls st (array_type o.types x) _ g e
      (need_good o K [] ls st (width_of g.storage) _ w.0 w.1
      (data_good o K [] ls st f y _ (and_second (T.is_numeric g.storage) _ d) (λ bytes.
      within_good o K [] ls st (part j (n * w.0) bytes) _ (λ bs q.
      puts_did x g a u i (all_from_data g.storage w.0 n bs) ls st f p m (elements_at (allocated st) x g u e af s) (all_data_hold (allocated st) g.storage w.0 n bs (and_first (T.is_numeric g.storage) _ d))))))))

  init_elem_did : (x y : ℕ) (g : FieldType) → array_type o.types x ≡ Some g → g.mutable ≡ true → T.fits_elem K y g ≡ true → (ls : List (Option Value)) (st : Store) (vs : List Value) → StoreFits o K st → HasAll o (allocated st) vs (of I32 ∷ of I32 ∷ of I32 ∷ of (idx_or_null x) ∷ []) → DidGood o K [] ls st (array_init_elem o x y ls st vs)
  init_elem_did x y g e m d ls st vs f h =
      let r = ref_elements y g d in
      over_array (Did1 [] (array_init_elem o x y) ls st) x g st vs f e h (λ n j i. tt) (λ n j i a u p af s.
      need_good o K [] ls st (object_below o x (slice_get st.arrays a)) _ u (below_found x a st.arrays u p s)
      (elem_good o good K [] ls st f y r.from _ r.found (λ items hi.
      within_good o K [] ls st (part j n items) _ (λ ws q.
      puts_did x g a u i ws ls st f p m (elements_at (allocated st) x g u e af s) (r.holds (allocated st) ws (each_part o (allocated st) (Ref r.from) j n items ws hi q))))))

  -- array.copy: whatever the first array is, a null traps
  copy_null : (x y : ℕ) (ls : List (Option Value)) (st : Store) (n j i : ℕ) (r : Value) → DidGood o K [] ls st (array_copy o x y ls st (i32 n ∷ i32 j ∷ null ∷ i32 i ∷ r ∷ []))
  copy_null x y ls st n j i r = tt

  array_copy_did : (x y : ℕ) (g k : FieldType) → array_type o.types x ≡ Some g → array_type o.types y ≡ Some k → g.mutable ≡ true → is_sub_storage o.types k.storage g.storage ≡ true → (ls : List (Option Value)) (st : Store) (vs : List Value) → StoreFits o K st → HasAll o (allocated st) vs (of I32 ∷ of I32 ∷ of (idx_or_null y) ∷ of I32 ∷ of (idx_or_null x) ∷ []) → DidGood o K [] ls st (array_copy o x y ls st vs)
  array_copy_did x y g k e d m s ls st vs f h =
      five_is o (allocated st) (Did1 [] (array_copy o x y) ls st) vs I32 I32 (idx_or_null y) I32 (idx_or_null x) h (λ n j q i r hn hj hq hi hr.
      i32_is o (allocated st) (λ n. Did1 [] (array_copy o x y) ls st (n ∷ j ∷ q ∷ i ∷ r ∷ [])) n hn (λ n.
      i32_is o (allocated st) (λ j. Did1 [] (array_copy o x y) ls st (i32 n ∷ j ∷ q ∷ i ∷ r ∷ [])) j hj (λ j.
      i32_is o (allocated st) (λ i. Did1 [] (array_copy o x y) ls st (i32 n ∷ i32 j ∷ q ∷ i ∷ r ∷ [])) i hi (λ i.
      array_is o good K st f funcs (λ q. Did1 [] (array_copy o x y) ls st (i32 n ∷ i32 j ∷ q ∷ i32 i ∷ r ∷ [])) y k true q d (copy_null x y ls st n j i r) (λ b v vp vf vs'.
      array_is o good K st f funcs (λ r. Did1 [] (array_copy o x y) ls st (i32 n ∷ i32 j ∷ array b ∷ i32 i ∷ r ∷ [])) x g true r e tt (λ a u p af us'.
      let from = elements_at (allocated st) y k v d vf vs' in
      need_good o K [] ls st (object_below o x (slice_get st.arrays a)) _ u (below_found x a st.arrays u p us')
      (need_good o K [] ls st (object_below o y (slice_get st.arrays b)) _ v (below_found y b st.arrays v vp vs')
      (within_good o K [] ls st (part j n v.values) _ (λ ws z.
      puts_did x g a u i ws ls st f p m (elements_at (allocated st) x g u e af us') (each_holds_sub o good (allocated st) k.storage g.storage ws s (each_holds_sub o good (allocated st) from.own.storage k.storage ws from.under.reads (holds_part o good (allocated st) from.own.storage j n v.values ws from.hold z))))))) hr) hq))))

  -- rows

  whole_reads : (y : FieldType) → not (T.is_packed y.storage) ≡ true → Reads whole y.storage (T.field_value y)
  whole_reads y p = record { field = λ al v h. whole_is o good al y.storage v p h }

  signed_reads : (y : FieldType) → T.is_packed y.storage ≡ true → Reads signed y.storage I32
  signed_reads y p = record { field = λ al v h. signed_is o good al y.storage v p h }

  unsigned_reads : (y : FieldType) → T.is_packed y.storage ≡ true → Reads unsigned y.storage I32
  unsigned_reads y p = record { field = λ al v h. unsigned_is o good al y.storage v p h }

  field_row : (i : Instr) (x n : ℕ) (row : FieldType → Option R.Row) → ((fs : List FieldType) (y : FieldType) → struct_type o.types x ≡ Some fs → slice_get fs n ≡ Some y → RowGoodAt o K i (row y)) → RowGoodAt o K i (T.field_of K x n >>= row)
  field_row i x n row g = by (struct_type o.types x) refl
    where
      at : (fs : List FieldType) → struct_type o.types x ≡ Some fs → (p : Option FieldType) → slice_get fs n ≡ p → RowGoodAt o K i (p >>= row)
      at fs e None q = tt
      at fs e (Some y) q = g fs y e q

      by : (p : Option (List FieldType)) → struct_type o.types x ≡ p → RowGoodAt o K i ((p >>= λ fs. slice_get fs n) >>= row)
      by None e = tt
      by (Some fs) e = at fs e (slice_get fs n) refl

  struct_new_count : (x : ℕ) (fs : List FieldType) → struct_type o.types x ≡ Some fs → field_count (struct_type o.types x) ≡ length (map T.field_value fs)
  struct_new_count x fs e = ap field_count e ∙ sym (length-map fs T.field_value)

  pub object_rows : (i : Instr) → RowGoodAt o K i (T.reference_row K i)
  object_rows (I.RefNull h) = given_row o K (I.RefNull h) (is_valid_heap K.types h) _ (λ v. record { count = refl; acts = null_did h })
  object_rows (I.RefFunc x) = bind_row o K (I.RefFunc x) (slice_get K.funcs x) _ (λ t e. bind_row o K (I.RefFunc x) (slice_get K.declared x) _ (λ d q. given_row o K (I.RefFunc x) d _ (λ z. record { count = refl; acts = func_did x t e })))
  object_rows I.RefEq = record { count = refl; acts = eq_did }
  object_rows (I.RefTest r) = bind_row o K (I.RefTest r) (top_of K.types r.heap) _ (λ top e. record { count = refl; acts = test_did r top e })
  object_rows (I.RefCast r) = bind_row o K (I.RefCast r) (top_of K.types r.heap) _ (λ top e. record { count = refl; acts = cast_did r top e })
  object_rows I.RefI31 = record { count = refl; acts = i31_did }
  object_rows I.I31GetS = record { count = refl; acts = i31_get_did _ }
  object_rows I.I31GetU = record { count = refl; acts = i31_get_did _ }
  object_rows (I.StructNew x) = bind_row o K (I.StructNew x) (struct_type K.types x) _ (λ fs e. record { count = struct_new_count x fs e; acts = struct_new_did x fs e })
  object_rows (I.StructNewDefault x) = bind_row o K (I.StructNewDefault x) (struct_type K.types x) _ (λ fs e. given_row o K (I.StructNewDefault x) (list_all T.field_default fs) _ (λ d. record { count = refl; acts = struct_default_did x fs e d }))
  object_rows (I.StructGet x i) = field_row (I.StructGet x i) x i (T.reads_whole x) (λ fs y e q. given_row o K (I.StructGet x i) (not (T.is_packed y.storage)) _ (λ p. record { count = refl; acts = struct_get_did x i fs y whole (T.field_value y) e q (whole_reads y p) }))
  object_rows (I.StructGetS x i) = field_row (I.StructGetS x i) x i (T.reads_packed x) (λ fs y e q. given_row o K (I.StructGetS x i) (T.is_packed y.storage) _ (λ p. record { count = refl; acts = struct_get_did x i fs y signed I32 e q (signed_reads y p) }))
  object_rows (I.StructGetU x i) = field_row (I.StructGetU x i) x i (T.reads_packed x) (λ fs y e q. given_row o K (I.StructGetU x i) (T.is_packed y.storage) _ (λ p. record { count = refl; acts = struct_get_did x i fs y unsigned I32 e q (unsigned_reads y p) }))
  object_rows (I.StructSet x i) = field_row (I.StructSet x i) x i (T.writes x) (λ fs y e q. given_row o K (I.StructSet x i) y.mutable _ (λ m. record { count = refl; acts = struct_set_did x i fs y e q m }))
  object_rows (I.ArrayNew x) = bind_row o K (I.ArrayNew x) (array_type K.types x) _ (λ g e. record { count = refl; acts = array_new_did x g e })
  object_rows (I.ArrayNewDefault x) = bind_row o K (I.ArrayNewDefault x) (array_type K.types x) _ (λ g e. given_row o K (I.ArrayNewDefault x) (T.field_default g) _ (λ d. record { count = refl; acts = array_default_did x g e d }))
  object_rows (I.ArrayNewFixed x n) = bind_row o K (I.ArrayNewFixed x n) (array_type K.types x) _ (λ g e. record { count = sym (length-replicate n (T.field_value g)); acts = array_fixed_did x n g e })
  object_rows (I.ArrayNewData x y) = bind_row o K (I.ArrayNewData x y) (array_type K.types x) _ (λ g e. given_row o K (I.ArrayNewData x y) (T.fits_data K y g) _ (λ d. record { count = refl; acts = array_data_did x y g e d }))
  object_rows (I.ArrayNewElem x y) = bind_row o K (I.ArrayNewElem x y) (array_type K.types x) _ (λ g e. given_row o K (I.ArrayNewElem x y) (T.fits_elem K y g) _ (λ d. record { count = refl; acts = array_elem_did x y g e d }))
  object_rows (I.ArrayGet x) = bind_row o K (I.ArrayGet x) (array_type K.types x) _ (λ g e. given_row o K (I.ArrayGet x) (not (T.is_packed g.storage)) _ (λ p. record { count = refl; acts = array_get_did x g whole (T.field_value g) e (whole_reads g p) }))
  object_rows (I.ArrayGetS x) = bind_row o K (I.ArrayGetS x) (array_type K.types x) _ (λ g e. given_row o K (I.ArrayGetS x) (T.is_packed g.storage) _ (λ p. record { count = refl; acts = array_get_did x g signed I32 e (signed_reads g p) }))
  object_rows (I.ArrayGetU x) = bind_row o K (I.ArrayGetU x) (array_type K.types x) _ (λ g e. given_row o K (I.ArrayGetU x) (T.is_packed g.storage) _ (λ p. record { count = refl; acts = array_get_did x g unsigned I32 e (unsigned_reads g p) }))
  object_rows (I.ArraySet x) = bind_row o K (I.ArraySet x) (array_type K.types x) _ (λ g e. given_row o K (I.ArraySet x) g.mutable _ (λ m. record { count = refl; acts = array_set_did x g e m }))
  object_rows I.ArrayLen = record { count = refl; acts = array_len_did }
  object_rows (I.ArrayFill x) = bind_row o K (I.ArrayFill x) (array_type K.types x) _ (λ g e. given_row o K (I.ArrayFill x) g.mutable _ (λ m. record { count = refl; acts = array_fill_did x g e m }))
  object_rows (I.ArrayCopy x y) = bind_row o K (I.ArrayCopy x y) (array_type K.types x) _ (λ g e. bind_row o K (I.ArrayCopy x y) (array_type K.types y) _ (λ k d. given_row o K (I.ArrayCopy x y) (g.mutable && is_sub_storage K.types k.storage g.storage) _ (λ z. record { count = refl; acts = array_copy_did x y g k e d (and_first g.mutable _ z) (and_second g.mutable _ z) })))
  object_rows (I.ArrayInitData x y) = bind_row o K (I.ArrayInitData x y) (array_type K.types x) _ (λ g e. given_row o K (I.ArrayInitData x y) (g.mutable && T.fits_data K y g) _ (λ z. record { count = refl; acts = init_data_did x y g e (and_first g.mutable _ z) (and_second g.mutable _ z) }))
  object_rows (I.ArrayInitElem x y) = bind_row o K (I.ArrayInitElem x y) (array_type K.types x) _ (λ g e. given_row o K (I.ArrayInitElem x y) (g.mutable && T.fits_elem K y g) _ (λ z. record { count = refl; acts = init_elem_did x y g e (and_first g.mutable _ z) (and_second g.mutable _ z) }))
  object_rows i = tt
