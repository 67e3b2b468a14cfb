-- New structures and arrays, and writes to them, keep a store that fits.
use Rattle.std.proofs.Common.{ℕ, zero, suc, ◌+◌, Bool, true, false, cond, not, List, [], ◌∷◌, ◌++◌, map, length, drop, take, replicate, Some, None, option_map, slice_get, slice_set, nat_lt, ◌≡◌, refl, ap, ◌∙◌, sym, subst, true≢false, arith}
use Rattle.std.proofs.lemmas.Option.{same_Some, none-some}
use Rattle.gu_types.specs.declared.types.FieldType.{FieldType}
use Rattle.gu_types.specs.declared.types.Storage.{Storage}
use Rattle.gu_types.specs.declared.types.Storage.TheVariants as S
use Rattle.gu_types.specs.declared.types.HeapType.TheVariants as H
use Rattle.gu_types.specs.declared.types.ValType.{ValType}
use Rattle.gu_types.specs.declared.types.ValType.TheVariants as V
use Rattle.gu_rec.specs.Sub.{is_sub}
use Rattle.gu_rec.specs.Validity.{is_sub_storage}
use Rattle.gu_model.specs.Index.{struct_type, array_type}
use Rattle.gu_model.specs.Outline.{Outline}
use Rattle.gu_model.specs.Value.{Value, i32, i64, struct, array, Object, Store, Allocated, allocated, kinds, is_under}
use Rattle.gu_model.specs.Did.{part, put, with_struct, with_array}
use Rattle.gu_model.specs.TypingContext.{Context, has_default}
use Rattle.gu_model.specs.TypingReferences as T
use Rattle.gu_model.specs.Aggregates.{packed, unpacked, Reading, whole, signed, unsigned, default_of, joined, packed_all, defaults_of}
use Rattle.gu_model.specs.TypingShape.{of}
use Rattle.gu_model.proofs.GoodTypes.{GoodTypes, FieldUnder, FieldsUnder}
use Rattle.gu_model.proofs.Has.{Grown, Has, HasAll, has_sub, and_first, and_second}
use Rattle.gu_model.proofs.Stores.{Holds, EachHolds, FieldsHold, StoreFits, StructFits, ArrayFits, Later, globals_more, refs_more, struct_more, array_more, exception_more}
use Rattle.gu_model.proofs.References.{kind_found}

-- lists with one more at the end

get_before : {X : Type 0} (xs : List X) (y : X) (a : ℕ) (x : X) → slice_get xs a ≡ Some x → slice_get (xs ++ y ∷ []) a ≡ Some x
get_before [] y a x e = absurd (none-some x e)
get_before (z ∷ xs) y zero x e = e
get_before (z ∷ xs) y (suc a) x e = get_before xs y a x e

get_last : {X : Type 0} (xs : List X) (y : X) → slice_get (xs ++ y ∷ []) (length xs) ≡ Some y
get_last [] y = refl
get_last (z ∷ xs) y = get_last xs y

-- what is there is one of those before, or the last
get_either : {X : Type 0} (P : X → Type 0) (xs : List X) (y : X) (a : ℕ) (x : X) → slice_get (xs ++ y ∷ []) a ≡ Some x → ((b : ℕ) (z : X) → slice_get xs b ≡ Some z → P z) → P y → P x
get_either P [] y zero x e before last = subst P (same_Some _ _ e) last
get_either P [] y (suc a) x e before last = absurd (none-some x e)
get_either P (z ∷ xs) y zero x e before last = subst P (same_Some _ _ e) (before zero z refl)
get_either P (z ∷ xs) y (suc a) x e before last = get_either P xs y a x e (λ b. before (suc b)) last

-- what is there is one of those before, or what was set
set_either : {X : Type 0} (P : X → Type 0) (xs : List X) (i : ℕ) (y : X) (a : ℕ) (x : X) → slice_get (slice_set xs i y) a ≡ Some x → ((b : ℕ) (z : X) → slice_get xs b ≡ Some z → P z) → P y → P x
set_either P [] i y a x e before last = absurd (none-some x e)
set_either P (z ∷ xs) zero y zero x e before last = subst P (same_Some _ _ e) last
set_either P (z ∷ xs) zero y (suc a) x e before last = before (suc a) x e
set_either P (z ∷ xs) (suc i) y zero x e before last = before zero x e
set_either P (z ∷ xs) (suc i) y (suc a) x e before last = set_either P xs i y a x e (λ b. before (suc b)) last

kinds_append : (xs : List Object) (y : Object) → kinds (xs ++ y ∷ []) ≡ kinds xs ++ y.type ∷ []
kinds_append [] y = refl
kinds_append (x ∷ xs) y = ap (λ ks. x.type ∷ ks) (kinds_append xs y)

-- with another object of the same type the types are those before
kinds_set : (xs : List Object) (a : ℕ) (u y : Object) → slice_get xs a ≡ Some u → y.type ≡ u.type → kinds (slice_set xs a y) ≡ kinds xs
kinds_set [] a u y e s = refl
kinds_set (x ∷ xs) zero u y e s = ap (λ t. t ∷ kinds xs) (s ∙ ap (λ (v : Object). v.type) (sym (same_Some _ _ e)))
kinds_set (x ∷ xs) (suc a) u y e s = ap (λ ks. x.type ∷ ks) (kinds_set xs a u y e s)

module _ (o : Outline) (K : Context) where
  -- a store with the same that was allocated keeps what it says of everything else
  module _ (st : Store) (f : StoreFits o K st) where
    new_struct_store : (x : ℕ) (ws : List Value) → Store
    new_struct_store x ws = record st { structs = st.structs ++ record { type = x; values = ws } ∷ [] }

    struct_grown : (x : ℕ) (ws : List Value) → Grown (allocated st) (allocated (record st { structs = st.structs ++ record { type = x; values = ws } ∷ [] }))
    struct_grown x ws = record { structs = λ a t e. ap (λ ks. slice_get ks a) (kinds_append st.structs (record { type = x; values = ws })) ∙ get_before (kinds st.structs) x a t e; arrays = λ a t e. e; exceptions = omega arith }

    pub struct_new_later : (x : ℕ) (ws : List Value) (fs : List FieldType) → struct_type o.types x ≡ Some fs → FieldsHold o (allocated st) fs ws → Later o K st (record st { structs = st.structs ++ record { type = x; values = ws } ∷ [] })
    struct_new_later x ws fs e h = let g = struct_grown x ws in let b = allocated (record st { structs = st.structs ++ record { type = x; values = ws } ∷ [] }) in record {
      grown = g;
      fits = record {
        globals = globals_more o (allocated st) b st.constants st.variables K.globals g f.globals;
        tables = refs_more o (allocated st) b st.tables K.tables g f.tables;
        elems = refs_more o (allocated st) b st.elems K.elems g f.elems;
        memories = f.memories;
        datas = f.datas;
        tags = f.tags;
        alike = f.alike;
        structs = λ a u q. struct_more o (allocated st) b u g (get_either (StructFits o (allocated st)) st.structs (record { type = x; values = ws }) a u q f.structs (record { fields = fs; found = e; hold = h }));
        arrays = λ a u q. array_more o (allocated st) b u g (f.arrays a u q);
        exceptions = λ a y q. exception_more o (allocated st) b st.tags y g (f.exceptions a y q);
      };
    }

    -- the new structure has its type
    pub struct_new_has : (x : ℕ) (ws : List Value) → is_sub o.types (H.Idx x) (H.Idx x) ≡ true → Has o (allocated (record st { structs = st.structs ++ record { type = x; values = ws } ∷ [] })) (V.Ref (record { null = false; heap = H.Idx x })) (struct (length st.structs))
    struct_new_has x ws s = ap (λ p. is_under o (H.Idx x) (option_map H.Idx p)) (kind_found (st.structs ++ record { type = x; values = ws } ∷ []) (length st.structs) (record { type = x; values = ws }) (get_last st.structs (record { type = x; values = ws }))) ∙ s

    array_grown : (x : ℕ) (ws : List Value) → Grown (allocated st) (allocated (record st { arrays = st.arrays ++ record { type = x; values = ws } ∷ [] }))
    array_grown x ws = record { structs = λ a t e. e; arrays = λ a t e. ap (λ ks. slice_get ks a) (kinds_append st.arrays (record { type = x; values = ws })) ∙ get_before (kinds st.arrays) x a t e; exceptions = omega arith }

    pub array_new_later : (x : ℕ) (ws : List Value) (g : FieldType) → array_type o.types x ≡ Some g → EachHolds o (allocated st) g.storage ws → Later o K st (record st { arrays = st.arrays ++ record { type = x; values = ws } ∷ [] })
    array_new_later x ws y e h = let g = array_grown x ws in let b = allocated (record st { arrays = st.arrays ++ record { type = x; values = ws } ∷ [] }) in record {
      grown = g;
      fits = record {
        globals = globals_more o (allocated st) b st.constants st.variables K.globals g f.globals;
        tables = refs_more o (allocated st) b st.tables K.tables g f.tables;
        elems = refs_more o (allocated st) b st.elems K.elems g f.elems;
        memories = f.memories;
        datas = f.datas;
        tags = f.tags;
        alike = f.alike;
        structs = λ a u q. struct_more o (allocated st) b u g (f.structs a u q);
        arrays = λ a u q. array_more o (allocated st) b u g (get_either (ArrayFits o (allocated st)) st.arrays (record { type = x; values = ws }) a u q f.arrays (record { field = y; found = e; hold = h }));
        exceptions = λ a y q. exception_more o (allocated st) b st.tags y g (f.exceptions a y q);
      };
    }

    pub array_new_has : (x : ℕ) (ws : List Value) → is_sub o.types (H.Idx x) (H.Idx x) ≡ true → Has o (allocated (record st { arrays = st.arrays ++ record { type = x; values = ws } ∷ [] })) (V.Ref (record { null = false; heap = H.Idx x })) (array (length st.arrays))
    array_new_has x ws s = ap (λ p. is_under o (H.Idx x) (option_map H.Idx p)) (kind_found (st.arrays ++ record { type = x; values = ws } ∷ []) (length st.arrays) (record { type = x; values = ws }) (get_last st.arrays (record { type = x; values = ws }))) ∙ s

    -- other values in an object
    pub struct_set_later : (a : ℕ) (u : Object) (ws : List Value) (fs : List FieldType) → slice_get st.structs a ≡ Some u → struct_type o.types u.type ≡ Some fs → FieldsHold o (allocated st) fs ws → Later o K st (with_struct st a u.type ws)
    struct_set_later a u ws fs e t h = let q = kinds_set st.structs a u (record { type = u.type; values = ws }) e refl in let g = same_structs q in let b = allocated (with_struct st a u.type ws) in record {
      grown = g;
      fits = record {
        globals = globals_more o (allocated st) b st.constants st.variables K.globals g f.globals;
        tables = refs_more o (allocated st) b st.tables K.tables g f.tables;
        elems = refs_more o (allocated st) b st.elems K.elems g f.elems;
        memories = f.memories;
        datas = f.datas;
        tags = f.tags;
        alike = f.alike;
        structs = λ c v p. struct_more o (allocated st) b v g (set_either (StructFits o (allocated st)) st.structs a (record { type = u.type; values = ws }) c v p f.structs (record { fields = fs; found = t; hold = h }));
        arrays = λ c v p. array_more o (allocated st) b v g (f.arrays c v p);
        exceptions = λ c y p. exception_more o (allocated st) b st.tags y g (f.exceptions c y p);
      };
    }
      where
        same_structs : kinds (slice_set st.structs a (record { type = u.type; values = ws })) ≡ kinds st.structs → Grown (allocated st) (allocated (with_struct st a u.type ws))
        same_structs q = record { structs = λ c t e. ap (λ ks. slice_get ks c) q ∙ e; arrays = λ c t e. e; exceptions = omega arith }

    pub array_set_later : (a : ℕ) (u : Object) (ws : List Value) (y : FieldType) → slice_get st.arrays a ≡ Some u → array_type o.types u.type ≡ Some y → EachHolds o (allocated st) y.storage ws → Later o K st (with_array st a u.type ws)
    array_set_later a u ws y e t h = let q = kinds_set st.arrays a u (record { type = u.type; values = ws }) e refl in let g = same_arrays q in let b = allocated (with_array st a u.type ws) in record {
      grown = g;
      fits = record {
        globals = globals_more o (allocated st) b st.constants st.variables K.globals g f.globals;
        tables = refs_more o (allocated st) b st.tables K.tables g f.tables;
        elems = refs_more o (allocated st) b st.elems K.elems g f.elems;
        memories = f.memories;
        datas = f.datas;
        tags = f.tags;
        alike = f.alike;
        structs = λ c v p. struct_more o (allocated st) b v g (f.structs c v p);
        arrays = λ c v p. array_more o (allocated st) b v g (set_either (ArrayFits o (allocated st)) st.arrays a (record { type = u.type; values = ws }) c v p f.arrays (record { field = y; found = t; hold = h }));
        exceptions = λ c z p. exception_more o (allocated st) b st.tags z g (f.exceptions c z p);
      };
    }
      where
        same_arrays : kinds (slice_set st.arrays a (record { type = u.type; values = ws })) ≡ kinds st.arrays → Grown (allocated st) (allocated (with_array st a u.type ws))
        same_arrays q = record { structs = λ c t e. e; arrays = λ c t e. ap (λ ks. slice_get ks c) q ∙ e; exceptions = omega arith }

module _ (o : Outline) (good : GoodTypes o.types) (al : Allocated) where
  -- what is held as one type is held as another
  pub holds_sub : (s t : Storage) (v : Value) → is_sub_storage o.types s t ≡ true → Holds o al s v → Holds o al t v
  holds_sub (S.Val t) (S.Val u) v s h = has_sub o good al t u v s h
  holds_sub S.I8 S.I8 v s h = h
  holds_sub S.I16 S.I16 v s h = h
  holds_sub (S.Val t) S.I8 v s h = absurd (true≢false (sym s))
  holds_sub (S.Val t) S.I16 v s h = absurd (true≢false (sym s))
  holds_sub S.I8 (S.Val t) v s h = absurd (true≢false (sym s))
  holds_sub S.I8 S.I16 v s h = absurd (true≢false (sym s))
  holds_sub S.I16 (S.Val t) v s h = absurd (true≢false (sym s))
  holds_sub S.I16 S.I8 v s h = absurd (true≢false (sym s))

  pub each_holds_sub : (s t : Storage) (vs : List Value) → is_sub_storage o.types s t ≡ true → EachHolds o al s vs → EachHolds o al t vs
  each_holds_sub s t [] e h = tt
  each_holds_sub s t (v ∷ vs) e h = (holds_sub s t v e h.0, each_holds_sub s t vs e h.1)

  -- a value as it is stored
  pub record PackedAs (s : Storage) (v : Value) : Type 0 where
    pub value : Value
    pub found : packed s v ≡ Some value
    pub holds : Holds o al s value

  pub packed_is : (s : Storage) (v : Value) → Has o al (T.unpacked s) v → PackedAs s v
  packed_is (S.Val t) v h = record { value = v; found = refl; holds = h }
  packed_is S.I8 (i32 n) h = record { value = _; found = refl; holds = tt }
  packed_is S.I8 _ h = absurd h
  packed_is S.I16 (i32 n) h = record { value = _; found = refl; holds = tt }
  packed_is S.I16 _ h = absurd h

  -- what is read of what is stored: whole, where it isn't packed, and as a number where it is
  pub record ReadAs (r : Reading) (s : Storage) (t : ValType) (v : Value) : Type 0 where
    pub value : Value
    pub found : unpacked r s v ≡ Some value
    pub has : Has o al t value

  pub whole_is : (s : Storage) (v : Value) → not (T.is_packed s) ≡ true → Holds o al s v → ReadAs whole s (T.unpacked s) v
  whole_is (S.Val t) v p h = record { value = v; found = refl; has = h }
  whole_is S.I8 v p h = absurd (true≢false (sym p))
  whole_is S.I16 v p h = absurd (true≢false (sym p))

  pub signed_is : (s : Storage) (v : Value) → T.is_packed s ≡ true → Holds o al s v → ReadAs signed s V.I32 v
  signed_is (S.Val t) v p h = absurd (true≢false (sym p))
  signed_is S.I8 (i32 n) p h = record { value = _; found = refl; has = tt }
  signed_is S.I8 _ p h = absurd h
  signed_is S.I16 (i32 n) p h = record { value = _; found = refl; has = tt }
  signed_is S.I16 _ p h = absurd h

  pub unsigned_is : (s : Storage) (v : Value) → T.is_packed s ≡ true → Holds o al s v → ReadAs unsigned s V.I32 v
  unsigned_is (S.Val t) v p h = absurd (true≢false (sym p))
  unsigned_is S.I8 (i32 n) p h = record { value = _; found = refl; has = tt }
  unsigned_is S.I8 _ p h = absurd h
  unsigned_is S.I16 (i32 n) p h = record { value = _; found = refl; has = tt }
  unsigned_is S.I16 _ p h = absurd h

  -- defaults
  pub record DefaultAs (s : Storage) : Type 0 where
    pub value : Value
    pub found : default_of s ≡ Some value
    pub holds : Holds o al s value

  pub default_is : (f : FieldType) → T.field_default f ≡ true → DefaultAs f.storage
  default_is f = by f.storage
    where
      by : (s : Storage) → has_default (T.unpacked s) ≡ true → DefaultAs s
      by (S.Val V.I32) h = record { value = _; found = refl; holds = tt }
      by (S.Val V.I64) h = record { value = _; found = refl; holds = tt }
      by (S.Val (V.Ref r)) h = record { value = _; found = ap (λ b. cond b (Some Rattle.gu_model.specs.Value.null) None) h; holds = h }
      by S.I8 h = record { value = _; found = refl; holds = tt }
      by S.I16 h = record { value = _; found = refl; holds = tt }

  -- all fields
  pub record PackedAll (fs : List FieldType) (vs : List Value) : Type 0 where
    pub values : List Value
    pub found : packed_all fs vs ≡ Some values
    pub hold : FieldsHold o al fs values

  pub packed_all_is : (fs : List FieldType) (vs : List Value) → HasAll o al vs (map of (map T.field_value fs)) → PackedAll fs vs
  packed_all_is [] [] h = record { values = []; found = refl; hold = tt }
  packed_all_is [] (v ∷ vs) h = absurd h
  packed_all_is (f ∷ fs) [] h = absurd h
  packed_all_is (f ∷ fs) (v ∷ vs) h = let p = packed_is f.storage v h.0 in let q = packed_all_is fs vs h.1 in record { values = p.value ∷ q.values; found = ap (λ x. joined x (packed_all fs vs)) p.found ∙ ap (joined (Some p.value)) q.found; hold = (p.holds, q.hold) }

  pub record DefaultsAll (fs : List FieldType) : Type 0 where
    pub values : List Value
    pub found : defaults_of fs ≡ Some values
    pub hold : FieldsHold o al fs values

  pub defaults_all_is : (fs : List FieldType) → Rattle.std.specs.List.list_all T.field_default fs ≡ true → DefaultsAll fs
  defaults_all_is [] h = record { values = []; found = refl; hold = tt }
  defaults_all_is (f ∷ fs) h = let p = default_is f (and_first (T.field_default f) _ h) in let q = defaults_all_is fs (and_second (T.field_default f) _ h) in record { values = p.value ∷ q.values; found = ap (λ x. joined x (defaults_of fs)) p.found ∙ ap (joined (Some p.value)) q.found; hold = (p.holds, q.hold) }

  -- a field of a structure below another, and with another value there
  pub record FieldAt (gs : List FieldType) (f : FieldType) (vs : List Value) (i : ℕ) : Type 0 where
    pub value : Value
    pub found : slice_get vs i ≡ Some value
    pub holds : Holds o al f.storage value
    pub sets : (w : Value) → f.mutable ≡ true → Holds o al f.storage w → FieldsHold o al gs (slice_set vs i w)

  pub field_is : (gs fs : List FieldType) (vs : List Value) (i : ℕ) (f : FieldType) → FieldsUnder o.types gs fs → FieldsHold o al gs vs → slice_get fs i ≡ Some f → FieldAt gs f vs i
  field_is gs [] vs i f u h e = absurd (none-some f e)
  field_is [] (y ∷ fs) vs i f u h e = absurd u
  field_is (g ∷ gs) (y ∷ fs) [] i f u h e = absurd h
  field_is (g ∷ gs) (y ∷ fs) (v ∷ vs) zero f u h e = let w = subst (λ y. FieldUnder o.types g y) (same_Some _ _ e) u.0 in record { value = v; found = refl; holds = holds_sub g.storage f.storage v w.reads h.0; sets = λ x m k. (holds_sub f.storage g.storage x (w.writes m) k, h.1) }
  field_is (g ∷ gs) (y ∷ fs) (v ∷ vs) (suc i) f u h e = let q = field_is gs fs vs i f u.1 h.1 e in record { value = q.value; found = q.found; holds = q.holds; sets = λ x m k. (h.0, q.sets x m k) }

  -- elements

  pub elem_get : (s : Storage) (vs : List Value) (i : ℕ) (v : Value) → EachHolds o al s vs → slice_get vs i ≡ Some v → Holds o al s v
  elem_get s [] i v h e = absurd (none-some v e)
  elem_get s (w ∷ vs) zero v h e = subst (Holds o al s) (same_Some _ _ e) h.0
  elem_get s (w ∷ vs) (suc i) v h e = elem_get s vs i v h.1 e

  holds_append : (s : Storage) (vs ws : List Value) → EachHolds o al s vs → EachHolds o al s ws → EachHolds o al s (vs ++ ws)
  holds_append s [] ws h g = g
  holds_append s (v ∷ vs) ws h g = (h.0, holds_append s vs ws h.1 g)

  holds_take : (s : Storage) (n : ℕ) (vs : List Value) → EachHolds o al s vs → EachHolds o al s (take n vs)
  holds_take s zero vs h = tt
  holds_take s (suc n) [] h = tt
  holds_take s (suc n) (v ∷ vs) h = (h.0, holds_take s n vs h.1)

  holds_drop : (s : Storage) (n : ℕ) (vs : List Value) → EachHolds o al s vs → EachHolds o al s (drop n vs)
  holds_drop s zero vs h = h
  holds_drop s (suc n) [] h = tt
  holds_drop s (suc n) (v ∷ vs) h = holds_drop s n vs h.1

  pub holds_replicate : (s : Storage) (n : ℕ) (v : Value) → Holds o al s v → EachHolds o al s (replicate n v)
  holds_replicate s zero v h = tt
  holds_replicate s (suc n) v h = (h, holds_replicate s n v h)

  pub holds_part : (s : Storage) (i n : ℕ) (vs ws : List Value) → EachHolds o al s vs → part i n vs ≡ Some ws → EachHolds o al s ws
  holds_part s i n vs ws h e = by (nat_lt (length vs) (i + n)) e
    where
      by : (b : Bool) → cond b None (Some (take n (drop i vs))) ≡ Some ws → EachHolds o al s ws
      by true e = absurd (none-some ws e)
      by false e = subst (EachHolds o al s) (same_Some _ _ e) (holds_take s n (drop i vs) (holds_drop s i vs h))

  pub holds_put : (s : Storage) (i : ℕ) (ys xs zs : List Value) → EachHolds o al s ys → EachHolds o al s xs → put i ys xs ≡ Some zs → EachHolds o al s zs
  holds_put s i ys xs zs hy hx e = by (nat_lt (length xs) (i + length ys)) e
    where
      by : (b : Bool) → cond b None (Some (take i xs ++ ys ++ drop (i + length ys) xs)) ≡ Some zs → EachHolds o al s zs
      by true e = absurd (none-some zs e)
      by false e = subst (EachHolds o al s) (same_Some _ _ e) (holds_append s (take i xs ++ ys) (drop (i + length ys) xs) (holds_append s (take i xs) ys (holds_take s i xs hx) hy) (holds_drop s (i + length ys) xs hx))
