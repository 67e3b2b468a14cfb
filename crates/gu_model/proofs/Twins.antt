-- Two places of one type are below one another.
use Rattle.std.proofs.Common.{◌≡◌, ℕ, zero, Bool, true, false, not, ◌||◌, List, [], ◌∷◌, ◌++◌, map, length, refl, ap, sym, ◌∙◌, subst, true≢false, arith, length-append}
use Rattle.std.specs.Prelude.{flat_map}
use Rattle.std.specs.Cmp.Lexicographic.{pointwise}
use Rattle.std.proofs.lemmas.List.{length-map}
use Rattle.gu_types.specs.declared.types.Comp.{Comp}
use Rattle.gu_types.specs.declared.types.Comp.TheVariants as C
use Rattle.gu_types.specs.declared.types.FieldType.{FieldType}
use Rattle.gu_types.specs.declared.types.HeapType.{HeapType}
use Rattle.gu_types.specs.declared.types.HeapType.TheVariants as H
use Rattle.gu_types.specs.declared.types.RefType.{RefType}
use Rattle.gu_types.specs.declared.types.Storage.{Storage}
use Rattle.gu_types.specs.declared.types.Storage.TheVariants as S
use Rattle.gu_types.specs.declared.types.SubType.{SubType}
use Rattle.gu_types.specs.declared.types.TypeList.{TypeList}
use Rattle.gu_types.specs.declared.types.ValType.{ValType}
use Rattle.gu_types.specs.declared.types.ValType.TheVariants as V
use Rattle.gu_rec.specs.Names.{val_names, storage_names, field_names, comp_names, rename_heap, rename_val, rename_storage, rename_field, rename_comp}
use Rattle.gu_rec.specs.Sub.{same, itself, is_sub, is_sub_val}
use Rattle.gu_rec.specs.Validity.{is_sub_storage, is_sub_stored, is_sub_field, has_fields, is_sub_comp, IndicesHold}
use Rattle.gu_rec.proofs.Same.{both_of}
use Rattle.gu_rec.proofs.Decided.{flip, is_sub_complete}
use Rattle.gu_model.proofs.Comps.{SameComps}
use Rattle.gu_model.proofs.Places.{Pairs, alike}

abbrev nought : ℕ → ℕ
nought _ = zero

implied : (a b : Bool) → a ≡ b → (not a || b) ≡ true
implied true true e = refl
implied false b e = refl
implied true false e = absurd (true≢false e)

abbrev ref_in : RefType → ValType → RefType
ref_in a (V.Ref r) = r
ref_in a _ = a

-- indices of the second parts, and of the first
split_rest : (list : TypeList) (xs ys us vs : List ℕ) → length xs ≡ length ys → Pairs list (xs ++ us) (ys ++ vs) → Pairs list us vs
split_rest list [] [] us vs l p = p
split_rest list [] (y ∷ ys) us vs l p = absurd (let z : ⊥ = omega (arith, l) in z)
split_rest list (x ∷ xs) [] us vs l p = absurd (let z : ⊥ = omega (arith, l) in z)
split_rest list (x ∷ xs) (y ∷ ys) us vs l p = split_rest list xs ys us vs (omega (arith, l)) p.1

split_first : (list : TypeList) (xs ys us vs : List ℕ) → length xs ≡ length ys → Pairs list (xs ++ us) (ys ++ vs) → Pairs list xs ys
split_first list [] [] us vs l p = tt
split_first list [] (y ∷ ys) us vs l p = absurd (let z : ⊥ = omega (arith, l) in z)
split_first list (x ∷ xs) [] us vs l p = absurd (let z : ⊥ = omega (arith, l) in z)
split_first list (x ∷ xs) (y ∷ ys) us vs l p = (p.0, split_first list xs ys us vs (omega (arith, l)) p.1)

-- how many indices there are does not rest on which they are
val_count : (t : ValType) → length (val_names (rename_val nought t)) ≡ length (val_names t)
val_count V.I32 = refl
val_count V.I64 = refl
val_count (V.Ref r) = by r.heap
  where
    by : (h : HeapType) → length (Rattle.gu_rec.specs.Names.heap_names (rename_heap nought h)) ≡ length (Rattle.gu_rec.specs.Names.heap_names h)
    by (H.Abs k) = refl
    by (H.Idx x) = refl

storage_count : (s : Storage) → length (storage_names (rename_storage nought s)) ≡ length (storage_names s)
storage_count (S.Val t) = val_count t
storage_count S.I8 = refl
storage_count S.I16 = refl

flat_count : {X : Type 0} (names : X → List ℕ) (f : X → X) → ((x : X) → length (names (f x)) ≡ length (names x)) → (xs : List X) → length (flat_map names (map f xs)) ≡ length (flat_map names xs)
flat_count names f h [] = refl
flat_count names f h (x ∷ xs) = let a = length-append (names (f x)) (flat_map names (map f xs)) in let b = length-append (names x) (flat_map names xs) in let c = h x in let d = flat_count names f h xs in let z : length (names (f x) ++ flat_map names (map f xs)) ≡ length (names x ++ flat_map names xs) = omega (arith, a, b, c, d) in z

val_size : (t u : ValType) → rename_val nought t ≡ rename_val nought u → length (val_names t) ≡ length (val_names u)
val_size t u e = sym (val_count t) ∙ ap (λ v. length (val_names v)) e ∙ val_count u

vals_size : (ts us : List ValType) → map (rename_val nought) ts ≡ map (rename_val nought) us → length (flat_map val_names ts) ≡ length (flat_map val_names us)
vals_size ts us e = sym (flat_count val_names (rename_val nought) val_count ts) ∙ ap (λ v. length (flat_map val_names v)) e ∙ flat_count val_names (rename_val nought) val_count us

field_size : (f g : FieldType) → rename_field nought f ≡ rename_field nought g → length (field_names f) ≡ length (field_names g)
field_size f g e = sym (storage_count f.storage) ∙ ap (λ (v : FieldType). length (field_names v)) e ∙ storage_count g.storage

module _ (list : TypeList) (hold : IndicesHold list) where
  heap_twin : (a b : HeapType) → rename_heap nought a ≡ rename_heap nought b → Pairs list (Rattle.gu_rec.specs.Names.heap_names a) (Rattle.gu_rec.specs.Names.heap_names b) → (is_sub list a b ≡ true) × (is_sub list b a ≡ true)
  heap_twin (H.Abs k) (H.Abs l) e p = (subst (λ x. is_sub list (H.Abs k) x ≡ true) e (is_sub_complete list hold (itself (H.Abs k))), subst (λ x. is_sub list x (H.Abs k) ≡ true) e (is_sub_complete list hold (itself (H.Abs k))))
  heap_twin (H.Idx x) (H.Idx y) e p = (is_sub_complete list hold (same x y p.0), is_sub_complete list hold (same y x (flip list x y p.0)))
  heap_twin (H.Abs k) (H.Idx y) e p = absurd p
  heap_twin (H.Idx x) (H.Abs l) e p = absurd p

  abbrev ValTwin : ValType → ValType → Type 0
  ValTwin t u = (is_sub_val list t u ≡ true) × (is_sub_val list u t ≡ true)

  val_twin : (t u : ValType) → rename_val nought t ≡ rename_val nought u → Pairs list (val_names t) (val_names u) → ValTwin t u
  val_twin V.I32 V.I32 e p = (refl, refl)
  val_twin V.I64 V.I64 e p = (refl, refl)
  val_twin (V.Ref a) (V.Ref b) e p =
      let r : rename_heap nought a.heap ≡ rename_heap nought b.heap = ap (λ v. (ref_in a v).heap) e in
      let n : a.null ≡ b.null = ap (λ v. (ref_in a v).null) e in
      let h = heap_twin a.heap b.heap r p in
      (both_of (not a.null || b.null) (is_sub list a.heap b.heap) (implied a.null b.null n) h.0, both_of (not b.null || a.null) (is_sub list b.heap a.heap) (implied b.null a.null (sym n)) h.1)
  val_twin V.I32 V.I64 e p = absurd (let z : ⊥ = cc in z)
  val_twin V.I32 (V.Ref b) e p = absurd (let z : ⊥ = cc in z)
  val_twin V.I64 V.I32 e p = absurd (let z : ⊥ = cc in z)
  val_twin V.I64 (V.Ref b) e p = absurd (let z : ⊥ = cc in z)
  val_twin (V.Ref a) V.I32 e p = absurd (let z : ⊥ = cc in z)
  val_twin (V.Ref a) V.I64 e p = absurd (let z : ⊥ = cc in z)

  vals_twin : (ts us : List ValType) → map (rename_val nought) ts ≡ map (rename_val nought) us → Pairs list (flat_map val_names ts) (flat_map val_names us) → (pointwise (is_sub_val list) ts us ≡ true) × (pointwise (is_sub_val list) us ts ≡ true)
  vals_twin [] [] e p = (refl, refl)
  vals_twin [] (u ∷ us) e p = absurd (let z : ⊥ = cc in z)
  vals_twin (t ∷ ts) [] e p = absurd (let z : ⊥ = cc in z)
  vals_twin (t ∷ ts) (u ∷ us) e p =
      let a : rename_val nought t ≡ rename_val nought u = cc in
      let b : map (rename_val nought) ts ≡ map (rename_val nought) us = cc in
      let v = val_twin t u a (split_first list (val_names t) (val_names u) (flat_map val_names ts) (flat_map val_names us) (val_size t u a) p) in
      let w = vals_twin ts us b (split_rest list (val_names t) (val_names u) (flat_map val_names ts) (flat_map val_names us) (val_size t u a) p) in
      (both_of (is_sub_val list t u) (pointwise (is_sub_val list) ts us) v.0 w.0, both_of (is_sub_val list u t) (pointwise (is_sub_val list) us ts) v.1 w.1)

  storage_twin : (a b : Storage) → rename_storage nought a ≡ rename_storage nought b → Pairs list (storage_names a) (storage_names b) → (is_sub_storage list a b ≡ true) × (is_sub_storage list b a ≡ true)
  storage_twin (S.Val t) (S.Val u) e p = val_twin t u (let z : rename_val nought t ≡ rename_val nought u = cc in z) p
  storage_twin S.I8 S.I8 e p = (refl, refl)
  storage_twin S.I16 S.I16 e p = (refl, refl)
  storage_twin (S.Val t) S.I8 e p = absurd (let z : ⊥ = cc in z)
  storage_twin (S.Val t) S.I16 e p = absurd (let z : ⊥ = cc in z)
  storage_twin S.I8 (S.Val u) e p = absurd (let z : ⊥ = cc in z)
  storage_twin S.I8 S.I16 e p = absurd (let z : ⊥ = cc in z)
  storage_twin S.I16 (S.Val u) e p = absurd (let z : ⊥ = cc in z)
  storage_twin S.I16 S.I8 e p = absurd (let z : ⊥ = cc in z)

  stored_twin : (l m : Bool) (a b : Storage) → l ≡ m → is_sub_storage list a b ≡ true → is_sub_storage list b a ≡ true → is_sub_stored list l m a b ≡ true
  stored_twin false false a b e h k = h
  stored_twin true true a b e h k = both_of (is_sub_storage list a b) (is_sub_storage list b a) h k
  stored_twin true false a b e h k = absurd (true≢false e)
  stored_twin false true a b e h k = absurd (true≢false (sym e))

  field_twin : (f g : FieldType) → rename_field nought f ≡ rename_field nought g → Pairs list (field_names f) (field_names g) → is_sub_field list f g ≡ true
  field_twin f g e p = let s = storage_twin f.storage g.storage (ap (λ (x : FieldType). x.storage) e) p in stored_twin f.mutable g.mutable f.storage g.storage (ap (λ (x : FieldType). x.mutable) e) s.0 s.1

  fields_twin : (fs gs : List FieldType) → map (rename_field nought) fs ≡ map (rename_field nought) gs → Pairs list (flat_map field_names fs) (flat_map field_names gs) → has_fields list fs gs ≡ true
  fields_twin [] [] e p = refl
  fields_twin [] (g ∷ gs) e p = absurd (let z : ⊥ = cc in z)
  fields_twin (f ∷ fs) [] e p = refl
  fields_twin (f ∷ fs) (g ∷ gs) e p =
      let a : rename_field nought f ≡ rename_field nought g = cc in
      let b : map (rename_field nought) fs ≡ map (rename_field nought) gs = cc in
      both_of (is_sub_field list f g) (has_fields list fs gs)
      (field_twin f g a (split_first list (field_names f) (field_names g) (flat_map field_names fs) (flat_map field_names gs) (field_size f g a) p))
      (fields_twin fs gs b (split_rest list (field_names f) (field_names g) (flat_map field_names fs) (flat_map field_names gs) (field_size f g a) p))

  comp_twin : (a b : Comp) → rename_comp nought a ≡ rename_comp nought b → Pairs list (comp_names a) (comp_names b) → is_sub_comp list a b ≡ true
  comp_twin (C.Func ps rs) (C.Func qs ss) e p =
      let x : map (rename_val nought) ps ≡ map (rename_val nought) qs = cc in
      let y : map (rename_val nought) rs ≡ map (rename_val nought) ss = cc in
      let v = vals_twin ps qs x (split_first list (flat_map val_names ps) (flat_map val_names qs) (flat_map val_names rs) (flat_map val_names ss) (vals_size ps qs x) p) in
      let w = vals_twin rs ss y (split_rest list (flat_map val_names ps) (flat_map val_names qs) (flat_map val_names rs) (flat_map val_names ss) (vals_size ps qs x) p) in
      both_of (pointwise (is_sub_val list) qs ps) (pointwise (is_sub_val list) rs ss) v.1 w.0
  comp_twin (C.Struct fs) (C.Struct gs) e p = fields_twin fs gs (let z : map (rename_field nought) fs ≡ map (rename_field nought) gs = cc in z) p
  comp_twin (C.Array f) (C.Array g) e p = field_twin f g (let z : rename_field nought f ≡ rename_field nought g = cc in z) p
  comp_twin (C.Func ps rs) (C.Struct gs) e p = absurd (let z : ⊥ = cc in z)
  comp_twin (C.Func ps rs) (C.Array g) e p = absurd (let z : ⊥ = cc in z)
  comp_twin (C.Struct fs) (C.Func qs ss) e p = absurd (let z : ⊥ = cc in z)
  comp_twin (C.Struct fs) (C.Array g) e p = absurd (let z : ⊥ = cc in z)
  comp_twin (C.Array f) (C.Func qs ss) e p = absurd (let z : ⊥ = cc in z)
  comp_twin (C.Array f) (C.Struct gs) e p = absurd (let z : ⊥ = cc in z)

  pub same_comps : SameComps list
  same_comps i j one other s e f =
      let a = alike list hold i j one other s e f in
      let l : length one.supers ≡ length other.supers = sym (length-map one.supers nought) ∙ ap (λ (x : SubType). length x.supers) a.blanks ∙ length-map other.supers nought in
      comp_twin one.comp other.comp (ap (λ (x : SubType). x.comp) a.blanks) (split_rest list one.supers other.supers (comp_names one.comp) (comp_names other.comp) l a.pairs)
