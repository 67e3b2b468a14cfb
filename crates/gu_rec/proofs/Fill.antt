-- A type is its blank and its indices in order: what it is with other indices in their place, read back.
use Rattle.std.proofs.Common.{◌≡◌, ℕ, zero, List, [], ◌∷◌, ◌++◌, map, flat_map, refl, ap, ap₂, sym, ◌∙◌, append_assoc, append-nil}
use Rattle.std.proofs.lemmas.List.{map-append}
use Rattle.gu_types.specs.declared.types.HeapType.{HeapType}
use Rattle.gu_types.specs.declared.types.HeapType.TheVariants as H
use Rattle.gu_types.specs.declared.types.ValType.{ValType}
use Rattle.gu_types.specs.declared.types.ValType.TheVariants as V
use Rattle.gu_types.specs.declared.types.Storage.{Storage}
use Rattle.gu_types.specs.declared.types.Storage.TheVariants as S
use Rattle.gu_types.specs.declared.types.FieldType.{FieldType}
use Rattle.gu_types.specs.declared.types.Comp.{Comp}
use Rattle.gu_types.specs.declared.types.Comp.TheVariants as C
use Rattle.gu_types.specs.declared.types.SubType.{SubType}
use Rattle.gu_rec.specs.Names.{heap_names, val_names, storage_names, field_names, comp_names, names, rename_heap, rename_val, rename_storage, rename_field, rename_comp, rename, blank}

-- renaming, the names, and a function that puts names in for the indices in order and gives the names that are left
pub record Named {X : Type 0} (ren : (ℕ → ℕ) → X → X) (nam : X → List ℕ) (fill : X → List ℕ → X × List ℕ) : Type 0 where
  pub filled : (f g : ℕ → ℕ) (x : X) (rest : List ℕ) → fill (ren g x) (map f (nam x) ++ rest) ≡ (ren f x, rest)
  pub named : (f : ℕ → ℕ) (x : X) → nam (ren f x) ≡ map f (nam x)
  pub twice : (f g : ℕ → ℕ) (x : X) → ren g (ren f x) ≡ ren (λ n. g (f n)) x

fill_list : {X : Type 0} → (X → List ℕ → X × List ℕ) → List X → List ℕ → List X × List ℕ
fill_list fill [] ns = ([], ns)
fill_list fill (x ∷ xs) ns = ((fill x ns).0 ∷ (fill_list fill xs (fill x ns).1).0, (fill_list fill xs (fill x ns).1).1)

split : (f : ℕ → ℕ) (xs ys rest : List ℕ) → map f (xs ++ ys) ++ rest ≡ map f xs ++ (map f ys ++ rest)
split f xs ys rest = ap (λ l. l ++ rest) (map-append f xs ys) ∙ append_assoc (map f xs) (map f ys) rest

module _ {X : Type 0} {ren : (ℕ → ℕ) → X → X} {nam : X → List ℕ} {fill : X → List ℕ → X × List ℕ} (law : Named ren nam fill) where
  list_filled : (f g : ℕ → ℕ) (xs : List X) (rest : List ℕ) → fill_list fill (map (ren g) xs) (map f (flat_map nam xs) ++ rest) ≡ (map (ren f) xs, rest)
  unfolding fill_list
  list_filled f g [] rest = refl
  list_filled f g (x ∷ xs) rest =
      ap (λ ns. fill_list fill (ren g x ∷ map (ren g) xs) ns) (split f (nam x) (flat_map nam xs) rest)
      ∙ (ap (λ p. (p.0 ∷ (fill_list fill (map (ren g) xs) p.1).0, (fill_list fill (map (ren g) xs) p.1).1)) (law.filled f g x (map f (flat_map nam xs) ++ rest))
      ∙ ap (λ q. (ren f x ∷ q.0, q.1)) (list_filled f g xs rest))

  list_named : (f : ℕ → ℕ) (xs : List X) → flat_map nam (map (ren f) xs) ≡ map f (flat_map nam xs)
  list_named f [] = refl
  list_named f (x ∷ xs) = ap₂ (λ a b. a ++ b) (law.named f x) (list_named f xs) ∙ sym (map-append f (nam x) (flat_map nam xs))

  list_twice : (f g : ℕ → ℕ) (xs : List X) → map (ren g) (map (ren f) xs) ≡ map (ren (λ n. g (f n))) xs
  list_twice f g [] = refl
  list_twice f g (x ∷ xs) = λ i. law.twice f g x i ∷ list_twice f g xs i

  lists_named : Named (λ f. map (ren f)) (flat_map nam) (fill_list fill)
  lists_named = record { filled = list_filled; named = list_named; twice = list_twice }

fill_index : ℕ → List ℕ → ℕ × List ℕ
fill_index i [] = (zero, [])
fill_index i (n ∷ ns) = (n, ns)

indices_filled : (f g : ℕ → ℕ) (xs rest : List ℕ) → fill_list fill_index (map g xs) (map f xs ++ rest) ≡ (map f xs, rest)
unfolding fill_list fill_index
indices_filled f g [] rest = refl
indices_filled f g (x ∷ xs) rest = ap (λ q. (f x ∷ q.0, q.1)) (indices_filled f g xs rest)

fill_heap : HeapType → List ℕ → HeapType × List ℕ
fill_heap (H.Abs kind) ns = (H.Abs kind, ns)
fill_heap (H.Idx i) [] = (H.Idx zero, [])
fill_heap (H.Idx i) (n ∷ ns) = (H.Idx n, ns)

heap_filled : (f g : ℕ → ℕ) (a : HeapType) (rest : List ℕ) → fill_heap (rename_heap g a) (map f (heap_names a) ++ rest) ≡ (rename_heap f a, rest)
unfolding fill_heap
heap_filled f g (H.Abs kind) rest = refl
heap_filled f g (H.Idx i) rest = refl

heap_named : (f : ℕ → ℕ) (a : HeapType) → heap_names (rename_heap f a) ≡ map f (heap_names a)
heap_named f (H.Abs kind) = refl
heap_named f (H.Idx i) = refl

heap_twice : (f g : ℕ → ℕ) (a : HeapType) → rename_heap g (rename_heap f a) ≡ rename_heap (λ n. g (f n)) a
heap_twice f g (H.Abs kind) = refl
heap_twice f g (H.Idx i) = refl

fill_val : ValType → List ℕ → ValType × List ℕ
fill_val V.I32 ns = (V.I32, ns)
fill_val V.I64 ns = (V.I64, ns)
fill_val (V.Ref r) ns = (V.Ref (record r { heap = (fill_heap r.heap ns).0 }), (fill_heap r.heap ns).1)

val_filled : (f g : ℕ → ℕ) (a : ValType) (rest : List ℕ) → fill_val (rename_val g a) (map f (val_names a) ++ rest) ≡ (rename_val f a, rest)
unfolding fill_val
val_filled f g V.I32 rest = refl
val_filled f g V.I64 rest = refl
val_filled f g (V.Ref r) rest = ap (λ p. (V.Ref (record r { heap = p.0 }), p.1)) (heap_filled f g r.heap rest)

val_named : (f : ℕ → ℕ) (a : ValType) → val_names (rename_val f a) ≡ map f (val_names a)
val_named f V.I32 = refl
val_named f V.I64 = refl
val_named f (V.Ref r) = heap_named f r.heap

val_twice : (f g : ℕ → ℕ) (a : ValType) → rename_val g (rename_val f a) ≡ rename_val (λ n. g (f n)) a
val_twice f g V.I32 = refl
val_twice f g V.I64 = refl
val_twice f g (V.Ref r) = ap (λ h. V.Ref (record r { heap = h })) (heap_twice f g r.heap)

vals : Named rename_val val_names fill_val
vals = record { filled = val_filled; named = val_named; twice = val_twice }

fill_storage : Storage → List ℕ → Storage × List ℕ
fill_storage (S.Val a) ns = (S.Val (fill_val a ns).0, (fill_val a ns).1)
fill_storage S.I8 ns = (S.I8, ns)
fill_storage S.I16 ns = (S.I16, ns)

fill_field : FieldType → List ℕ → FieldType × List ℕ
fill_field a ns = (record a { storage = (fill_storage a.storage ns).0 }, (fill_storage a.storage ns).1)

storage_filled : (f g : ℕ → ℕ) (a : Storage) (rest : List ℕ) → fill_storage (rename_storage g a) (map f (storage_names a) ++ rest) ≡ (rename_storage f a, rest)
unfolding fill_storage
storage_filled f g (S.Val a) rest = ap (λ p. (S.Val p.0, p.1)) (val_filled f g a rest)
storage_filled f g S.I8 rest = refl
storage_filled f g S.I16 rest = refl

storage_named : (f : ℕ → ℕ) (a : Storage) → storage_names (rename_storage f a) ≡ map f (storage_names a)
storage_named f (S.Val a) = val_named f a
storage_named f S.I8 = refl
storage_named f S.I16 = refl

storage_twice : (f g : ℕ → ℕ) (a : Storage) → rename_storage g (rename_storage f a) ≡ rename_storage (λ n. g (f n)) a
storage_twice f g (S.Val a) = ap S.Val (val_twice f g a)
storage_twice f g S.I8 = refl
storage_twice f g S.I16 = refl

fields : Named rename_field field_names fill_field
unfolding fill_field
fields = record {
  filled = λ f g a rest. ap (λ p. (record a { storage = p.0 }, p.1)) (storage_filled f g a.storage rest);
  named = λ f a. storage_named f a.storage;
  twice = λ f g a. ap (λ s. record a { storage = s }) (storage_twice f g a.storage);
}

fill_comp : Comp → List ℕ → Comp × List ℕ
fill_comp (C.Func ps rs) ns = (C.Func (fill_list fill_val ps ns).0 (fill_list fill_val rs (fill_list fill_val ps ns).1).0, (fill_list fill_val rs (fill_list fill_val ps ns).1).1)
fill_comp (C.Struct fs) ns = (C.Struct (fill_list fill_field fs ns).0, (fill_list fill_field fs ns).1)
fill_comp (C.Array f) ns = (C.Array (fill_field f ns).0, (fill_field f ns).1)

comp_filled : (f g : ℕ → ℕ) (a : Comp) (rest : List ℕ) → fill_comp (rename_comp g a) (map f (comp_names a) ++ rest) ≡ (rename_comp f a, rest)
unfolding fill_comp
comp_filled f g (C.Func ps rs) rest =
    ap (fill_comp (rename_comp g (C.Func ps rs))) (split f (flat_map val_names ps) (flat_map val_names rs) rest)
    ∙ (ap (λ p. (C.Func p.0 (fill_list fill_val (map (rename_val g) rs) p.1).0, (fill_list fill_val (map (rename_val g) rs) p.1).1)) (list_filled vals f g ps (map f (flat_map val_names rs) ++ rest))
    ∙ ap (λ q. (C.Func (map (rename_val f) ps) q.0, q.1)) (list_filled vals f g rs rest))
comp_filled f g (C.Struct fs) rest = ap (λ q. (C.Struct q.0, q.1)) (list_filled fields f g fs rest)
comp_filled f g (C.Array a) rest = ap (λ q. (C.Array q.0, q.1)) (fields.filled f g a rest)

comp_named : (f : ℕ → ℕ) (a : Comp) → comp_names (rename_comp f a) ≡ map f (comp_names a)
comp_named f (C.Func ps rs) = ap₂ (λ a b. a ++ b) (list_named vals f ps) (list_named vals f rs) ∙ sym (map-append f (flat_map val_names ps) (flat_map val_names rs))
comp_named f (C.Struct fs) = list_named fields f fs
comp_named f (C.Array a) = fields.named f a

comp_twice : (f g : ℕ → ℕ) (a : Comp) → rename_comp g (rename_comp f a) ≡ rename_comp (λ n. g (f n)) a
comp_twice f g (C.Func ps rs) = ap₂ C.Func (list_twice vals f g ps) (list_twice vals f g rs)
comp_twice f g (C.Struct fs) = ap C.Struct (list_twice fields f g fs)
comp_twice f g (C.Array a) = ap C.Array (fields.twice f g a)

map_twice : (f g : ℕ → ℕ) (xs : List ℕ) → map g (map f xs) ≡ map (λ n. g (f n)) xs
map_twice f g [] = refl
map_twice f g (x ∷ xs) = ap (λ l. g (f x) ∷ l) (map_twice f g xs)

fill : SubType → List ℕ → SubType
fill a ns = record a { supers = (fill_list fill_index a.supers ns).0; comp = (fill_comp a.comp (fill_list fill_index a.supers ns).1).0 }

filled : (f g : ℕ → ℕ) (a : SubType) → fill (rename g a) (map f (names a)) ≡ rename f a
unfolding fill
filled f g a =
    ap (fill (rename g a)) (sym (append-nil (map f (names a))) ∙ split f a.supers (comp_names a.comp) [])
    ∙ (ap (λ p. let b : SubType = record a { supers = p.0; comp = (fill_comp (rename_comp g a.comp) p.1).0 } in b) (indices_filled f g a.supers (map f (comp_names a.comp) ++ []))
    ∙ ap (λ q. let b : SubType = record a { supers = map f a.supers; comp = q.0 } in b) (comp_filled f g a.comp []))

-- the names of a renamed type
pub names-rename : (f : ℕ → ℕ) (a : SubType) → names (rename f a) ≡ map f (names a)
names-rename f a = ap (λ l. map f a.supers ++ l) (comp_named f a.comp) ∙ sym (map-append f a.supers (comp_names a.comp))

-- what is left of a renamed type beside its indices
pub blank-rename : (f : ℕ → ℕ) (a : SubType) → blank (rename f a) ≡ blank a
blank-rename f a = λ i. record { is_final = a.is_final; supers = map_twice f (λ _. zero) a.supers i; comp = comp_twice f (λ _. zero) a.comp i }

-- two types are renamed alike where they are alike beside their indices, and these are renamed alike
pub same_renamed : (f g : ℕ → ℕ) (a b : SubType) → blank a ≡ blank b → map f (names a) ≡ map g (names b) → rename f a ≡ rename g b
same_renamed f g a b e n = sym (filled f (λ _. zero) a) ∙ (ap₂ fill e n ∙ filled g (λ _. zero) b)
