-- Derived comparison and cloning of types: what is found equal, and what a clone is, is the same.
use Rattle.std.proofs.Common.{◌≡◌, true, ◌&&◌, List, [], ◌∷◌, refl, ap, nat_eq, rules}
use Rattle.std.specs.Bool.{beq}
use denote.Enum.Bare.{same_true}
use Rattle.gu_types.specs.contracts.types.Abs.{the_type}
use Rattle.gu_types.specs.declared.types.Abs.TheVariants as A
use Rattle.std.specs.List.{AllZip}
use Rattle.std.specs.Cmp.Lexicographic.{pointwise}
use Rattle.gu_types.specs.declared.types.Abs.{Abs}
use Rattle.gu_types.specs.declared.types.HeapType.{HeapType}
use Rattle.gu_types.specs.declared.types.HeapType.TheVariants as H
use Rattle.gu_types.specs.declared.types.RefType.{RefType}
use Rattle.gu_types.specs.declared.types.ValType.{ValType}
use Rattle.gu_types.specs.declared.types.ValType.TheVariants as V
use Rattle.gu_types.specs.declared.types.Storage.{Storage}
use Rattle.gu_types.specs.declared.types.Storage.TheVariants as S
use Rattle.gu_types.specs.declared.types.FieldType.{FieldType}
use Rattle.gu_types.specs.declared.types.Comp.{Comp}
use Rattle.gu_types.specs.declared.types.Comp.TheVariants as C
use Rattle.gu_types.specs.declared.types.SubType.{SubType}
use Rattle.gu_types.specs.declared.types.RecGroup.{RecGroup}
use Rattle.gu_types.specs.declared.types.TypeList.{TypeList}
use Rattle.gu_types.specs.contracts.types.AbsPartialEq.TheImpl as abs
use Rattle.gu_types.specs.contracts.types.HeapTypePartialEq.TheImpl as heap
use Rattle.gu_types.specs.contracts.types.RefTypePartialEq.TheImpl as reference
use Rattle.gu_types.specs.contracts.types.ValTypePartialEq.TheImpl as val
use Rattle.gu_types.specs.contracts.types.StoragePartialEq.TheImpl as storage
use Rattle.gu_types.specs.contracts.types.FieldTypePartialEq.TheImpl as field
use Rattle.gu_types.specs.contracts.types.CompClone.TheImpl as comp_clone
use Rattle.gu_types.specs.contracts.types.SubTypeClone.TheImpl as sub_clone
use Rattle.gu_types.specs.contracts.types.RecGroupClone.TheImpl as group_clone
use Rattle.gu_types.specs.contracts.types.TypeListClone.TheImpl as list_clone
use Rattle.gu_rec.specs.Alike.{alike_comps, alike_types, alike_lists}
use Rattle.gu_rec.proofs.Same.{Tells, lists_tell, left_of, right_of, both_of, bool_sound, bool_own, numbers_tell}

-- the derived tests find only equal things equal, and each thing equal to itself
abs_sound : (a b : Abs) → (abs.eq-value).it a b ≡ true → a ≡ b
abs_sound a b h = same_true the_type (search rules) a b h

abs_own : (a : Abs) → (abs.eq-value).it a a ≡ true
abs_own A.Any = refl
abs_own A.Eq = refl
abs_own A.I31 = refl
abs_own A.AnyStruct = refl
abs_own A.AnyArray = refl
abs_own A.Bot = refl
abs_own A.AnyFunc = refl
abs_own A.NoFunc = refl
abs_own A.Extern = refl
abs_own A.NoExtern = refl
abs_own A.Exn = refl
abs_own A.NoExn = refl

heap_sound : (a b : HeapType) → (heap.eq-value).it a b ≡ true → a ≡ b
heap_sound (H.Abs a) (H.Abs b) h = ap H.Abs (abs_sound a b h)
heap_sound (H.Abs a) (H.Idx j) h = cc
heap_sound (H.Idx i) (H.Abs b) h = cc
heap_sound (H.Idx i) (H.Idx j) h = ap H.Idx (numbers_tell.sound i j h)

heap_own : (a : HeapType) → (heap.eq-value).it a a ≡ true
heap_own (H.Abs a) = abs_own a
heap_own (H.Idx i) = numbers_tell.own i

reference_sound : (a b : RefType) → (reference.eq-value).it a b ≡ true → a ≡ b
reference_sound a b h = λ i. record { null = bool_sound a.null b.null (left_of (beq a.null b.null) ((heap.eq-value).it a.heap b.heap) h) i; heap = heap_sound a.heap b.heap (right_of (beq a.null b.null) ((heap.eq-value).it a.heap b.heap) h) i }

reference_own : (a : RefType) → (reference.eq-value).it a a ≡ true
reference_own a = both_of (beq a.null a.null) ((heap.eq-value).it a.heap a.heap) (bool_own a.null) (heap_own a.heap)

val_sound : (a b : ValType) → (val.eq-value).it a b ≡ true → a ≡ b
val_sound V.I32 V.I32 h = refl
val_sound V.I32 V.I64 h = cc
val_sound V.I32 (V.Ref b) h = cc
val_sound V.I64 V.I32 h = cc
val_sound V.I64 V.I64 h = refl
val_sound V.I64 (V.Ref b) h = cc
val_sound (V.Ref a) V.I32 h = cc
val_sound (V.Ref a) V.I64 h = cc
val_sound (V.Ref a) (V.Ref b) h = ap V.Ref (reference_sound a b h)

val_own : (a : ValType) → (val.eq-value).it a a ≡ true
val_own V.I32 = refl
val_own V.I64 = refl
val_own (V.Ref a) = reference_own a

vals_tell : Tells (val.eq-value).it
vals_tell = record { sound = val_sound; own = val_own }

storage_sound : (a b : Storage) → (storage.eq-value).it a b ≡ true → a ≡ b
storage_sound (S.Val a) (S.Val b) h = ap S.Val (val_sound a b h)
storage_sound (S.Val a) S.I8 h = cc
storage_sound (S.Val a) S.I16 h = cc
storage_sound S.I8 (S.Val b) h = cc
storage_sound S.I8 S.I8 h = refl
storage_sound S.I8 S.I16 h = cc
storage_sound S.I16 (S.Val b) h = cc
storage_sound S.I16 S.I8 h = cc
storage_sound S.I16 S.I16 h = refl

storage_own : (a : Storage) → (storage.eq-value).it a a ≡ true
storage_own (S.Val a) = val_own a
storage_own S.I8 = refl
storage_own S.I16 = refl

field_sound : (a b : FieldType) → (field.eq-value).it a b ≡ true → a ≡ b
field_sound a b h = λ i. record { storage = storage_sound a.storage b.storage (left_of ((storage.eq-value).it a.storage b.storage) (beq a.mutable b.mutable) h) i; mutable = bool_sound a.mutable b.mutable (right_of ((storage.eq-value).it a.storage b.storage) (beq a.mutable b.mutable) h) i }

field_own : (a : FieldType) → (field.eq-value).it a a ≡ true
field_own a = both_of ((storage.eq-value).it a.storage a.storage) (beq a.mutable a.mutable) (storage_own a.storage) (bool_own a.mutable)

fields_tell : Tells (field.eq-value).it
fields_tell = record { sound = field_sound; own = field_own }

comp_sound : (a b : Comp) → alike_comps a b ≡ true → a ≡ b
comp_sound (C.Func p r) (C.Func q s) h = λ i. C.Func ((lists_tell vals_tell).sound p q (left_of (pointwise (val.eq-value).it p q) (pointwise (val.eq-value).it r s) h) i) ((lists_tell vals_tell).sound r s (right_of (pointwise (val.eq-value).it p q) (pointwise (val.eq-value).it r s) h) i)
comp_sound (C.Func p r) (C.Struct g) h = cc
comp_sound (C.Func p r) (C.Array g) h = cc
comp_sound (C.Struct f) (C.Func q s) h = cc
comp_sound (C.Struct f) (C.Struct g) h = ap C.Struct ((lists_tell fields_tell).sound f g h)
comp_sound (C.Struct f) (C.Array g) h = cc
comp_sound (C.Array f) (C.Func q s) h = cc
comp_sound (C.Array f) (C.Struct g) h = cc
comp_sound (C.Array f) (C.Array g) h = ap C.Array (field_sound f g h)

comp_own : (a : Comp) → alike_comps a a ≡ true
comp_own (C.Func p r) = both_of (pointwise (val.eq-value).it p p) (pointwise (val.eq-value).it r r) ((lists_tell vals_tell).own p) ((lists_tell vals_tell).own r)
comp_own (C.Struct f) = (lists_tell fields_tell).own f
comp_own (C.Array f) = field_own f

sub_sound : (a b : SubType) → alike_types a b ≡ true → a ≡ b
sub_sound a b h =
    let rest : (pointwise nat_eq a.supers b.supers && alike_comps a.comp b.comp) ≡ true = right_of (beq a.is_final b.is_final) (pointwise nat_eq a.supers b.supers && alike_comps a.comp b.comp) h in
    λ i. record {
      is_final = bool_sound a.is_final b.is_final (left_of (beq a.is_final b.is_final) (pointwise nat_eq a.supers b.supers && alike_comps a.comp b.comp) h) i;
      supers = (lists_tell numbers_tell).sound a.supers b.supers (left_of (pointwise nat_eq a.supers b.supers) (alike_comps a.comp b.comp) rest) i;
      comp = comp_sound a.comp b.comp (right_of (pointwise nat_eq a.supers b.supers) (alike_comps a.comp b.comp) rest) i;
    }

sub_own : (a : SubType) → alike_types a a ≡ true
sub_own a =
    both_of (beq a.is_final a.is_final) (pointwise nat_eq a.supers a.supers && alike_comps a.comp a.comp) (bool_own a.is_final)
    (both_of (pointwise nat_eq a.supers a.supers) (alike_comps a.comp a.comp) ((lists_tell numbers_tell).own a.supers) (comp_own a.comp))

subs_tell : Tells alike_types
subs_tell = record { sound = sub_sound; own = sub_own }

-- the test on keys
pub keys_tell : Tells alike_lists
keys_tell = lists_tell subs_tell

zip_same : {X : Type 0} (R : X → X → Type 0) → ((x y : X) → R x y → y ≡ x) → (xs ys : List X) → AllZip R xs ys → ys ≡ xs
zip_same R same [] [] h = refl
zip_same R same [] (y ∷ ys) h = absurd h
zip_same R same (x ∷ xs) [] h = absurd h
zip_same R same (x ∷ xs) (y ∷ ys) h = λ i. same x y h.0 i ∷ zip_same R same xs ys h.1 i

comps_same : (a b : Comp) → (comp_clone.is_clone-value).it a b → b ≡ a
comps_same (C.Func p r) (C.Func q s) h = λ i. C.Func (zip_same _ (λ x y e. e) p q h.0 i) (zip_same _ (λ x y e. e) r s h.1 i)
comps_same (C.Func p r) (C.Struct g) h = absurd h
comps_same (C.Func p r) (C.Array g) h = absurd h
comps_same (C.Struct f) (C.Func q s) h = absurd h
comps_same (C.Struct f) (C.Struct g) h = ap C.Struct (zip_same _ (λ x y e. e) f g h)
comps_same (C.Struct f) (C.Array g) h = absurd h
comps_same (C.Array f) (C.Func q s) h = absurd h
comps_same (C.Array f) (C.Struct g) h = absurd h
comps_same (C.Array f) (C.Array g) h = ap C.Array h

subs_same : (a b : SubType) → (sub_clone.is_clone-value).it a b → b ≡ a
subs_same a b h = λ i. record { is_final = h.0 i; supers = zip_same _ (λ x y e. e) a.supers b.supers h.1.0 i; comp = comps_same a.comp b.comp h.1.1 i }

groups_same : (a b : RecGroup) → (group_clone.is_clone-value).it a b → b ≡ a
groups_same a b h = λ i. record { types = zip_same (sub_clone.is_clone-value).it subs_same a.types b.types h i }

pub lists_same : (a b : TypeList) → (list_clone.is_clone-value).it a b → b ≡ a
lists_same a b h = λ i. record { groups = zip_same (group_clone.is_clone-value).it groups_same a.groups b.groups h i }
