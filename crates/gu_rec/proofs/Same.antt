-- The tests of specs/Tests are true exactly where what they compare is equal.
use Rattle.std.proofs.Common.{◌≡◌, ℕ, Bool, true, false, ◌&&◌, List, [], ◌∷◌, get_or, Option, Some, None, refl, ap, sym, ◌∙◌, subst, Decides, eqb-true, eq-eqb, true≢false, nat_eq}
use Rattle.std.specs.Bool.{beq}
use Rattle.std.specs.Cmp.Lexicographic.{pointwise}
use Rattle.gu_types.specs.declared.types.Abs.{Abs}
use Rattle.gu_types.specs.declared.types.Abs.TheVariants as A
use Rattle.gu_types.specs.declared.types.HeapType.{HeapType}
use Rattle.gu_types.specs.declared.types.HeapType.TheVariants as H
use Rattle.gu_types.specs.declared.types.RefType.{RefType}
use Rattle.gu_types.specs.declared.types.ValType.{ValType}
use Rattle.gu_types.specs.declared.types.ValType.TheVariants as V
use Rattle.gu_types.specs.declared.types.Storage.{Storage}
use Rattle.gu_types.specs.declared.types.Storage.TheVariants as S
use Rattle.gu_types.specs.declared.types.FieldType.{FieldType}
use Rattle.gu_types.specs.declared.types.Comp.{Comp}
use Rattle.gu_types.specs.declared.types.Comp.TheVariants as C
use Rattle.gu_types.specs.declared.types.SubType.{SubType}
use Rattle.gu_types.specs.declared.types.TypeList.{TypeList}
use Rattle.gu_rec.specs.Closed.{ClosedGroup, done, entry, References, none, inside, outside, Closed, SameType, closed_type}
use Rattle.gu_rec.specs.Tests.{abs_number, eq_abs, eq_heap, eq_ref, eq_val, eq_storage, eq_field, eq_comp, eq_sub, eq_group, eq_references, eq_closed, eq_found, same_type}

pub left_of : (s t : Bool) → (s && t) ≡ true → s ≡ true
left_of true t h = refl
left_of false t h = h

pub right_of : (s t : Bool) → (s && t) ≡ true → t ≡ true
right_of true t h = h
right_of false t h = absurd (true≢false (sym h))

pub both_of : (s t : Bool) → s ≡ true → t ≡ true → (s && t) ≡ true
both_of s t h k = λ i. h i && k i

-- a test that finds only equal things equal, and each thing equal to itself
pub record Tells {X : Type 0} (test : X → X → Bool) : Type 0 where
  pub sound : (x y : X) → test x y ≡ true → x ≡ y
  pub own : (x : X) → test x x ≡ true

pub tells_decides : {X : Type 0} {test : X → X → Bool} → Tells test → (x y : X) → Decides (test x y) (x ≡ y)
tells_decides {X} {test} tells x y = (tells.sound x y, λ e. subst (λ z. test x z ≡ true) e (tells.own x))

lists_sound : {X : Type 0} {test : X → X → Bool} → Tells test → (xs ys : List X) → pointwise test xs ys ≡ true → xs ≡ ys
lists_sound tells [] [] h = refl
lists_sound tells [] (y ∷ ys) h = cc
lists_sound tells (x ∷ xs) [] h = cc
lists_sound {X} {test} tells (x ∷ xs) (y ∷ ys) h = λ i. tells.sound x y (left_of (test x y) (pointwise test xs ys) h) i ∷ lists_sound tells xs ys (right_of (test x y) (pointwise test xs ys) h) i

lists_own : {X : Type 0} {test : X → X → Bool} → Tells test → (xs : List X) → pointwise test xs xs ≡ true
lists_own tells [] = refl
lists_own {X} {test} tells (x ∷ xs) = both_of (test x x) (pointwise test xs xs) (tells.own x) (lists_own tells xs)

pub lists_tell : {X : Type 0} {test : X → X → Bool} → Tells test → Tells (pointwise test)
lists_tell tells = record { sound = lists_sound tells; own = lists_own tells }

pub bool_sound : (x y : Bool) → beq x y ≡ true → x ≡ y
bool_sound true true h = refl
bool_sound true false h = cc
bool_sound false true h = cc
bool_sound false false h = refl

pub bool_own : (x : Bool) → beq x x ≡ true
bool_own true = refl
bool_own false = refl

pub numbers_tell : Tells nat_eq
numbers_tell = record { sound = λ x y h. eqb-true x y h; own = λ x. eq-eqb x x refl }

abbrev all_abs : List Abs
all_abs = A.Any ∷ A.Eq ∷ A.I31 ∷ A.AnyStruct ∷ A.AnyArray ∷ A.Bot ∷ A.AnyFunc ∷ A.NoFunc ∷ A.Extern ∷ A.NoExtern ∷ A.Exn ∷ A.NoExn ∷ []

abs_again : (a : Abs) → get_or all_abs (abs_number a) A.Any ≡ a
abs_again A.Any = refl
abs_again A.Eq = refl
abs_again A.I31 = refl
abs_again A.AnyStruct = refl
abs_again A.AnyArray = refl
abs_again A.Bot = refl
abs_again A.AnyFunc = refl
abs_again A.NoFunc = refl
abs_again A.Extern = refl
abs_again A.NoExtern = refl
abs_again A.Exn = refl
abs_again A.NoExn = refl

abs_sound : (a b : Abs) → eq_abs a b ≡ true → a ≡ b
abs_sound a b h = sym (abs_again a) ∙ (ap (λ n. get_or all_abs n A.Any) (numbers_tell.sound (abs_number a) (abs_number b) h) ∙ abs_again b)

pub abs_tell : Tells eq_abs
abs_tell = record { sound = abs_sound; own = λ a. numbers_tell.own (abs_number a) }

heap_sound : (a b : HeapType) → eq_heap a b ≡ true → a ≡ b
heap_sound (H.Abs a) (H.Abs b) h = ap H.Abs (abs_sound a b h)
heap_sound (H.Abs a) (H.Idx j) h = cc
heap_sound (H.Idx i) (H.Abs b) h = cc
heap_sound (H.Idx i) (H.Idx j) h = ap H.Idx (numbers_tell.sound i j h)

heap_own : (a : HeapType) → eq_heap a a ≡ true
heap_own (H.Abs a) = abs_tell.own a
heap_own (H.Idx i) = numbers_tell.own i

ref_sound : (a b : RefType) → eq_ref a b ≡ true → a ≡ b
ref_sound a b h = λ i. record { null = bool_sound a.null b.null (left_of (beq a.null b.null) (eq_heap a.heap b.heap) h) i; heap = heap_sound a.heap b.heap (right_of (beq a.null b.null) (eq_heap a.heap b.heap) h) i }

ref_own : (a : RefType) → eq_ref a a ≡ true
ref_own a = both_of (beq a.null a.null) (eq_heap a.heap a.heap) (bool_own a.null) (heap_own a.heap)

val_sound : (a b : ValType) → eq_val a b ≡ true → a ≡ b
val_sound V.I32 V.I32 h = refl
val_sound V.I32 V.I64 h = cc
val_sound V.I32 (V.Ref b) h = cc
val_sound V.I64 V.I32 h = cc
val_sound V.I64 V.I64 h = refl
val_sound V.I64 (V.Ref b) h = cc
val_sound (V.Ref a) V.I32 h = cc
val_sound (V.Ref a) V.I64 h = cc
val_sound (V.Ref a) (V.Ref b) h = ap V.Ref (ref_sound a b h)

val_own : (a : ValType) → eq_val a a ≡ true
val_own V.I32 = refl
val_own V.I64 = refl
val_own (V.Ref a) = ref_own a

pub vals_tell : Tells eq_val
vals_tell = record { sound = val_sound; own = val_own }

storage_sound : (a b : Storage) → eq_storage a b ≡ true → a ≡ b
storage_sound (S.Val a) (S.Val b) h = ap S.Val (val_sound a b h)
storage_sound (S.Val a) S.I8 h = cc
storage_sound (S.Val a) S.I16 h = cc
storage_sound S.I8 (S.Val b) h = cc
storage_sound S.I8 S.I8 h = refl
storage_sound S.I8 S.I16 h = cc
storage_sound S.I16 (S.Val b) h = cc
storage_sound S.I16 S.I8 h = cc
storage_sound S.I16 S.I16 h = refl

storage_own : (a : Storage) → eq_storage a a ≡ true
storage_own (S.Val a) = val_own a
storage_own S.I8 = refl
storage_own S.I16 = refl

field_sound : (a b : FieldType) → eq_field a b ≡ true → a ≡ b
field_sound a b h = λ i. record { storage = storage_sound a.storage b.storage (left_of (eq_storage a.storage b.storage) (beq a.mutable b.mutable) h) i; mutable = bool_sound a.mutable b.mutable (right_of (eq_storage a.storage b.storage) (beq a.mutable b.mutable) h) i }

pub fields_tell : Tells eq_field
fields_tell = record { sound = field_sound; own = λ a. both_of (eq_storage a.storage a.storage) (beq a.mutable a.mutable) (storage_own a.storage) (bool_own a.mutable) }

comp_sound : (a b : Comp) → eq_comp a b ≡ true → a ≡ b
comp_sound (C.Func p r) (C.Func q s) h = λ i. C.Func (lists_sound vals_tell p q (left_of (pointwise eq_val p q) (pointwise eq_val r s) h) i) (lists_sound vals_tell r s (right_of (pointwise eq_val p q) (pointwise eq_val r s) h) i)
comp_sound (C.Func p r) (C.Struct g) h = cc
comp_sound (C.Func p r) (C.Array g) h = cc
comp_sound (C.Struct f) (C.Func q s) h = cc
comp_sound (C.Struct f) (C.Struct g) h = ap C.Struct (lists_sound fields_tell f g h)
comp_sound (C.Struct f) (C.Array g) h = cc
comp_sound (C.Array f) (C.Func q s) h = cc
comp_sound (C.Array f) (C.Struct g) h = cc
comp_sound (C.Array f) (C.Array g) h = ap C.Array (field_sound f g h)

comp_own : (a : Comp) → eq_comp a a ≡ true
comp_own (C.Func p r) = both_of (pointwise eq_val p p) (pointwise eq_val r r) (lists_own vals_tell p) (lists_own vals_tell r)
comp_own (C.Struct f) = lists_own fields_tell f
comp_own (C.Array f) = fields_tell.own f

sub_sound : (a b : SubType) → eq_sub a b ≡ true → a ≡ b
unfolding eq_sub
sub_sound a b h =
    let rest : (pointwise nat_eq a.supers b.supers && eq_comp a.comp b.comp) ≡ true = right_of (beq a.is_final b.is_final) (pointwise nat_eq a.supers b.supers && eq_comp a.comp b.comp) h in
    λ i. record {
      is_final = bool_sound a.is_final b.is_final (left_of (beq a.is_final b.is_final) (pointwise nat_eq a.supers b.supers && eq_comp a.comp b.comp) h) i;
      supers = lists_sound numbers_tell a.supers b.supers (left_of (pointwise nat_eq a.supers b.supers) (eq_comp a.comp b.comp) rest) i;
      comp = comp_sound a.comp b.comp (right_of (pointwise nat_eq a.supers b.supers) (eq_comp a.comp b.comp) rest) i;
    }

sub_own : (a : SubType) → eq_sub a a ≡ true
unfolding eq_sub
sub_own a =
    both_of (beq a.is_final a.is_final) (pointwise nat_eq a.supers a.supers && eq_comp a.comp a.comp) (bool_own a.is_final)
    (both_of (pointwise nat_eq a.supers a.supers) (eq_comp a.comp a.comp) (lists_own numbers_tell a.supers) (comp_own a.comp))

pub subs_tell : Tells eq_sub
subs_tell = record { sound = sub_sound; own = sub_own }

mutual
  unfolding eq_group

  group_sound : (g h : ClosedGroup) → eq_group g h ≡ true → g ≡ h
  group_sound done done e = refl
  group_sound done (entry b s h) e = cc
  group_sound (entry a r g) done e = cc
  group_sound (entry a r g) (entry b s h) e =
      let rest : (eq_references r s && eq_group g h) ≡ true = right_of (eq_sub a b) (eq_references r s && eq_group g h) e in
      λ i. entry (sub_sound a b (left_of (eq_sub a b) (eq_references r s && eq_group g h) e) i) (references_sound r s (left_of (eq_references r s) (eq_group g h) rest) i) (group_sound g h (right_of (eq_references r s) (eq_group g h) rest) i)

  references_sound : (r s : References) → eq_references r s ≡ true → r ≡ s
  references_sound none none e = refl
  references_sound none (inside l s) e = cc
  references_sound none (outside h l s) e = cc
  references_sound (inside k r) none e = cc
  references_sound (inside k r) (inside l s) e = λ i. inside (numbers_tell.sound k l (left_of (nat_eq k l) (eq_references r s) e) i) (references_sound r s (right_of (nat_eq k l) (eq_references r s) e) i)
  references_sound (inside k r) (outside h l s) e = cc
  references_sound (outside g k r) none e = cc
  references_sound (outside g k r) (inside l s) e = cc
  references_sound (outside g k r) (outside h l s) e =
      let rest : (nat_eq k l && eq_references r s) ≡ true = right_of (eq_group g h) (nat_eq k l && eq_references r s) e in
      λ i. outside (group_sound g h (left_of (eq_group g h) (nat_eq k l && eq_references r s) e) i) (numbers_tell.sound k l (left_of (nat_eq k l) (eq_references r s) rest) i) (references_sound r s (right_of (nat_eq k l) (eq_references r s) rest) i)

mutual
  unfolding eq_group

  group_own : (g : ClosedGroup) → eq_group g g ≡ true
  group_own done = refl
  group_own (entry a r g) = both_of (eq_sub a a) (eq_references r r && eq_group g g) (sub_own a) (both_of (eq_references r r) (eq_group g g) (references_own r) (group_own g))

  references_own : (r : References) → eq_references r r ≡ true
  references_own none = refl
  references_own (inside k r) = both_of (nat_eq k k) (eq_references r r) (numbers_tell.own k) (references_own r)
  references_own (outside g k r) = both_of (eq_group g g) (nat_eq k k && eq_references r r) (group_own g) (both_of (nat_eq k k) (eq_references r r) (numbers_tell.own k) (references_own r))

closed_sound : (c d : Closed) → eq_closed c d ≡ true → c ≡ d
closed_sound c d h = λ i. record { group = group_sound c.group d.group (left_of (eq_group c.group d.group) (nat_eq c.position d.position) h) i; position = numbers_tell.sound c.position d.position (right_of (eq_group c.group d.group) (nat_eq c.position d.position) h) i }

closed_own : (c : Closed) → eq_closed c c ≡ true
closed_own c = both_of (eq_group c.group c.group) (nat_eq c.position c.position) (group_own c.group) (numbers_tell.own c.position)

pub closed_tell : Tells eq_closed
closed_tell = record { sound = closed_sound; own = closed_own }

found_sound : (c d : Option Closed) → eq_found c d ≡ true → c ≡ d
found_sound None None h = refl
found_sound None (Some d) h = cc
found_sound (Some c) None h = cc
found_sound (Some c) (Some d) h = ap (λ x. Some x) (closed_sound c d h)

found_own : (c : Option Closed) → eq_found c c ≡ true
found_own None = refl
found_own (Some c) = closed_own c

pub found_tell : Tells eq_found
found_tell = record { sound = found_sound; own = found_own }

pub same_type_decides : (one other : TypeList) (i j : ℕ) → Decides (same_type one i other j) (SameType one i other j)
unfolding same_type SameType
same_type_decides one other i j = tells_decides found_tell (closed_type one i) (closed_type other j)
