-- The encoding of a module of the whole format spells it.
use Rattle.std.proofs.Common.{ℕ, zero, suc, ◌+◌, ◌/◌, ◌%◌, ◌≤◌, ◌<◌, List, [], ◌∷◌, ◌++◌, ◌≡◌, refl, ap, ◌∙◌, sym, subst, length, arith, nat_eq, nat_lt, Bool, true, false, cond, ◌⊎◌, inl, inr, Option, Some, None, ℤ, pos, length-append}
use Rattle.std.specs.List.{AllByRecursion}
use Rattle.std.proofs.lemmas.Bool.{cases_Bool, cond-true, cond-false}
use Rattle.std.proofs.lemmas.Int.{ints}
use Rattle.gu_bytes.specs.Numbers.{IsSigned, FitsBits, shortest, least_unsigned, least_signed}
use Rattle.gu_bytes.proofs.LeastUnsigned.{least_unsigned_spells}
use Rattle.gu_bytes.proofs.LeastSigned.{least_signed_spells}
use Rattle.gu_bytes.proofs.Unsigned.{unsigned_bytes}
use Rattle.gu_bytes.proofs.Signed.{signed_bytes}
use Rattle.gu_types.specs.declared.types.HeapType.{HeapType}
use Rattle.gu_types.specs.declared.types.HeapType.TheVariants as H
use Rattle.gu_types.specs.declared.types.RefType.{RefType}
use Rattle.gu_types.specs.declared.types.ValType.{ValType}
use Rattle.gu_types.specs.declared.types.ValType.TheVariants as V
use Rattle.gu_types.specs.declared.types.Storage.{Storage}
use Rattle.gu_types.specs.declared.types.Storage.TheVariants as S
use Rattle.gu_types.specs.declared.types.FieldType.{FieldType}
use Rattle.gu_types.specs.declared.types.Comp.{Comp}
use Rattle.gu_types.specs.declared.types.Comp.TheVariants as C
use Rattle.gu_types.specs.declared.types.SubType.{SubType}
use Rattle.gu_types.specs.declared.types.RecGroup.{RecGroup}
use Rattle.gu_optab.specs.declared.op.NumOp.{NumOp}
use Rattle.gu_optab.specs.Operators.{row_at, operator_with}
use Rattle.gu_optab.proofs.Rows.{distinct}
use Rattle.gu_syntax.specs.Code.{Ins, Code, leaf, block, loop, choice, try_table, done, next, code_of}
use Rattle.gu_syntax.specs.Parts.{Parts, Begins, Sized, SpellsU32, SpellsItems, SpellsVector, SpellsS33, Numbered}
use Rattle.gu_syntax.specs.Encoding.{encode_items, encode_vector, sized, encode_heap, encode_ref_as, encode_ref, encode_val, encode_mutable, encode_storage, encode_field, encode_comp, encode_sub_as, encode_sub, encode_subs, encode_group, encode_range, encode_limits, encode_block_type, encode_catch, encode_mem_arg, encode_cast, or_null, prefixed, two, encode_leaf, encode_until, encode_ins, encode_body}
use Rattle.gu_syntax.specs.Shape.{FitsU32, IfSome, IsShapedHeap, IsShapedRef, IsShapedVal, IsShapedStorage, IsShapedField, IsShapedComp, IsShapedSub, IsShapedGroup, IsShapedLimits, IsShapedBlockType, IsShapedCatch, IsShapedMemArg, IsShapedLeaf, IsShapedCode, IsShapedIns, IsShapedBody}
use Rattle.gu_syntax.specs.declared.instr.BlockType.{BlockType}
use Rattle.gu_syntax.specs.declared.instr.BlockType.TheVariants as B
use Rattle.gu_syntax.specs.declared.instr.Body.{Body}
use Rattle.gu_syntax.specs.declared.instr.Catch.{Catch}
use Rattle.gu_syntax.specs.declared.instr.Catch.TheVariants as T
use Rattle.gu_syntax.specs.declared.instr.MemArg.{MemArg}
use Rattle.gu_syntax.specs.declared.instr.Instr.{Instr}
use Rattle.gu_syntax.specs.declared.instr.Instr.TheVariants as I
use Rattle.gu_syntax.proofs.Takes.{is_eq}
use Rattle.gu_syntax.specs.declared.module.Limits.{Limits}
use Rattle.gu_syntax.specs.Types.{abs_byte, final_byte, mutability, SpellsHeap, SpellsRef, SpellsVal, SpellsMutable, SpellsStorage, SpellsField, SpellsComp, SpellsSub, SpellsGroup, SpellsRange, SpellsLimits}
use Rattle.gu_syntax.specs.declared.instr.CastBranch.{CastBranch}
use Rattle.gu_syntax.specs.Instructions.{SpellsBlockType, SpellsCatch, SpellsMemArg, cast_flags, SpellsCast, Form, Alone, Index, Pair, Labels, Const32, Const64, Access, Heap, Types, Cast, Unknown, SpellsForm, row_or, form_of, operator_form, plain_rows, aggregate_rows, bulk_rows, SpellsLeaf}
use Rattle.gu_syntax.specs.Expressions.{SpellsUntil, SpellsIns, SpellsBody}

-- texts of so many bytes are written
abbrev pub most : ℕ
most = 268435456

-- a text that is not empty, and that P takes where it is short enough to be written
pub record Fine (P : List ℕ → Type 0) (text : List ℕ) : Type 0 where
  pub spells : length text ≤ most → P text
  pub long : 0 < length text

pub fine_as : (P Q : List ℕ → Type 0) (text : List ℕ) → (P text → Q text) → Fine P text → Fine Q text
fine_as P Q text f h = record { spells = λ room. f (h.spells room); long = h.long }

pub fine_parts : (P Q : List ℕ → Type 0) (a b : List ℕ) → Fine P a → Fine Q b → Fine (Parts P Q) (a ++ b)
fine_parts P Q a b f g =
    let both = length-append a b in
    record {
      spells = λ room. record { front = a; back = b; whole = refl; first = f.spells (omega (arith, room, both)); second = g.spells (omega (arith, room, both)) };
      long = (let l = f.long in omega (arith, l, both));
    }

pub fine_begins : (byte : ℕ) (Q : List ℕ → Type 0) (b : List ℕ) → Fine Q b → Fine (Begins byte Q) (byte ∷ b)
fine_begins byte Q b g = record { spells = λ room. record { back = b; whole = refl; rest = g.spells (omega (arith, room)) }; long = omega arith }

pub fine_byte : (P : List ℕ → Type 0) (byte : ℕ) → P (byte ∷ []) → Fine P (byte ∷ [])
fine_byte P byte h = record { spells = λ room. h; long = omega arith }

u32_spelled : (n : ℕ) → FitsU32 n → SpellsU32 n (least_unsigned n)
u32_spelled n h = least_unsigned_spells 32 n (omega arith) h

pub fine_u32 : (n : ℕ) → FitsU32 n → Fine (SpellsU32 n) (least_unsigned n)
fine_u32 n h = let s = u32_spelled n h in record { spells = λ room. s; long = (unsigned_bytes 32 (least_unsigned n) n s).1 }

fine_signed : (bits : ℕ) (z : ℤ) → 1 ≤ bits → bits ≤ 70 → FitsBits bits z → Fine (λ text. IsSigned bits text z) (least_signed z)
fine_signed bits z low high h = let s = least_signed_spells bits z low high h in record { spells = λ room. s; long = (signed_bytes bits (least_signed z) z s).1 }

natural_fits : (n : ℕ) → FitsU32 n → FitsBits 33 (pos n)
natural_fits n h = (omega (arith, ints, h), omega (arith, ints, h))

fine_s33 : (n : ℕ) → FitsU32 n → Fine (SpellsS33 n) (least_signed (pos n))
fine_s33 n h = fine_signed 33 (pos n) (omega arith) (omega arith) (natural_fits n h)

-- a small number before others
pub fine_numbered : (n : ℕ) (Q : List ℕ → Type 0) (b : List ℕ) → n < 128 → Fine Q b → Fine (Numbered n Q) (n ∷ b)
fine_numbered n Q b small g = record {
  spells = λ room. record { front = n ∷ []; back = b; whole = refl; first = (small, omega (arith, small), refl); second = g.spells (omega (arith, room)) };
  long = omega arith;
}

items_spelled : {X : Type 0} (P : X → List ℕ → Type 0) (encode : X → List ℕ) (A : X → Type 0) → ((x : X) → A x → Fine (P x) (encode x)) → (xs : List X) → AllByRecursion A xs → length (encode_items encode xs) ≤ most → SpellsItems P xs (encode_items encode xs)
items_spelled P encode A f [] a room = refl
items_spelled P encode A f (x ∷ xs) a room =
    let both = length-append (encode x) (encode_items encode xs) in
    record { front = encode x; back = encode_items encode xs; whole = refl; first = (f x a.0).spells (omega (arith, room, both)); second = items_spelled P encode A f xs a.1 (omega (arith, room, both)) }

pub items_many : {X : Type 0} (P : X → List ℕ → Type 0) (encode : X → List ℕ) (A : X → Type 0) → ((x : X) → A x → Fine (P x) (encode x)) → (xs : List X) → AllByRecursion A xs → length xs ≤ length (encode_items encode xs)
items_many P encode A f [] a = omega arith
items_many P encode A f (x ∷ xs) a =
    let more = items_many P encode A f xs a.1 in
    let one = (f x a.0).long in
    omega (arith, one, more, length-append (encode x) (encode_items encode xs))

pub count_long : (n : ℕ) → 0 < length (least_unsigned n)
unfolding least_unsigned
count_long n = elim (cases_Bool (nat_lt n 128)) [
  | inl is ↦ (let e = cond-true (nat_lt n 128) (n ∷ []) ((n % 128 + 128) ∷ shortest 8 (n / 128)) is in omega (arith, ap length e))
  | inr isnt ↦ (let e = cond-false (nat_lt n 128) (n ∷ []) ((n % 128 + 128) ∷ shortest 8 (n / 128)) isnt in omega (arith, ap length e))
]

pub fine_vector : {X : Type 0} (P : X → List ℕ → Type 0) (encode : X → List ℕ) (A : X → Type 0) → ((x : X) → A x → Fine (P x) (encode x)) → (xs : List X) → AllByRecursion A xs → Fine (SpellsVector P xs) (encode_vector encode xs)
fine_vector P encode A f xs a =
    let both = length-append (least_unsigned (length xs)) (encode_items encode xs) in
    let many = items_many P encode A f xs a in
    record {
      spells = λ room. record { front = least_unsigned (length xs); back = encode_items encode xs; whole = refl; first = u32_spelled (length xs) (omega (arith, room, both, many)); second = items_spelled P encode A f xs a (omega (arith, room, both)) };
      long = (let l = count_long (length xs) in omega (arith, l, both));
    }

pub fine_sized : (P : List ℕ → Type 0) (content : List ℕ) → (length content ≤ most → P content) → Fine (Sized P) (sized content)
fine_sized P content f =
    let both = length-append (least_unsigned (length content)) content in
    record {
      spells = λ room. (let fits : length content ≤ most = omega (arith, room, both) in record { size = least_unsigned (length content); content = content; whole = refl; counts = u32_spelled (length content) (omega (arith, fits)); inside = f fits });
      long = (let l = count_long (length content) in omega (arith, l, both));
    }

pub fine_indices : (xs : List ℕ) → AllByRecursion FitsU32 xs → Fine (SpellsVector SpellsU32 xs) (encode_vector least_unsigned xs)
fine_indices xs a = fine_vector SpellsU32 least_unsigned FitsU32 fine_u32 xs a

-- types

heap_fine : (heap : HeapType) → IsShapedHeap heap → Fine (SpellsHeap heap) (encode_heap heap)
heap_fine (H.Abs kind) h = fine_byte (SpellsHeap (H.Abs kind)) (abs_byte kind) refl
heap_fine (H.Idx n) h = fine_s33 n h

ref_fine_as : (null : Bool) (heap : HeapType) → IsShapedHeap heap → Fine (SpellsRef (record { null = null; heap = heap })) (encode_ref_as null heap)
ref_fine_as true (H.Abs kind) h = fine_byte (SpellsRef (record { null = true; heap = H.Abs kind })) (abs_byte kind) (inr refl)
ref_fine_as true (H.Idx n) h = fine_as (Begins 0x63 (SpellsHeap (H.Idx n))) (SpellsRef (record { null = true; heap = H.Idx n })) (0x63 ∷ encode_heap (H.Idx n)) (λ s. inl s) (fine_begins 0x63 (SpellsHeap (H.Idx n)) (encode_heap (H.Idx n)) (heap_fine (H.Idx n) h))
ref_fine_as false heap h = fine_as (Begins 0x64 (SpellsHeap heap)) (SpellsRef (record { null = false; heap = heap })) (0x64 ∷ encode_heap heap) (λ s. inl s) (fine_begins 0x64 (SpellsHeap heap) (encode_heap heap) (heap_fine heap h))

pub ref_fine : (ref : RefType) → IsShapedRef ref → Fine (SpellsRef ref) (encode_ref ref)
ref_fine ref h = ref_fine_as ref.null ref.heap h

pub val_fine : (ty : ValType) → IsShapedVal ty → Fine (SpellsVal ty) (encode_val ty)
val_fine V.I32 h = fine_byte (SpellsVal V.I32) 0x7F refl
val_fine V.I64 h = fine_byte (SpellsVal V.I64) 0x7E refl
val_fine (V.Ref ref) h = ref_fine ref h

pub mutable_fine : (mutable : Bool) → Fine (SpellsMutable mutable) (encode_mutable mutable)
mutable_fine mutable = fine_byte (SpellsMutable mutable) (mutability mutable) refl

storage_fine : (ty : Storage) → IsShapedStorage ty → Fine (SpellsStorage ty) (encode_storage ty)
storage_fine (S.Val ty) h = val_fine ty h
storage_fine S.I8 h = fine_byte (SpellsStorage S.I8) 0x78 refl
storage_fine S.I16 h = fine_byte (SpellsStorage S.I16) 0x77 refl

field_fine : (field : FieldType) → IsShapedField field → Fine (SpellsField field) (encode_field field)
field_fine field h = fine_parts (SpellsStorage field.storage) (SpellsMutable field.mutable) (encode_storage field.storage) (encode_mutable field.mutable) (storage_fine field.storage h) (mutable_fine field.mutable)

vals_fine : (types : List ValType) → AllByRecursion IsShapedVal types → Fine (SpellsVector SpellsVal types) (encode_vector encode_val types)
vals_fine types a = fine_vector SpellsVal encode_val IsShapedVal val_fine types a

comp_fine : (comp : Comp) → IsShapedComp comp → Fine (SpellsComp comp) (encode_comp comp)
comp_fine (C.Func params results) h = fine_begins 0x60 (Parts (SpellsVector SpellsVal params) (SpellsVector SpellsVal results)) (encode_vector encode_val params ++ encode_vector encode_val results) (fine_parts (SpellsVector SpellsVal params) (SpellsVector SpellsVal results) (encode_vector encode_val params) (encode_vector encode_val results) (vals_fine params h.0) (vals_fine results h.1))
comp_fine (C.Struct fields) h = fine_begins 0x5F (SpellsVector SpellsField fields) (encode_vector encode_field fields) (fine_vector SpellsField encode_field IsShapedField field_fine fields h)
comp_fine (C.Array field) h = fine_begins 0x5E (SpellsField field) (encode_field field) (field_fine field h)

declared_fine : (is_final : Bool) (supers : List ℕ) (comp : Comp) → AllByRecursion FitsU32 supers → IsShapedComp comp → Fine (SpellsSub (record { is_final = is_final; supers = supers; comp = comp })) (final_byte is_final ∷ (encode_vector least_unsigned supers ++ encode_comp comp))
declared_fine is_final supers comp a h = fine_as (Begins (final_byte is_final) (Parts (SpellsVector SpellsU32 supers) (SpellsComp comp))) (SpellsSub (record { is_final = is_final; supers = supers; comp = comp })) (final_byte is_final ∷ (encode_vector least_unsigned supers ++ encode_comp comp)) (λ s. inl s)
    (fine_begins (final_byte is_final) (Parts (SpellsVector SpellsU32 supers) (SpellsComp comp)) (encode_vector least_unsigned supers ++ encode_comp comp) (fine_parts (SpellsVector SpellsU32 supers) (SpellsComp comp) (encode_vector least_unsigned supers) (encode_comp comp) (fine_indices supers a) (comp_fine comp h)))

sub_fine_as : (is_final : Bool) (supers : List ℕ) (comp : Comp) → AllByRecursion FitsU32 supers → IsShapedComp comp → Fine (SpellsSub (record { is_final = is_final; supers = supers; comp = comp })) (encode_sub_as is_final supers comp)
sub_fine_as true [] comp a h = fine_as (SpellsComp comp) (SpellsSub (record { is_final = true; supers = []; comp = comp })) (encode_comp comp) (λ s. inr (record { is_final = refl; supers = refl; comp = s })) (comp_fine comp h)
sub_fine_as true (x ∷ supers) comp a h = declared_fine true (x ∷ supers) comp a h
sub_fine_as false supers comp a h = declared_fine false supers comp a h

sub_fine : (ty : SubType) → IsShapedSub ty → Fine (SpellsSub ty) (encode_sub ty)
sub_fine ty h = sub_fine_as ty.is_final ty.supers ty.comp h.0 h.1

abbrev group_of : List SubType → RecGroup
group_of types = record { types = types }

long_group : (types : List SubType) → AllByRecursion IsShapedSub types → Fine (SpellsGroup (group_of types)) (0x4E ∷ encode_vector encode_sub types)
long_group types a = fine_as (Begins 0x4E (SpellsVector SpellsSub types)) (SpellsGroup (group_of types)) (0x4E ∷ encode_vector encode_sub types) (λ s. inl s) (fine_begins 0x4E (SpellsVector SpellsSub types) (encode_vector encode_sub types) (fine_vector SpellsSub encode_sub IsShapedSub sub_fine types a))

group_fine_as : (types : List SubType) → AllByRecursion IsShapedSub types → Fine (SpellsGroup (group_of types)) (encode_subs types)
group_fine_as [] a = long_group [] a
group_fine_as (ty ∷ []) a = fine_as (SpellsSub ty) (SpellsGroup (group_of (ty ∷ []))) (encode_sub ty) (λ s. inr s) (sub_fine ty a.0)
group_fine_as (ty ∷ other ∷ more) a = long_group (ty ∷ other ∷ more) a

pub group_fine : (group : RecGroup) → IsShapedGroup group → Fine (SpellsGroup group) (encode_group group)
group_fine group a = group_fine_as group.types a

range_fine : (least : ℕ) (most' : Option ℕ) → FitsU32 least → IfSome FitsU32 most' → Fine (SpellsRange least most') (encode_range least most')
range_fine least None h k = fine_begins 0x00 (SpellsU32 least) (least_unsigned least) (fine_u32 least h)
range_fine least (Some n) h k = fine_begins 0x01 (Parts (SpellsU32 least) (SpellsU32 n)) (least_unsigned least ++ least_unsigned n) (fine_parts (SpellsU32 least) (SpellsU32 n) (least_unsigned least) (least_unsigned n) (fine_u32 least h) (fine_u32 n k))

pub limits_fine : (limits : Limits) → IsShapedLimits limits → Fine (SpellsLimits limits) (encode_limits limits)
limits_fine limits h = range_fine limits.least limits.most h.0 h.1

-- instructions that hold no code

pub block_type_fine : (ty : BlockType) → IsShapedBlockType ty → Fine (SpellsBlockType ty) (encode_block_type ty)
block_type_fine B.Empty h = fine_byte (SpellsBlockType B.Empty) 0x40 refl
block_type_fine (B.Val ty) h = val_fine ty h
block_type_fine (B.Idx n) h = fine_s33 n h

pair_fine : (m n : ℕ) → FitsU32 m → FitsU32 n → Fine (Parts (SpellsU32 m) (SpellsU32 n)) (least_unsigned m ++ least_unsigned n)
pair_fine m n h k = fine_parts (SpellsU32 m) (SpellsU32 n) (least_unsigned m) (least_unsigned n) (fine_u32 m h) (fine_u32 n k)

pub catch_fine : (x : Catch) → IsShapedCatch x → Fine (SpellsCatch x) (encode_catch x)
catch_fine (T.One tag label) h = fine_begins 0x00 (Parts (SpellsU32 tag) (SpellsU32 label)) (least_unsigned tag ++ least_unsigned label) (pair_fine tag label h.0 h.1)
catch_fine (T.OneRef tag label) h = fine_begins 0x01 (Parts (SpellsU32 tag) (SpellsU32 label)) (least_unsigned tag ++ least_unsigned label) (pair_fine tag label h.0 h.1)
catch_fine (T.All label) h = fine_begins 0x02 (SpellsU32 label) (least_unsigned label) (fine_u32 label h)
catch_fine (T.AllRef label) h = fine_begins 0x03 (SpellsU32 label) (least_unsigned label) (fine_u32 label h)

mem_fine : (arg : MemArg) → IsShapedMemArg arg → Fine (SpellsMemArg arg) (encode_mem_arg arg)
mem_fine arg h =
    let small = least_unsigned arg.exponent ++ least_unsigned arg.offset in
    let large = least_unsigned (arg.exponent + 64) ++ (least_unsigned arg.memory ++ least_unsigned arg.offset) in
    let low = h.0 in
    let Q : List ℕ → Type 0 = λ t. Fine (SpellsMemArg arg) t in
    elim (cases_Bool (nat_eq arg.memory 0)) [
      | inl is ↦ subst Q (sym (cond-true (nat_eq arg.memory 0) small large is)) (fine_as (Parts (SpellsU32 arg.exponent) (SpellsU32 arg.offset)) (SpellsMemArg arg) small (λ s. record { exponent = low; places = inl (is_eq arg.memory 0 is, s) }) (pair_fine arg.exponent arg.offset (omega (arith, low)) h.2))
      | inr isnt ↦ subst Q (sym (cond-false (nat_eq arg.memory 0) small large isnt)) (fine_as (Parts (SpellsU32 (arg.exponent + 64)) (Parts (SpellsU32 arg.memory) (SpellsU32 arg.offset))) (SpellsMemArg arg) large (λ s. record { exponent = low; places = inr s }) (fine_parts (SpellsU32 (arg.exponent + 64)) (Parts (SpellsU32 arg.memory) (SpellsU32 arg.offset)) (least_unsigned (arg.exponent + 64)) (least_unsigned arg.memory ++ least_unsigned arg.offset) (fine_u32 (arg.exponent + 64) (omega (arith, low))) (pair_fine arg.memory arg.offset h.1 h.2)))
    ]

cast_fine : (arg : CastBranch) → FitsU32 arg.label → IsShapedRef arg.of → IsShapedRef arg.to → Fine (SpellsCast arg) (encode_cast arg)
cast_fine arg l a b = fine_begins (cast_flags arg.of.null arg.to.null) (Parts (SpellsU32 arg.label) (Parts (SpellsHeap arg.of.heap) (SpellsHeap arg.to.heap))) (least_unsigned arg.label ++ (encode_heap arg.of.heap ++ encode_heap arg.to.heap)) (fine_parts (SpellsU32 arg.label) (Parts (SpellsHeap arg.of.heap) (SpellsHeap arg.to.heap)) (least_unsigned arg.label) (encode_heap arg.of.heap ++ encode_heap arg.to.heap) (fine_u32 arg.label l) (fine_parts (SpellsHeap arg.of.heap) (SpellsHeap arg.to.heap) (encode_heap arg.of.heap) (encode_heap arg.to.heap) (heap_fine arg.of.heap a) (heap_fine arg.to.heap b)))

-- the code of one byte that has this form
coded : (code : ℕ) (form : Form) (instr : Instr) (back : List ℕ) → form_of code ≡ form → (length back ≤ most → SpellsForm form instr back) → Fine (SpellsLeaf instr) (code ∷ back)
coded code form instr back is f = record {
  spells = λ room. inl (record { code = code; back = back; whole = refl; rest = (let P : Form → Type 0 = λ x. SpellsForm x instr back in subst P (sym is) (f (omega (arith, room)))) });
  long = omega arith;
}

alone : (code : ℕ) (instr : Instr) → form_of code ≡ Alone instr → Fine (SpellsLeaf instr) (code ∷ [])
alone code instr is = coded code (Alone instr) instr [] is (λ room. (refl, refl))

index : (code : ℕ) (make : ℕ → Instr) (n : ℕ) → form_of code ≡ Index make → FitsU32 n → Fine (SpellsLeaf (make n)) (code ∷ least_unsigned n)
index code make n is h = coded code (Index make) (make n) (least_unsigned n) is (λ room. record { value = n; makes = refl; spelled = u32_spelled n h })

pair : (code : ℕ) (make : ℕ → ℕ → Instr) (m n : ℕ) → form_of code ≡ Pair make → FitsU32 m × FitsU32 n → Fine (SpellsLeaf (make m n)) (code ∷ (least_unsigned m ++ least_unsigned n))
pair code make m n is h = coded code (Pair make) (make m n) (least_unsigned m ++ least_unsigned n) is (λ room. record { value = (m, n); makes = refl; spelled = (pair_fine m n h.0 h.1).spells room })

access : (code : ℕ) (make : MemArg → Instr) (arg : MemArg) → form_of code ≡ Access make → IsShapedMemArg arg → Fine (SpellsLeaf (make arg)) (code ∷ encode_mem_arg arg)
access code make arg is h = coded code (Access make) (make arg) (encode_mem_arg arg) is (λ room. record { value = arg; makes = refl; spelled = (mem_fine arg h).spells room })

-- the number behind a prefix that has this form
aggregate : (code : ℕ) (form : Form) (instr : Instr) (back : List ℕ) → code < 64 → row_or Unknown aggregate_rows code ≡ form → (length back ≤ most → SpellsForm form instr back) → Fine (SpellsLeaf instr) (prefixed 0xFB code back)
aggregate code form instr back small is f =
    let both = length-append (least_unsigned code) back in
    let P : Form → Type 0 = λ x. SpellsForm x instr back in
    record {
      spells = λ room. inr (inl (record { code = code; rest = record { back = least_unsigned code ++ back; whole = refl; rest = record { front = least_unsigned code; back = back; whole = refl; first = u32_spelled code (omega (arith, small)); second = subst P (sym is) (f (omega (arith, room, both))) } } }));
      long = omega arith;
    }

bulk : (code : ℕ) (form : Form) (instr : Instr) (back : List ℕ) → code < 64 → row_or Unknown bulk_rows code ≡ form → (length back ≤ most → SpellsForm form instr back) → Fine (SpellsLeaf instr) (prefixed 0xFC code back)
bulk code form instr back small is f =
    let both = length-append (least_unsigned code) back in
    let P : Form → Type 0 = λ x. SpellsForm x instr back in
    record {
      spells = λ room. inr (inr (record { code = code; rest = record { back = least_unsigned code ++ back; whole = refl; rest = record { front = least_unsigned code; back = back; whole = refl; first = u32_spelled code (omega (arith, small)); second = subst P (sym is) (f (omega (arith, room, both))) } } }));
      long = omega arith;
    }

alone_form : (instr : Instr) → SpellsForm (Alone instr) instr []
alone_form instr = (refl, refl)

index_form : (make : ℕ → Instr) (n : ℕ) → FitsU32 n → SpellsForm (Index make) (make n) (least_unsigned n)
index_form make n h = record { value = n; makes = refl; spelled = u32_spelled n h }

pair_form : (make : ℕ → ℕ → Instr) (m n : ℕ) → FitsU32 m × FitsU32 n → length (two m n) ≤ most → SpellsForm (Pair make) (make m n) (two m n)
pair_form make m n h room = record { value = (m, n); makes = refl; spelled = (pair_fine m n h.0 h.1).spells room }

heap_form : (make : HeapType → Instr) (heap : HeapType) → IsShapedHeap heap → length (encode_heap heap) ≤ most → SpellsForm (Heap make) (make heap) (encode_heap heap)
heap_form make heap h room = record { value = heap; makes = refl; spelled = (heap_fine heap h).spells room }

cast_form : (make : CastBranch → Instr) (arg : CastBranch) → FitsU32 arg.label × IsShapedRef arg.of × IsShapedRef arg.to → length (encode_cast arg) ≤ most → SpellsForm (Cast make) (make arg) (encode_cast arg)
cast_form make arg h room = record { value = arg; makes = refl; spelled = (cast_fine arg h.0 h.1 h.2).spells room }

test_fine : (null : Bool) (heap : HeapType) → IsShapedHeap heap → Fine (SpellsLeaf (I.RefTest (record { null = null; heap = heap }))) (prefixed 0xFB (or_null 20 null) (encode_heap heap))
test_fine false heap h = aggregate 20 (Heap (λ x. I.RefTest (record { null = false; heap = x }))) (I.RefTest (record { null = false; heap = heap })) (encode_heap heap) (omega arith) refl (heap_form (λ x. I.RefTest (record { null = false; heap = x })) heap h)
test_fine true heap h = aggregate 21 (Heap (λ x. I.RefTest (record { null = true; heap = x }))) (I.RefTest (record { null = true; heap = heap })) (encode_heap heap) (omega arith) refl (heap_form (λ x. I.RefTest (record { null = true; heap = x })) heap h)

ref_cast_fine : (null : Bool) (heap : HeapType) → IsShapedHeap heap → Fine (SpellsLeaf (I.RefCast (record { null = null; heap = heap }))) (prefixed 0xFB (or_null 22 null) (encode_heap heap))
ref_cast_fine false heap h = aggregate 22 (Heap (λ x. I.RefCast (record { null = false; heap = x }))) (I.RefCast (record { null = false; heap = heap })) (encode_heap heap) (omega arith) refl (heap_form (λ x. I.RefCast (record { null = false; heap = x })) heap h)
ref_cast_fine true heap h = aggregate 23 (Heap (λ x. I.RefCast (record { null = true; heap = x }))) (I.RefCast (record { null = true; heap = heap })) (encode_heap heap) (omega arith) refl (heap_form (λ x. I.RefCast (record { null = true; heap = x })) heap h)

-- an operator's code is in no other row

every : (ℕ → Bool) → ℕ → Bool
every p zero = true
every p (suc n) = cond (p n) (every p n) false

every_at : (p : ℕ → Bool) (n : ℕ) → every p n ≡ true → (k : ℕ) → k < n → p k ≡ true
unfolding every
every_at p zero e k below = absurd (omega (arith, below))
every_at p (suc n) e k below = elim (cases_Bool (p n)) [
  | inl is ↦ elim (cases_Bool (nat_eq k n)) [
    | inl same ↦ ap p (is_eq k n same) ∙ is
    | inr apart ↦ every_at p n (sym (cond-true (p n) (every p n) false is) ∙ e) k (grind (arith, below, apart))
  ]
  | inr isnt ↦ absurd (let f : false ≡ true = sym (cond-false (p n) (every p n) false isnt) ∙ e in let g : ⊥ = cc in g)
]

is_free : List (ℕ × Form) → ℕ → Bool
is_free [] code = true
is_free (row ∷ rows) code = cond (nat_eq code row.0) false (is_free rows code)

free_row : (other : Form) (rows : List (ℕ × Form)) (code : ℕ) → is_free rows code ≡ true → row_or other rows code ≡ other
unfolding is_free
free_row other [] code h = refl
free_row other (row ∷ rows) code h = elim (cases_Bool (nat_eq code row.0)) [
  | inl is ↦ absurd (let f : false ≡ true = sym (cond-true (nat_eq code row.0) false (is_free rows code) is) ∙ h in let g : ⊥ = cc in g)
  | inr isnt ↦ cond-false (nat_eq code row.0) row.1 (row_or other rows code) isnt ∙ free_row other rows code (sym (cond-false (nat_eq code row.0) false (is_free rows code) isnt) ∙ h)
]

all_free : every (λ n. is_free plain_rows (row_at n).code) 66 ≡ true
unfolding every is_free
all_free = refl

operator_form_of : (op : NumOp) → op.row < 66 → form_of (row_at op.row).code ≡ Alone (I.Num op)
operator_form_of op h =
    let code = (row_at op.row).code in
    free_row (operator_form (operator_with code)) plain_rows code (every_at (λ n. is_free plain_rows (row_at n).code) 66 all_free op.row h)
    ∙ ap operator_form (distinct op h)

pub leaf_fine : (instr : Instr) → IsShapedLeaf instr → Fine (SpellsLeaf instr) (encode_leaf instr)
leaf_fine I.Unreachable s = alone 0x00 I.Unreachable refl
leaf_fine I.Nop s = alone 0x01 I.Nop refl
leaf_fine (I.Throw tag) s = index 0x08 I.Throw tag refl s
leaf_fine I.ThrowRef s = alone 0x0A I.ThrowRef refl
leaf_fine (I.Br label) s = index 0x0C I.Br label refl s
leaf_fine (I.BrIf label) s = index 0x0D I.BrIf label refl s
leaf_fine (I.BrTable table) s = coded 0x0E (Labels I.BrTable) (I.BrTable table) (encode_vector least_unsigned table.labels ++ least_unsigned table.last) refl (λ room. record { value = (table.labels, table.last); makes = refl; spelled = (fine_parts (SpellsVector SpellsU32 table.labels) (SpellsU32 table.last) (encode_vector least_unsigned table.labels) (least_unsigned table.last) (fine_indices table.labels s.0) (fine_u32 table.last s.1)).spells room })
leaf_fine I.Return s = alone 0x0F I.Return refl
leaf_fine (I.Call func) s = index 0x10 I.Call func refl s
leaf_fine (I.CallIndirect ty table) s = pair 0x11 I.CallIndirect ty table refl s
leaf_fine (I.ReturnCall func) s = index 0x12 I.ReturnCall func refl s
leaf_fine (I.ReturnCallIndirect ty table) s = pair 0x13 I.ReturnCallIndirect ty table refl s
leaf_fine (I.CallRef ty) s = index 0x14 I.CallRef ty refl s
leaf_fine (I.ReturnCallRef ty) s = index 0x15 I.ReturnCallRef ty refl s
leaf_fine I.Drop s = alone 0x1A I.Drop refl
leaf_fine I.Select s = alone 0x1B I.Select refl
leaf_fine (I.SelectOf types) s = coded 0x1C (Types I.SelectOf) (I.SelectOf types) (encode_vector encode_val types) refl (λ room. record { value = types; makes = refl; spelled = (vals_fine types s).spells room })
leaf_fine (I.LocalGet local) s = index 0x20 I.LocalGet local refl s
leaf_fine (I.LocalSet local) s = index 0x21 I.LocalSet local refl s
leaf_fine (I.LocalTee local) s = index 0x22 I.LocalTee local refl s
leaf_fine (I.GlobalGet global) s = index 0x23 I.GlobalGet global refl s
leaf_fine (I.GlobalSet global) s = index 0x24 I.GlobalSet global refl s
leaf_fine (I.TableGet table) s = index 0x25 I.TableGet table refl s
leaf_fine (I.TableSet table) s = index 0x26 I.TableSet table refl s
leaf_fine (I.I32Load arg) s = access 0x28 I.I32Load arg refl s
leaf_fine (I.I64Load arg) s = access 0x29 I.I64Load arg refl s
leaf_fine (I.I32Load8S arg) s = access 0x2C I.I32Load8S arg refl s
leaf_fine (I.I32Load8U arg) s = access 0x2D I.I32Load8U arg refl s
leaf_fine (I.I32Load16S arg) s = access 0x2E I.I32Load16S arg refl s
leaf_fine (I.I32Load16U arg) s = access 0x2F I.I32Load16U arg refl s
leaf_fine (I.I64Load8S arg) s = access 0x30 I.I64Load8S arg refl s
leaf_fine (I.I64Load8U arg) s = access 0x31 I.I64Load8U arg refl s
leaf_fine (I.I64Load16S arg) s = access 0x32 I.I64Load16S arg refl s
leaf_fine (I.I64Load16U arg) s = access 0x33 I.I64Load16U arg refl s
leaf_fine (I.I64Load32S arg) s = access 0x34 I.I64Load32S arg refl s
leaf_fine (I.I64Load32U arg) s = access 0x35 I.I64Load32U arg refl s
leaf_fine (I.I32Store arg) s = access 0x36 I.I32Store arg refl s
leaf_fine (I.I64Store arg) s = access 0x37 I.I64Store arg refl s
leaf_fine (I.I32Store8 arg) s = access 0x3A I.I32Store8 arg refl s
leaf_fine (I.I32Store16 arg) s = access 0x3B I.I32Store16 arg refl s
leaf_fine (I.I64Store8 arg) s = access 0x3C I.I64Store8 arg refl s
leaf_fine (I.I64Store16 arg) s = access 0x3D I.I64Store16 arg refl s
leaf_fine (I.I64Store32 arg) s = access 0x3E I.I64Store32 arg refl s
leaf_fine (I.MemorySize memory) s = index 0x3F I.MemorySize memory refl s
leaf_fine (I.MemoryGrow memory) s = index 0x40 I.MemoryGrow memory refl s
leaf_fine (I.I32Const value) s = coded 0x41 (Const32 I.I32Const) (I.I32Const value) (least_signed value) refl (λ room. record { value = value; makes = refl; spelled = least_signed_spells 32 value (omega arith) (omega arith) s })
leaf_fine (I.I64Const value) s = coded 0x42 (Const64 I.I64Const) (I.I64Const value) (least_signed value) refl (λ room. record { value = value; makes = refl; spelled = least_signed_spells 64 value (omega arith) (omega arith) s })
leaf_fine (I.Num op) s = alone (row_at op.row).code (I.Num op) (operator_form_of op s)
leaf_fine (I.RefNull heap) s = coded 0xD0 (Heap I.RefNull) (I.RefNull heap) (encode_heap heap) refl (heap_form I.RefNull heap s)
leaf_fine I.RefIsNull s = alone 0xD1 I.RefIsNull refl
leaf_fine (I.RefFunc func) s = index 0xD2 I.RefFunc func refl s
leaf_fine I.RefEq s = alone 0xD3 I.RefEq refl
leaf_fine I.RefAsNonNull s = alone 0xD4 I.RefAsNonNull refl
leaf_fine (I.BrOnNull label) s = index 0xD5 I.BrOnNull label refl s
leaf_fine (I.BrOnNonNull label) s = index 0xD6 I.BrOnNonNull label refl s
leaf_fine (I.StructNew ty) s = aggregate 0 (Index I.StructNew) (I.StructNew ty) (least_unsigned ty) (omega arith) refl (λ room. index_form I.StructNew ty s)
leaf_fine (I.StructNewDefault ty) s = aggregate 1 (Index I.StructNewDefault) (I.StructNewDefault ty) (least_unsigned ty) (omega arith) refl (λ room. index_form I.StructNewDefault ty s)
leaf_fine (I.StructGet ty field) s = aggregate 2 (Pair I.StructGet) (I.StructGet ty field) (two ty field) (omega arith) refl (pair_form I.StructGet ty field s)
leaf_fine (I.StructGetS ty field) s = aggregate 3 (Pair I.StructGetS) (I.StructGetS ty field) (two ty field) (omega arith) refl (pair_form I.StructGetS ty field s)
leaf_fine (I.StructGetU ty field) s = aggregate 4 (Pair I.StructGetU) (I.StructGetU ty field) (two ty field) (omega arith) refl (pair_form I.StructGetU ty field s)
leaf_fine (I.StructSet ty field) s = aggregate 5 (Pair I.StructSet) (I.StructSet ty field) (two ty field) (omega arith) refl (pair_form I.StructSet ty field s)
leaf_fine (I.ArrayNew ty) s = aggregate 6 (Index I.ArrayNew) (I.ArrayNew ty) (least_unsigned ty) (omega arith) refl (λ room. index_form I.ArrayNew ty s)
leaf_fine (I.ArrayNewDefault ty) s = aggregate 7 (Index I.ArrayNewDefault) (I.ArrayNewDefault ty) (least_unsigned ty) (omega arith) refl (λ room. index_form I.ArrayNewDefault ty s)
leaf_fine (I.ArrayNewFixed ty count) s = aggregate 8 (Pair I.ArrayNewFixed) (I.ArrayNewFixed ty count) (two ty count) (omega arith) refl (pair_form I.ArrayNewFixed ty count s)
leaf_fine (I.ArrayNewData ty data') s = aggregate 9 (Pair I.ArrayNewData) (I.ArrayNewData ty data') (two ty data') (omega arith) refl (pair_form I.ArrayNewData ty data' s)
leaf_fine (I.ArrayNewElem ty elem) s = aggregate 10 (Pair I.ArrayNewElem) (I.ArrayNewElem ty elem) (two ty elem) (omega arith) refl (pair_form I.ArrayNewElem ty elem s)
leaf_fine (I.ArrayGet ty) s = aggregate 11 (Index I.ArrayGet) (I.ArrayGet ty) (least_unsigned ty) (omega arith) refl (λ room. index_form I.ArrayGet ty s)
leaf_fine (I.ArrayGetS ty) s = aggregate 12 (Index I.ArrayGetS) (I.ArrayGetS ty) (least_unsigned ty) (omega arith) refl (λ room. index_form I.ArrayGetS ty s)
leaf_fine (I.ArrayGetU ty) s = aggregate 13 (Index I.ArrayGetU) (I.ArrayGetU ty) (least_unsigned ty) (omega arith) refl (λ room. index_form I.ArrayGetU ty s)
leaf_fine (I.ArraySet ty) s = aggregate 14 (Index I.ArraySet) (I.ArraySet ty) (least_unsigned ty) (omega arith) refl (λ room. index_form I.ArraySet ty s)
leaf_fine I.ArrayLen s = aggregate 15 (Alone I.ArrayLen) I.ArrayLen [] (omega arith) refl (λ room. alone_form I.ArrayLen)
leaf_fine (I.ArrayFill ty) s = aggregate 16 (Index I.ArrayFill) (I.ArrayFill ty) (least_unsigned ty) (omega arith) refl (λ room. index_form I.ArrayFill ty s)
leaf_fine (I.ArrayCopy to of) s = aggregate 17 (Pair I.ArrayCopy) (I.ArrayCopy to of) (two to of) (omega arith) refl (pair_form I.ArrayCopy to of s)
leaf_fine (I.ArrayInitData ty data') s = aggregate 18 (Pair I.ArrayInitData) (I.ArrayInitData ty data') (two ty data') (omega arith) refl (pair_form I.ArrayInitData ty data' s)
leaf_fine (I.ArrayInitElem ty elem) s = aggregate 19 (Pair I.ArrayInitElem) (I.ArrayInitElem ty elem) (two ty elem) (omega arith) refl (pair_form I.ArrayInitElem ty elem s)
leaf_fine (I.RefTest ref) s = test_fine ref.null ref.heap s
leaf_fine (I.RefCast ref) s = ref_cast_fine ref.null ref.heap s
leaf_fine (I.BrOnCast arg) s = aggregate 24 (Cast I.BrOnCast) (I.BrOnCast arg) (encode_cast arg) (omega arith) refl (cast_form I.BrOnCast arg s)
leaf_fine (I.BrOnCastFail arg) s = aggregate 25 (Cast I.BrOnCastFail) (I.BrOnCastFail arg) (encode_cast arg) (omega arith) refl (cast_form I.BrOnCastFail arg s)
leaf_fine I.AnyConvertExtern s = aggregate 26 (Alone I.AnyConvertExtern) I.AnyConvertExtern [] (omega arith) refl (λ room. alone_form I.AnyConvertExtern)
leaf_fine I.ExternConvertAny s = aggregate 27 (Alone I.ExternConvertAny) I.ExternConvertAny [] (omega arith) refl (λ room. alone_form I.ExternConvertAny)
leaf_fine I.RefI31 s = aggregate 28 (Alone I.RefI31) I.RefI31 [] (omega arith) refl (λ room. alone_form I.RefI31)
leaf_fine I.I31GetS s = aggregate 29 (Alone I.I31GetS) I.I31GetS [] (omega arith) refl (λ room. alone_form I.I31GetS)
leaf_fine I.I31GetU s = aggregate 30 (Alone I.I31GetU) I.I31GetU [] (omega arith) refl (λ room. alone_form I.I31GetU)
leaf_fine (I.MemoryInit data' memory) s = bulk 8 (Pair I.MemoryInit) (I.MemoryInit data' memory) (two data' memory) (omega arith) refl (pair_form I.MemoryInit data' memory s)
leaf_fine (I.DataDrop data') s = bulk 9 (Index I.DataDrop) (I.DataDrop data') (least_unsigned data') (omega arith) refl (λ room. index_form I.DataDrop data' s)
leaf_fine (I.MemoryCopy to of) s = bulk 10 (Pair I.MemoryCopy) (I.MemoryCopy to of) (two to of) (omega arith) refl (pair_form I.MemoryCopy to of s)
leaf_fine (I.MemoryFill memory) s = bulk 11 (Index I.MemoryFill) (I.MemoryFill memory) (least_unsigned memory) (omega arith) refl (λ room. index_form I.MemoryFill memory s)
leaf_fine (I.TableInit elem table) s = bulk 12 (Pair I.TableInit) (I.TableInit elem table) (two elem table) (omega arith) refl (pair_form I.TableInit elem table s)
leaf_fine (I.ElemDrop elem) s = bulk 13 (Index I.ElemDrop) (I.ElemDrop elem) (least_unsigned elem) (omega arith) refl (λ room. index_form I.ElemDrop elem s)
leaf_fine (I.TableCopy to of) s = bulk 14 (Pair I.TableCopy) (I.TableCopy to of) (two to of) (omega arith) refl (pair_form I.TableCopy to of s)
leaf_fine (I.TableGrow table) s = bulk 15 (Index I.TableGrow) (I.TableGrow table) (least_unsigned table) (omega arith) refl (λ room. index_form I.TableGrow table s)
leaf_fine (I.TableSize table) s = bulk 16 (Index I.TableSize) (I.TableSize table) (least_unsigned table) (omega arith) refl (λ room. index_form I.TableSize table s)
leaf_fine (I.TableFill table) s = bulk 17 (Index I.TableFill) (I.TableFill table) (least_unsigned table) (omega arith) refl (λ room. index_form I.TableFill table s)
leaf_fine instr s = absurd s

-- expressions

if_fine : (ty : BlockType) (one other : Code) → IsShapedBlockType ty → Fine (SpellsUntil 0x0B one) (encode_until 0x0B one) → Fine (SpellsUntil 0x05 one) (encode_until 0x05 one) → Fine (SpellsUntil 0x0B other) (encode_until 0x0B other) → Fine (SpellsIns (choice ty one other)) (encode_ins (choice ty one other))
if_fine ty one done h a b c =
    let Q : List ℕ → Type 0 = λ back. ((done ≡ done) × SpellsUntil 0x0B one back) ⊎ Parts (SpellsUntil 0x05 one) (SpellsUntil 0x0B done) back in
    fine_begins 0x04 (Parts (SpellsBlockType ty) Q) (encode_block_type ty ++ encode_until 0x0B one) (fine_parts (SpellsBlockType ty) Q (encode_block_type ty) (encode_until 0x0B one) (block_type_fine ty h) (fine_as (SpellsUntil 0x0B one) Q (encode_until 0x0B one) (λ s. inl (refl, s)) a))
if_fine ty one (next ins code) h a b c =
    let other = next ins code in
    let Q : List ℕ → Type 0 = λ back. ((other ≡ done) × SpellsUntil 0x0B one back) ⊎ Parts (SpellsUntil 0x05 one) (SpellsUntil 0x0B other) back in
    let both = encode_until 0x05 one ++ encode_until 0x0B other in
    fine_begins 0x04 (Parts (SpellsBlockType ty) Q) (encode_block_type ty ++ both) (fine_parts (SpellsBlockType ty) Q (encode_block_type ty) both (block_type_fine ty h) (fine_as (Parts (SpellsUntil 0x05 one) (SpellsUntil 0x0B other)) Q both (λ s. inr s) (fine_parts (SpellsUntil 0x05 one) (SpellsUntil 0x0B other) (encode_until 0x05 one) (encode_until 0x0B other) b c)))

mutual
  pub code_fine : (code : Code) (end : ℕ) → IsShapedCode code → Fine (SpellsUntil end code) (encode_until end code)
  code_fine done end h = fine_byte (SpellsUntil end done) end refl
  code_fine (next ins code) end h = fine_parts (SpellsIns ins) (SpellsUntil end code) (encode_ins ins) (encode_until end code) (ins_fine ins h.0) (code_fine code end h.1)

  ins_fine : (ins : Ins) → IsShapedIns ins → Fine (SpellsIns ins) (encode_ins ins)
  ins_fine (leaf instr) h = leaf_fine instr h
  ins_fine (block ty code) h = fine_begins 0x02 (Parts (SpellsBlockType ty) (SpellsUntil 0x0B code)) (encode_block_type ty ++ encode_until 0x0B code) (fine_parts (SpellsBlockType ty) (SpellsUntil 0x0B code) (encode_block_type ty) (encode_until 0x0B code) (block_type_fine ty h.0) (code_fine code 0x0B h.1))
  ins_fine (loop ty code) h = fine_begins 0x03 (Parts (SpellsBlockType ty) (SpellsUntil 0x0B code)) (encode_block_type ty ++ encode_until 0x0B code) (fine_parts (SpellsBlockType ty) (SpellsUntil 0x0B code) (encode_block_type ty) (encode_until 0x0B code) (block_type_fine ty h.0) (code_fine code 0x0B h.1))
  ins_fine (choice ty one other) h = if_fine ty one other h.0 (code_fine one 0x0B h.1) (code_fine one 0x05 h.1) (code_fine other 0x0B h.2)
  ins_fine (try_table ty catches code) h = fine_begins 0x1F (Parts (SpellsBlockType ty) (Parts (SpellsVector SpellsCatch catches) (SpellsUntil 0x0B code))) (encode_block_type ty ++ (encode_vector encode_catch catches ++ encode_until 0x0B code)) (fine_parts (SpellsBlockType ty) (Parts (SpellsVector SpellsCatch catches) (SpellsUntil 0x0B code)) (encode_block_type ty) (encode_vector encode_catch catches ++ encode_until 0x0B code) (block_type_fine ty h.0) (fine_parts (SpellsVector SpellsCatch catches) (SpellsUntil 0x0B code) (encode_vector encode_catch catches) (encode_until 0x0B code) (fine_vector SpellsCatch encode_catch IsShapedCatch catch_fine catches h.1) (code_fine code 0x0B h.2)))

pub body_fine : (body : Body) → IsShapedBody body → Fine (SpellsBody body) (encode_body body)
body_fine body h = code_fine (code_of body.code) 0x0B h
