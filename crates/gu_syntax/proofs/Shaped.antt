-- What a text of the whole format spells is shaped.
use Rattle.std.proofs.lemmas.Int.{ints}
use Rattle.std.proofs.Common.{ℤ, pos, ℕ, ◌+◌, List, [], ◌∷◌, ◌≡◌, refl, ap, ◌∙◌, sym, subst, arith, nat_eq, Bool, true, false, cond, inl, inr, Option, Some, None}
use Rattle.std.specs.List.{AllByRecursion}
use Rattle.std.proofs.lemmas.Bool.{cases_Bool, cond-true, cond-false}
use Rattle.gu_types.specs.declared.types.Abs.{Abs}
use Rattle.gu_types.specs.declared.types.HeapType.{HeapType}
use Rattle.gu_types.specs.declared.types.HeapType.TheVariants as H
use Rattle.gu_types.specs.declared.types.RefType.{RefType}
use Rattle.gu_types.specs.declared.types.ValType.{ValType}
use Rattle.gu_syntax.specs.Parts.{SpellsU32, SpellsItems, SpellsVector, SpellsSome, SpellsS33}
use Rattle.gu_syntax.specs.Shape.{FitsU32, IfSome, IsShapedRef, IsShapedGroup, IsShapedLimits, IsShapedBody, IsShapedRun, IsShapedFunc, IsShapedDesc, IsShapedImport, IsShapedTable, IsShapedGlobal, IsShapedExport, IsShapedElemMode, IsShapedItems, IsShapedElem, IsShapedSegMode, IsShapedSeg, IsShapedHeap, IsShapedVal, IsShapedStorage, IsShapedField, IsShapedComp, IsShapedSub, IsShapedBlockType, IsShapedCatch, IsShapedMemArg, IsShapedLeaf, IsShapedCode, IsShapedIns, IsShaped}
use Rattle.gu_syntax.specs.declared.instr.Body.{Body}
use Rattle.gu_syntax.specs.declared.module.Desc.{Desc}
use Rattle.gu_syntax.specs.declared.module.Desc.TheVariants as D
use Rattle.gu_syntax.specs.declared.module.ElemMode.{ElemMode}
use Rattle.gu_syntax.specs.declared.module.ElemMode.TheVariants as M
use Rattle.gu_syntax.specs.declared.module.Export.{Export}
use Rattle.gu_syntax.specs.declared.module.Func.{Func}
use Rattle.gu_syntax.specs.declared.module.Global.{Global}
use Rattle.gu_syntax.specs.declared.module.Import.{Import}
use Rattle.gu_syntax.specs.declared.module.Items.{Items}
use Rattle.gu_syntax.specs.declared.module.Items.TheVariants as L
use Rattle.gu_syntax.specs.declared.module.Limits.{Limits}
use Rattle.gu_syntax.specs.declared.module.Module.{Module}
use Rattle.gu_syntax.specs.declared.module.SegMode.{SegMode}
use Rattle.gu_syntax.specs.declared.module.SegMode.TheVariants as G
use Rattle.gu_syntax.specs.Types.{abs_byte, SpellsRef, SpellsVal, SpellsGroup, SpellsLimits, null_byte, SpellsHeap, SpellsShort, SpellsStorage, SpellsField, SpellsComp, SpellsSub, SpellsOne, SpellsRange}
use Rattle.gu_syntax.specs.Expressions.{same_heap, SpellsBody, SpellsRun, merged, SpellsFunc, same_val, joined, SpellsUntil, SpellsIns}
use Rattle.gu_syntax.specs.Sections.{SpellsDesc, SpellsImport, SpellsTypeIndex, SpellsTableAs, SpellsTable, SpellsTag, SpellsGlobal, SpellsExport, SpellsElemAs, SpellsElem, SpellsSegAs, SpellsSeg}
use Rattle.gu_syntax.specs.Module.{SpellsSection, SpellsList, Spells}
use Rattle.gu_syntax.proofs.Takes.{is_eq}
use Rattle.gu_types.specs.declared.types.ValType.TheVariants as V
use Rattle.gu_types.specs.declared.types.Storage.{Storage}
use Rattle.gu_types.specs.declared.types.Storage.TheVariants as S
use Rattle.gu_types.specs.declared.types.FieldType.{FieldType}
use Rattle.gu_types.specs.declared.types.Comp.{Comp}
use Rattle.gu_types.specs.declared.types.Comp.TheVariants as C
use Rattle.gu_types.specs.declared.types.SubType.{SubType}
use Rattle.gu_types.specs.declared.types.RecGroup.{RecGroup}
use Rattle.gu_optab.specs.declared.op.NumOp.{NumOp}
use Rattle.gu_optab.specs.Operators.{operator_with}
use Rattle.gu_syntax.specs.Code.{Ins, Code, leaf, block, loop, choice, try_table, done, next, code_of}
use Rattle.gu_syntax.specs.declared.instr.BlockType.{BlockType}
use Rattle.gu_syntax.specs.declared.instr.BlockType.TheVariants as B
use Rattle.gu_syntax.specs.declared.instr.Catch.{Catch}
use Rattle.gu_syntax.specs.declared.instr.Catch.TheVariants as T
use Rattle.gu_syntax.specs.declared.instr.MemArg.{MemArg}
use Rattle.gu_syntax.specs.declared.instr.Instr.{Instr}
use Rattle.gu_bytes.specs.Numbers.{FitsBits}
use Rattle.gu_bytes.proofs.Unsigned.{unsigned_fits}
use Rattle.gu_bytes.proofs.Signed.{signed_fits}
use Rattle.gu_optab.proofs.Rows.{of_rows}
use Rattle.gu_syntax.specs.declared.instr.BranchTable.{BranchTable}
use Rattle.gu_syntax.specs.declared.instr.CastBranch.{CastBranch}
use Rattle.gu_syntax.specs.Instructions.{SpellsBlockType, SpellsCatch, SpellsMemArg, Form, Alone, Index, Pair, Labels, Const32, Const64, Access, Heap, Types, Cast, Unknown, SpellsForm, labels_of, row_or, form_of, operator_form, plain_rows, aggregate_rows, bulk_rows, SpellsLeaf}
use Rattle.gu_syntax.specs.Reading.{abs_with}
use Rattle.gu_syntax.specs.Laws.{RunsFit}
use Rattle.gu_syntax.proofs.Types.{abs_again}

u32_fits : (n : ℕ) (text : List ℕ) → SpellsU32 n text → FitsU32 n
u32_fits n text h = unsigned_fits 32 text n h

s33_fits : (n : ℕ) (text : List ℕ) → SpellsS33 n text → FitsU32 n
s33_fits n text h = let f = (signed_fits 33 text (pos n) h).1 in omega (arith, ints, f)

items_all : {X : Type 0} (P : X → List ℕ → Type 0) (A : X → Type 0) (xs : List X) (text : List ℕ) → ((x : X) (front : List ℕ) → P x front → A x) → SpellsItems P xs text → AllByRecursion A xs
items_all P A [] text f h = tt
items_all P A (x ∷ xs) text f h = (f x h.front h.first, items_all P A xs h.back f h.second)

vector_all : {X : Type 0} (P : X → List ℕ → Type 0) (A : X → Type 0) (xs : List X) (text : List ℕ) → ((x : X) (front : List ℕ) → P x front → A x) → SpellsVector P xs text → AllByRecursion A xs
vector_all P A xs text f h = items_all P A xs h.back f h.second

list_all : {X : Type 0} (id : ℕ) (P : X → List ℕ → Type 0) (A : X → Type 0) (xs : List X) (text : List ℕ) → ((x : X) (front : List ℕ) → P x front → A x) → SpellsList id P xs text → AllByRecursion A xs
list_all {X} id P A xs text f (inl none) = let Q : List X → Type 0 = λ ys. AllByRecursion A ys in subst Q (sym none.0) tt
list_all {X} id P A xs text f (inr there) = vector_all P A xs there.rest.first.content f there.rest.first.inside

-- types

heap_shaped : (heap : HeapType) (text : List ℕ) → SpellsHeap heap text → IsShapedHeap heap
heap_shaped (H.Abs kind) text h = tt
heap_shaped (H.Idx n) text h = s33_fits n text h

short_shaped : (null : Bool) (heap : HeapType) (text : List ℕ) → SpellsShort null heap text → IsShapedHeap heap
short_shaped true (H.Abs kind) text h = tt
short_shaped true (H.Idx n) text h = absurd h
short_shaped false heap text h = absurd h

ref_shaped : (ref : RefType) (text : List ℕ) → SpellsRef ref text → IsShapedRef ref
ref_shaped ref text (inl h) = heap_shaped ref.heap h.back h.rest
ref_shaped ref text (inr h) = short_shaped ref.null ref.heap text h

val_shaped : (ty : ValType) (text : List ℕ) → SpellsVal ty text → IsShapedVal ty
val_shaped V.I32 text h = tt
val_shaped V.I64 text h = tt
val_shaped (V.Ref ref) text h = ref_shaped ref text h

storage_shaped : (ty : Storage) (text : List ℕ) → SpellsStorage ty text → IsShapedStorage ty
storage_shaped (S.Val ty) text h = val_shaped ty text h
storage_shaped S.I8 text h = tt
storage_shaped S.I16 text h = tt

field_shaped : (field : FieldType) (text : List ℕ) → SpellsField field text → IsShapedField field
field_shaped field text h = storage_shaped field.storage h.front h.first

comp_shaped : (comp : Comp) (text : List ℕ) → SpellsComp comp text → IsShapedComp comp
comp_shaped (C.Func params results) text h = (vector_all SpellsVal IsShapedVal params h.rest.front val_shaped h.rest.first, vector_all SpellsVal IsShapedVal results h.rest.back val_shaped h.rest.second)
comp_shaped (C.Struct fields) text h = vector_all SpellsField IsShapedField fields h.back field_shaped h.rest
comp_shaped (C.Array field) text h = field_shaped field h.back h.rest

sub_shaped : (ty : SubType) (text : List ℕ) → SpellsSub ty text → IsShapedSub ty
sub_shaped ty text (inl h) = (vector_all SpellsU32 FitsU32 ty.supers h.rest.front u32_fits h.rest.first, comp_shaped ty.comp h.rest.back h.rest.second)
sub_shaped ty text (inr h) = (let P : List ℕ → Type 0 = λ l. AllByRecursion FitsU32 l in subst P (sym h.supers) tt, comp_shaped ty.comp text h.comp)

one_shaped : (types : List SubType) (text : List ℕ) → SpellsOne types text → AllByRecursion IsShapedSub types
one_shaped [] text h = absurd h
one_shaped (ty ∷ []) text h = (sub_shaped ty text h, tt)
one_shaped (ty ∷ other ∷ more) text h = absurd h

group_shaped : (group : RecGroup) (text : List ℕ) → SpellsGroup group text → IsShapedGroup group
group_shaped group text (inl h) = vector_all SpellsSub IsShapedSub group.types h.back sub_shaped h.rest
group_shaped group text (inr h) = one_shaped group.types text h

range_shaped : (least : ℕ) (most : Option ℕ) (text : List ℕ) → SpellsRange least most text → FitsU32 least × IfSome FitsU32 most
range_shaped least None text h = (u32_fits least h.back h.rest, tt)
range_shaped least (Some most) text h = (u32_fits least h.rest.front h.rest.first, u32_fits most h.rest.back h.rest.second)

limits_shaped : (limits : Limits) (text : List ℕ) → SpellsLimits limits text → IsShapedLimits limits
limits_shaped limits text h = range_shaped limits.least limits.most text h

-- instructions that hold no code

block_type_shaped : (ty : BlockType) (text : List ℕ) → SpellsBlockType ty text → IsShapedBlockType ty
block_type_shaped B.Empty text h = tt
block_type_shaped (B.Val ty) text h = val_shaped ty text h
block_type_shaped (B.Idx n) text h = s33_fits n text h

catch_shaped : (x : Catch) (text : List ℕ) → SpellsCatch x text → IsShapedCatch x
catch_shaped (T.One tag label) text h = (u32_fits tag h.rest.front h.rest.first, u32_fits label h.rest.back h.rest.second)
catch_shaped (T.OneRef tag label) text h = (u32_fits tag h.rest.front h.rest.first, u32_fits label h.rest.back h.rest.second)
catch_shaped (T.All label) text h = u32_fits label h.back h.rest
catch_shaped (T.AllRef label) text h = u32_fits label h.back h.rest

mem_shaped : (arg : MemArg) (text : List ℕ) → SpellsMemArg arg text → IsShapedMemArg arg
mem_shaped arg text h = elim h.places [
  | inl p ↦ (h.exponent, (let e = p.0 in omega (arith, e)), u32_fits arg.offset p.1.back p.1.second)
  | inr p ↦ (h.exponent, u32_fits arg.memory p.second.front p.second.first, u32_fits arg.offset p.second.back p.second.second)
]

unfoldable ShapedForm : Form → Type 0
ShapedForm (Alone it) = IsShapedLeaf it
ShapedForm (Index make) = (n : ℕ) → FitsU32 n → IsShapedLeaf (make n)
ShapedForm (Pair make) = (m n : ℕ) → FitsU32 m → FitsU32 n → IsShapedLeaf (make m n)
ShapedForm (Labels make) = (table : BranchTable) → AllByRecursion FitsU32 table.labels → FitsU32 table.last → IsShapedLeaf (make table)
ShapedForm (Const32 make) = (z : ℤ) → FitsBits 32 z → IsShapedLeaf (make z)
ShapedForm (Const64 make) = (z : ℤ) → FitsBits 64 z → IsShapedLeaf (make z)
ShapedForm (Access make) = (arg : MemArg) → IsShapedMemArg arg → IsShapedLeaf (make arg)
ShapedForm (Heap make) = (heap : HeapType) → IsShapedHeap heap → IsShapedLeaf (make heap)
ShapedForm (Types make) = (types : List ValType) → AllByRecursion IsShapedVal types → IsShapedLeaf (make types)
ShapedForm (Cast make) = (arg : CastBranch) → FitsU32 arg.label → IsShapedRef arg.of → IsShapedRef arg.to → IsShapedLeaf (make arg)
ShapedForm Unknown = Unit {0}

rows_shaped : (rows : List (ℕ × Form)) → AllByRecursion (λ row. ShapedForm row.1) rows → (other : Form) → ShapedForm other → (code : ℕ) → ShapedForm (row_or other rows code)
rows_shaped [] all other shaped code = shaped
rows_shaped (row ∷ rows) all other shaped code = elim (cases_Bool (nat_eq code row.0)) [
  | inl is ↦ subst ShapedForm (sym (cond-true (nat_eq code row.0) row.1 (row_or other rows code) is)) all.0
  | inr isnt ↦ subst ShapedForm (sym (cond-false (nat_eq code row.0) row.1 (row_or other rows code) isnt)) (rows_shaped rows all.1 other shaped code)
]

operator_shaped : (code : ℕ) (o : Option NumOp) → operator_with code ≡ o → ShapedForm (operator_form o)
unfolding ShapedForm
operator_shaped code None e = tt
operator_shaped code (Some op) e = (of_rows code op e).0

all_plain : AllByRecursion (λ row. ShapedForm row.1) plain_rows
unfolding ShapedForm
all_plain = (tt, (tt, ((λ n h. h), (tt, ((λ n h. h), ((λ n h. h), ((λ table h k. (h, k)), (tt, ((λ n h. h), ((λ m n h k. (h, k)), ((λ n h. h), ((λ m n h k. (h, k)), ((λ n h. h), ((λ n h. h), (tt, (tt, ((λ types h. h), ((λ n h. h), ((λ n h. h), ((λ n h. h), ((λ n h. h), ((λ n h. h), ((λ n h. h), ((λ n h. h), ((λ arg h. h), ((λ arg h. h), ((λ arg h. h), ((λ arg h. h), ((λ arg h. h), ((λ arg h. h), ((λ arg h. h), ((λ arg h. h), ((λ arg h. h), ((λ arg h. h), ((λ arg h. h), ((λ arg h. h), ((λ arg h. h), ((λ arg h. h), ((λ arg h. h), ((λ arg h. h), ((λ arg h. h), ((λ arg h. h), ((λ arg h. h), ((λ n h. h), ((λ n h. h), ((λ z h. h), ((λ z h. h), ((λ heap h. h), (tt, ((λ n h. h), (tt, (tt, ((λ n h. h), ((λ n h. h), tt))))))))))))))))))))))))))))))))))))))))))))))))))))))

all_aggregate : AllByRecursion (λ row. ShapedForm row.1) aggregate_rows
unfolding ShapedForm
all_aggregate = ((λ n h. h), ((λ n h. h), ((λ m n h k. (h, k)), ((λ m n h k. (h, k)), ((λ m n h k. (h, k)), ((λ m n h k. (h, k)), ((λ n h. h), ((λ n h. h), ((λ m n h k. (h, k)), ((λ m n h k. (h, k)), ((λ m n h k. (h, k)), ((λ n h. h), ((λ n h. h), ((λ n h. h), ((λ n h. h), (tt, ((λ n h. h), ((λ m n h k. (h, k)), ((λ m n h k. (h, k)), ((λ m n h k. (h, k)), ((λ heap h. h), ((λ heap h. h), ((λ heap h. h), ((λ heap h. h), ((λ arg h a b. (h, a, b)), ((λ arg h a b. (h, a, b)), (tt, (tt, (tt, (tt, (tt, tt)))))))))))))))))))))))))))))))

all_bulk : AllByRecursion (λ row. ShapedForm row.1) bulk_rows
unfolding ShapedForm
all_bulk = ((λ m n h k. (h, k)), ((λ n h. h), ((λ m n h k. (h, k)), ((λ n h. h), ((λ m n h k. (h, k)), ((λ n h. h), ((λ m n h k. (h, k)), ((λ n h. h), ((λ n h. h), ((λ n h. h), tt))))))))))

form_shaped : (form : Form) (instr : Instr) (text : List ℕ) → ShapedForm form → SpellsForm form instr text → IsShapedLeaf instr
unfolding ShapedForm
form_shaped (Alone it) instr text f h = subst IsShapedLeaf h.0 f
form_shaped (Index make) instr text f h = subst IsShapedLeaf h.makes (f h.value (u32_fits h.value text h.spelled))
form_shaped (Pair make) instr text f h = let p = h.spelled in subst IsShapedLeaf h.makes (f h.value.0 h.value.1 (u32_fits h.value.0 p.front p.first) (u32_fits h.value.1 p.back p.second))
form_shaped (Labels make) instr text f h = let p = h.spelled in subst IsShapedLeaf h.makes (f (labels_of h.value) (vector_all SpellsU32 FitsU32 h.value.0 p.front u32_fits p.first) (u32_fits h.value.1 p.back p.second))
form_shaped (Const32 make) instr text f h = subst IsShapedLeaf h.makes (f h.value (signed_fits 32 text h.value h.spelled))
form_shaped (Const64 make) instr text f h = subst IsShapedLeaf h.makes (f h.value (signed_fits 64 text h.value h.spelled))
form_shaped (Access make) instr text f h = subst IsShapedLeaf h.makes (f h.value (mem_shaped h.value text h.spelled))
form_shaped (Heap make) instr text f h = subst IsShapedLeaf h.makes (f h.value (heap_shaped h.value text h.spelled))
form_shaped (Types make) instr text f h = subst IsShapedLeaf h.makes (f h.value (vector_all SpellsVal IsShapedVal h.value text val_shaped h.spelled))
form_shaped (Cast make) instr text f h = let p = h.spelled.rest in subst IsShapedLeaf h.makes (f h.value (u32_fits h.value.label p.front p.first) (heap_shaped h.value.of.heap p.second.front p.second.first) (heap_shaped h.value.to.heap p.second.back p.second.second))
form_shaped Unknown instr text f h = absurd h

leaf_shaped : (instr : Instr) (text : List ℕ) → SpellsLeaf instr text → IsShapedLeaf instr
unfolding ShapedForm
leaf_shaped instr text (inl h) = form_shaped (form_of h.code) instr h.back (rows_shaped plain_rows all_plain (operator_form (operator_with h.code)) (operator_shaped h.code (operator_with h.code) refl) h.code) h.rest
leaf_shaped instr text (inr (inl h)) = form_shaped (row_or Unknown aggregate_rows h.code) instr h.rest.rest.back (rows_shaped aggregate_rows all_aggregate Unknown tt h.code) h.rest.rest.second
leaf_shaped instr text (inr (inr h)) = form_shaped (row_or Unknown bulk_rows h.code) instr h.rest.rest.back (rows_shaped bulk_rows all_bulk Unknown tt h.code) h.rest.rest.second

-- expressions

mutual
  code_shaped : (code : Code) (end : ℕ) (text : List ℕ) → SpellsUntil end code text → IsShapedCode code
  code_shaped done end text h = tt
  code_shaped (next ins code) end text h = (ins_shaped ins h.front h.first, code_shaped code end h.back h.second)

  ins_shaped : (ins : Ins) (text : List ℕ) → SpellsIns ins text → IsShapedIns ins
  ins_shaped (leaf instr) text h = leaf_shaped instr text h
  ins_shaped (block ty code) text h = (block_type_shaped ty h.rest.front h.rest.first, code_shaped code 0x0B h.rest.back h.rest.second)
  ins_shaped (loop ty code) text h = (block_type_shaped ty h.rest.front h.rest.first, code_shaped code 0x0B h.rest.back h.rest.second)
  ins_shaped (choice ty one other) text h = elim h.rest.second [
    | inl s ↦ (block_type_shaped ty h.rest.front h.rest.first, code_shaped one 0x0B h.rest.back s.1, subst IsShapedCode (sym s.0) tt)
    | inr p ↦ (block_type_shaped ty h.rest.front h.rest.first, code_shaped one 0x05 p.front p.first, code_shaped other 0x0B p.back p.second)
  ]
  ins_shaped (try_table ty catches code) text h = (block_type_shaped ty h.rest.front h.rest.first, vector_all SpellsCatch IsShapedCatch catches h.rest.second.front catch_shaped h.rest.second.first, code_shaped code 0x0B h.rest.second.back h.rest.second.second)

body_shaped : (body : Body) (text : List ℕ) → SpellsBody body text → IsShapedBody body
body_shaped body text h = code_shaped (code_of body.code) 0x0B text h

-- runs of locals

some_is : (a b : Abs) → ◌≡◌ {A = Option Abs} (Some a) (Some b) → a ≡ b
some_is a b h = cc

same_byte : (a b : Abs) → abs_byte a ≡ abs_byte b → a ≡ b
same_byte a b h = some_is a b (sym (abs_again a) ∙ ap abs_with h ∙ abs_again b)

heap_is : (a b : HeapType) → same_heap a b ≡ true → a ≡ b
heap_is (H.Abs a) (H.Abs b) h = ap H.Abs (same_byte a b (is_eq (abs_byte a) (abs_byte b) h))
heap_is (H.Abs a) (H.Idx n) h = cc
heap_is (H.Idx m) (H.Abs b) h = cc
heap_is (H.Idx m) (H.Idx n) h = ap H.Idx (is_eq m n h)

abbrev ref_of : Bool → HeapType → RefType
ref_of null heap = record { null = null; heap = heap }

ref_is : (m n : Bool) (a b : HeapType) → cond (nat_eq (null_byte m) (null_byte n)) (same_heap a b) false ≡ true → ref_of m a ≡ ref_of n b
ref_is true true a b h = ap (ref_of true) (heap_is a b h)
ref_is false false a b h = ap (ref_of false) (heap_is a b h)
ref_is true false a b h = cc
ref_is false true a b h = cc

val_is : (a b : ValType) → same_val a b ≡ true → a ≡ b
val_is V.I32 V.I32 h = refl
val_is V.I64 V.I64 h = refl
val_is (V.Ref a) (V.Ref b) h = ap V.Ref (ref_is a.null b.null a.heap b.heap h)
val_is V.I32 V.I64 h = cc
val_is V.I32 (V.Ref b) h = cc
val_is V.I64 V.I32 h = cc
val_is V.I64 (V.Ref b) h = cc
val_is (V.Ref a) V.I32 h = cc
val_is (V.Ref a) V.I64 h = cc

abbrev Run : Type 0
Run = ℕ × ValType

abbrev Differs : Run → List Run → Type 0
Differs run [] = Unit {0}
Differs run (first ∷ rest) = same_val run.1 first.1 ≡ false

abbrev IsMerged : List Run → Type 0
IsMerged [] = Unit {0}
IsMerged (run ∷ runs) = (nat_eq run.0 0 ≡ false) × Differs run runs × IsMerged runs

differs_as : (a b : Run) (rest : List Run) → a.1 ≡ b.1 → Differs b rest → Differs a rest
differs_as a b [] same h = tt
differs_as a b (first ∷ rest) same h = ap (λ ty. same_val ty first.1) same ∙ h

not_zero : (a b : ℕ) → nat_eq a 0 ≡ false → nat_eq (a + b) 0 ≡ false
not_zero a b h = grind (arith, h)

joined_merged : (run : Run) (runs : List Run) → nat_eq run.0 0 ≡ false → IsMerged runs → IsMerged (joined run runs)
joined_merged run [] h m = (h, tt, tt)
joined_merged run (first ∷ rest) h m = elim (cases_Bool (same_val run.1 first.1)) [
  | inl is ↦ subst IsMerged (sym (cond-true (same_val run.1 first.1) ((run.0 + first.0, run.1) ∷ rest) (run ∷ first ∷ rest) is)) (not_zero run.0 first.0 h, differs_as (run.0 + first.0, run.1) first rest (val_is run.1 first.1 is) m.1, m.2)
  | inr isnt ↦ subst IsMerged (sym (cond-false (same_val run.1 first.1) ((run.0 + first.0, run.1) ∷ rest) (run ∷ first ∷ rest) isnt)) (h, isnt, m)
]

merged_merged : (runs : List Run) → IsMerged (merged runs)
merged_merged [] = tt
merged_merged (run ∷ runs) = elim (cases_Bool (nat_eq run.0 0)) [
  | inl is ↦ subst IsMerged (sym (cond-true (nat_eq run.0 0) (merged runs) (joined run (merged runs)) is)) (merged_merged runs)
  | inr isnt ↦ subst IsMerged (sym (cond-false (nat_eq run.0 0) (merged runs) (joined run (merged runs)) isnt)) (joined_merged run (merged runs) isnt (merged_merged runs))
]

joined_same : (run : Run) (runs : List Run) → Differs run runs → joined run runs ≡ run ∷ runs
joined_same run [] h = refl
joined_same run (first ∷ rest) h = cond-false (same_val run.1 first.1) ((run.0 + first.0, run.1) ∷ rest) (run ∷ first ∷ rest) h

merged_same : (runs : List Run) → IsMerged runs → merged runs ≡ runs
merged_same [] h = refl
merged_same (run ∷ runs) h = cond-false (nat_eq run.0 0) (merged runs) (joined run (merged runs)) h.0 ∙ ap (joined run) (merged_same runs h.2) ∙ joined_same run runs h.1

abbrev HasShapedType : Run → Type 0
HasShapedType run = IsShapedVal run.1

abbrev AllShaped : List Run → Type 0
AllShaped runs = AllByRecursion HasShapedType runs

joined_types : (run : Run) (runs : List Run) → HasShapedType run → AllShaped runs → AllShaped (joined run runs)
joined_types run [] h a = (h, tt)
joined_types run (first ∷ rest) h a = elim (cases_Bool (same_val run.1 first.1)) [
  | inl is ↦ subst AllShaped (sym (cond-true (same_val run.1 first.1) ((run.0 + first.0, run.1) ∷ rest) (run ∷ first ∷ rest) is)) (h, a.1)
  | inr isnt ↦ subst AllShaped (sym (cond-false (same_val run.1 first.1) ((run.0 + first.0, run.1) ∷ rest) (run ∷ first ∷ rest) isnt)) (h, a)
]

merged_types : (runs : List Run) → AllShaped runs → AllShaped (merged runs)
merged_types [] a = tt
merged_types (run ∷ runs) a = elim (cases_Bool (nat_eq run.0 0)) [
  | inl is ↦ subst AllShaped (sym (cond-true (nat_eq run.0 0) (merged runs) (joined run (merged runs)) is)) (merged_types runs a.1)
  | inr isnt ↦ subst AllShaped (sym (cond-false (nat_eq run.0 0) (merged runs) (joined run (merged runs)) isnt)) (joined_types run (merged runs) a.0 (merged_types runs a.1))
]

runs_shaped : (runs : List Run) → AllByRecursion (λ run. FitsU32 run.0) runs → AllShaped runs → AllByRecursion IsShapedRun runs
runs_shaped [] a b = tt
runs_shaped (run ∷ runs) a b = ((a.0, b.0), runs_shaped runs a.1 b.1)

-- what an entry says of a function
record EntryShaped (func : Func) : Type 0 where
  merges : merged func.locals ≡ func.locals
  types : AllShaped func.locals
  body : IsShapedBody func.body

entry_shaped : (func : Func) (text : List ℕ) → SpellsFunc func text → EntryShaped func
entry_shaped func text h =
    let l = h.inside.first in
    let P : List Run → Type 0 = λ runs. merged runs ≡ runs in
    record {
      merges = subst P l.makes (merged_same (merged l.value) (merged_merged l.value));
      types = subst AllShaped l.makes (merged_types l.value (vector_all SpellsRun HasShapedType l.value h.inside.front (λ run front s. val_shaped run.1 s.back s.second) l.spelled));
      body = body_shaped func.body h.inside.back h.inside.second;
    }

funcs_shaped : (funcs : List Func) → AllByRecursion (λ func. FitsU32 func.ty) funcs → AllByRecursion EntryShaped funcs → AllByRecursion RunsFit funcs → AllByRecursion IsShapedFunc funcs
funcs_shaped [] a b c = tt
funcs_shaped (func ∷ funcs) a b c = (record { ty = a.0; merges = b.0.merges; locals = runs_shaped func.locals c.0 b.0.types; body = b.0.body }, funcs_shaped funcs a.1 b.1 c.1)

-- items of sections

desc_shaped : (x : Desc) (text : List ℕ) → SpellsDesc x text → IsShapedDesc x
desc_shaped (D.Func ty) text h = u32_fits ty h.back h.rest
desc_shaped (D.Table elem limits) text h = (ref_shaped elem h.rest.front h.rest.first, limits_shaped limits h.rest.back h.rest.second)
desc_shaped (D.Memory limits) text h = limits_shaped limits h.back h.rest
desc_shaped (D.Global ty mutable) text h = val_shaped ty h.rest.front h.rest.first
desc_shaped (D.Tag ty) text h = u32_fits ty h.rest.back h.rest.rest

import_shaped : (x : Import) (text : List ℕ) → SpellsImport x text → IsShapedImport x
import_shaped x text h = record { module' = h.first.utf8; name = h.second.first.utf8; desc = desc_shaped x.desc h.second.back h.second.second }

table_shaped_as : (elem : RefType) (limits : Limits) (init : Option Body) (text : List ℕ) → SpellsTableAs elem limits init text → IsShapedRef elem × IsShapedLimits limits × IfSome IsShapedBody init
table_shaped_as elem limits None text h = (ref_shaped elem h.front h.first, limits_shaped limits h.back h.second, tt)
table_shaped_as elem limits (Some init) text h = let p = h.rest.rest in (ref_shaped elem p.front p.first, limits_shaped limits p.second.front p.second.first, body_shaped init p.second.back p.second.second)

global_shaped : (x : Global) (text : List ℕ) → SpellsGlobal x text → IsShapedGlobal x
global_shaped x text h = (val_shaped x.ty h.front h.first, body_shaped x.init h.second.back h.second.second)

export_shaped : (x : Export) (text : List ℕ) → SpellsExport x text → IsShapedExport x
export_shaped x text h = (h.first.utf8, u32_fits x.index h.second.back h.second.rest)

start_shaped : (start : Option ℕ) (text : List ℕ) → SpellsSection 8 None SpellsSome start text → IfSome FitsU32 start
start_shaped None text h = tt
start_shaped (Some n) text (inl none) = absurd (let e = none.0 in let f : ⊥ = cc in f)
start_shaped (Some n) text (inr there) = u32_fits n there.rest.first.content there.rest.first.inside

funcs_all : (funcs : List ℕ) (text : List ℕ) → SpellsVector SpellsU32 funcs text → AllByRecursion FitsU32 funcs
funcs_all funcs text h = vector_all SpellsU32 FitsU32 funcs text u32_fits h

exprs_all : (exprs : List Body) (text : List ℕ) → SpellsVector SpellsBody exprs text → AllByRecursion IsShapedBody exprs
exprs_all exprs text h = vector_all SpellsBody IsShapedBody exprs text body_shaped h

zero_fits : (n : ℕ) → n ≡ 0 → FitsU32 n
zero_fits n h = omega (arith, h)

elem_shaped_as : (mode : ElemMode) (items : Items) (text : List ℕ) → SpellsElemAs mode items text → IsShapedElemMode mode × IsShapedItems items
elem_shaped_as (M.Active table offset) (L.Funcs funcs) text (inl h) = let p = h.1.second in ((zero_fits table h.0, body_shaped offset p.front p.first), funcs_all funcs p.back p.second)
elem_shaped_as (M.Active table offset) (L.Funcs funcs) text (inr h) = let p = h.second in let q = p.second in ((u32_fits table p.front p.first, body_shaped offset q.front q.first), funcs_all funcs q.second.back q.second.rest)
elem_shaped_as M.Passive (L.Funcs funcs) text h = (tt, funcs_all funcs h.second.back h.second.rest)
elem_shaped_as M.Declared (L.Funcs funcs) text h = (tt, funcs_all funcs h.second.back h.second.rest)
elem_shaped_as (M.Active table offset) (L.Exprs ty exprs) text (inl h) = let p = h.2.second in ((zero_fits table h.0, body_shaped offset p.front p.first), (subst IsShapedRef (sym h.1) tt, exprs_all exprs p.back p.second))
elem_shaped_as (M.Active table offset) (L.Exprs ty exprs) text (inr h) = let p = h.second in let q = p.second in ((u32_fits table p.front p.first, body_shaped offset q.front q.first), (ref_shaped ty q.second.front q.second.first, exprs_all exprs q.second.back q.second.second))
elem_shaped_as M.Passive (L.Exprs ty exprs) text h = let p = h.second in (tt, (ref_shaped ty p.front p.first, exprs_all exprs p.back p.second))
elem_shaped_as M.Declared (L.Exprs ty exprs) text h = let p = h.second in (tt, (ref_shaped ty p.front p.first, exprs_all exprs p.back p.second))

seg_shaped_as : (mode : SegMode) (bytes text : List ℕ) → SpellsSegAs mode bytes text → IsShapedSegMode mode
seg_shaped_as (G.Active memory offset) bytes text (inl h) = let p = h.1.second in (zero_fits memory h.0, body_shaped offset p.front p.first)
seg_shaped_as (G.Active memory offset) bytes text (inr h) = let p = h.second in (u32_fits memory p.front p.first, body_shaped offset p.second.front p.second.first)
seg_shaped_as G.Passive bytes text h = tt

-- modules

pub spelled_shaped : (text : List ℕ) (m : Module) → Spells text m → AllByRecursion RunsFit m.funcs → IsShaped m
spelled_shaped text m h fits =
    let s1 = h.whole.second.second in
    let s2 = s1.second in
    let s3 = s2.second in
    let s4 = s3.second in
    let s5 = s4.second in
    let s13 = s5.second in
    let s6 = s13.second in
    let s7 = s6.second in
    let s8 = s7.second in
    let s9 = s8.second in
    let s12 = s9.second in
    let s10 = s12.second in
    record {
      types = list_all 1 SpellsGroup IsShapedGroup m.types.groups s1.front group_shaped s1.first;
      imports = list_all 2 SpellsImport IsShapedImport m.imports s2.front import_shaped s2.first;
      funcs = funcs_shaped m.funcs (list_all 3 SpellsTypeIndex (λ func. FitsU32 func.ty) m.funcs s3.front (λ func front s. u32_fits func.ty front s) s3.first) (list_all 10 SpellsFunc EntryShaped m.funcs s10.front entry_shaped s10.first) fits;
      tables = list_all 4 SpellsTable IsShapedTable m.tables s4.front (λ x front s. table_shaped_as x.elem x.limits x.init front s) s4.first;
      memories = list_all 5 SpellsLimits IsShapedLimits m.memories s5.front limits_shaped s5.first;
      tags = list_all 13 SpellsTag FitsU32 m.tags s13.front (λ ty front s. u32_fits ty s.back s.rest) s13.first;
      globals = list_all 6 SpellsGlobal IsShapedGlobal m.globals s6.front global_shaped s6.first;
      exports = list_all 7 SpellsExport IsShapedExport m.exports s7.front export_shaped s7.first;
      start = start_shaped m.start s8.front s8.first;
      elems = list_all 9 SpellsElem IsShapedElem m.elems s9.front (λ x front s. elem_shaped_as x.mode x.items front s) s9.first;
      segs = list_all 11 SpellsSeg IsShapedSeg m.segs s10.back (λ x front s. seg_shaped_as x.mode x.bytes front s) s10.second;
    }
