-- How instructions that hold no code are spelled: the tables of their codes, and what stands behind each code (core
-- specification 3.0, 5.4 Instructions).
use Rattle.std.specs.Prelude.{ℕ, ◌≡◌, ◌⊎◌, ◌<◌, ◌+◌, List, [], ◌∷◌, Bool, true, false, Option, Some, None, ℤ, nat_eq, if◌then◌else◌}
use Rattle.gu_types.specs.declared.types.HeapType.{HeapType}
use Rattle.gu_types.specs.declared.types.RefType.{RefType}
use Rattle.gu_types.specs.declared.types.ValType.{ValType}
use Rattle.gu_optab.specs.Operators.{operator_with}
use Rattle.gu_optab.specs.declared.op.NumOp.{NumOp}
use Rattle.gu_syntax.specs.declared.instr.BlockType.{BlockType}
use Rattle.gu_syntax.specs.declared.instr.BlockType.TheVariants as B
use Rattle.gu_syntax.specs.declared.instr.Catch.{Catch}
use Rattle.gu_syntax.specs.declared.instr.Catch.TheVariants as T
use Rattle.gu_syntax.specs.declared.instr.MemArg.{MemArg}
use Rattle.gu_syntax.specs.declared.instr.BranchTable.{BranchTable}
use Rattle.gu_syntax.specs.declared.instr.CastBranch.{CastBranch}
use Rattle.gu_syntax.specs.declared.instr.Instr.{Instr}
use Rattle.gu_syntax.specs.declared.instr.Instr.TheVariants as I
use Rattle.gu_syntax.specs.Parts.{Parts, Begins, SpellsU32, SpellsS32, SpellsVector, SpellsS33, SpellsS64, Both, Made, Numbered}
use Rattle.gu_syntax.specs.Types.{SpellsHeap, SpellsVal}

-- a block type (Control Instructions)
abbrev pub SpellsBlockType : BlockType → List ℕ → Type 0
SpellsBlockType B.Empty text = text ≡ 0x40 ∷ []
SpellsBlockType (B.Val ty) text = SpellsVal ty text
SpellsBlockType (B.Idx index) text = SpellsS33 index text

-- a catch clause (Control Instructions)
abbrev pub SpellsCatch : Catch → List ℕ → Type 0
SpellsCatch (T.One tag label) text = Begins 0x00 (Parts (SpellsU32 tag) (SpellsU32 label)) text
SpellsCatch (T.OneRef tag label) text = Begins 0x01 (Parts (SpellsU32 tag) (SpellsU32 label)) text
SpellsCatch (T.All label) text = Begins 0x02 (SpellsU32 label) text
SpellsCatch (T.AllRef label) text = Begins 0x03 (SpellsU32 label) text

-- a memory argument: 64 more on the exponent says that a memory index stands before the offset, and without it the
-- memory is the first one (Memory Instructions)
pub record SpellsMemArg (arg : MemArg) (text : List ℕ) : Type 0 where
  pub exponent : arg.exponent < 64
  pub places : ((arg.memory ≡ 0) × Numbered arg.exponent (SpellsU32 arg.offset) text) ⊎ Numbered (arg.exponent + 64) (Parts (SpellsU32 arg.memory) (SpellsU32 arg.offset)) text

-- the flags of a branch on a cast: 1 where null is in the first type, and 2 more where it is in the second
abbrev pub cast_flags : (of to : Bool) → ℕ
cast_flags false false = 0x00
cast_flags true false = 0x01
cast_flags false true = 0x02
cast_flags true true = 0x03

-- the immediates of a branch on a cast (Reference Instructions)
abbrev pub SpellsCast : CastBranch → List ℕ → Type 0
SpellsCast arg text = Begins (cast_flags arg.of.null arg.to.null) (Parts (SpellsU32 arg.label) (Parts (SpellsHeap arg.of.heap) (SpellsHeap arg.to.heap))) text

-- labels, and one more
abbrev pub labels_of : List ℕ × ℕ → BranchTable
labels_of x = record { labels = x.0; last = x.1 }

-- what stands behind the code of an instruction, and the instruction that it makes
pub data Form : Type 0 where
  -- nothing
  Alone : Instr → Form
  -- an index, or two
  Index : (ℕ → Instr) → Form
  Pair : (ℕ → ℕ → Instr) → Form
  -- labels, and one more
  Labels : (BranchTable → Instr) → Form
  -- a constant of 32 or of 64 bits
  Const32 : (ℤ → Instr) → Form
  Const64 : (ℤ → Instr) → Form
  -- a memory argument
  Access : (MemArg → Instr) → Form
  -- a heap type
  Heap : (HeapType → Instr) → Form
  -- value types
  Types : (List ValType → Instr) → Form
  -- what a branch on a cast has
  Cast : (CastBranch → Instr) → Form
  -- no instruction has this code
  Unknown : Form

abbrev pub SpellsForm : Form → Instr → List ℕ → Type 0
SpellsForm (Alone it) instr text = (it ≡ instr) × (text ≡ [])
SpellsForm (Index make) instr text = Made SpellsU32 make instr text
SpellsForm (Pair make) instr text = Made (Both SpellsU32 SpellsU32) (λ x. make x.0 x.1) instr text
SpellsForm (Labels make) instr text = Made (Both (SpellsVector SpellsU32) SpellsU32) (λ x. make (labels_of x)) instr text
SpellsForm (Const32 make) instr text = Made SpellsS32 make instr text
SpellsForm (Const64 make) instr text = Made SpellsS64 make instr text
SpellsForm (Access make) instr text = Made SpellsMemArg make instr text
SpellsForm (Heap make) instr text = Made SpellsHeap make instr text
SpellsForm (Types make) instr text = Made (SpellsVector SpellsVal) make instr text
SpellsForm (Cast make) instr text = Made SpellsCast make instr text
SpellsForm Unknown instr text = ⊥

-- a reference type made of a heap type
abbrev pub ref_to : Bool → HeapType → RefType
ref_to null heap = record { null = null; heap = heap }

-- the codes of one byte, but the integer operators, the openings of blocks, `else` and `end`
abbrev pub plain_rows : List (ℕ × Form)
plain_rows =
    (0x00, Alone I.Unreachable) ∷
    (0x01, Alone I.Nop) ∷
    (0x08, Index I.Throw) ∷
    (0x0A, Alone I.ThrowRef) ∷
    (0x0C, Index I.Br) ∷
    (0x0D, Index I.BrIf) ∷
    (0x0E, Labels I.BrTable) ∷
    (0x0F, Alone I.Return) ∷
    (0x10, Index I.Call) ∷
    (0x11, Pair I.CallIndirect) ∷
    (0x12, Index I.ReturnCall) ∷
    (0x13, Pair I.ReturnCallIndirect) ∷
    (0x14, Index I.CallRef) ∷
    (0x15, Index I.ReturnCallRef) ∷
    (0x1A, Alone I.Drop) ∷
    (0x1B, Alone I.Select) ∷
    (0x1C, Types I.SelectOf) ∷
    (0x20, Index I.LocalGet) ∷
    (0x21, Index I.LocalSet) ∷
    (0x22, Index I.LocalTee) ∷
    (0x23, Index I.GlobalGet) ∷
    (0x24, Index I.GlobalSet) ∷
    (0x25, Index I.TableGet) ∷
    (0x26, Index I.TableSet) ∷
    (0x28, Access I.I32Load) ∷
    (0x29, Access I.I64Load) ∷
    (0x2C, Access I.I32Load8S) ∷
    (0x2D, Access I.I32Load8U) ∷
    (0x2E, Access I.I32Load16S) ∷
    (0x2F, Access I.I32Load16U) ∷
    (0x30, Access I.I64Load8S) ∷
    (0x31, Access I.I64Load8U) ∷
    (0x32, Access I.I64Load16S) ∷
    (0x33, Access I.I64Load16U) ∷
    (0x34, Access I.I64Load32S) ∷
    (0x35, Access I.I64Load32U) ∷
    (0x36, Access I.I32Store) ∷
    (0x37, Access I.I64Store) ∷
    (0x3A, Access I.I32Store8) ∷
    (0x3B, Access I.I32Store16) ∷
    (0x3C, Access I.I64Store8) ∷
    (0x3D, Access I.I64Store16) ∷
    (0x3E, Access I.I64Store32) ∷
    (0x3F, Index I.MemorySize) ∷
    (0x40, Index I.MemoryGrow) ∷
    (0x41, Const32 I.I32Const) ∷
    (0x42, Const64 I.I64Const) ∷
    (0xD0, Heap I.RefNull) ∷
    (0xD1, Alone I.RefIsNull) ∷
    (0xD2, Index I.RefFunc) ∷
    (0xD3, Alone I.RefEq) ∷
    (0xD4, Alone I.RefAsNonNull) ∷
    (0xD5, Index I.BrOnNull) ∷
    (0xD6, Index I.BrOnNonNull) ∷
    []

-- the numbers behind FB: structures, arrays, casts, external and unboxed references
abbrev pub aggregate_rows : List (ℕ × Form)
aggregate_rows =
    (0, Index I.StructNew) ∷
    (1, Index I.StructNewDefault) ∷
    (2, Pair I.StructGet) ∷
    (3, Pair I.StructGetS) ∷
    (4, Pair I.StructGetU) ∷
    (5, Pair I.StructSet) ∷
    (6, Index I.ArrayNew) ∷
    (7, Index I.ArrayNewDefault) ∷
    (8, Pair I.ArrayNewFixed) ∷
    (9, Pair I.ArrayNewData) ∷
    (10, Pair I.ArrayNewElem) ∷
    (11, Index I.ArrayGet) ∷
    (12, Index I.ArrayGetS) ∷
    (13, Index I.ArrayGetU) ∷
    (14, Index I.ArraySet) ∷
    (15, Alone I.ArrayLen) ∷
    (16, Index I.ArrayFill) ∷
    (17, Pair I.ArrayCopy) ∷
    (18, Pair I.ArrayInitData) ∷
    (19, Pair I.ArrayInitElem) ∷
    (20, Heap (λ heap. I.RefTest (ref_to false heap))) ∷
    (21, Heap (λ heap. I.RefTest (ref_to true heap))) ∷
    (22, Heap (λ heap. I.RefCast (ref_to false heap))) ∷
    (23, Heap (λ heap. I.RefCast (ref_to true heap))) ∷
    (24, Cast I.BrOnCast) ∷
    (25, Cast I.BrOnCastFail) ∷
    (26, Alone I.AnyConvertExtern) ∷
    (27, Alone I.ExternConvertAny) ∷
    (28, Alone I.RefI31) ∷
    (29, Alone I.I31GetS) ∷
    (30, Alone I.I31GetU) ∷
    []

-- the numbers behind FC: memories, tables and segments
abbrev pub bulk_rows : List (ℕ × Form)
bulk_rows =
    (8, Pair I.MemoryInit) ∷
    (9, Index I.DataDrop) ∷
    (10, Pair I.MemoryCopy) ∷
    (11, Index I.MemoryFill) ∷
    (12, Pair I.TableInit) ∷
    (13, Index I.ElemDrop) ∷
    (14, Pair I.TableCopy) ∷
    (15, Index I.TableGrow) ∷
    (16, Index I.TableSize) ∷
    (17, Index I.TableFill) ∷
    []

-- what the first row with this code has, or else another
abbrev pub row_or : {X : Type 0} → X → List (ℕ × X) → ℕ → X
row_or other [] code = other
row_or other (row ∷ rows) code = if nat_eq code row.0 then row.1 else row_or other rows code

-- the code of an integer operator
abbrev pub operator_form : Option NumOp → Form
operator_form None = Unknown
operator_form (Some op) = Alone (I.Num op)

-- what stands behind a code of one byte
abbrev pub form_of : ℕ → Form
form_of code = row_or (operator_form (operator_with code)) plain_rows code

-- an instruction by a code of one byte
pub record SpellsCoded (instr : Instr) (text : List ℕ) : Type 0 where
  pub code : ℕ
  pub back : List ℕ
  pub whole : text ≡ code ∷ back
  pub rest : SpellsForm (form_of code) instr back

-- an instruction by a number behind a prefix, in any spelling of the number
pub record SpellsPrefixed (prefix : ℕ) (rows : List (ℕ × Form)) (instr : Instr) (text : List ℕ) : Type 0 where
  pub code : ℕ
  pub rest : Begins prefix (Numbered code (SpellsForm (row_or Unknown rows code) instr)) text

-- an instruction that holds no code
abbrev pub SpellsLeaf : Instr → List ℕ → Type 0
SpellsLeaf instr text = SpellsCoded instr text ⊎ SpellsPrefixed 0xFB aggregate_rows instr text ⊎ SpellsPrefixed 0xFC bulk_rows instr text
