-- Which modules are shaped: names are UTF-8, runs of locals are merged, and every number is one that its place in the
-- binary format can hold (core specification 3.0, chapter 5 Binary Format).
use Rattle.std.specs.Prelude.{ℕ, ◌≤◌, ◌<◌, ◌^◌, ◌≡◌, Option, Some, None, length}
use Rattle.std.specs.List.{AllByRecursion}
use Rattle.std.specs.Str.{IsUtf8}
use Rattle.gu_bytes.specs.Numbers.{FitsBits}
use Rattle.gu_types.specs.declared.types.HeapType.{HeapType}
use Rattle.gu_types.specs.declared.types.HeapType.TheVariants as H
use Rattle.gu_types.specs.declared.types.RefType.{RefType}
use Rattle.gu_types.specs.declared.types.ValType.{ValType}
use Rattle.gu_types.specs.declared.types.ValType.TheVariants as V
use Rattle.gu_types.specs.declared.types.Storage.{Storage}
use Rattle.gu_types.specs.declared.types.Storage.TheVariants as S
use Rattle.gu_types.specs.declared.types.FieldType.{FieldType}
use Rattle.gu_types.specs.declared.types.Comp.{Comp}
use Rattle.gu_types.specs.declared.types.Comp.TheVariants as C
use Rattle.gu_types.specs.declared.types.SubType.{SubType}
use Rattle.gu_types.specs.declared.types.RecGroup.{RecGroup}
use Rattle.gu_syntax.specs.Code.{Ins, Code, leaf, block, loop, choice, try_table, done, next, code_of}
use Rattle.gu_syntax.specs.declared.instr.BlockType.{BlockType}
use Rattle.gu_syntax.specs.declared.instr.BlockType.TheVariants as B
use Rattle.gu_syntax.specs.declared.instr.Body.{Body}
use Rattle.gu_syntax.specs.declared.instr.Catch.{Catch}
use Rattle.gu_syntax.specs.declared.instr.Catch.TheVariants as T
use Rattle.gu_syntax.specs.declared.instr.MemArg.{MemArg}
use Rattle.gu_syntax.specs.declared.instr.Instr.{Instr}
use Rattle.gu_syntax.specs.declared.instr.Instr.TheVariants as I
use Rattle.gu_syntax.specs.declared.module.Desc.{Desc}
use Rattle.gu_syntax.specs.declared.module.Desc.TheVariants as D
use Rattle.gu_syntax.specs.declared.module.Elem.{Elem}
use Rattle.gu_syntax.specs.declared.module.ElemMode.{ElemMode}
use Rattle.gu_syntax.specs.declared.module.ElemMode.TheVariants as M
use Rattle.gu_syntax.specs.declared.module.Export.{Export}
use Rattle.gu_syntax.specs.declared.module.Func.{Func}
use Rattle.gu_syntax.specs.declared.module.Global.{Global}
use Rattle.gu_syntax.specs.declared.module.Import.{Import}
use Rattle.gu_syntax.specs.declared.module.Items.{Items}
use Rattle.gu_syntax.specs.declared.module.Items.TheVariants as L
use Rattle.gu_syntax.specs.declared.module.Limits.{Limits}
use Rattle.gu_syntax.specs.declared.module.Module.{Module}
use Rattle.gu_syntax.specs.declared.module.Seg.{Seg}
use Rattle.gu_syntax.specs.declared.module.SegMode.{SegMode}
use Rattle.gu_syntax.specs.declared.module.SegMode.TheVariants as G
use Rattle.gu_syntax.specs.declared.module.Table.{Table}
use Rattle.gu_syntax.specs.Expressions.{merged}
use Rattle.gu_syntax.specs.Encoding.{encoding}

-- an index or a count of 32 bits
abbrev pub FitsU32 : ℕ → Type 0
FitsU32 n = n < 2 ^ 32

-- what is there is so
abbrev pub IfSome : {X : Type 0} → (X → Type 0) → Option X → Type 0
IfSome P None = Unit {0}
IfSome P (Some x) = P x

-- types

abbrev pub IsShapedHeap : HeapType → Type 0
IsShapedHeap (H.Abs kind) = Unit {0}
IsShapedHeap (H.Idx index) = FitsU32 index

abbrev pub IsShapedRef : RefType → Type 0
IsShapedRef ref = IsShapedHeap ref.heap

abbrev pub IsShapedVal : ValType → Type 0
IsShapedVal V.I32 = Unit {0}
IsShapedVal V.I64 = Unit {0}
IsShapedVal (V.Ref ref) = IsShapedRef ref

abbrev pub IsShapedStorage : Storage → Type 0
IsShapedStorage (S.Val ty) = IsShapedVal ty
IsShapedStorage S.I8 = Unit {0}
IsShapedStorage S.I16 = Unit {0}

abbrev pub IsShapedField : FieldType → Type 0
IsShapedField field = IsShapedStorage field.storage

abbrev pub IsShapedComp : Comp → Type 0
IsShapedComp (C.Func params results) = AllByRecursion IsShapedVal params × AllByRecursion IsShapedVal results
IsShapedComp (C.Struct fields) = AllByRecursion IsShapedField fields
IsShapedComp (C.Array field) = IsShapedField field

abbrev pub IsShapedSub : SubType → Type 0
IsShapedSub ty = AllByRecursion FitsU32 ty.supers × IsShapedComp ty.comp

abbrev pub IsShapedGroup : RecGroup → Type 0
IsShapedGroup group = AllByRecursion IsShapedSub group.types

abbrev pub IsShapedLimits : Limits → Type 0
IsShapedLimits limits = FitsU32 limits.least × IfSome FitsU32 limits.most

-- instructions

abbrev pub IsShapedBlockType : BlockType → Type 0
IsShapedBlockType B.Empty = Unit {0}
IsShapedBlockType (B.Val ty) = IsShapedVal ty
IsShapedBlockType (B.Idx index) = FitsU32 index

abbrev pub IsShapedCatch : Catch → Type 0
IsShapedCatch (T.One tag label) = FitsU32 tag × FitsU32 label
IsShapedCatch (T.OneRef tag label) = FitsU32 tag × FitsU32 label
IsShapedCatch (T.All label) = FitsU32 label
IsShapedCatch (T.AllRef label) = FitsU32 label

abbrev pub IsShapedMemArg : MemArg → Type 0
IsShapedMemArg arg = (arg.exponent < 64) × FitsU32 arg.memory × FitsU32 arg.offset

-- an instruction that holds no code
abbrev pub IsShapedLeaf : Instr → Type 0
IsShapedLeaf I.Unreachable = Unit {0}
IsShapedLeaf I.Nop = Unit {0}
IsShapedLeaf (I.Throw tag) = FitsU32 tag
IsShapedLeaf I.ThrowRef = Unit {0}
IsShapedLeaf (I.Br label) = FitsU32 label
IsShapedLeaf (I.BrIf label) = FitsU32 label
IsShapedLeaf (I.BrTable table) = AllByRecursion FitsU32 table.labels × FitsU32 table.last
IsShapedLeaf I.Return = Unit {0}
IsShapedLeaf (I.Call func) = FitsU32 func
IsShapedLeaf (I.CallIndirect ty table) = FitsU32 ty × FitsU32 table
IsShapedLeaf (I.ReturnCall func) = FitsU32 func
IsShapedLeaf (I.ReturnCallIndirect ty table) = FitsU32 ty × FitsU32 table
IsShapedLeaf (I.CallRef ty) = FitsU32 ty
IsShapedLeaf (I.ReturnCallRef ty) = FitsU32 ty
IsShapedLeaf I.Drop = Unit {0}
IsShapedLeaf I.Select = Unit {0}
IsShapedLeaf (I.SelectOf types) = AllByRecursion IsShapedVal types
IsShapedLeaf (I.LocalGet local) = FitsU32 local
IsShapedLeaf (I.LocalSet local) = FitsU32 local
IsShapedLeaf (I.LocalTee local) = FitsU32 local
IsShapedLeaf (I.GlobalGet global) = FitsU32 global
IsShapedLeaf (I.GlobalSet global) = FitsU32 global
IsShapedLeaf (I.TableGet table) = FitsU32 table
IsShapedLeaf (I.TableSet table) = FitsU32 table
IsShapedLeaf (I.TableInit elem table) = FitsU32 elem × FitsU32 table
IsShapedLeaf (I.TableCopy to of) = FitsU32 to × FitsU32 of
IsShapedLeaf (I.TableGrow table) = FitsU32 table
IsShapedLeaf (I.TableSize table) = FitsU32 table
IsShapedLeaf (I.TableFill table) = FitsU32 table
IsShapedLeaf (I.ElemDrop elem) = FitsU32 elem
IsShapedLeaf (I.I32Load arg) = IsShapedMemArg arg
IsShapedLeaf (I.I64Load arg) = IsShapedMemArg arg
IsShapedLeaf (I.I32Load8S arg) = IsShapedMemArg arg
IsShapedLeaf (I.I32Load8U arg) = IsShapedMemArg arg
IsShapedLeaf (I.I32Load16S arg) = IsShapedMemArg arg
IsShapedLeaf (I.I32Load16U arg) = IsShapedMemArg arg
IsShapedLeaf (I.I64Load8S arg) = IsShapedMemArg arg
IsShapedLeaf (I.I64Load8U arg) = IsShapedMemArg arg
IsShapedLeaf (I.I64Load16S arg) = IsShapedMemArg arg
IsShapedLeaf (I.I64Load16U arg) = IsShapedMemArg arg
IsShapedLeaf (I.I64Load32S arg) = IsShapedMemArg arg
IsShapedLeaf (I.I64Load32U arg) = IsShapedMemArg arg
IsShapedLeaf (I.I32Store arg) = IsShapedMemArg arg
IsShapedLeaf (I.I64Store arg) = IsShapedMemArg arg
IsShapedLeaf (I.I32Store8 arg) = IsShapedMemArg arg
IsShapedLeaf (I.I32Store16 arg) = IsShapedMemArg arg
IsShapedLeaf (I.I64Store8 arg) = IsShapedMemArg arg
IsShapedLeaf (I.I64Store16 arg) = IsShapedMemArg arg
IsShapedLeaf (I.I64Store32 arg) = IsShapedMemArg arg
IsShapedLeaf (I.MemorySize memory) = FitsU32 memory
IsShapedLeaf (I.MemoryGrow memory) = FitsU32 memory
IsShapedLeaf (I.MemoryInit data' memory) = FitsU32 data' × FitsU32 memory
IsShapedLeaf (I.DataDrop data') = FitsU32 data'
IsShapedLeaf (I.MemoryCopy to of) = FitsU32 to × FitsU32 of
IsShapedLeaf (I.MemoryFill memory) = FitsU32 memory
IsShapedLeaf (I.I32Const value) = FitsBits 32 value
IsShapedLeaf (I.I64Const value) = FitsBits 64 value
IsShapedLeaf (I.Num op) = op.row < 66
IsShapedLeaf (I.RefNull heap) = IsShapedHeap heap
IsShapedLeaf I.RefIsNull = Unit {0}
IsShapedLeaf (I.RefFunc func) = FitsU32 func
IsShapedLeaf I.RefEq = Unit {0}
IsShapedLeaf I.RefAsNonNull = Unit {0}
IsShapedLeaf (I.BrOnNull label) = FitsU32 label
IsShapedLeaf (I.BrOnNonNull label) = FitsU32 label
IsShapedLeaf (I.RefTest ref) = IsShapedRef ref
IsShapedLeaf (I.RefCast ref) = IsShapedRef ref
IsShapedLeaf (I.BrOnCast arg) = FitsU32 arg.label × IsShapedRef arg.of × IsShapedRef arg.to
IsShapedLeaf (I.BrOnCastFail arg) = FitsU32 arg.label × IsShapedRef arg.of × IsShapedRef arg.to
IsShapedLeaf (I.StructNew ty) = FitsU32 ty
IsShapedLeaf (I.StructNewDefault ty) = FitsU32 ty
IsShapedLeaf (I.StructGet ty field) = FitsU32 ty × FitsU32 field
IsShapedLeaf (I.StructGetS ty field) = FitsU32 ty × FitsU32 field
IsShapedLeaf (I.StructGetU ty field) = FitsU32 ty × FitsU32 field
IsShapedLeaf (I.StructSet ty field) = FitsU32 ty × FitsU32 field
IsShapedLeaf (I.ArrayNew ty) = FitsU32 ty
IsShapedLeaf (I.ArrayNewDefault ty) = FitsU32 ty
IsShapedLeaf (I.ArrayNewFixed ty count) = FitsU32 ty × FitsU32 count
IsShapedLeaf (I.ArrayNewData ty data') = FitsU32 ty × FitsU32 data'
IsShapedLeaf (I.ArrayNewElem ty elem) = FitsU32 ty × FitsU32 elem
IsShapedLeaf (I.ArrayGet ty) = FitsU32 ty
IsShapedLeaf (I.ArrayGetS ty) = FitsU32 ty
IsShapedLeaf (I.ArrayGetU ty) = FitsU32 ty
IsShapedLeaf (I.ArraySet ty) = FitsU32 ty
IsShapedLeaf I.ArrayLen = Unit {0}
IsShapedLeaf (I.ArrayFill ty) = FitsU32 ty
IsShapedLeaf (I.ArrayCopy to of) = FitsU32 to × FitsU32 of
IsShapedLeaf (I.ArrayInitData ty data') = FitsU32 ty × FitsU32 data'
IsShapedLeaf (I.ArrayInitElem ty elem) = FitsU32 ty × FitsU32 elem
IsShapedLeaf I.AnyConvertExtern = Unit {0}
IsShapedLeaf I.ExternConvertAny = Unit {0}
IsShapedLeaf I.RefI31 = Unit {0}
IsShapedLeaf I.I31GetS = Unit {0}
IsShapedLeaf I.I31GetU = Unit {0}
IsShapedLeaf _ = ⊥

abbrev mutual
  pub IsShapedCode : Code → Type 0
  IsShapedCode done = Unit {0}
  IsShapedCode (next ins code) = IsShapedIns ins × IsShapedCode code

  pub IsShapedIns : Ins → Type 0
  IsShapedIns (leaf instr) = IsShapedLeaf instr
  IsShapedIns (block ty code) = IsShapedBlockType ty × IsShapedCode code
  IsShapedIns (loop ty code) = IsShapedBlockType ty × IsShapedCode code
  IsShapedIns (choice ty yes' no') = IsShapedBlockType ty × IsShapedCode yes' × IsShapedCode no'
  IsShapedIns (try_table ty catches code) = IsShapedBlockType ty × AllByRecursion IsShapedCatch catches × IsShapedCode code

abbrev pub IsShapedBody : Body → Type 0
IsShapedBody body = IsShapedCode (code_of body.code)

-- modules

abbrev pub IsShapedRun : ℕ × ValType → Type 0
IsShapedRun run = FitsU32 run.0 × IsShapedVal run.1

-- no run is empty and no two side by side have one type, where merging changes nothing
pub record IsShapedFunc (func : Func) : Type 0 where
  pub ty : FitsU32 func.ty
  pub merges : merged func.locals ≡ func.locals
  pub locals : AllByRecursion IsShapedRun func.locals
  pub body : IsShapedBody func.body

abbrev pub IsShapedDesc : Desc → Type 0
IsShapedDesc (D.Func ty) = FitsU32 ty
IsShapedDesc (D.Table elem limits) = IsShapedRef elem × IsShapedLimits limits
IsShapedDesc (D.Memory limits) = IsShapedLimits limits
IsShapedDesc (D.Global ty mutable) = IsShapedVal ty
IsShapedDesc (D.Tag ty) = FitsU32 ty

pub record IsShapedImport («import» : Import) : Type 0 where
  pub module' : IsUtf8 «import».module
  pub name : IsUtf8 «import».name
  pub desc : IsShapedDesc «import».desc

abbrev pub IsShapedTable : Table → Type 0
IsShapedTable table = IsShapedRef table.elem × IsShapedLimits table.limits × IfSome IsShapedBody table.init

abbrev pub IsShapedGlobal : Global → Type 0
IsShapedGlobal global = IsShapedVal global.ty × IsShapedBody global.init

abbrev pub IsShapedExport : Export → Type 0
IsShapedExport export = IsUtf8 export.name × FitsU32 export.index

abbrev pub IsShapedElemMode : ElemMode → Type 0
IsShapedElemMode (M.Active table offset) = FitsU32 table × IsShapedBody offset
IsShapedElemMode M.Passive = Unit {0}
IsShapedElemMode M.Declared = Unit {0}

abbrev pub IsShapedItems : Items → Type 0
IsShapedItems (L.Funcs funcs) = AllByRecursion FitsU32 funcs
IsShapedItems (L.Exprs ty exprs) = IsShapedRef ty × AllByRecursion IsShapedBody exprs

abbrev pub IsShapedElem : Elem → Type 0
IsShapedElem elem = IsShapedElemMode elem.mode × IsShapedItems elem.items

abbrev pub IsShapedSegMode : SegMode → Type 0
IsShapedSegMode (G.Active memory offset) = FitsU32 memory × IsShapedBody offset
IsShapedSegMode G.Passive = Unit {0}

abbrev pub IsShapedSeg : Seg → Type 0
IsShapedSeg seg = IsShapedSegMode seg.mode

-- every part of the module is shaped
pub record IsShaped (m : Module) : Type 0 where
  pub types : AllByRecursion IsShapedGroup m.types.groups
  pub imports : AllByRecursion IsShapedImport m.imports
  pub funcs : AllByRecursion IsShapedFunc m.funcs
  pub tables : AllByRecursion IsShapedTable m.tables
  pub memories : AllByRecursion IsShapedLimits m.memories
  pub tags : AllByRecursion FitsU32 m.tags
  pub globals : AllByRecursion IsShapedGlobal m.globals
  pub exports : AllByRecursion IsShapedExport m.exports
  pub start : IfSome FitsU32 m.start
  pub elems : AllByRecursion IsShapedElem m.elems
  pub segs : AllByRecursion IsShapedSeg m.segs

-- the module is shaped, and its text has at most 2 ^ 28 bytes
pub record IsPlain (m : Module) : Type 0 where
  pub shaped : IsShaped m
  pub short : length (encoding m) ≤ 268435456
