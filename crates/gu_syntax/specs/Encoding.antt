-- The one text that a module is written as: the sections that are not empty, the least spelling of each number, and
-- the shortest form of each thing that has several (core specification 3.0, chapter 5 Binary Format).
use Rattle.std.specs.Prelude.{ℕ, ◌+◌, List, [], ◌∷◌, ◌++◌, length, Bool, true, false, Option, Some, None, pos, nat_eq, if◌then◌else◌}
use Rattle.gu_bytes.specs.Numbers.{least_unsigned, least_signed}
use Rattle.gu_types.specs.declared.types.HeapType.{HeapType}
use Rattle.gu_types.specs.declared.types.HeapType.TheVariants as H
use Rattle.gu_types.specs.declared.types.RefType.{RefType}
use Rattle.gu_types.specs.declared.types.ValType.{ValType}
use Rattle.gu_types.specs.declared.types.ValType.TheVariants as V
use Rattle.gu_types.specs.declared.types.Storage.{Storage}
use Rattle.gu_types.specs.declared.types.Storage.TheVariants as S
use Rattle.gu_types.specs.declared.types.FieldType.{FieldType}
use Rattle.gu_types.specs.declared.types.Comp.{Comp}
use Rattle.gu_types.specs.declared.types.Comp.TheVariants as C
use Rattle.gu_types.specs.declared.types.SubType.{SubType}
use Rattle.gu_types.specs.declared.types.RecGroup.{RecGroup}
use Rattle.gu_optab.specs.Operators.{row_at}
use Rattle.gu_syntax.specs.Code.{Ins, Code, leaf, block, loop, choice, try_table, done, next, code_of}
use Rattle.gu_syntax.specs.Module.{header}
use Rattle.gu_syntax.specs.declared.instr.BlockType.{BlockType}
use Rattle.gu_syntax.specs.declared.instr.BlockType.TheVariants as B
use Rattle.gu_syntax.specs.declared.instr.Body.{Body}
use Rattle.gu_syntax.specs.declared.instr.Catch.{Catch}
use Rattle.gu_syntax.specs.declared.instr.Catch.TheVariants as T
use Rattle.gu_syntax.specs.declared.instr.MemArg.{MemArg}
use Rattle.gu_syntax.specs.declared.instr.Instr.{Instr}
use Rattle.gu_syntax.specs.declared.instr.Instr.TheVariants as I
use Rattle.gu_syntax.specs.declared.module.Desc.{Desc}
use Rattle.gu_syntax.specs.declared.module.Desc.TheVariants as D
use Rattle.gu_syntax.specs.declared.module.Elem.{Elem}
use Rattle.gu_syntax.specs.declared.module.ElemMode.{ElemMode}
use Rattle.gu_syntax.specs.declared.module.ElemMode.TheVariants as M
use Rattle.gu_syntax.specs.declared.module.Export.{Export}
use Rattle.gu_syntax.specs.declared.module.Func.{Func}
use Rattle.gu_syntax.specs.declared.module.Global.{Global}
use Rattle.gu_syntax.specs.declared.module.Import.{Import}
use Rattle.gu_syntax.specs.declared.module.Items.{Items}
use Rattle.gu_syntax.specs.declared.module.Items.TheVariants as L
use Rattle.gu_syntax.specs.declared.module.Limits.{Limits}
use Rattle.gu_syntax.specs.declared.module.Module.{Module}
use Rattle.gu_syntax.specs.declared.module.Seg.{Seg}
use Rattle.gu_syntax.specs.declared.module.SegMode.{SegMode}
use Rattle.gu_syntax.specs.declared.module.SegMode.TheVariants as G
use Rattle.gu_syntax.specs.declared.module.Table.{Table}
use Rattle.gu_syntax.specs.Types.{abs_byte, null_byte, mutability, final_byte}
use Rattle.gu_syntax.specs.declared.instr.CastBranch.{CastBranch}
use Rattle.gu_syntax.specs.Instructions.{cast_flags}
use Rattle.gu_syntax.specs.Expressions.{same_heap}
use Rattle.gu_syntax.specs.Sections.{kind_byte, funcref}

-- parts (5.1 Conventions)

-- items in order
abbrev pub encode_items : {X : Type 0} → (X → List ℕ) → List X → List ℕ
encode_items encode [] = []
encode_items encode (x ∷ xs) = encode x ++ encode_items encode xs

-- a vector: how many items, and the items (5.1.3 Lists)
abbrev pub encode_vector : {X : Type 0} → (X → List ℕ) → List X → List ℕ
encode_vector encode xs = least_unsigned (length xs) ++ encode_items encode xs

-- how many bytes follow, and the bytes
abbrev pub sized : List ℕ → List ℕ
sized content = least_unsigned (length content) ++ content

-- a section, or nothing where there are no items (5.5.2 Sections)
abbrev pub section : {X : Type 0} → ℕ → (X → List ℕ) → List X → List ℕ
section id encode [] = []
section id encode (x ∷ xs) = id ∷ sized (encode_vector encode (x ∷ xs))

-- a name (5.2.4 Names)
abbrev pub encode_name : List ℕ → List ℕ
encode_name name = least_unsigned (length name) ++ name

-- types (5.3 Types)

abbrev pub encode_heap : HeapType → List ℕ
encode_heap (H.Abs kind) = abs_byte kind ∷ []
encode_heap (H.Idx index) = least_signed (pos index)

-- a nullable abstract reference is one byte
abbrev pub encode_ref_as : Bool → HeapType → List ℕ
encode_ref_as true (H.Abs kind) = abs_byte kind ∷ []
encode_ref_as null heap = null_byte null ∷ encode_heap heap

abbrev pub encode_ref : RefType → List ℕ
encode_ref ref = encode_ref_as ref.null ref.heap

abbrev pub encode_val : ValType → List ℕ
encode_val V.I32 = 0x7F ∷ []
encode_val V.I64 = 0x7E ∷ []
encode_val (V.Ref ref) = encode_ref ref

abbrev pub encode_mutable : Bool → List ℕ
encode_mutable mutable = mutability mutable ∷ []

abbrev pub encode_storage : Storage → List ℕ
encode_storage (S.Val ty) = encode_val ty
encode_storage S.I8 = 0x78 ∷ []
encode_storage S.I16 = 0x77 ∷ []

abbrev pub encode_field : FieldType → List ℕ
encode_field field = encode_storage field.storage ++ encode_mutable field.mutable

abbrev pub encode_comp : Comp → List ℕ
encode_comp (C.Func params results) = 0x60 ∷ (encode_vector encode_val params ++ encode_vector encode_val results)
encode_comp (C.Struct fields) = 0x5F ∷ encode_vector encode_field fields
encode_comp (C.Array field) = 0x5E ∷ encode_field field

-- a final subtype without supertypes is a bare composite type
abbrev pub encode_sub_as : Bool → List ℕ → Comp → List ℕ
encode_sub_as true [] comp = encode_comp comp
encode_sub_as is_final supers comp = final_byte is_final ∷ (encode_vector least_unsigned supers ++ encode_comp comp)

abbrev pub encode_sub : SubType → List ℕ
encode_sub ty = encode_sub_as ty.is_final ty.supers ty.comp

-- a group of one is a bare subtype
abbrev pub encode_subs : List SubType → List ℕ
encode_subs (ty ∷ []) = encode_sub ty
encode_subs types = 0x4E ∷ encode_vector encode_sub types

abbrev pub encode_group : RecGroup → List ℕ
encode_group group = encode_subs group.types

abbrev pub encode_range : ℕ → Option ℕ → List ℕ
encode_range least None = 0x00 ∷ least_unsigned least
encode_range least (Some most) = 0x01 ∷ (least_unsigned least ++ least_unsigned most)

abbrev pub encode_limits : Limits → List ℕ
encode_limits limits = encode_range limits.least limits.most

-- instructions (5.4 Instructions)

abbrev pub encode_block_type : BlockType → List ℕ
encode_block_type B.Empty = 0x40 ∷ []
encode_block_type (B.Val ty) = encode_val ty
encode_block_type (B.Idx index) = least_signed (pos index)

abbrev pub encode_catch : Catch → List ℕ
encode_catch (T.One tag label) = 0x00 ∷ (least_unsigned tag ++ least_unsigned label)
encode_catch (T.OneRef tag label) = 0x01 ∷ (least_unsigned tag ++ least_unsigned label)
encode_catch (T.All label) = 0x02 ∷ least_unsigned label
encode_catch (T.AllRef label) = 0x03 ∷ least_unsigned label

-- memory 0 has no index
abbrev pub encode_mem_arg : MemArg → List ℕ
encode_mem_arg arg = if nat_eq arg.memory 0 then least_unsigned arg.exponent ++ least_unsigned arg.offset else least_unsigned (arg.exponent + 64) ++ (least_unsigned arg.memory ++ least_unsigned arg.offset)

abbrev pub encode_cast : CastBranch → List ℕ
encode_cast arg = cast_flags arg.of.null arg.to.null ∷ (least_unsigned arg.label ++ (encode_heap arg.of.heap ++ encode_heap arg.to.heap))

-- the number of an instruction on a cast behind FB is one more where null is in the type
abbrev pub or_null : ℕ → Bool → ℕ
or_null n false = n
or_null n true = n + 1

-- one code, and immediates
abbrev pub with_index : ℕ → ℕ → List ℕ
with_index code n = code ∷ least_unsigned n

abbrev pub with_pair : ℕ → ℕ → ℕ → List ℕ
with_pair code m n = code ∷ (least_unsigned m ++ least_unsigned n)

abbrev pub with_arg : ℕ → MemArg → List ℕ
with_arg code arg = code ∷ encode_mem_arg arg

-- a prefix, a number, and immediates
abbrev pub prefixed : ℕ → ℕ → List ℕ → List ℕ
prefixed prefix code immediates = prefix ∷ (least_unsigned code ++ immediates)

abbrev pub two : ℕ → ℕ → List ℕ
two m n = least_unsigned m ++ least_unsigned n

-- an instruction that holds no code
abbrev pub encode_leaf : Instr → List ℕ
encode_leaf I.Unreachable = 0x00 ∷ []
encode_leaf I.Nop = 0x01 ∷ []
encode_leaf (I.Throw tag) = with_index 0x08 tag
encode_leaf I.ThrowRef = 0x0A ∷ []
encode_leaf (I.Br label) = with_index 0x0C label
encode_leaf (I.BrIf label) = with_index 0x0D label
encode_leaf (I.BrTable table) = 0x0E ∷ (encode_vector least_unsigned table.labels ++ least_unsigned table.last)
encode_leaf I.Return = 0x0F ∷ []
encode_leaf (I.Call func) = with_index 0x10 func
encode_leaf (I.CallIndirect ty table) = with_pair 0x11 ty table
encode_leaf (I.ReturnCall func) = with_index 0x12 func
encode_leaf (I.ReturnCallIndirect ty table) = with_pair 0x13 ty table
encode_leaf (I.CallRef ty) = with_index 0x14 ty
encode_leaf (I.ReturnCallRef ty) = with_index 0x15 ty
encode_leaf I.Drop = 0x1A ∷ []
encode_leaf I.Select = 0x1B ∷ []
encode_leaf (I.SelectOf types) = 0x1C ∷ encode_vector encode_val types
encode_leaf (I.LocalGet local) = with_index 0x20 local
encode_leaf (I.LocalSet local) = with_index 0x21 local
encode_leaf (I.LocalTee local) = with_index 0x22 local
encode_leaf (I.GlobalGet global) = with_index 0x23 global
encode_leaf (I.GlobalSet global) = with_index 0x24 global
encode_leaf (I.TableGet table) = with_index 0x25 table
encode_leaf (I.TableSet table) = with_index 0x26 table
encode_leaf (I.I32Load arg) = with_arg 0x28 arg
encode_leaf (I.I64Load arg) = with_arg 0x29 arg
encode_leaf (I.I32Load8S arg) = with_arg 0x2C arg
encode_leaf (I.I32Load8U arg) = with_arg 0x2D arg
encode_leaf (I.I32Load16S arg) = with_arg 0x2E arg
encode_leaf (I.I32Load16U arg) = with_arg 0x2F arg
encode_leaf (I.I64Load8S arg) = with_arg 0x30 arg
encode_leaf (I.I64Load8U arg) = with_arg 0x31 arg
encode_leaf (I.I64Load16S arg) = with_arg 0x32 arg
encode_leaf (I.I64Load16U arg) = with_arg 0x33 arg
encode_leaf (I.I64Load32S arg) = with_arg 0x34 arg
encode_leaf (I.I64Load32U arg) = with_arg 0x35 arg
encode_leaf (I.I32Store arg) = with_arg 0x36 arg
encode_leaf (I.I64Store arg) = with_arg 0x37 arg
encode_leaf (I.I32Store8 arg) = with_arg 0x3A arg
encode_leaf (I.I32Store16 arg) = with_arg 0x3B arg
encode_leaf (I.I64Store8 arg) = with_arg 0x3C arg
encode_leaf (I.I64Store16 arg) = with_arg 0x3D arg
encode_leaf (I.I64Store32 arg) = with_arg 0x3E arg
encode_leaf (I.MemorySize memory) = with_index 0x3F memory
encode_leaf (I.MemoryGrow memory) = with_index 0x40 memory
encode_leaf (I.I32Const value) = 0x41 ∷ least_signed value
encode_leaf (I.I64Const value) = 0x42 ∷ least_signed value
encode_leaf (I.Num op) = (row_at op.row).code ∷ []
encode_leaf (I.RefNull heap) = 0xD0 ∷ encode_heap heap
encode_leaf I.RefIsNull = 0xD1 ∷ []
encode_leaf (I.RefFunc func) = with_index 0xD2 func
encode_leaf I.RefEq = 0xD3 ∷ []
encode_leaf I.RefAsNonNull = 0xD4 ∷ []
encode_leaf (I.BrOnNull label) = with_index 0xD5 label
encode_leaf (I.BrOnNonNull label) = with_index 0xD6 label
encode_leaf (I.StructNew ty) = prefixed 0xFB 0 (least_unsigned ty)
encode_leaf (I.StructNewDefault ty) = prefixed 0xFB 1 (least_unsigned ty)
encode_leaf (I.StructGet ty field) = prefixed 0xFB 2 (two ty field)
encode_leaf (I.StructGetS ty field) = prefixed 0xFB 3 (two ty field)
encode_leaf (I.StructGetU ty field) = prefixed 0xFB 4 (two ty field)
encode_leaf (I.StructSet ty field) = prefixed 0xFB 5 (two ty field)
encode_leaf (I.ArrayNew ty) = prefixed 0xFB 6 (least_unsigned ty)
encode_leaf (I.ArrayNewDefault ty) = prefixed 0xFB 7 (least_unsigned ty)
encode_leaf (I.ArrayNewFixed ty count) = prefixed 0xFB 8 (two ty count)
encode_leaf (I.ArrayNewData ty data') = prefixed 0xFB 9 (two ty data')
encode_leaf (I.ArrayNewElem ty elem) = prefixed 0xFB 10 (two ty elem)
encode_leaf (I.ArrayGet ty) = prefixed 0xFB 11 (least_unsigned ty)
encode_leaf (I.ArrayGetS ty) = prefixed 0xFB 12 (least_unsigned ty)
encode_leaf (I.ArrayGetU ty) = prefixed 0xFB 13 (least_unsigned ty)
encode_leaf (I.ArraySet ty) = prefixed 0xFB 14 (least_unsigned ty)
encode_leaf I.ArrayLen = prefixed 0xFB 15 []
encode_leaf (I.ArrayFill ty) = prefixed 0xFB 16 (least_unsigned ty)
encode_leaf (I.ArrayCopy to of) = prefixed 0xFB 17 (two to of)
encode_leaf (I.ArrayInitData ty data') = prefixed 0xFB 18 (two ty data')
encode_leaf (I.ArrayInitElem ty elem) = prefixed 0xFB 19 (two ty elem)
encode_leaf (I.RefTest ref) = prefixed 0xFB (or_null 20 ref.null) (encode_heap ref.heap)
encode_leaf (I.RefCast ref) = prefixed 0xFB (or_null 22 ref.null) (encode_heap ref.heap)
encode_leaf (I.BrOnCast arg) = prefixed 0xFB 24 (encode_cast arg)
encode_leaf (I.BrOnCastFail arg) = prefixed 0xFB 25 (encode_cast arg)
encode_leaf I.AnyConvertExtern = prefixed 0xFB 26 []
encode_leaf I.ExternConvertAny = prefixed 0xFB 27 []
encode_leaf I.RefI31 = prefixed 0xFB 28 []
encode_leaf I.I31GetS = prefixed 0xFB 29 []
encode_leaf I.I31GetU = prefixed 0xFB 30 []
encode_leaf (I.MemoryInit data' memory) = prefixed 0xFC 8 (two data' memory)
encode_leaf (I.DataDrop data') = prefixed 0xFC 9 (least_unsigned data')
encode_leaf (I.MemoryCopy to of) = prefixed 0xFC 10 (two to of)
encode_leaf (I.MemoryFill memory) = prefixed 0xFC 11 (least_unsigned memory)
encode_leaf (I.TableInit elem table) = prefixed 0xFC 12 (two elem table)
encode_leaf (I.ElemDrop elem) = prefixed 0xFC 13 (least_unsigned elem)
encode_leaf (I.TableCopy to of) = prefixed 0xFC 14 (two to of)
encode_leaf (I.TableGrow table) = prefixed 0xFC 15 (least_unsigned table)
encode_leaf (I.TableSize table) = prefixed 0xFC 16 (least_unsigned table)
encode_leaf (I.TableFill table) = prefixed 0xFC 17 (least_unsigned table)
encode_leaf _ = []

abbrev mutual
  -- instructions, and then the byte that ends them
  pub encode_until : ℕ → Code → List ℕ
  encode_until end done = end ∷ []
  encode_until end (next ins code) = encode_ins ins ++ encode_until end code

  -- an instruction; an empty second branch is left out
  pub encode_ins : Ins → List ℕ
  encode_ins (leaf instr) = encode_leaf instr
  encode_ins (block ty code) = 0x02 ∷ (encode_block_type ty ++ encode_until 0x0B code)
  encode_ins (loop ty code) = 0x03 ∷ (encode_block_type ty ++ encode_until 0x0B code)
  encode_ins (choice ty yes' done) = 0x04 ∷ (encode_block_type ty ++ encode_until 0x0B yes')
  encode_ins (choice ty yes' (next ins code)) = 0x04 ∷ (encode_block_type ty ++ (encode_until 0x05 yes' ++ (encode_ins ins ++ encode_until 0x0B code)))
  encode_ins (try_table ty catches code) = 0x1F ∷ (encode_block_type ty ++ (encode_vector encode_catch catches ++ encode_until 0x0B code))

-- an expression
abbrev pub encode_body : Body → List ℕ
encode_body body = encode_until 0x0B (code_of body.code)

-- modules (5.5 Modules)

abbrev pub encode_run : ℕ × ValType → List ℕ
encode_run run = least_unsigned run.0 ++ encode_val run.1

-- a code entry of these locals and this body
abbrev pub encode_entry : List (ℕ × ValType) → Body → List ℕ
encode_entry locals body = sized (encode_vector encode_run locals ++ encode_body body)

abbrev pub encode_func : Func → List ℕ
encode_func func = encode_entry func.locals func.body

abbrev pub encode_desc : Desc → List ℕ
encode_desc (D.Func ty) = 0x00 ∷ least_unsigned ty
encode_desc (D.Table elem limits) = 0x01 ∷ (encode_ref elem ++ encode_limits limits)
encode_desc (D.Memory limits) = 0x02 ∷ encode_limits limits
encode_desc (D.Global ty mutable) = 0x03 ∷ (encode_val ty ++ encode_mutable mutable)
encode_desc (D.Tag ty) = 0x04 ∷ 0x00 ∷ least_unsigned ty

abbrev pub encode_import : Import → List ℕ
encode_import «import» = encode_name «import».module ++ (encode_name «import».name ++ encode_desc «import».desc)

-- an item of the function section: the index of a function's type (5.5.6 Function Section)
abbrev pub encode_type_index : Func → List ℕ
encode_type_index func = least_unsigned func.ty

abbrev pub encode_table_as : RefType → Limits → Option Body → List ℕ
encode_table_as elem limits None = encode_ref elem ++ encode_limits limits
encode_table_as elem limits (Some init) = 0x40 ∷ 0x00 ∷ (encode_ref elem ++ (encode_limits limits ++ encode_body init))

abbrev pub encode_table : Table → List ℕ
encode_table table = encode_table_as table.elem table.limits table.init

abbrev pub encode_tag : ℕ → List ℕ
encode_tag ty = 0x00 ∷ least_unsigned ty

abbrev pub encode_global : Global → List ℕ
encode_global global = encode_val global.ty ++ (encode_mutable global.mutable ++ encode_body global.init)

abbrev pub encode_export : Export → List ℕ
encode_export export = encode_name export.name ++ (kind_byte export.kind ∷ least_unsigned export.index)

-- whether a type is that of a table of functions
abbrev pub is_funcref : RefType → Bool
is_funcref ref = if ref.null then same_heap ref.heap funcref.heap else false

-- a segment on table 0 leaves the table out, and with it the type of its expressions where that is of functions
abbrev pub encode_elem_as : ElemMode → Items → List ℕ
encode_elem_as (M.Active table offset) (L.Funcs funcs) = if nat_eq table 0 then 0x00 ∷ (encode_body offset ++ encode_vector least_unsigned funcs) else (0x02 ∷ (least_unsigned table ++ (encode_body offset ++ (0x00 ∷ encode_vector least_unsigned funcs))))
encode_elem_as M.Passive (L.Funcs funcs) = 0x01 ∷ 0x00 ∷ encode_vector least_unsigned funcs
encode_elem_as M.Declared (L.Funcs funcs) = 0x03 ∷ 0x00 ∷ encode_vector least_unsigned funcs
encode_elem_as (M.Active table offset) (L.Exprs ty exprs) = if (if nat_eq table 0 then is_funcref ty else false) then 0x04 ∷ (encode_body offset ++ encode_vector encode_body exprs) else (0x06 ∷ (least_unsigned table ++ (encode_body offset ++ (encode_ref ty ++ encode_vector encode_body exprs))))
encode_elem_as M.Passive (L.Exprs ty exprs) = 0x05 ∷ (encode_ref ty ++ encode_vector encode_body exprs)
encode_elem_as M.Declared (L.Exprs ty exprs) = 0x07 ∷ (encode_ref ty ++ encode_vector encode_body exprs)

abbrev pub encode_elem : Elem → List ℕ
encode_elem elem = encode_elem_as elem.mode elem.items

-- a segment on memory 0 leaves the memory out
abbrev pub encode_seg_as : SegMode → List ℕ → List ℕ
encode_seg_as (G.Active memory offset) bytes = if nat_eq memory 0 then 0x00 ∷ (encode_body offset ++ encode_name bytes) else (0x02 ∷ (least_unsigned memory ++ (encode_body offset ++ encode_name bytes)))
encode_seg_as G.Passive bytes = 0x01 ∷ encode_name bytes

abbrev pub encode_seg : Seg → List ℕ
encode_seg seg = encode_seg_as seg.mode seg.bytes

-- the start section
abbrev pub encode_start : Option ℕ → List ℕ
encode_start None = []
encode_start (Some func) = 0x08 ∷ sized (least_unsigned func)

-- the data count section
abbrev pub encode_count : Bool → ℕ → List ℕ
encode_count false n = []
encode_count true n = 0x0C ∷ sized (least_unsigned n)

-- the text of a module (5.5.17 Modules)
unfoldable pub encoding : Module → List ℕ
encoding m =
    header
    ++ (section 1 encode_group m.types.groups
    ++ (section 2 encode_import m.imports
    ++ (section 3 encode_type_index m.funcs
    ++ (section 4 encode_table m.tables
    ++ (section 5 encode_limits m.memories
    ++ (section 13 encode_tag m.tags
    ++ (section 6 encode_global m.globals
    ++ (section 7 encode_export m.exports
    ++ (encode_start m.start
    ++ (section 9 encode_elem m.elems
    ++ (encode_count m.has_count (length m.segs)
    ++ (section 10 encode_func m.funcs
    ++ section 11 encode_seg m.segs))))))))))))
