-- What each plain instruction does: one that holds no code, branches nowhere, calls nothing, throws nothing and asks
-- nothing (core specification 3.0, 4.6 Instructions). Those of parametric and variable instructions stand here, the
-- others in Numbers, Aggregates and Tables.
use Rattle.std.specs.Prelude.{ℕ, cond, List, [], ◌∷◌, length, Option, Some, None, slice_get, slice_set, nat_eq}
use Rattle.std.specs.Int.{w8, w16, w32, w64}
use Rattle.gu_types.specs.declared.types.FieldType.{FieldType}
use Rattle.gu_optab.specs.declared.op.NumType.TheVariants as N
use Rattle.gu_optab.specs.Operators.{row_at}
use Rattle.gu_num.specs.Numeric.{extend_s}
use Rattle.gu_syntax.specs.declared.instr.Instr.{Instr}
use Rattle.gu_syntax.specs.declared.instr.Instr.TheVariants as I
use Rattle.gu_model.specs.Index.{struct_type}
use Rattle.gu_model.specs.Outline.{Outline}
use Rattle.gu_model.specs.Value.{Value, i32, Store}
use Rattle.gu_model.specs.Did.{Did, goes, traps, fails, Rule, need}
use Rattle.gu_model.specs.Numbers.{i32_const, i64_const, operator, as_it_is, load, store, memory_size}
use Rattle.gu_model.specs.Aggregates.{ref_null, ref_func, ref_is_null, ref_as_non_null, ref_eq, ref_test, ref_cast, ref_i31, signed_31, i31_get, any_convert_extern, extern_convert_any, whole, signed, unsigned, struct_new, struct_new_default, struct_get, struct_set, array_new, array_new_default, array_new_fixed, array_new_data, array_new_elem, array_get, array_set, array_len, array_fill, array_copy, array_init_data, array_init_elem}
use Rattle.gu_model.specs.Tables.{table_get, table_set, table_size, table_fill, table_copy, table_init, elem_drop, memory_fill, memory_copy, memory_init, data_drop}

-- nop and unreachable (Control Instructions)
abbrev pub do_nop : Rule
do_nop ls st [] = goes [] ls st
do_nop ls st _ = fails

-- drop (Parametric Instructions)
abbrev pub do_drop : Rule
do_drop ls st (v ∷ []) = goes [] ls st
do_drop ls st _ = fails

-- select: the first where the number is not 0, else the second
abbrev pub select : Rule
select ls st (i32 n ∷ w ∷ v ∷ []) = goes (cond (nat_eq n 0) w v ∷ []) ls st
select ls st _ = fails

-- what a local or a global holds, where it is set
abbrev pub found : Option (Option Value) → List (Option Value) → Store → Did
found (Some (Some v)) ls st = goes (v ∷ []) ls st
found _ ls st = fails

-- local.get x (Variable Instructions)
abbrev pub local_get : (local : ℕ) → Rule
local_get x ls st [] = found (slice_get ls x) ls st
local_get x ls st _ = fails

-- local.set x
abbrev pub local_set : (local : ℕ) → Rule
local_set x ls st (v ∷ []) = need (slice_get ls x) (λ old. goes [] (slice_set ls x (Some v)) st)
local_set x ls st _ = fails

-- local.tee x
abbrev pub local_tee : (local : ℕ) → Rule
local_tee x ls st (v ∷ []) = need (slice_get ls x) (λ old. goes (v ∷ []) (slice_set ls x (Some v)) st)
local_tee x ls st _ = fails

-- the value of a global, from the list in which it stands
abbrev pub global_in : (constant variable : Option (Option Value)) → Option (Option Value)
global_in (Some (Some v)) w = Some (Some v)
global_in _ w = w

-- global.get x
abbrev pub global_get : (global : ℕ) → Rule
global_get x ls st [] = found (global_in (slice_get st.constants x) (slice_get st.variables x)) ls st
global_get x ls st _ = fails

-- the store with another value of a mutable global
abbrev pub with_global : (global : ℕ) → Value → Option (Option Value) → List (Option Value) → Store → Did
with_global x v (Some (Some old)) ls st = goes [] ls (record st { variables = slice_set st.variables x (Some v) })
with_global x v _ ls st = fails

-- global.set x
abbrev pub global_set : (global : ℕ) → Rule
global_set x ls st (v ∷ []) = with_global x v (slice_get st.variables x) ls st
global_set x ls st _ = fails

-- how many fields a structure type has
abbrev pub field_count : Option (List FieldType) → ℕ
field_count None = 0
field_count (Some fs) = length fs

-- how many operands a plain instruction takes
abbrev pub operands : Outline → Instr → ℕ
operands o I.Drop = 1
operands o I.Select = 3
operands o (I.SelectOf ts) = 3
operands o (I.LocalSet x) = 1
operands o (I.LocalTee x) = 1
operands o (I.GlobalSet x) = 1
operands o (I.TableGet x) = 1
operands o (I.TableSet x) = 2
operands o (I.TableInit y x) = 3
operands o (I.TableCopy x y) = 3
operands o (I.TableFill x) = 3
operands o (I.I32Load a) = 1
operands o (I.I64Load a) = 1
operands o (I.I32Load8S a) = 1
operands o (I.I32Load8U a) = 1
operands o (I.I32Load16S a) = 1
operands o (I.I32Load16U a) = 1
operands o (I.I64Load8S a) = 1
operands o (I.I64Load8U a) = 1
operands o (I.I64Load16S a) = 1
operands o (I.I64Load16U a) = 1
operands o (I.I64Load32S a) = 1
operands o (I.I64Load32U a) = 1
operands o (I.I32Store a) = 2
operands o (I.I64Store a) = 2
operands o (I.I32Store8 a) = 2
operands o (I.I32Store16 a) = 2
operands o (I.I64Store8 a) = 2
operands o (I.I64Store16 a) = 2
operands o (I.I64Store32 a) = 2
operands o (I.MemoryInit y x) = 3
operands o (I.MemoryCopy x y) = 3
operands o (I.MemoryFill x) = 3
operands o (I.Num op) = (row_at op.row).operand_count
operands o I.RefIsNull = 1
operands o I.RefEq = 2
operands o I.RefAsNonNull = 1
operands o (I.RefTest r) = 1
operands o (I.RefCast r) = 1
operands o (I.StructNew x) = field_count (struct_type o.types x)
operands o (I.StructGet x i) = 1
operands o (I.StructGetS x i) = 1
operands o (I.StructGetU x i) = 1
operands o (I.StructSet x i) = 2
operands o (I.ArrayNew x) = 2
operands o (I.ArrayNewDefault x) = 1
operands o (I.ArrayNewFixed x n) = n
operands o (I.ArrayNewData x y) = 2
operands o (I.ArrayNewElem x y) = 2
operands o (I.ArrayGet x) = 2
operands o (I.ArrayGetS x) = 2
operands o (I.ArrayGetU x) = 2
operands o (I.ArraySet x) = 3
operands o I.ArrayLen = 1
operands o (I.ArrayFill x) = 4
operands o (I.ArrayCopy x y) = 5
operands o (I.ArrayInitData x y) = 4
operands o (I.ArrayInitElem x y) = 4
operands o I.AnyConvertExtern = 1
operands o I.ExternConvertAny = 1
operands o I.RefI31 = 1
operands o I.I31GetS = 1
operands o I.I31GetU = 1
operands o _ = 0

-- the rule of a plain instruction
abbrev pub act : Outline → Instr → Rule
act o I.Unreachable ls st vs = traps
act o I.Nop ls st vs = do_nop ls st vs
act o I.Drop ls st vs = do_drop ls st vs
act o I.Select ls st vs = select ls st vs
act o (I.SelectOf ts) ls st vs = select ls st vs
act o (I.LocalGet x) ls st vs = local_get x ls st vs
act o (I.LocalSet x) ls st vs = local_set x ls st vs
act o (I.LocalTee x) ls st vs = local_tee x ls st vs
act o (I.GlobalGet x) ls st vs = global_get x ls st vs
act o (I.GlobalSet x) ls st vs = global_set x ls st vs
act o (I.TableGet x) ls st vs = table_get x ls st vs
act o (I.TableSet x) ls st vs = table_set x ls st vs
act o (I.TableInit y x) ls st vs = table_init y x ls st vs
act o (I.TableCopy x y) ls st vs = table_copy x y ls st vs
act o (I.TableSize x) ls st vs = table_size x ls st vs
act o (I.TableFill x) ls st vs = table_fill x ls st vs
act o (I.ElemDrop y) ls st vs = elem_drop y ls st vs
act o (I.I32Load a) ls st vs = load N.I32 4 as_it_is a ls st vs
act o (I.I64Load a) ls st vs = load N.I64 8 as_it_is a ls st vs
act o (I.I32Load8S a) ls st vs = load N.I32 1 (extend_s w8 w32) a ls st vs
act o (I.I32Load8U a) ls st vs = load N.I32 1 as_it_is a ls st vs
act o (I.I32Load16S a) ls st vs = load N.I32 2 (extend_s w16 w32) a ls st vs
act o (I.I32Load16U a) ls st vs = load N.I32 2 as_it_is a ls st vs
act o (I.I64Load8S a) ls st vs = load N.I64 1 (extend_s w8 w64) a ls st vs
act o (I.I64Load8U a) ls st vs = load N.I64 1 as_it_is a ls st vs
act o (I.I64Load16S a) ls st vs = load N.I64 2 (extend_s w16 w64) a ls st vs
act o (I.I64Load16U a) ls st vs = load N.I64 2 as_it_is a ls st vs
act o (I.I64Load32S a) ls st vs = load N.I64 4 (extend_s w32 w64) a ls st vs
act o (I.I64Load32U a) ls st vs = load N.I64 4 as_it_is a ls st vs
act o (I.I32Store a) ls st vs = store N.I32 4 a ls st vs
act o (I.I64Store a) ls st vs = store N.I64 8 a ls st vs
act o (I.I32Store8 a) ls st vs = store N.I32 1 a ls st vs
act o (I.I32Store16 a) ls st vs = store N.I32 2 a ls st vs
act o (I.I64Store8 a) ls st vs = store N.I64 1 a ls st vs
act o (I.I64Store16 a) ls st vs = store N.I64 2 a ls st vs
act o (I.I64Store32 a) ls st vs = store N.I64 4 a ls st vs
act o (I.MemorySize x) ls st vs = memory_size x ls st vs
act o (I.MemoryInit y x) ls st vs = memory_init y x ls st vs
act o (I.DataDrop y) ls st vs = data_drop y ls st vs
act o (I.MemoryCopy x y) ls st vs = memory_copy x y ls st vs
act o (I.MemoryFill x) ls st vs = memory_fill x ls st vs
act o (I.I32Const z) ls st vs = i32_const z ls st vs
act o (I.I64Const z) ls st vs = i64_const z ls st vs
act o (I.Num op) ls st vs = operator op ls st vs
act o (I.RefNull h) ls st vs = ref_null ls st vs
act o I.RefIsNull ls st vs = ref_is_null ls st vs
act o (I.RefFunc f) ls st vs = ref_func o f ls st vs
act o I.RefEq ls st vs = ref_eq o ls st vs
act o I.RefAsNonNull ls st vs = ref_as_non_null ls st vs
act o (I.RefTest r) ls st vs = ref_test o r ls st vs
act o (I.RefCast r) ls st vs = ref_cast o r ls st vs
act o (I.StructNew x) ls st vs = struct_new o x ls st vs
act o (I.StructNewDefault x) ls st vs = struct_new_default o x ls st vs
act o (I.StructGet x i) ls st vs = struct_get o x i whole ls st vs
act o (I.StructGetS x i) ls st vs = struct_get o x i signed ls st vs
act o (I.StructGetU x i) ls st vs = struct_get o x i unsigned ls st vs
act o (I.StructSet x i) ls st vs = struct_set o x i ls st vs
act o (I.ArrayNew x) ls st vs = array_new o x ls st vs
act o (I.ArrayNewDefault x) ls st vs = array_new_default o x ls st vs
act o (I.ArrayNewFixed x n) ls st vs = array_new_fixed o x ls st vs
act o (I.ArrayNewData x y) ls st vs = array_new_data o x y ls st vs
act o (I.ArrayNewElem x y) ls st vs = array_new_elem o x y ls st vs
act o (I.ArrayGet x) ls st vs = array_get o x whole ls st vs
act o (I.ArrayGetS x) ls st vs = array_get o x signed ls st vs
act o (I.ArrayGetU x) ls st vs = array_get o x unsigned ls st vs
act o (I.ArraySet x) ls st vs = array_set o x ls st vs
act o I.ArrayLen ls st vs = array_len ls st vs
act o (I.ArrayFill x) ls st vs = array_fill o x ls st vs
act o (I.ArrayCopy x y) ls st vs = array_copy o x y ls st vs
act o (I.ArrayInitData x y) ls st vs = array_init_data o x y ls st vs
act o (I.ArrayInitElem x y) ls st vs = array_init_elem o x y ls st vs
act o I.AnyConvertExtern ls st vs = any_convert_extern ls st vs
act o I.ExternConvertAny ls st vs = extern_convert_any ls st vs
act o I.RefI31 ls st vs = ref_i31 ls st vs
act o I.I31GetS ls st vs = i31_get signed_31 ls st vs
act o I.I31GetU ls st vs = i31_get as_it_is ls st vs
act o _ ls st vs = fails

unfoldable pub do_act : Outline → Instr → Rule
do_act o i ls st vs = act o i ls st vs
