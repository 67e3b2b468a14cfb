-- References, structures, arrays, casts and external forms at closed modules.
use Rattle.std.proofs.Common.{◌^◌, ◌-◌, true, false, List, [], ◌∷◌, ◌++◌, ◌≡◌, refl, pos, negsuc}
use Rattle.gu_types.specs.declared.types.Abs.TheVariants as A
use Rattle.gu_types.specs.declared.types.Comp.{Comp}
use Rattle.gu_types.specs.declared.types.Comp.TheVariants as C
use Rattle.gu_types.specs.declared.types.HeapType.TheVariants as H
use Rattle.gu_types.specs.declared.types.Storage.TheVariants as S
use Rattle.gu_types.specs.declared.types.ValType.{ValType}
use Rattle.gu_types.specs.declared.types.ValType.TheVariants as V
use Rattle.gu_syntax.specs.declared.instr.Instr.{Instr}
use Rattle.gu_syntax.specs.declared.instr.Instr.TheVariants as I
use Rattle.gu_syntax.specs.declared.module.Module.{Module}
use Rattle.gu_syntax.specs.declared.module.SegMode.TheVariants as G
use Rattle.gu_syntax.specs.Code.{ins_of, code_row}
use Rattle.gu_rec.specs.Closed.{closed_type, closed_types}
use Rattle.gu_rec.specs.Tests.{same_type, eq_sub, eq_group}
use Rattle.gu_rec.specs.Sub.{is_sub, line}
use Rattle.gu_model.specs.Script.{Given}
use Rattle.gu_model.specs.Did.{need, within}
use Rattle.gu_model.specs.Act.{do_act}
use Rattle.gu_model.specs.State.{pop, spend, with_some}
use Rattle.gu_model.specs.Control.{ask}
use Rattle.gu_model.specs.Play.{or_foul, trace}
use Rattle.gu_model.proofs.Modules.{one, calls, gives, traps, null_or, ref_abs}

-- a structure of an i32 and a signed byte, and an array of i16
abbrev kinds_of : List Comp
kinds_of = C.Struct (record { storage = S.Val V.I32; mutable = true } ∷ record { storage = S.I8; mutable = true } ∷ []) ∷ C.Array (record { storage = S.I16; mutable = true }) ∷ []

abbrev code : List ValType → List Instr → Module
code params is = one kinds_of params (V.I32 ∷ []) is

abbrev a_struct : List Instr
a_struct = I.I32Const (pos 7) ∷ I.I32Const (pos 0x1ff) ∷ I.StructNew 1 ∷ []

-- fields stand in order, and of a packed one the low bits stay
gets : trace (code [] (a_struct ++ I.StructGet 1 0 ∷ [])) (calls []) 1 ≡ gives (7 ∷ [])
unfolding ins_of code_row do_act need within pop spend with_some or_foul ask is_sub line same_type eq_sub eq_group closed_type closed_types
gets = refl

gets_signed : trace (code [] (a_struct ++ I.StructGetS 1 1 ∷ [])) (calls []) 1 ≡ gives ((2 ^ 32 - 1) ∷ [])
unfolding ins_of code_row do_act need within pop spend with_some or_foul ask is_sub line same_type eq_sub eq_group closed_type closed_types
gets_signed = refl

gets_unsigned : trace (code [] (a_struct ++ I.StructGetU 1 1 ∷ [])) (calls []) 1 ≡ gives (0xff ∷ [])
unfolding ins_of code_row do_act need within pop spend with_some or_foul ask is_sub line same_type eq_sub eq_group closed_type closed_types
gets_unsigned = refl

sets : trace (code (null_or 1 ∷ []) (a_struct ++ I.LocalTee 0 ∷ I.I32Const (pos 9) ∷ I.StructSet 1 0 ∷ I.LocalGet 0 ∷ I.StructGet 1 0 ∷ [])) (calls (Given.Null ∷ [])) 1 ≡ gives (9 ∷ [])
unfolding ins_of code_row do_act need within pop spend with_some or_foul ask is_sub line same_type eq_sub eq_group closed_type closed_types
sets = refl

defaults : trace (code [] (I.StructNewDefault 1 ∷ I.StructGet 1 0 ∷ [])) (calls []) 1 ≡ gives (0 ∷ [])
unfolding ins_of code_row do_act need within pop spend with_some or_foul ask is_sub line same_type eq_sub eq_group closed_type closed_types
defaults = refl

null_field : trace (code [] (I.RefNull (H.Idx 1) ∷ I.StructGet 1 0 ∷ [])) (calls []) 1 ≡ traps
unfolding ins_of code_row do_act need within pop spend with_some or_foul ask is_sub line same_type eq_sub eq_group closed_type closed_types
null_field = refl

-- arrays
array_gets : trace (code [] (I.I32Const (pos 1) ∷ I.I32Const (pos 2) ∷ I.I32Const (pos 3) ∷ I.ArrayNewFixed 2 3 ∷ I.I32Const (pos 2) ∷ I.ArrayGetU 2 ∷ [])) (calls []) 1 ≡ gives (3 ∷ [])
unfolding ins_of code_row do_act need within pop spend with_some or_foul ask is_sub line same_type eq_sub eq_group closed_type closed_types
array_gets = refl

array_past : trace (code [] (I.I32Const (pos 5) ∷ I.I32Const (pos 2) ∷ I.ArrayNew 2 ∷ I.I32Const (pos 2) ∷ I.ArrayGetU 2 ∷ [])) (calls []) 1 ≡ traps
unfolding ins_of code_row do_act need within pop spend with_some or_foul ask is_sub line same_type eq_sub eq_group closed_type closed_types
array_past = refl

array_lens : trace (code [] (I.I32Const (pos 4) ∷ I.ArrayNewDefault 2 ∷ I.ArrayLen ∷ [])) (calls []) 1 ≡ gives (4 ∷ [])
unfolding ins_of code_row do_act need within pop spend with_some or_foul ask is_sub line same_type eq_sub eq_group closed_type closed_types
array_lens = refl

-- the elements 1, 2, 3 with 2 copied over 3, and then 2 and 2 filled with 8: the last is 2 before and 8 after
abbrev three : List Instr
three = I.I32Const (pos 1) ∷ I.I32Const (pos 2) ∷ I.I32Const (pos 3) ∷ I.ArrayNewFixed 2 3 ∷ I.LocalSet 0 ∷ []

abbrev copied : List Instr
copied = I.LocalGet 0 ∷ I.I32Const (pos 1) ∷ I.LocalGet 0 ∷ I.I32Const (pos 0) ∷ I.I32Const (pos 2) ∷ I.ArrayCopy 2 2 ∷ []

abbrev last : List Instr
last = I.LocalGet 0 ∷ I.I32Const (pos 2) ∷ I.ArrayGetS 2 ∷ []

array_copies : trace (code (null_or 2 ∷ []) (three ++ copied ++ last)) (calls (Given.Null ∷ [])) 1 ≡ gives (2 ∷ [])
unfolding ins_of code_row do_act need within pop spend with_some or_foul ask is_sub line same_type eq_sub eq_group closed_type closed_types
array_copies = refl

array_fills : trace (code (null_or 2 ∷ []) (three ++ I.LocalGet 0 ∷ I.I32Const (pos 1) ∷ I.I32Const (pos 8) ∷ I.I32Const (pos 2) ∷ I.ArrayFill 2 ∷ last)) (calls (Given.Null ∷ [])) 1 ≡ gives (8 ∷ [])
unfolding ins_of code_row do_act need within pop spend with_some or_foul ask is_sub line same_type eq_sub eq_group closed_type closed_types
array_fills = refl

array_sets : trace (code (null_or 2 ∷ []) (three ++ I.LocalGet 0 ∷ I.I32Const (pos 2) ∷ I.I32Const (negsuc 0) ∷ I.ArraySet 2 ∷ last)) (calls (Given.Null ∷ [])) 1 ≡ gives ((2 ^ 32 - 1) ∷ [])
unfolding ins_of code_row do_act need within pop spend with_some or_foul ask is_sub line same_type eq_sub eq_group closed_type closed_types
array_sets = refl

-- from a data segment: two bytes make an element, and a range past its end traps
abbrev with_bytes : List Instr → Module
with_bytes is = record (code [] is) { segs = record { mode = G.Passive; bytes = 9 ∷ 1 ∷ 2 ∷ 3 ∷ 4 ∷ [] } ∷ [] }

array_of_data : trace (with_bytes (I.I32Const (pos 1) ∷ I.I32Const (pos 2) ∷ I.ArrayNewData 2 0 ∷ I.I32Const (pos 1) ∷ I.ArrayGetU 2 ∷ [])) (calls []) 1 ≡ gives (0x0403 ∷ [])
unfolding ins_of code_row do_act need within pop spend with_some or_foul ask is_sub line same_type eq_sub eq_group closed_type closed_types
array_of_data = refl

data_past : trace (with_bytes (I.I32Const (pos 2) ∷ I.I32Const (pos 2) ∷ I.ArrayNewData 2 0 ∷ I.ArrayLen ∷ [])) (calls []) 1 ≡ traps
unfolding ins_of code_row do_act need within pop spend with_some or_foul ask is_sub line same_type eq_sub eq_group closed_type closed_types
data_past = refl

data_dropped : trace (with_bytes (I.DataDrop 0 ∷ I.I32Const (pos 0) ∷ I.I32Const (pos 1) ∷ I.ArrayNewData 2 0 ∷ I.ArrayLen ∷ [])) (calls []) 1 ≡ traps
unfolding ins_of code_row do_act need within pop spend with_some or_foul ask is_sub line same_type eq_sub eq_group closed_type closed_types
data_dropped = refl

-- unboxed numbers have 31 bits
unboxed : trace (code [] (I.I32Const (negsuc 0) ∷ I.RefI31 ∷ I.I31GetU ∷ [])) (calls []) 1 ≡ gives ((2 ^ 31 - 1) ∷ [])
unfolding ins_of code_row do_act need within pop spend with_some or_foul ask is_sub line same_type eq_sub eq_group closed_type closed_types
unboxed = refl

unboxed_signed : trace (code [] (I.I32Const (negsuc 1) ∷ I.RefI31 ∷ I.I31GetS ∷ [])) (calls []) 1 ≡ gives ((2 ^ 32 - 2) ∷ [])
unfolding ins_of code_row do_act need within pop spend with_some or_foul ask is_sub line same_type eq_sub eq_group closed_type closed_types
unboxed_signed = refl

-- tests and casts
tests : trace (code [] (a_struct ++ I.RefTest (ref_abs A.AnyStruct) ∷ [])) (calls []) 1 ≡ gives (1 ∷ [])
unfolding ins_of code_row do_act need within pop spend with_some or_foul ask is_sub line same_type eq_sub eq_group closed_type closed_types
tests = refl

tests_other : trace (code [] (a_struct ++ I.RefTest (record { null = false; heap = H.Idx 2 }) ∷ [])) (calls []) 1 ≡ gives (0 ∷ [])
unfolding ins_of code_row do_act need within pop spend with_some or_foul ask is_sub line same_type eq_sub eq_group closed_type closed_types
tests_other = refl

casts : trace (code [] (a_struct ++ I.RefCast (record { null = false; heap = H.Idx 1 }) ∷ I.StructGet 1 0 ∷ [])) (calls []) 1 ≡ gives (7 ∷ [])
unfolding ins_of code_row do_act need within pop spend with_some or_foul ask is_sub line same_type eq_sub eq_group closed_type closed_types
casts = refl

casts_other : trace (code [] (a_struct ++ I.RefCast (ref_abs A.AnyArray) ∷ I.ArrayLen ∷ [])) (calls []) 1 ≡ traps
unfolding ins_of code_row do_act need within pop spend with_some or_foul ask is_sub line same_type eq_sub eq_group closed_type closed_types
casts_other = refl

null_casts : trace (code [] (I.RefNull (H.Abs A.Bot) ∷ I.RefCast (ref_abs A.AnyArray) ∷ I.RefIsNull ∷ [])) (calls []) 1 ≡ gives (1 ∷ [])
unfolding ins_of code_row do_act need within pop spend with_some or_foul ask is_sub line same_type eq_sub eq_group closed_type closed_types
null_casts = refl

compares : trace (code (null_or 1 ∷ []) (a_struct ++ I.LocalTee 0 ∷ I.LocalGet 0 ∷ I.RefEq ∷ [])) (calls (Given.Null ∷ [])) 1 ≡ gives (1 ∷ [])
unfolding ins_of code_row do_act need within pop spend with_some or_foul ask is_sub line same_type eq_sub eq_group closed_type closed_types
compares = refl

compares_other : trace (code [] (a_struct ++ a_struct ++ I.RefEq ∷ [])) (calls []) 1 ≡ gives (0 ∷ [])
unfolding ins_of code_row do_act need within pop spend with_some or_foul ask is_sub line same_type eq_sub eq_group closed_type closed_types
compares_other = refl

not_null : trace (code [] (I.RefNull (H.Idx 1) ∷ I.RefAsNonNull ∷ I.RefIsNull ∷ [])) (calls []) 1 ≡ traps
unfolding ins_of code_row do_act need within pop spend with_some or_foul ask is_sub line same_type eq_sub eq_group closed_type closed_types
not_null = refl

-- an external form gives its internal one back
forms : trace (code (null_or 1 ∷ []) (a_struct ++ I.LocalTee 0 ∷ I.ExternConvertAny ∷ I.AnyConvertExtern ∷ I.RefCast (ref_abs A.Eq) ∷ I.LocalGet 0 ∷ I.RefEq ∷ [])) (calls (Given.Null ∷ [])) 1 ≡ gives (1 ∷ [])
unfolding ins_of code_row do_act need within pop spend with_some or_foul ask is_sub line same_type eq_sub eq_group closed_type closed_types
forms = refl
