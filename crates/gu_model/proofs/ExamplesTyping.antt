-- Validity at closed bodies and modules: one or more of each family of instructions.
use Rattle.std.proofs.Common.{ℕ, List, [], ◌∷◌, ◌≡◌, refl, Bool, true, false, pos}
use Rattle.gu_types.specs.declared.types.Abs.TheVariants as A
use Rattle.gu_types.specs.declared.types.Comp.{Comp}
use Rattle.gu_types.specs.declared.types.Comp.TheVariants as C
use Rattle.gu_types.specs.declared.types.FieldType.{FieldType}
use Rattle.gu_types.specs.declared.types.HeapType.{HeapType}
use Rattle.gu_types.specs.declared.types.HeapType.TheVariants as H
use Rattle.gu_types.specs.declared.types.RefType.{RefType}
use Rattle.gu_types.specs.declared.types.Storage.{Storage}
use Rattle.gu_types.specs.declared.types.Storage.TheVariants as S
use Rattle.gu_types.specs.declared.types.SubType.{SubType}
use Rattle.gu_types.specs.declared.types.TypeList.{TypeList}
use Rattle.gu_types.specs.declared.types.ValType.{ValType}
use Rattle.gu_types.specs.declared.types.ValType.TheVariants.{I32, I64}
use Rattle.gu_rec.specs.Closed.{closed_type, closed_types}
use Rattle.gu_rec.specs.Tests.{same_type, eq_sub, eq_group}
use Rattle.gu_rec.specs.Sub.{is_sub, line}
use Rattle.gu_rec.specs.Validity.{supers_hold_at}
use Rattle.gu_syntax.specs.declared.instr.BlockType.TheVariants as B
use Rattle.gu_syntax.specs.declared.instr.Catch.TheVariants as T
use Rattle.gu_syntax.specs.declared.instr.CastBranch.{CastBranch}
use Rattle.gu_syntax.specs.declared.instr.Instr.{Instr}
use Rattle.gu_syntax.specs.declared.instr.Instr.TheVariants as I
use Rattle.gu_syntax.specs.declared.instr.MemArg.{MemArg}
use Rattle.gu_syntax.specs.Code.{Code, leaf, block, loop, choice, try_table, done, next}
use Rattle.gu_model.specs.TypingContext.{Context, abs, abs_or_null, idx, idx_or_null}
use Rattle.gu_model.specs.Typing.{is_typed_body}
use Rattle.gu_model.specs.ValidConstants.{is_constant_of, with_globals}

-- the types: a function without parameters and results, an i32 to an i32, a final structure of a mutable i32, one of an
-- i8 and a structure, an array of mutable i32, one of i8, an open structure and one below it, a function that takes
-- an i32 and one that gives an i64
abbrev plain : Comp → SubType
plain comp = record { is_final = true; supers = []; comp = comp }

abbrev fixed : Storage → FieldType
fixed s = record { storage = s; mutable = false }

abbrev var : Storage → FieldType
var s = record { storage = s; mutable = true }

abbrev alone : List SubType → TypeList
alone [] = record { groups = [] }
alone (ty ∷ tys) = record { groups = record { types = ty ∷ tys } ∷ [] }

abbrev types : TypeList
types = alone (
    plain (C.Func [] []) ∷
    plain (C.Func (I32 ∷ []) (I32 ∷ [])) ∷
    plain (C.Struct (var (S.Val I32) ∷ [])) ∷
    plain (C.Struct (fixed S.I8 ∷ fixed (S.Val (idx_or_null 2)) ∷ [])) ∷
    plain (C.Array (var (S.Val I32))) ∷
    plain (C.Array (var S.I8)) ∷
    record { is_final = false; supers = []; comp = C.Struct [] } ∷
    record { is_final = true; supers = 6 ∷ []; comp = C.Struct (fixed (S.Val I32) ∷ []) } ∷
    plain (C.Func (I32 ∷ []) []) ∷
    plain (C.Func [] (I64 ∷ [])) ∷
    [])

-- functions 0 to 3 of the types 0, 1, 9 and 0, of which the last is not declared; two memories; a table of functions and
-- one of any; tag 0 with an i32; globals: an i32, a mutable i64; element segments of functions and of i31
abbrev all : Context
all = record {
  types = types;
  funcs = 0 ∷ 1 ∷ 9 ∷ 0 ∷ [];
  tables = record { null = true; heap = H.Abs A.AnyFunc } ∷ record { null = true; heap = H.Abs A.Any } ∷ [];
  memories = 2;
  tags = 8 ∷ [];
  globals = (I32, false) ∷ (I64, true) ∷ [];
  elems = record { null = false; heap = H.Abs A.AnyFunc } ∷ record { null = true; heap = H.Abs A.I31 } ∷ [];
  segs = 1;
  declared = true ∷ true ∷ true ∷ false ∷ [];
}

abbrev code : List Instr → Code
code [] = done
code (i ∷ is) = next (leaf i) (code is)

-- whether a body of a type over no locals, or over one, is typed
abbrev typed : List ValType → List ValType → Code → Bool
typed params results c = is_typed_body all (record { params = params; results = results }) [] c

abbrev typed_over : ValType → Code → Bool
typed_over local c = is_typed_body all (record { params = []; results = [] }) ((1, local) ∷ []) c

abbrev ref : (null : Bool) → HeapType → RefType
ref n h = record { null = n; heap = h }

abbrev cast : (label : ℕ) (of to : RefType) → CastBranch
cast l r s = record { label = l; of = r; to = s }

abbrev i32 : Instr
i32 = I.I32Const (pos 1)

abbrev add : Instr
add = I.Num (record { row = 25 })

abbrev at : ℕ → MemArg
at exponent = record { exponent = exponent; memory = 1; offset = 0 }

-- numbers and memories

adds : typed [] (I32 ∷ []) (code (i32 ∷ i32 ∷ add ∷ [])) ≡ true
adds = refl

adds_too_little : typed [] (I32 ∷ []) (code (i32 ∷ add ∷ [])) ≡ false
adds_too_little = refl

leaves_too_much : typed [] (I32 ∷ []) (code (i32 ∷ i32 ∷ [])) ≡ false
leaves_too_much = refl

wraps : typed (I64 ∷ []) (I32 ∷ []) (code (I.LocalGet 0 ∷ I.Num (record { row = 58 }) ∷ [])) ≡ true
wraps = refl

loads : typed [] (I64 ∷ []) (code (i32 ∷ I.I64Load16S (at 1) ∷ [])) ≡ true
loads = refl

aligned_too_much : typed [] (I64 ∷ []) (code (i32 ∷ I.I64Load16S (at 2) ∷ [])) ≡ false
aligned_too_much = refl

copies_memory : typed [] [] (code (i32 ∷ i32 ∷ i32 ∷ I.MemoryCopy 0 1 ∷ [])) ≡ true
copies_memory = refl

no_third_memory : typed [] (I32 ∷ []) (code (I.MemorySize 2 ∷ [])) ≡ false
no_third_memory = refl

no_second_segment : typed [] [] (code (I.DataDrop 1 ∷ [])) ≡ false
no_second_segment = refl

-- dead code: behind an unconditional branch the operands are of the bottom type

dead_add : typed [] [] (code (I.Unreachable ∷ add ∷ I.Drop ∷ [])) ≡ true
dead_add = refl

dead_select : typed [] [] (code (I.Unreachable ∷ I.Select ∷ I.RefIsNull ∷ I.Drop ∷ [])) ≡ true
dead_select = refl

dead_non_null : typed [] [] (code (I.Unreachable ∷ I.RefAsNonNull ∷ I.Num (record { row = 0 }) ∷ I.Drop ∷ [])) ≡ false
dead_non_null = refl

dead_select_of_reference : typed [] [] (code (I.Unreachable ∷ I.RefAsNonNull ∷ i32 ∷ I.Select ∷ I.Drop ∷ [])) ≡ false
dead_select_of_reference = refl

dead_convert : typed [] (abs A.Any ∷ []) (code (I.Unreachable ∷ I.AnyConvertExtern ∷ [])) ≡ true
unfolding is_sub line
dead_convert = refl

eq_of_number : typed [] [] (code (I.Unreachable ∷ i32 ∷ I.RefEq ∷ I.Drop ∷ [])) ≡ false
eq_of_number = refl

-- 2 ^ 32 - 1 operands cost nothing to a checker there; here there are three
dead_fixed : typed [] [] (code (I.Unreachable ∷ I.ArrayNewFixed 4 3 ∷ I.Drop ∷ [])) ≡ true
dead_fixed = refl

dead_return : typed [] (I32 ∷ []) (code (i32 ∷ I.Return ∷ I.Drop ∷ [])) ≡ true
dead_return = refl

-- locals

unset_local : typed_over (idx 2) (code (I.LocalGet 0 ∷ I.Drop ∷ [])) ≡ false
unset_local = refl

set_local : typed_over (idx 2) (code (i32 ∷ I.StructNew 2 ∷ I.LocalSet 0 ∷ I.LocalGet 0 ∷ I.Drop ∷ [])) ≡ true
unfolding is_sub line same_type eq_sub eq_group closed_type closed_types
set_local = refl

-- what a block sets is not set behind it
set_inside : typed_over (abs A.I31) (next (block B.Empty (code (i32 ∷ I.RefI31 ∷ I.LocalSet 0 ∷ I.LocalGet 0 ∷ I.Drop ∷ []))) (code (I.LocalGet 0 ∷ I.Drop ∷ []))) ≡ false
unfolding is_sub line
set_inside = refl

set_before : typed_over (abs A.I31) (next (leaf i32) (next (leaf I.RefI31) (next (leaf (I.LocalSet 0)) (next (block B.Empty (code (I.LocalGet 0 ∷ I.Drop ∷ []))) (code (I.LocalGet 0 ∷ I.Drop ∷ [])))))) ≡ true
unfolding is_sub line
set_before = refl

default_local : typed_over (idx_or_null 2) (code (I.LocalGet 0 ∷ I.Drop ∷ [])) ≡ true
default_local = refl

local_of_no_type : typed_over (idx_or_null 10) done ≡ false
local_of_no_type = refl

-- control

branches : typed (I32 ∷ []) (I32 ∷ []) (next (block (B.Val I32) (code (I.LocalGet 0 ∷ I.LocalGet 0 ∷ I.BrIf 0 ∷ I.Br 1 ∷ []))) done) ≡ true
branches = refl

branch_over_nothing : typed [] (I32 ∷ []) (next (block (B.Val I32) (code (I.Br 0 ∷ []))) done) ≡ false
branch_over_nothing = refl

-- a loop's label takes its parameters
loops : typed (I32 ∷ []) (I32 ∷ []) (next (leaf (I.LocalGet 0)) (next (loop (B.Idx 1) (code (i32 ∷ I.BrIf 0 ∷ []))) done)) ≡ true
loops = refl

chooses : typed (I32 ∷ []) (I32 ∷ []) (next (leaf (I.LocalGet 0)) (next (choice (B.Val I32) (code (i32 ∷ [])) (code (I.Unreachable ∷ []))) done)) ≡ true
chooses = refl

-- a missing else gives what it is given
no_else : typed (I32 ∷ []) (I32 ∷ []) (next (leaf (I.LocalGet 0)) (next (choice (B.Val I32) (code (i32 ∷ [])) done) done)) ≡ false
no_else = refl

tables_of_labels : typed [] [] (next (block B.Empty (code (i32 ∷ I.BrTable (record { labels = 0 ∷ 1 ∷ []; last = 0 }) ∷ []))) done) ≡ true
tables_of_labels = refl

labels_differ : typed [] (I32 ∷ []) (next (block B.Empty (code (I.Unreachable ∷ I.BrTable (record { labels = 1 ∷ []; last = 0 }) ∷ []))) (code (i32 ∷ []))) ≡ false
labels_differ = refl

selects_references : typed (abs_or_null A.Any ∷ []) (abs_or_null A.Any ∷ []) (code (I.LocalGet 0 ∷ I.LocalGet 0 ∷ i32 ∷ I.Select ∷ [])) ≡ false
selects_references = refl

selects_of_type : typed (abs_or_null A.Any ∷ []) (abs_or_null A.Any ∷ []) (code (I.LocalGet 0 ∷ I.LocalGet 0 ∷ i32 ∷ I.SelectOf (abs_or_null A.Any ∷ []) ∷ [])) ≡ true
unfolding is_sub line
selects_of_type = refl

-- calls

calls : typed [] (I32 ∷ []) (code (i32 ∷ I.Call 1 ∷ [])) ≡ true
calls = refl

calls_by_table : typed [] (I32 ∷ []) (code (i32 ∷ i32 ∷ I.CallIndirect 1 0 ∷ [])) ≡ true
unfolding is_sub line
calls_by_table = refl

calls_no_functions : typed [] (I32 ∷ []) (code (i32 ∷ i32 ∷ I.CallIndirect 1 1 ∷ [])) ≡ false
unfolding is_sub line
calls_no_functions = refl

calls_by_reference : typed [] (I32 ∷ []) (code (i32 ∷ I.RefFunc 1 ∷ I.CallRef 1 ∷ [])) ≡ true
unfolding is_sub line same_type eq_sub eq_group closed_type closed_types
calls_by_reference = refl

undeclared : typed [] [] (code (I.RefFunc 3 ∷ I.Drop ∷ [])) ≡ false
undeclared = refl

-- the callee's results are to be below the function's
tail_call : typed [] (I32 ∷ []) (code (i32 ∷ I.ReturnCall 1 ∷ [])) ≡ true
tail_call = refl

tail_call_of_other_results : typed [] (I32 ∷ []) (code (I.ReturnCall 2 ∷ [])) ≡ false
tail_call_of_other_results = refl

-- exceptions: a try_table in a block whose label takes what is caught

throws : typed [] [] (code (i32 ∷ I.Throw 0 ∷ I.Drop ∷ [])) ≡ true
throws = refl

throws_nothing : typed [] [] (code (I.Throw 0 ∷ [])) ≡ false
throws_nothing = refl

catches : typed [] (I32 ∷ []) (next (block (B.Val I32) (next (try_table B.Empty (T.One 0 0 ∷ []) (code (i32 ∷ I.Throw 0 ∷ []))) (code (I.Unreachable ∷ [])))) done) ≡ true
catches = refl

-- the reference to the exception is below one that may be null
catches_reference : typed [] (abs_or_null A.Exn ∷ []) (next (try_table B.Empty (T.AllRef 0 ∷ []) done) (code (I.Unreachable ∷ []))) ≡ true
unfolding is_sub line
catches_reference = refl

catches_nothing : typed [] (I32 ∷ []) (next (try_table B.Empty (T.All 0 ∷ []) done) (code (i32 ∷ []))) ≡ false
catches_nothing = refl

throws_again : typed (abs_or_null A.Exn ∷ []) (I32 ∷ []) (code (I.LocalGet 0 ∷ I.ThrowRef ∷ [])) ≡ true
unfolding is_sub line
throws_again = refl

-- references

branches_on_null : typed (idx_or_null 2 ∷ []) [] (next (block B.Empty (code (I.LocalGet 0 ∷ I.BrOnNull 0 ∷ I.StructGet 2 0 ∷ I.Drop ∷ []))) done) ≡ true
unfolding is_sub line same_type eq_sub eq_group closed_type closed_types
branches_on_null = refl

branches_on_non_null : typed (idx_or_null 2 ∷ []) (idx 2 ∷ []) (code (I.LocalGet 0 ∷ I.BrOnNonNull 0 ∷ I.Unreachable ∷ [])) ≡ true
unfolding is_sub line same_type eq_sub eq_group closed_type closed_types
branches_on_non_null = refl

cast_branch : typed (abs A.Any ∷ []) (idx 2 ∷ []) (code (I.LocalGet 0 ∷ I.BrOnCast (cast 0 (ref false (H.Abs A.Any)) (ref false (H.Idx 2))) ∷ I.Unreachable ∷ [])) ≡ true
unfolding is_sub line same_type eq_sub eq_group closed_type closed_types
cast_branch = refl

cast_branch_of_null : typed (abs_or_null A.Any ∷ []) (idx_or_null 2 ∷ []) (next (block (B.Val (abs A.Any)) (code (I.LocalGet 0 ∷ I.BrOnCast (cast 1 (ref true (H.Abs A.Any)) (ref true (H.Idx 2))) ∷ []))) (code (I.Unreachable ∷ []))) ≡ true
unfolding is_sub line same_type eq_sub eq_group closed_type closed_types
cast_branch_of_null = refl

cast_branch_up : typed (abs_or_null A.Eq ∷ []) (abs_or_null A.Any ∷ []) (code (I.LocalGet 0 ∷ I.BrOnCast (cast 0 (ref true (H.Abs A.Eq)) (ref true (H.Abs A.Any))) ∷ [])) ≡ false
unfolding is_sub line
cast_branch_up = refl

cast_fail_branch : typed (abs_or_null A.Any ∷ []) (abs A.Any ∷ []) (code (I.LocalGet 0 ∷ I.BrOnCastFail (cast 0 (ref true (H.Abs A.Any)) (ref true (H.Idx 2))) ∷ I.RefAsNonNull ∷ [])) ≡ true
unfolding is_sub line same_type eq_sub eq_group closed_type closed_types
cast_fail_branch = refl

-- null stays where the second type is not nullable, so the label has to take it
cast_fail_branch_with_null : typed (abs_or_null A.Any ∷ []) (abs A.Any ∷ []) (code (I.LocalGet 0 ∷ I.BrOnCastFail (cast 0 (ref true (H.Abs A.Any)) (ref false (H.Idx 2))) ∷ [])) ≡ false
unfolding is_sub line same_type eq_sub eq_group closed_type closed_types
cast_fail_branch_with_null = refl

tests_another_tree : typed (abs_or_null A.AnyFunc ∷ []) (I32 ∷ []) (code (I.LocalGet 0 ∷ I.RefTest (ref true (H.Idx 2)) ∷ [])) ≡ false
unfolding is_sub line
tests_another_tree = refl

-- structures and arrays

packed_field : typed (idx 3 ∷ []) (I32 ∷ []) (code (I.LocalGet 0 ∷ I.StructGetS 3 0 ∷ [])) ≡ true
unfolding is_sub line same_type eq_sub eq_group closed_type closed_types
packed_field = refl

packed_field_whole : typed (idx 3 ∷ []) (I32 ∷ []) (code (I.LocalGet 0 ∷ I.StructGet 3 0 ∷ [])) ≡ false
packed_field_whole = refl

writes_fixed_field : typed (idx 3 ∷ []) [] (code (I.LocalGet 0 ∷ i32 ∷ I.StructSet 3 0 ∷ [])) ≡ false
writes_fixed_field = refl

array_of_two : typed [] (idx 4 ∷ []) (code (i32 ∷ i32 ∷ I.ArrayNewFixed 4 2 ∷ [])) ≡ true
unfolding is_sub line same_type eq_sub eq_group closed_type closed_types
array_of_two = refl

array_of_bytes : typed [] [] (code (i32 ∷ i32 ∷ I.ArrayNewData 5 0 ∷ I.Drop ∷ [])) ≡ true
array_of_bytes = refl

-- from a packed array into an array of i32
copies_packed : typed (idx 4 ∷ idx 5 ∷ []) [] (code (I.LocalGet 0 ∷ i32 ∷ I.LocalGet 1 ∷ i32 ∷ i32 ∷ I.ArrayCopy 4 5 ∷ [])) ≡ false
copies_packed = refl

copies_alike : typed (idx 4 ∷ []) [] (code (I.LocalGet 0 ∷ i32 ∷ I.LocalGet 0 ∷ i32 ∷ i32 ∷ I.ArrayCopy 4 4 ∷ [])) ≡ true
unfolding is_sub line same_type eq_sub eq_group closed_type closed_types
copies_alike = refl

references_from_data : typed [] [] (code (I.Unreachable ∷ I.ArrayInitElem 4 1 ∷ [])) ≡ false
references_from_data = refl

-- tables and globals

inits_table : typed [] [] (code (i32 ∷ i32 ∷ i32 ∷ I.TableInit 1 1 ∷ [])) ≡ true
unfolding is_sub line
inits_table = refl

inits_other_table : typed [] [] (code (i32 ∷ i32 ∷ i32 ∷ I.TableInit 1 0 ∷ [])) ≡ false
unfolding is_sub line
inits_other_table = refl

grows_table : typed [] (I32 ∷ []) (code (I.RefNull (H.Abs A.AnyFunc) ∷ i32 ∷ I.TableGrow 0 ∷ [])) ≡ true
unfolding is_sub line
grows_table = refl

writes_fixed_global : typed [] [] (code (i32 ∷ I.GlobalSet 0 ∷ [])) ≡ false
writes_fixed_global = refl

-- constant expressions

constant : is_constant_of all (idx 2) (code (i32 ∷ i32 ∷ add ∷ I.StructNew 2 ∷ [])) ≡ true
unfolding is_sub line same_type eq_sub eq_group closed_type closed_types
constant = refl

not_constant : is_constant_of all I32 (code (i32 ∷ i32 ∷ I.Num (record { row = 28 }) ∷ [])) ≡ false
not_constant = refl

mutable_is_not_constant : is_constant_of all I64 (code (I.GlobalGet 1 ∷ [])) ≡ false
mutable_is_not_constant = refl

-- a global that names a later one
later_global : is_constant_of (with_globals 0 all) I32 (code (I.GlobalGet 0 ∷ [])) ≡ false
later_global = refl

-- types

abbrev pair : FieldType → FieldType → TypeList
pair above below = alone (record { is_final = false; supers = []; comp = C.Struct (above ∷ []) } ∷ record { is_final = true; supers = 0 ∷ []; comp = C.Struct (below ∷ []) } ∷ [])

-- a field that may be written is of one type
covariant_mutable : supers_hold_at (pair (var (S.Val (abs_or_null A.Any))) (var (S.Val (abs_or_null A.Eq)))) 1 ≡ false
unfolding supers_hold_at is_sub line
covariant_mutable = refl

covariant_fixed : supers_hold_at (pair (fixed (S.Val (abs_or_null A.Any))) (fixed (S.Val (abs_or_null A.Eq)))) 1 ≡ true
unfolding supers_hold_at is_sub line
covariant_fixed = refl
