-- Blocks, branches, calls, tail calls and exceptions at closed modules.
use Rattle.std.proofs.Common.{ℕ, Option, false, List, [], ◌∷◌, ◌≡◌, refl, Some, pos}
use Rattle.gu_types.specs.declared.types.Abs.TheVariants as A
use Rattle.gu_types.specs.declared.types.Comp.TheVariants as C
use Rattle.gu_types.specs.declared.types.HeapType.TheVariants as H
use Rattle.gu_types.specs.declared.types.ValType.TheVariants as V
use Rattle.gu_syntax.specs.declared.instr.BlockType.TheVariants as B
use Rattle.gu_syntax.specs.declared.instr.CastBranch.{CastBranch}
use Rattle.gu_syntax.specs.declared.instr.Catch.TheVariants as T
use Rattle.gu_syntax.specs.declared.instr.Instr.TheVariants as I
use Rattle.gu_syntax.specs.declared.module.Module.{Module}
use Rattle.gu_syntax.specs.Code.{block, loop, choice, try_table, done, next, ins_of, code_row}
use Rattle.gu_rec.specs.Closed.{closed_type, closed_types}
use Rattle.gu_rec.specs.Tests.{same_type, eq_sub, eq_group}
use Rattle.gu_rec.specs.Sub.{is_sub, line}
use Rattle.gu_model.specs.Did.{need, within}
use Rattle.gu_model.specs.Act.{do_act}
use Rattle.gu_model.specs.Value.{Value, i32, null, i31, exception}
use Rattle.gu_model.specs.State.{normal, branch, return, tail, thrown, trap, spent, pop, spend, with_some}
use Rattle.gu_model.specs.Control.{ask}
use Rattle.gu_model.specs.Play.{or_foul}
use Rattle.gu_model.proofs.Modules.{of_funcs, of_type, ◌then◌, outcome, runs, ref_abs, any_of}

-- a module to run code in: functions of one i32 to one, of which the second gives twice its argument; function 2, of
-- [] -> [i32], traps; function 3, of [] -> [], throws by tag 0, with 5. Tag 0 takes an i32, tag 1 takes nothing
abbrev round : Module
round = record (of_funcs (C.Func (V.I32 ∷ []) (V.I32 ∷ []) ∷ C.Func [] (V.I32 ∷ []) ∷ C.Func (V.I32 ∷ []) [] ∷ C.Func [] [] ∷ []) (of_type 0 (I.LocalGet 0 ∷ I.ReturnCall 1 ∷ I.Unreachable ∷ []) ∷ of_type 0 (I.LocalGet 0 ∷ I.LocalGet 0 ∷ I.Num (record { row = 25 }) ∷ []) ∷ of_type 1 (I.Unreachable ∷ []) ∷ of_type 3 (I.I32Const (pos 5) ∷ I.Throw 0 ∷ []) ∷ [])) { tags = 2 ∷ 3 ∷ [] }

abbrev number : ℕ → List (Option Value)
number n = Some (i32 n) ∷ []

-- a cast of any reference to one of an i31, which branches to the innermost label
abbrev to_i31 : CastBranch
to_i31 = record { label = 0; of = ref_abs A.Any; to = record { null = false; heap = H.Abs A.I31 } }

abbrev reference : Value → List (Option Value)
reference v = Some v ∷ []

-- a block drops what stands below the values that a branch takes, and a branch further out passes it
branches : runs round [] 0 (next (block (B.Val V.I32) ((I.I32Const (pos 1) ∷ I.I32Const (pos 2) ∷ I.Br 0 ∷ I.I32Const (pos 3) ∷ []) then done)) done) ≡ (normal, i32 2 ∷ [])
unfolding ins_of code_row do_act need within pop spend with_some or_foul ask is_sub line same_type eq_sub eq_group closed_type closed_types
branches = refl

branches_out : runs round [] 0 ((I.I32Const (pos 0) ∷ []) then (next (block (B.Val V.I32) ((I.I32Const (pos 1) ∷ I.I32Const (pos 2) ∷ I.Br 1 ∷ []) then done)) done)) ≡ (branch 0, i32 2 ∷ i32 1 ∷ [])
unfolding ins_of code_row do_act need within pop spend with_some or_foul ask is_sub line same_type eq_sub eq_group closed_type closed_types
branches_out = refl

returns : runs round [] 0 ((I.I32Const (pos 1) ∷ []) then (next (block B.Empty ((I.I32Const (pos 2) ∷ I.Return ∷ []) then done)) done)) ≡ (return, i32 2 ∷ [])
unfolding ins_of code_row do_act need within pop spend with_some or_foul ask is_sub line same_type eq_sub eq_group closed_type closed_types
returns = refl

-- if
chooses : runs round (number 7) 0 ((I.LocalGet 0 ∷ []) then (next (choice (B.Val V.I32) ((I.I32Const (pos 1) ∷ []) then done) ((I.I32Const (pos 2) ∷ []) then done)) done)) ≡ (normal, i32 1 ∷ [])
unfolding ins_of code_row do_act need within pop spend with_some or_foul ask is_sub line same_type eq_sub eq_group closed_type closed_types
chooses = refl

chooses_other : runs round (number 0) 0 ((I.LocalGet 0 ∷ []) then (next (choice (B.Val V.I32) ((I.I32Const (pos 1) ∷ []) then done) ((I.I32Const (pos 2) ∷ []) then done)) done)) ≡ (normal, i32 2 ∷ [])
unfolding ins_of code_row do_act need within pop spend with_some or_foul ask is_sub line same_type eq_sub eq_group closed_type closed_types
chooses_other = refl

-- the table of labels: the last label takes what is past it
picks : runs round (number 0) 0 (next (block B.Empty (next (block B.Empty ((I.LocalGet 0 ∷ I.BrTable (record { labels = 1 ∷ []; last = 0 }) ∷ []) then done)) ((I.I32Const (pos 1) ∷ I.Return ∷ []) then done))) ((I.I32Const (pos 2) ∷ []) then done)) ≡ (normal, i32 2 ∷ [])
unfolding ins_of code_row do_act need within pop spend with_some or_foul ask is_sub line same_type eq_sub eq_group closed_type closed_types
picks = refl

picks_last : runs round (number 9) 0 (next (block B.Empty (next (block B.Empty ((I.LocalGet 0 ∷ I.BrTable (record { labels = 1 ∷ []; last = 0 }) ∷ []) then done)) ((I.I32Const (pos 1) ∷ I.Return ∷ []) then done))) ((I.I32Const (pos 2) ∷ []) then done)) ≡ (return, i32 1 ∷ [])
unfolding ins_of code_row do_act need within pop spend with_some or_foul ask is_sub line same_type eq_sub eq_group closed_type closed_types
picks_last = refl

-- a loop that counts 3 down: its entry and two turns are three steps
loops : runs round (number 3) 3 (next (loop B.Empty ((I.LocalGet 0 ∷ I.I32Const (pos 1) ∷ I.Num (record { row = 26 }) ∷ I.LocalTee 0 ∷ I.BrIf 0 ∷ []) then done)) ((I.LocalGet 0 ∷ []) then done)) ≡ (normal, i32 0 ∷ [])
unfolding ins_of code_row do_act need within pop spend with_some or_foul ask is_sub line same_type eq_sub eq_group closed_type closed_types
loops = refl

loops_spent : (outcome round (number 3) 2 (next (loop B.Empty ((I.LocalGet 0 ∷ I.I32Const (pos 1) ∷ I.Num (record { row = 26 }) ∷ I.LocalTee 0 ∷ I.BrIf 0 ∷ []) then done)) ((I.LocalGet 0 ∷ []) then done))).how ≡ spent
unfolding ins_of code_row do_act need within pop spend with_some or_foul ask is_sub line same_type eq_sub eq_group closed_type closed_types
loops_spent = refl

endless : runs round [] 5 (next (loop B.Empty ((I.Br 0 ∷ []) then done)) done) ≡ (spent, [])
unfolding ins_of code_row do_act need within pop spend with_some or_foul ask is_sub line same_type eq_sub eq_group closed_type closed_types
endless = refl

-- branches by null
on_null : runs round (reference null) 0 (next (block B.Empty ((I.LocalGet 0 ∷ I.BrOnNull 0 ∷ I.I31GetU ∷ I.Return ∷ []) then done)) ((I.I32Const (pos 8) ∷ []) then done)) ≡ (normal, i32 8 ∷ [])
unfolding ins_of code_row do_act need within pop spend with_some or_foul ask is_sub line same_type eq_sub eq_group closed_type closed_types
on_null = refl

on_null_other : runs round (reference (i31 3)) 0 (next (block B.Empty ((I.LocalGet 0 ∷ I.BrOnNull 0 ∷ I.I31GetU ∷ I.Return ∷ []) then done)) ((I.I32Const (pos 8) ∷ []) then done)) ≡ (return, i32 3 ∷ [])
unfolding ins_of code_row do_act need within pop spend with_some or_foul ask is_sub line same_type eq_sub eq_group closed_type closed_types
on_null_other = refl

on_non_null : runs round (reference (i31 3)) 0 (next (block (B.Val (any_of A.I31)) ((I.LocalGet 0 ∷ I.BrOnNonNull 0 ∷ I.I32Const (pos 8) ∷ I.Return ∷ []) then done)) ((I.I31GetU ∷ []) then done)) ≡ (normal, i32 3 ∷ [])
unfolding ins_of code_row do_act need within pop spend with_some or_foul ask is_sub line same_type eq_sub eq_group closed_type closed_types
on_non_null = refl

on_non_null_other : runs round (reference null) 0 (next (block (B.Val (any_of A.I31)) ((I.LocalGet 0 ∷ I.BrOnNonNull 0 ∷ I.I32Const (pos 8) ∷ I.Return ∷ []) then done)) ((I.I31GetU ∷ []) then done)) ≡ (return, i32 8 ∷ [])
unfolding ins_of code_row do_act need within pop spend with_some or_foul ask is_sub line same_type eq_sub eq_group closed_type closed_types
on_non_null_other = refl

-- branches by a cast: an unboxed number goes to the label, and null does not
on_cast : runs round (reference (i31 3)) 0 (next (block (B.Val (any_of A.Any)) ((I.LocalGet 0 ∷ I.BrOnCast to_i31 ∷ I.Drop ∷ I.I32Const (pos 8) ∷ I.Return ∷ []) then done)) ((I.RefIsNull ∷ []) then done)) ≡ (normal, i32 0 ∷ [])
unfolding ins_of code_row do_act need within pop spend with_some or_foul ask is_sub line same_type eq_sub eq_group closed_type closed_types
on_cast = refl

on_cast_other : runs round (reference null) 0 (next (block (B.Val (any_of A.Any)) ((I.LocalGet 0 ∷ I.BrOnCast to_i31 ∷ I.Drop ∷ I.I32Const (pos 8) ∷ I.Return ∷ []) then done)) ((I.RefIsNull ∷ []) then done)) ≡ (return, i32 8 ∷ [])
unfolding ins_of code_row do_act need within pop spend with_some or_foul ask is_sub line same_type eq_sub eq_group closed_type closed_types
on_cast_other = refl

on_cast_fail : runs round (reference null) 0 (next (block (B.Val (any_of A.Any)) ((I.LocalGet 0 ∷ I.BrOnCastFail to_i31 ∷ I.Drop ∷ I.I32Const (pos 8) ∷ I.Return ∷ []) then done)) ((I.RefIsNull ∷ []) then done)) ≡ (normal, i32 1 ∷ [])
unfolding ins_of code_row do_act need within pop spend with_some or_foul ask is_sub line same_type eq_sub eq_group closed_type closed_types
on_cast_fail = refl

on_cast_fail_other : runs round (reference (i31 3)) 0 (next (block (B.Val (any_of A.Any)) ((I.LocalGet 0 ∷ I.BrOnCastFail to_i31 ∷ I.Drop ∷ I.I32Const (pos 8) ∷ I.Return ∷ []) then done)) ((I.RefIsNull ∷ []) then done)) ≡ (return, i32 8 ∷ [])
unfolding ins_of code_row do_act need within pop spend with_some or_foul ask is_sub line same_type eq_sub eq_group closed_type closed_types
on_cast_fail_other = refl

-- calls: what stands below the arguments stays
calls_other : runs round [] 1 ((I.I32Const (pos 1) ∷ I.I32Const (pos 4) ∷ I.Call 1 ∷ []) then done) ≡ (normal, i32 8 ∷ i32 1 ∷ [])
unfolding ins_of code_row do_act need within pop spend with_some or_foul ask is_sub line same_type eq_sub eq_group closed_type closed_types
calls_other = refl

calls_reference : runs round [] 1 ((I.I32Const (pos 1) ∷ I.I32Const (pos 4) ∷ I.RefFunc 1 ∷ I.CallRef 0 ∷ []) then done) ≡ (normal, i32 8 ∷ i32 1 ∷ [])
unfolding ins_of code_row do_act need within pop spend with_some or_foul ask is_sub line same_type eq_sub eq_group closed_type closed_types
calls_reference = refl

-- a call of null traps without a step, and the frame is cleared
calls_null : runs round [] 0 ((I.I32Const (pos 4) ∷ I.RefNull (H.Idx 0) ∷ I.CallRef 0 ∷ []) then done) ≡ (trap, [])
unfolding ins_of code_row do_act need within pop spend with_some or_foul ask is_sub line same_type eq_sub eq_group closed_type closed_types
calls_null = refl

traps_inside : runs round [] 1 ((I.I32Const (pos 4) ∷ I.Call 2 ∷ []) then done) ≡ (trap, [])
unfolding ins_of code_row do_act need within pop spend with_some or_foul ask is_sub line same_type eq_sub eq_group closed_type closed_types
traps_inside = refl

-- a tail call takes a step, and what follows it is not run
tails : runs round [] 2 ((I.I32Const (pos 4) ∷ I.Call 0 ∷ []) then done) ≡ (normal, i32 8 ∷ [])
unfolding ins_of code_row do_act need within pop spend with_some or_foul ask is_sub line same_type eq_sub eq_group closed_type closed_types
tails = refl

tails_spent : runs round [] 1 ((I.I32Const (pos 4) ∷ I.Call 0 ∷ []) then done) ≡ (spent, i32 4 ∷ [])
unfolding ins_of code_row do_act need within pop spend with_some or_foul ask is_sub line same_type eq_sub eq_group closed_type closed_types
tails_spent = refl

tails_reference : runs round [] 0 ((I.I32Const (pos 3) ∷ I.I32Const (pos 4) ∷ I.RefFunc 1 ∷ I.ReturnCallRef 0 ∷ []) then done) ≡ (tail 1, i32 4 ∷ [])
unfolding ins_of code_row do_act need within pop spend with_some or_foul ask is_sub line same_type eq_sub eq_group closed_type closed_types
tails_reference = refl

-- exceptions: a call hands one on, and the first clause that names its tag takes it, with the arguments
catches : runs round [] 1 (next (block (B.Val V.I32) (next (block B.Empty (next (try_table B.Empty (T.One 1 0 ∷ T.One 0 1 ∷ T.All 0 ∷ []) ((I.Call 3 ∷ []) then done)) done)) ((I.I32Const (pos 7) ∷ []) then done))) done) ≡ (normal, i32 5 ∷ [])
unfolding ins_of code_row do_act need within pop spend with_some or_foul ask is_sub line same_type eq_sub eq_group closed_type closed_types
catches = refl

catches_all : runs round [] 1 (next (block B.Empty (next (try_table B.Empty (T.One 1 0 ∷ T.All 0 ∷ []) ((I.Call 3 ∷ []) then done)) ((I.Return ∷ []) then done))) ((I.I32Const (pos 7) ∷ []) then done)) ≡ (normal, i32 7 ∷ [])
unfolding ins_of code_row do_act need within pop spend with_some or_foul ask is_sub line same_type eq_sub eq_group closed_type closed_types
catches_all = refl

-- with a reference behind the arguments; it can be thrown again
catches_reference : runs round [] 1 (next (try_table B.Empty (T.OneRef 0 0 ∷ []) ((I.Call 3 ∷ []) then done)) done) ≡ (branch 0, exception 0 ∷ i32 5 ∷ [])
unfolding ins_of code_row do_act need within pop spend with_some or_foul ask is_sub line same_type eq_sub eq_group closed_type closed_types
catches_reference = refl

throws_again : runs round [] 1 (next (block (B.Val (any_of A.Exn)) (next (try_table B.Empty (T.AllRef 0 ∷ []) ((I.Call 3 ∷ []) then done)) ((I.Unreachable ∷ []) then done))) ((I.ThrowRef ∷ []) then done)) ≡ (thrown 0, [])
unfolding ins_of code_row do_act need within pop spend with_some or_foul ask is_sub line same_type eq_sub eq_group closed_type closed_types
throws_again = refl

passes : runs round [] 1 (next (try_table B.Empty (T.One 1 0 ∷ []) ((I.Call 3 ∷ []) then done)) done) ≡ (thrown 0, [])
unfolding ins_of code_row do_act need within pop spend with_some or_foul ask is_sub line same_type eq_sub eq_group closed_type closed_types
passes = refl

throws_null : runs round [] 0 ((I.RefNull (H.Abs A.Exn) ∷ I.ThrowRef ∷ []) then done) ≡ (trap, [])
unfolding ins_of code_row do_act need within pop spend with_some or_foul ask is_sub line same_type eq_sub eq_group closed_type closed_types
throws_null = refl

-- a trap is not caught
trap_passes : runs round [] 0 (next (block B.Empty (next (try_table B.Empty (T.All 0 ∷ []) ((I.Unreachable ∷ []) then done)) done)) ((I.I32Const (pos 7) ∷ []) then done)) ≡ (trap, [])
unfolding ins_of code_row do_act need within pop spend with_some or_foul ask is_sub line same_type eq_sub eq_group closed_type closed_types
trap_passes = refl
