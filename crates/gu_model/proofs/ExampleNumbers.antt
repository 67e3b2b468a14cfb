-- Numbers, locals, globals and memories at closed modules.
use Rattle.std.proofs.Common.{◌^◌, ◌-◌, true, false, List, [], ◌∷◌, ◌++◌, ◌≡◌, refl, Some, pos, negsuc}
use Rattle.gu_types.specs.declared.types.ValType.{ValType}
use Rattle.gu_types.specs.declared.types.ValType.TheVariants as V
use Rattle.gu_syntax.specs.declared.instr.Instr.{Instr}
use Rattle.gu_syntax.specs.declared.instr.Instr.TheVariants as I
use Rattle.gu_syntax.specs.declared.instr.MemArg.{MemArg}
use Rattle.gu_syntax.specs.declared.module.Kind.TheVariants as K
use Rattle.gu_syntax.specs.declared.module.Module.{Module}
use Rattle.gu_syntax.specs.Code.{ins_of, code_row}
use Rattle.gu_model.specs.Script.{Given, Act, What, Item}
use Rattle.gu_model.specs.Did.{need, within}
use Rattle.gu_model.specs.Act.{do_act}
use Rattle.gu_model.specs.State.{pop, spend, with_some}
use Rattle.gu_model.specs.Control.{ask}
use Rattle.gu_model.specs.Play.{or_foul, trace}
use Rattle.gu_model.proofs.Modules.{one, calls, acts, then_shows, i32s, gives, traps, exporting, at_least}

abbrev on_i32 : List ValType → List Instr → Module
on_i32 params code = one [] params (V.I32 ∷ []) code

-- 2^32 - 1 and 1 give 0
wraps : trace (on_i32 (V.I32 ∷ []) (I.I32Const (negsuc 0) ∷ I.LocalGet 0 ∷ I.Num (record { row = 25 }) ∷ [])) (calls (i32s (1 ∷ []))) 1 ≡ gives (0 ∷ [])
unfolding ins_of code_row do_act need within pop spend with_some or_foul
wraps = refl

-- 7 - 5, and 7 divided by 0
subtracts : trace (on_i32 [] (I.I32Const (pos 7) ∷ I.I32Const (pos 5) ∷ I.Num (record { row = 26 }) ∷ [])) (calls []) 1 ≡ gives (2 ∷ [])
unfolding ins_of code_row do_act need within pop spend with_some or_foul
subtracts = refl

divides : trace (on_i32 [] (I.I32Const (pos 7) ∷ I.I32Const (pos 0) ∷ I.Num (record { row = 29 }) ∷ [])) (calls []) 1 ≡ traps
unfolding ins_of code_row do_act need within pop spend with_some or_foul
divides = refl

-- an i32 as an i64, signed
extends : trace (one [] [] (V.I64 ∷ []) (I.I32Const (negsuc 0) ∷ I.Num (record { row = 59 }) ∷ [])) (calls []) 1 ≡ then_shows (What.Result (Given.I64 (2 ^ 64 - 1) ∷ []) ∷ [])
unfolding ins_of code_row do_act need within pop spend with_some or_foul
extends = refl

-- with no step left a call shows nothing
spent_early : trace (on_i32 [] (I.I32Const (pos 1) ∷ [])) (calls []) 0 ≡ then_shows []
unfolding ins_of code_row do_act need within pop spend with_some or_foul
spent_early = refl

-- arguments and results stand in order: the second argument, then the first; the declared local holds 0
swaps : trace (one [] (V.I32 ∷ V.I32 ∷ []) (V.I32 ∷ V.I32 ∷ []) (I.LocalGet 1 ∷ I.LocalGet 0 ∷ [])) (calls (i32s (5 ∷ 7 ∷ []))) 1 ≡ gives (7 ∷ 5 ∷ [])
unfolding ins_of code_row do_act need within pop spend with_some or_foul
swaps = refl

tees : trace (on_i32 (V.I32 ∷ []) (I.I32Const (pos 3) ∷ I.LocalTee 0 ∷ I.LocalGet 0 ∷ I.Num (record { row = 25 }) ∷ [])) (calls (i32s (9 ∷ []))) 1 ≡ gives (6 ∷ [])
unfolding ins_of code_row do_act need within pop spend with_some or_foul
tees = refl

-- the first where the number is not 0, else the second
selects : trace (on_i32 (V.I32 ∷ []) (I.I32Const (pos 1) ∷ I.I32Const (pos 2) ∷ I.LocalGet 0 ∷ I.Select ∷ [])) (acts (Act.Call 0 (i32s (5 ∷ [])) ∷ Act.Call 0 (i32s (0 ∷ [])) ∷ [])) 2 ≡ then_shows (What.Result (i32s (1 ∷ [])) ∷ What.Result (i32s (2 ∷ [])) ∷ [])
unfolding ins_of code_row do_act need within pop spend with_some or_foul
selects = refl

-- globals: an immutable one is read, and a mutable one is written, which each event shows
abbrev with_globals : Module
with_globals = record (on_i32 [] (I.GlobalGet 0 ∷ I.I32Const (pos 8) ∷ I.GlobalSet 1 ∷ [])) {
  globals = record { ty = V.I32; mutable = false; init = record { code = I.I32Const (pos 4) ∷ [] } } ∷ record { ty = V.I32; mutable = true; init = record { code = I.GlobalGet 0 ∷ [] } } ∷ [];
  exports = exporting K.Func 0 ∷ exporting K.Global 0 ∷ exporting K.Global 1 ∷ [];
}

global_shown : trace with_globals (calls []) 1 ≡ record { what = What.Instance (i32s (4 ∷ [])); state = Item.Global (Given.I32 4) ∷ [] } ∷ record { what = What.Result (i32s (4 ∷ [])); state = Item.Global (Given.I32 8) ∷ [] } ∷ []
unfolding ins_of code_row do_act need within pop spend with_some or_foul
global_shown = refl

-- memories

abbrev word : MemArg
word = record { exponent = 0; memory = 0; offset = 2 }

abbrev of_memory : List ValType → List Instr → Module
of_memory params code = record (on_i32 params code) { memories = at_least 1 ∷ [] }

-- the lowest byte stands first, and a signed byte is extended
stores : trace (of_memory [] (I.I32Const (pos 4) ∷ I.I32Const (pos 0x01020380) ∷ I.I32Store word ∷ I.I32Const (pos 4) ∷ I.I32Load8S word ∷ [])) (calls []) 1 ≡ gives ((2 ^ 32 - 128) ∷ [])
unfolding ins_of code_row do_act need within pop spend with_some or_foul
stores = refl

loads : trace (of_memory [] (I.I32Const (pos 4) ∷ I.I32Const (pos 0x01020380) ∷ I.I32Store word ∷ I.I32Const (pos 5) ∷ I.I32Load16U word ∷ [])) (calls []) 1 ≡ gives (0x0203 ∷ [])
unfolding ins_of code_row do_act need within pop spend with_some or_foul
loads = refl

-- the last word lies within the page, and the next does not
last_word : trace (of_memory (V.I32 ∷ []) (I.LocalGet 0 ∷ I.I32Load word ∷ [])) (acts (Act.Call 0 (i32s (65530 ∷ [])) ∷ Act.Call 0 (i32s (65531 ∷ [])) ∷ [])) 2 ≡ then_shows (What.Result (i32s (0 ∷ [])) ∷ What.Trap ∷ [])
unfolding ins_of code_row do_act need within pop spend with_some or_foul
last_word = refl

sizes : trace (of_memory [] (I.MemorySize 0 ∷ [])) (calls []) 1 ≡ gives (1 ∷ [])
unfolding ins_of code_row do_act need within pop spend with_some or_foul
sizes = refl

-- a grow is a question and a step. Answered no, it gives 2^32 - 1
abbrev grows : List Instr
grows = I.I32Const (pos 1) ∷ I.MemoryGrow 0 ∷ []

grow_no : trace (of_memory [] grows) (acts (Act.Call 0 [] ∷ Act.Answer false ∷ [])) 2 ≡ then_shows (What.AskMemory 1 ∷ What.Result (i32s ((2 ^ 32 - 1) ∷ [])) ∷ [])
unfolding ins_of code_row do_act need within pop spend with_some or_foul ask
grow_no = refl

grow_yes : trace (of_memory [] (grows ++ I.Drop ∷ I.MemorySize 0 ∷ [])) (acts (Act.Call 0 [] ∷ Act.Answer true ∷ [])) 2 ≡ then_shows (What.AskMemory 1 ∷ What.Result (i32s (2 ∷ [])) ∷ [])
unfolding ins_of code_row do_act need within pop spend with_some or_foul ask
grow_yes = refl

-- without a step it is not asked, and without a move it is not answered
grow_spent : trace (of_memory [] grows) (acts (Act.Call 0 [] ∷ Act.Answer true ∷ [])) 1 ≡ then_shows []
unfolding ins_of code_row do_act need within pop spend with_some or_foul ask
grow_spent = refl

grow_over : trace (of_memory [] grows) (calls []) 9 ≡ then_shows (What.AskMemory 1 ∷ [])
unfolding ins_of code_row do_act need within pop spend with_some or_foul ask
grow_over = refl

-- a yes past the declared greatest size counts as no
grow_past : trace (record (of_memory [] grows) { memories = record { least = 1; most = Some 1 } ∷ [] }) (acts (Act.Call 0 [] ∷ Act.Answer true ∷ [])) 2 ≡ then_shows (What.AskMemory 1 ∷ What.Result (i32s ((2 ^ 32 - 1) ∷ [])) ∷ [])
unfolding ins_of code_row do_act need within pop spend with_some or_foul ask
grow_past = refl

-- another kind of move is Foul while a question waits
grow_foul : trace (of_memory [] grows) (acts (Act.Call 0 [] ∷ Act.Call 0 [] ∷ [])) 9 ≡ then_shows (What.AskMemory 1 ∷ What.Foul ∷ [])
unfolding ins_of code_row do_act need within pop spend with_some or_foul ask
grow_foul = refl
