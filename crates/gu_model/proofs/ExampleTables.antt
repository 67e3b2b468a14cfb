-- Tables, segments and bulk operations at closed modules.
use Rattle.std.proofs.Common.{ℕ, true, List, [], ◌∷◌, ◌≡◌, refl, None, Some, pos}
use Rattle.gu_types.specs.declared.types.Abs.TheVariants as A
use Rattle.gu_types.specs.declared.types.Comp.TheVariants as C
use Rattle.gu_types.specs.declared.types.HeapType.TheVariants as H
use Rattle.gu_types.specs.declared.types.ValType.{ValType}
use Rattle.gu_types.specs.declared.types.ValType.TheVariants as V
use Rattle.gu_syntax.specs.declared.instr.Instr.{Instr}
use Rattle.gu_syntax.specs.declared.instr.Instr.TheVariants as I
use Rattle.gu_syntax.specs.declared.module.ElemMode.TheVariants as E
use Rattle.gu_syntax.specs.declared.module.Items.TheVariants as L
use Rattle.gu_syntax.specs.declared.module.Module.{Module}
use Rattle.gu_syntax.specs.declared.module.SegMode.TheVariants as G
use Rattle.gu_syntax.specs.Code.{ins_of, code_row}
use Rattle.gu_rec.specs.Closed.{closed_type, closed_types}
use Rattle.gu_rec.specs.Tests.{same_type, eq_sub, eq_group}
use Rattle.gu_rec.specs.Sub.{is_sub, line}
use Rattle.gu_model.specs.Script.{Act, What}
use Rattle.gu_model.specs.Did.{need, within}
use Rattle.gu_model.specs.Act.{do_act}
use Rattle.gu_model.specs.State.{pop, spend, with_some}
use Rattle.gu_model.specs.Control.{ask}
use Rattle.gu_model.specs.Play.{or_foul, trace}
use Rattle.gu_model.proofs.Modules.{one, of_funcs, of_type, calls, acts, then_shows, i32s, gives, traps, ref_abs, at_least}

-- a table of three functions, of which the module has two: [] -> [i32] that give 5 and 6
abbrev of_table : List ValType → List Instr → Module
of_table params is = record (of_funcs (C.Func params (V.I32 ∷ []) ∷ C.Func [] (V.I32 ∷ []) ∷ C.Func [] [] ∷ []) (of_type 0 is ∷ of_type 1 (I.I32Const (pos 5) ∷ []) ∷ of_type 1 (I.I32Const (pos 6) ∷ []) ∷ of_type 2 [] ∷ [])) {
  tables = record { elem = ref_abs A.AnyFunc; limits = record { least = 4; most = Some 6 }; init = None } ∷ [];
  elems = record { mode = E.Active 0 (record { code = I.I32Const (pos 1) ∷ [] }); items = L.Funcs (1 ∷ 3 ∷ []) } ∷ record { mode = E.Passive; items = L.Funcs (2 ∷ []) } ∷ [];
}

-- entries 1 and 2 are set at instantiation. Null, another type and an index out of range trap
calls_entries : trace (of_table (V.I32 ∷ []) (I.LocalGet 0 ∷ I.CallIndirect 1 0 ∷ [])) (acts (Act.Call 0 (i32s (1 ∷ [])) ∷ Act.Call 0 (i32s (0 ∷ [])) ∷ Act.Call 0 (i32s (2 ∷ [])) ∷ Act.Call 0 (i32s (4 ∷ [])) ∷ [])) 5 ≡ then_shows (What.Result (i32s (5 ∷ [])) ∷ What.Trap ∷ What.Trap ∷ What.Trap ∷ [])
unfolding ins_of code_row do_act need within pop spend with_some or_foul ask is_sub line same_type eq_sub eq_group closed_type closed_types
calls_entries = refl

-- from a passive segment; the active one is empty afterwards, and so is the passive one once it is dropped
inits : trace (of_table [] (I.I32Const (pos 3) ∷ I.I32Const (pos 0) ∷ I.I32Const (pos 1) ∷ I.TableInit 1 0 ∷ I.I32Const (pos 3) ∷ I.CallIndirect 1 0 ∷ [])) (calls []) 2 ≡ gives (6 ∷ [])
unfolding ins_of code_row do_act need within pop spend with_some or_foul ask is_sub line same_type eq_sub eq_group closed_type closed_types
inits = refl

inits_empty : trace (of_table [] (I.I32Const (pos 3) ∷ I.I32Const (pos 0) ∷ I.I32Const (pos 1) ∷ I.TableInit 0 0 ∷ I.I32Const (pos 7) ∷ [])) (calls []) 2 ≡ traps
unfolding ins_of code_row do_act need within pop spend with_some or_foul ask is_sub line same_type eq_sub eq_group closed_type closed_types
inits_empty = refl

drops : trace (of_table [] (I.ElemDrop 1 ∷ I.I32Const (pos 3) ∷ I.I32Const (pos 0) ∷ I.I32Const (pos 1) ∷ I.TableInit 1 0 ∷ I.I32Const (pos 7) ∷ [])) (calls []) 2 ≡ traps
unfolding ins_of code_row do_act need within pop spend with_some or_foul ask is_sub line same_type eq_sub eq_group closed_type closed_types
drops = refl

copies : trace (of_table [] (I.I32Const (pos 0) ∷ I.I32Const (pos 1) ∷ I.I32Const (pos 2) ∷ I.TableCopy 0 0 ∷ I.I32Const (pos 0) ∷ I.CallIndirect 1 0 ∷ [])) (calls []) 2 ≡ gives (5 ∷ [])
unfolding ins_of code_row do_act need within pop spend with_some or_foul ask is_sub line same_type eq_sub eq_group closed_type closed_types
copies = refl

fills : trace (of_table [] (I.I32Const (pos 0) ∷ I.RefFunc 2 ∷ I.I32Const (pos 4) ∷ I.TableFill 0 ∷ I.I32Const (pos 2) ∷ I.CallIndirect 1 0 ∷ [])) (calls []) 2 ≡ gives (6 ∷ [])
unfolding ins_of code_row do_act need within pop spend with_some or_foul ask is_sub line same_type eq_sub eq_group closed_type closed_types
fills = refl

fills_past : trace (of_table [] (I.I32Const (pos 1) ∷ I.RefFunc 2 ∷ I.I32Const (pos 4) ∷ I.TableFill 0 ∷ I.I32Const (pos 2) ∷ [])) (calls []) 2 ≡ traps
unfolding ins_of code_row do_act need within pop spend with_some or_foul ask is_sub line same_type eq_sub eq_group closed_type closed_types
fills_past = refl

sets : trace (of_table [] (I.I32Const (pos 3) ∷ I.RefFunc 2 ∷ I.TableSet 0 ∷ I.I32Const (pos 3) ∷ I.TableGet 0 ∷ I.RefIsNull ∷ [])) (calls []) 1 ≡ gives (0 ∷ [])
unfolding ins_of code_row do_act need within pop spend with_some or_foul ask is_sub line same_type eq_sub eq_group closed_type closed_types
sets = refl

-- it grows by two and no more
grows : trace (of_table (V.I32 ∷ []) (I.RefNull (H.Abs A.AnyFunc) ∷ I.LocalGet 0 ∷ I.TableGrow 0 ∷ I.Drop ∷ I.TableSize 0 ∷ [])) (acts (Act.Call 0 (i32s (2 ∷ [])) ∷ Act.Answer true ∷ Act.Call 0 (i32s (1 ∷ [])) ∷ Act.Answer true ∷ [])) 4 ≡ then_shows (What.AskTable 2 ∷ What.Result (i32s (6 ∷ [])) ∷ What.AskTable 1 ∷ What.Result (i32s (6 ∷ [])) ∷ [])
unfolding ins_of code_row do_act need within pop spend with_some or_foul ask is_sub line same_type eq_sub eq_group closed_type closed_types
grows = refl

-- memories
abbrev of_memory : List Instr → Module
of_memory is = record (one [] [] (V.I32 ∷ []) is) {
  memories = at_least 1 ∷ [];
  segs = record { mode = G.Active 0 (record { code = I.I32Const (pos 8) ∷ [] }); bytes = 1 ∷ 2 ∷ 3 ∷ [] } ∷ record { mode = G.Passive; bytes = 7 ∷ [] } ∷ [];
}

abbrev byte_at : ℕ → List Instr
byte_at n = I.I32Const (pos n) ∷ I.I32Load8U (record { exponent = 0; memory = 0; offset = 0 }) ∷ []

active : trace (of_memory (byte_at 10)) (calls []) 1 ≡ gives (3 ∷ [])
unfolding ins_of code_row do_act need within pop spend with_some or_foul ask is_sub line same_type eq_sub eq_group closed_type closed_types
active = refl

fills_bytes : trace (of_memory (I.I32Const (pos 9) ∷ I.I32Const (pos 0x105) ∷ I.I32Const (pos 2) ∷ I.MemoryFill 0 ∷ byte_at 10)) (calls []) 1 ≡ gives (5 ∷ [])
unfolding ins_of code_row do_act need within pop spend with_some or_foul ask is_sub line same_type eq_sub eq_group closed_type closed_types
fills_bytes = refl

copies_bytes : trace (of_memory (I.I32Const (pos 9) ∷ I.I32Const (pos 8) ∷ I.I32Const (pos 2) ∷ I.MemoryCopy 0 0 ∷ byte_at 10)) (calls []) 1 ≡ gives (2 ∷ [])
unfolding ins_of code_row do_act need within pop spend with_some or_foul ask is_sub line same_type eq_sub eq_group closed_type closed_types
copies_bytes = refl

inits_bytes : trace (of_memory (I.I32Const (pos 10) ∷ I.I32Const (pos 0) ∷ I.I32Const (pos 1) ∷ I.MemoryInit 1 0 ∷ byte_at 10)) (calls []) 1 ≡ gives (7 ∷ [])
unfolding ins_of code_row do_act need within pop spend with_some or_foul ask is_sub line same_type eq_sub eq_group closed_type closed_types
inits_bytes = refl

inits_past : trace (of_memory (I.I32Const (pos 65536) ∷ I.I32Const (pos 0) ∷ I.I32Const (pos 1) ∷ I.MemoryInit 1 0 ∷ byte_at 10)) (calls []) 1 ≡ traps
unfolding ins_of code_row do_act need within pop spend with_some or_foul ask is_sub line same_type eq_sub eq_group closed_type closed_types
inits_past = refl
