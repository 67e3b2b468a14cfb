-- The boundary at closed modules: imports, tokens, the open state, writes, Foul and instantiation.
use Rattle.std.proofs.Common.{◌^◌, ℕ, true, false, List, [], ◌∷◌, ◌≡◌, refl, Some, pos}
use Rattle.gu_types.specs.declared.types.Abs.TheVariants as A
use Rattle.gu_types.specs.declared.types.Comp.TheVariants as C
use Rattle.gu_types.specs.declared.types.Storage.TheVariants as S
use Rattle.gu_types.specs.declared.types.ValType.TheVariants as V
use Rattle.gu_syntax.specs.declared.instr.Instr.TheVariants as I
use Rattle.gu_syntax.specs.declared.module.Desc.TheVariants as D
use Rattle.gu_syntax.specs.declared.module.ElemMode.TheVariants as E
use Rattle.gu_syntax.specs.declared.module.Items.TheVariants as L
use Rattle.gu_syntax.specs.declared.module.Kind.TheVariants as K
use Rattle.gu_syntax.specs.declared.module.Module.{Module}
use Rattle.gu_syntax.specs.Code.{ins_of, code_row}
use Rattle.gu_rec.specs.Closed.{closed_type, closed_types}
use Rattle.gu_rec.specs.Tests.{same_type, eq_sub, eq_group}
use Rattle.gu_rec.specs.Sub.{is_sub, line}
use Rattle.gu_model.specs.Script.{Token, Given, TagName, Act, Script, Write, Move, What, Item}
use Rattle.gu_model.specs.Did.{need, within}
use Rattle.gu_model.specs.Act.{do_act}
use Rattle.gu_model.specs.State.{pop, spend, with_some}
use Rattle.gu_model.specs.Control.{ask}
use Rattle.gu_model.specs.Play.{or_foul, trace}
use Rattle.gu_model.proofs.Modules.{one, of_funcs, of_type, calls, acts, act, nothing_opened, shows, then_shows, i32s, exporting, importing, ref_to, null_or, ref_abs, any_of, at_least}

-- import 0 is [] -> [i32]; export 0 gives one more than it, export 1 gives 9
abbrev with_import : Module
with_import = record (of_funcs (C.Func [] (V.I32 ∷ []) ∷ []) (of_type 0 (I.Call 0 ∷ I.I32Const (pos 1) ∷ I.Num (record { row = 25 }) ∷ []) ∷ of_type 0 (I.I32Const (pos 9) ∷ []) ∷ [])) {
  imports = importing (D.Func 0) ∷ [];
  exports = exporting K.Func 1 ∷ exporting K.Func 2 ∷ [];
}

-- while the call of an import waits, an export is called
calls_meanwhile : trace with_import (acts (Act.Call 0 [] ∷ Act.Call 1 [] ∷ Act.Return (i32s (4 ∷ [])) ∷ [])) 3 ≡ then_shows (What.CallOut 0 [] ∷ What.Result (i32s (9 ∷ [])) ∷ What.Result (i32s (5 ∷ [])) ∷ [])
unfolding ins_of code_row do_act need within pop spend with_some or_foul ask is_sub line same_type eq_sub eq_group closed_type closed_types
calls_meanwhile = refl

import_traps : trace with_import (acts (Act.Call 0 [] ∷ Act.Trap ∷ Act.Call 1 [] ∷ [])) 3 ≡ then_shows (What.CallOut 0 [] ∷ What.Trap ∷ What.Result (i32s (9 ∷ [])) ∷ [])
unfolding ins_of code_row do_act need within pop spend with_some or_foul ask is_sub line same_type eq_sub eq_group closed_type closed_types
import_traps = refl

-- the embedder throws by a tag of its own, with no import of it
import_throws : trace with_import (acts (Act.Call 0 [] ∷ Act.Throw (TagName.Host 3) [] ∷ [])) 3 ≡ then_shows (What.CallOut 0 [] ∷ What.Thrown (record { token = Token.Shown 0; tag = Some (TagName.Host 3); arguments = [] }) ∷ [])
unfolding ins_of code_row do_act need within pop spend with_some or_foul ask is_sub line same_type eq_sub eq_group closed_type closed_types
import_throws = refl

-- moves are used up while an import waits
waits : trace with_import (acts (Act.Call 0 [] ∷ [])) 3 ≡ then_shows (What.CallOut 0 [] ∷ [])
unfolding ins_of code_row do_act need within pop spend with_some or_foul ask is_sub line same_type eq_sub eq_group closed_type closed_types
waits = refl

-- Foul: an export that is not there, too many arguments, a result of another kind, an answer to no question
no_export : trace with_import (acts (Act.Call 7 [] ∷ Act.Call 1 [] ∷ [])) 9 ≡ then_shows (What.Foul ∷ [])
unfolding ins_of code_row do_act need within pop spend with_some or_foul ask is_sub line same_type eq_sub eq_group closed_type closed_types
no_export = refl

too_many : trace with_import (acts (Act.Call 0 (i32s (1 ∷ [])) ∷ [])) 9 ≡ then_shows (What.Foul ∷ [])
unfolding ins_of code_row do_act need within pop spend with_some or_foul ask is_sub line same_type eq_sub eq_group closed_type closed_types
too_many = refl

other_kind : trace with_import (acts (Act.Call 0 [] ∷ Act.Return (Given.I64 1 ∷ []) ∷ [])) 9 ≡ then_shows (What.CallOut 0 [] ∷ What.Foul ∷ [])
unfolding ins_of code_row do_act need within pop spend with_some or_foul ask is_sub line same_type eq_sub eq_group closed_type closed_types
other_kind = refl

too_large : trace with_import (acts (Act.Call 0 [] ∷ Act.Return (i32s (2 ^ 32 ∷ [])) ∷ [])) 9 ≡ then_shows (What.CallOut 0 [] ∷ What.Foul ∷ [])
unfolding ins_of code_row do_act need within pop spend with_some or_foul ask is_sub line same_type eq_sub eq_group closed_type closed_types
too_large = refl

no_question : trace with_import (acts (Act.Answer true ∷ [])) 9 ≡ then_shows (What.Foul ∷ [])
unfolding ins_of code_row do_act need within pop spend with_some or_foul ask is_sub line same_type eq_sub eq_group closed_type closed_types
no_question = refl

no_call : trace with_import (acts (Act.Return [] ∷ [])) 9 ≡ then_shows (What.Foul ∷ [])
unfolding ins_of code_row do_act need within pop spend with_some or_foul ask is_sub line same_type eq_sub eq_group closed_type closed_types
no_call = refl

-- export 0 gives a new structure with 3, export 1 reads one
abbrev with_struct : Module
with_struct = record (of_funcs (C.Func [] (ref_to 2 ∷ []) ∷ C.Func (null_or 2 ∷ []) (V.I32 ∷ []) ∷ C.Struct (record { storage = S.Val V.I32; mutable = false } ∷ []) ∷ []) (of_type 0 (I.I32Const (pos 3) ∷ I.StructNew 2 ∷ []) ∷ of_type 1 (I.LocalGet 0 ∷ I.StructGet 2 0 ∷ []) ∷ [])) {
  exports = exporting K.Func 0 ∷ exporting K.Func 1 ∷ [];
}

abbrev a_ref : ℕ → List Given
a_ref k = Given.Ref (Token.Shown k) ∷ []

-- a reference that was shown is handed back by its token; a token that was not shown is Foul
hands_back : trace with_struct (acts (Act.Call 0 [] ∷ Act.Call 0 [] ∷ Act.Call 1 (a_ref 1) ∷ Act.Call 1 (a_ref 2) ∷ [])) 9 ≡ then_shows (What.Result (a_ref 0) ∷ What.Result (a_ref 1) ∷ What.Result (i32s (3 ∷ [])) ∷ What.Foul ∷ [])
unfolding ins_of code_row do_act need within pop spend with_some or_foul ask is_sub line same_type eq_sub eq_group closed_type closed_types
hands_back = refl

-- it gives an external reference back beside its internal form
abbrev both_forms : Module
both_forms = one [] (any_of A.Extern ∷ []) (any_of A.Extern ∷ any_of A.Any ∷ []) (I.LocalGet 0 ∷ I.LocalGet 0 ∷ I.AnyConvertExtern ∷ [])

-- a host reference and its external form have one token, and so do an unboxed number and its
host_forms : trace both_forms (calls (Given.Ref (Token.Host 5) ∷ [])) 1 ≡ then_shows (What.Result (Given.Ref (Token.Host 5) ∷ Given.Ref (Token.Host 5) ∷ []) ∷ [])
unfolding ins_of code_row do_act need within pop spend with_some or_foul ask is_sub line same_type eq_sub eq_group closed_type closed_types
host_forms = refl

number_forms : trace both_forms (calls (Given.I31 5 ∷ [])) 1 ≡ then_shows (What.Result (Given.I31 5 ∷ Given.I31 5 ∷ []) ∷ [])
unfolding ins_of code_row do_act need within pop spend with_some or_foul ask is_sub line same_type eq_sub eq_group closed_type closed_types
number_forms = refl

-- functions: an import and an export by their numbers, and another by the order in which it is shown
abbrev with_functions : Module
with_functions = record (of_funcs (C.Func [] (any_of A.AnyFunc ∷ any_of A.AnyFunc ∷ any_of A.AnyFunc ∷ []) ∷ []) (of_type 0 (I.RefFunc 2 ∷ I.RefFunc 1 ∷ I.RefFunc 0 ∷ []) ∷ of_type 0 [] ∷ [])) {
  imports = importing (D.Global V.I32 false) ∷ importing (D.Func 0) ∷ [];
  exports = exporting K.Func 1 ∷ [];
}

functions : trace with_functions (record { opening = record nothing_opened { globals = Given.I32 0 ∷ [] }; moves = act (Act.Call 0 []) ∷ [] }) 1 ≡ then_shows (What.Result (Given.Ref (Token.Shown 0) ∷ Given.Ref (Token.Export 0) ∷ Given.Ref (Token.Import 1) ∷ []) ∷ [])
unfolding ins_of code_row do_act need within pop spend with_some or_foul ask is_sub line same_type eq_sub eq_group closed_type closed_types
functions = refl

-- the open state: a table that is imported and exported, and a mutable global that is exported
abbrev open_module : Module
open_module = record (of_funcs (C.Func [] (V.I32 ∷ []) ∷ []) (of_type 0 (I.GlobalGet 0 ∷ []) ∷ [])) {
  imports = importing (D.Table (ref_abs A.Any) (at_least 1)) ∷ [];
  globals = record { ty = V.I32; mutable = true; init = record { code = I.I32Const (pos 6) ∷ [] } } ∷ [];
  exports = exporting K.Func 0 ∷ exporting K.Table 0 ∷ exporting K.Global 0 ∷ [];
}

abbrev opens : List Given → List Move → Script
opens gs moves = record { opening = record nothing_opened { tables = gs ∷ [] }; moves = moves }

abbrev state_of : Given → ℕ → List Item
state_of g n = Item.Table (g ∷ []) ∷ Item.Global (Given.I32 n) ∷ []

-- a move writes before it acts
writes : trace open_module (opens (Given.Null ∷ []) (record { act = Act.Call 0 []; writes = Write.Entry 0 0 (Given.Ref (Token.Host 1)) ∷ Write.Global 1 (Given.I32 7) ∷ [] } ∷ [])) 1 ≡ record { what = What.Instance []; state = state_of Given.Null 6 } ∷ record { what = What.Result (i32s (7 ∷ [])); state = state_of (Given.Ref (Token.Host 1)) 7 } ∷ []
unfolding ins_of code_row do_act need within pop spend with_some or_foul ask is_sub line same_type eq_sub eq_group closed_type closed_types
writes = refl

-- a move that is Foul writes nothing: the second write is to no item
writes_nothing : trace open_module (opens (Given.Null ∷ []) (record { act = Act.Call 0 []; writes = Write.Global 1 (Given.I32 7) ∷ Write.Global 2 (Given.I32 7) ∷ [] } ∷ [])) 1 ≡ record { what = What.Instance []; state = state_of Given.Null 6 } ∷ record { what = What.Foul; state = state_of Given.Null 6 } ∷ []
unfolding ins_of code_row do_act need within pop spend with_some or_foul ask is_sub line same_type eq_sub eq_group closed_type closed_types
writes_nothing = refl

-- an opening of another number of items is Foul, with no state
no_opening : trace open_module (acts (Act.Call 0 [] ∷ [])) 9 ≡ shows What.Foul ∷ []
unfolding ins_of code_row do_act need within pop spend with_some or_foul ask is_sub line same_type eq_sub eq_group closed_type closed_types
no_opening = refl

small_opening : trace open_module (opens [] (act (Act.Call 0 []) ∷ [])) 9 ≡ shows What.Foul ∷ []
unfolding ins_of code_row do_act need within pop spend with_some or_foul ask is_sub line same_type eq_sub eq_group closed_type closed_types
small_opening = refl

-- instantiation: the first segment is copied to an imported table, and the second is out of range. The start function
-- isn't called
abbrev half_way : Module
half_way = record (of_funcs (C.Func [] [] ∷ []) (of_type 0 (I.Unreachable ∷ []) ∷ [])) {
  imports = importing (D.Table (ref_abs A.AnyFunc) (at_least 2)) ∷ [];
  exports = [];
  start = Some 0;
  elems = record { mode = E.Active 0 (record { code = I.I32Const (pos 1) ∷ [] }); items = L.Funcs (0 ∷ []) } ∷ record { mode = E.Active 0 (record { code = I.I32Const (pos 2) ∷ [] }); items = L.Funcs (0 ∷ []) } ∷ [];
}

traps_half_way : trace half_way (opens (Given.Null ∷ Given.Null ∷ []) (act (Act.Call 0 []) ∷ [])) 9 ≡ record { what = What.InstanceTrap; state = Item.Table (Given.Null ∷ Given.Ref (Token.Shown 0) ∷ []) ∷ [] } ∷ []
unfolding ins_of code_row do_act need within pop spend with_some or_foul ask is_sub line same_type eq_sub eq_group closed_type closed_types
traps_half_way = refl

-- the start function calls an import, during which an export is called; then the module is there
abbrev starts : Module
starts = record (of_funcs (C.Func [] (V.I32 ∷ []) ∷ C.Func [] [] ∷ []) []) { imports = importing (D.Func 0) ∷ []; exports = exporting K.Func 1 ∷ exporting K.Func 2 ∷ []; funcs = of_type 0 (I.I32Const (pos 2) ∷ []) ∷ of_type 0 (I.I32Const (pos 9) ∷ []) ∷ of_type 1 (I.Call 0 ∷ I.Drop ∷ []) ∷ []; start = Some 3 }

starts_first : trace starts (acts (Act.Call 1 [] ∷ Act.Return (i32s (1 ∷ [])) ∷ Act.Call 0 [] ∷ [])) 9 ≡ shows (What.CallOut 0 []) ∷ shows (What.Result (i32s (9 ∷ []))) ∷ shows (What.Instance []) ∷ shows (What.Result (i32s (2 ∷ []))) ∷ []
unfolding ins_of code_row do_act need within pop spend with_some or_foul ask is_sub line same_type eq_sub eq_group closed_type closed_types
starts_first = refl

-- an exception that nothing catches ends it
starts_thrown : trace starts (acts (Act.Throw (TagName.Host 0) [] ∷ Act.Call 0 [] ∷ [])) 9 ≡ shows (What.CallOut 0 []) ∷ shows (What.InstanceThrown (record { token = Token.Shown 0; tag = Some (TagName.Host 0); arguments = [] })) ∷ []
unfolding ins_of code_row do_act need within pop spend with_some or_foul ask is_sub line same_type eq_sub eq_group closed_type closed_types
starts_thrown = refl

-- a tag that is imported and one that is exported: arguments are shown
abbrev named_tags : Module
named_tags = record (of_funcs (C.Func [] [] ∷ C.Func (V.I32 ∷ []) [] ∷ []) (of_type 0 (I.I32Const (pos 4) ∷ I.Throw 0 ∷ []) ∷ of_type 0 (I.I32Const (pos 5) ∷ I.Throw 1 ∷ []) ∷ [])) {
  imports = importing (D.Tag 1) ∷ [];
  tags = 1 ∷ [];
  exports = exporting K.Func 0 ∷ exporting K.Func 1 ∷ exporting K.Tag 1 ∷ [];
}

names_tags : trace named_tags (record { opening = record nothing_opened { tags = 7 ∷ [] }; moves = act (Act.Call 0 []) ∷ act (Act.Call 1 []) ∷ [] }) 9 ≡ then_shows (What.Thrown (record { token = Token.Shown 0; tag = Some (TagName.Import 0); arguments = i32s (4 ∷ []) }) ∷ What.Thrown (record { token = Token.Shown 1; tag = Some (TagName.Export 2); arguments = i32s (5 ∷ []) }) ∷ [])
unfolding ins_of code_row do_act need within pop spend with_some or_foul ask is_sub line same_type eq_sub eq_group closed_type closed_types
names_tags = refl
