-- Closed modules and scripts for the examples.
use Rattle.std.proofs.Common.{ℕ, true, false, List, [], ◌∷◌, map, Option, None, length}
use Rattle.gu_types.specs.declared.types.Abs.{Abs}
use Rattle.gu_types.specs.declared.types.HeapType.TheVariants as H
use Rattle.gu_types.specs.declared.types.RefType.{RefType}
use Rattle.gu_types.specs.declared.types.ValType.{ValType}
use Rattle.gu_types.specs.declared.types.ValType.TheVariants as V
use Rattle.gu_types.specs.declared.types.Comp.{Comp}
use Rattle.gu_types.specs.declared.types.Comp.TheVariants as C
use Rattle.gu_types.specs.declared.types.RecGroup.{RecGroup}
use Rattle.gu_syntax.specs.declared.instr.Instr.{Instr}
use Rattle.gu_syntax.specs.declared.module.Desc.{Desc}
use Rattle.gu_syntax.specs.declared.module.Export.{Export}
use Rattle.gu_syntax.specs.declared.module.Func.{Func}
use Rattle.gu_syntax.specs.declared.module.Import.{Import}
use Rattle.gu_syntax.specs.declared.module.Kind.{Kind}
use Rattle.gu_syntax.specs.declared.module.Kind.TheVariants as K
use Rattle.gu_syntax.specs.declared.module.Limits.{Limits}
use Rattle.gu_syntax.specs.declared.module.Module.{Module}
use Rattle.gu_syntax.specs.Code.{Code, next, leaf}
use Rattle.gu_model.specs.Outline.{outline}
use Rattle.gu_model.specs.Value.{Value}
use Rattle.gu_model.specs.State.{State, How, Out, at}
use Rattle.gu_model.specs.Taken.{store_of}
use Rattle.gu_model.specs.Control.{do_enter, exec}
use Rattle.gu_model.specs.Play.{start, cleared, level_over, bottom}
use Rattle.gu_model.specs.Script.{Given, Act, Move, Script, Opening, What, Event}

-- each type is final, without supertype, and a group of its own
abbrev pub alone : Comp → RecGroup
alone comp = record { types = record { is_final = true; supers = []; comp = comp } ∷ [] }

abbrev pub of_type : ℕ → List Instr → Func
of_type ty code = record { ty = ty; locals = []; body = record { code = code } }

abbrev pub exporting : Kind → ℕ → Export
exporting kind i = record { name = []; kind = kind; index = i }

abbrev pub importing : Desc → Import
importing desc = record { «module» = []; name = []; desc = desc }

-- a module of types and functions, the first of which is exported
abbrev pub of_funcs : List Comp → List Func → Module
of_funcs comps funcs = record {
  types = record { groups = map alone comps };
  imports = [];
  funcs = funcs;
  tables = [];
  memories = [];
  tags = [];
  globals = [];
  exports = exporting K.Func 0 ∷ [];
  start = None;
  elems = [];
  has_count = false;
  segs = [];
}

-- a module of one function, whose type stands behind others
abbrev pub one : List Comp → (params results : List ValType) → List Instr → Module
one comps params results code = of_funcs (C.Func params results ∷ comps) (of_type 0 code ∷ [])

abbrev pub nothing_opened : Opening
nothing_opened = record { globals = []; tables = []; memories = []; tags = [] }

abbrev pub act : Act → Move
act a = record { act = a; writes = [] }

abbrev pub acts : List Act → Script
acts as' = record { opening = nothing_opened; moves = map act as' }

-- export 0 is called once
abbrev pub calls : List Given → Script
calls gs = acts (Act.Call 0 gs ∷ [])

-- what is shown where nothing is open
abbrev pub shows : What → Event
shows what = record { what = what; state = [] }

-- the module was instantiated, and these follow
abbrev pub then_shows : List What → List Event
then_shows whats = shows (What.Instance []) ∷ map shows whats

abbrev pub i32s : List ℕ → List Given
i32s ns = map Given.I32 ns

abbrev pub gives : List ℕ → List Event
gives ns = then_shows (What.Result (i32s ns) ∷ [])

abbrev pub traps : List Event
traps = then_shows (What.Trap ∷ [])

abbrev pub ref_to : ℕ → ValType
ref_to x = V.Ref (record { null = false; heap = H.Idx x })

abbrev pub null_or : ℕ → ValType
null_or x = V.Ref (record { null = true; heap = H.Idx x })

abbrev pub ref_abs : Abs → RefType
ref_abs a = record { null = true; heap = H.Abs a }

abbrev pub any_of : Abs → ValType
any_of a = V.Ref (ref_abs a)

abbrev pub at_least : ℕ → Limits
at_least n = record { least = n; most = None }

-- instructions without code, before others
infixr 5 ◌then◌
abbrev pub ◌then◌ : List Instr → Code → Code
[] then c = c
(i ∷ is) then c = next (leaf i) (is then c)

-- how code ends in so many steps, and the operands that it leaves, the last first
abbrev pub before : Module → List (Option Value) → (steps : ℕ) → State
before m locals n = at (cleared (start (acts []) n) (store_of (outline m) [] [] [] [] [] m.memories (length m.tags))) locals []

abbrev pub ended : Out → How × List Value
ended o = (o.how, o.state.core.stack)

abbrev pub outcome : Module → List (Option Value) → (steps : ℕ) → Code → Out
outcome m locals n c = exec (outline m) (do_enter (outline m) m (level_over bottom (outline m) m n)) (level_over bottom (outline m) m n) c (before m locals n)

abbrev pub runs : Module → List (Option Value) → (steps : ℕ) → Code → How × List Value
runs m locals n c = ended (outcome m locals n c)
