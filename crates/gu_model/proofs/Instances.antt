-- A module that is instantiated, and played, is never wrong.
use Rattle.std.proofs.Common.{ℕ, Bool, true, List, [], ◌∷◌, ◌++◌, map, length, Option, Some, None, ◌≡◌, refl, ap, ◌∙◌, sym, subst, true≢false}
use Rattle.std.proofs.lemmas.List.{length-map, map-append}
use Rattle.gu_types.specs.declared.types.RefType.{RefType}
use Rattle.gu_types.specs.declared.types.ValType.{ValType}
use Rattle.gu_rec.specs.Tests.{same_type}
use Rattle.gu_syntax.specs.declared.module.Module.{Module}
use Rattle.gu_syntax.specs.declared.module.Seg.{Seg}
use Rattle.gu_syntax.specs.declared.module.Table.{Table}
use Rattle.gu_model.specs.Index.{FuncType, imported, as_global, as_table, defined_table}
use Rattle.gu_model.specs.Outline.{outline, type_of_func}
use Rattle.gu_model.specs.Value.{Store, allocated}
use Rattle.gu_model.specs.Script.{Script, Opening}
use Rattle.gu_model.specs.State.{State, How, normal, branch, return, tail, thrown, trap, spent, over, wrong, foul, Out, out, at}
use Rattle.gu_model.specs.Control.{nothing, Level, do_enter}
use Rattle.gu_model.specs.Play.{cleared, init_tables, init_globals, init_elems, copy_elems, copy_datas, call_start, instantiate, begun, begun_on, begin, begin_on, level_over, bottom, played, start}
use Rattle.gu_model.specs.Taken.{opened}
use Rattle.gu_model.specs.TypingContext.{Context}
use Rattle.gu_model.specs.Valid.{is_start_type, is_valid_start, is_empty}
use Rattle.gu_model.specs.ValidContext.{declared, elem_type, entries_type}
use Rattle.gu_model.proofs.GoodTypes.{GoodTypes}
use Rattle.gu_model.proofs.Has.{HasTop, and_first}
use Rattle.gu_model.proofs.Stores.{StoreFits}
use Rattle.gu_model.proofs.ActRows.{within_module}
use Rattle.gu_model.proofs.References.{GoodFuncs}
use Rattle.gu_model.proofs.Calls.{EndHow}
use Rattle.gu_model.proofs.Enters.{GoodBodies, GoodLevel, EntersOf, EndOf, runs_good}
use Rattle.gu_model.proofs.Serves.{moves_good}
use Rattle.gu_model.proofs.Levels.{level_good, calls_good}
use Rattle.gu_model.proofs.Constants.{Step, step_after}
use Rattle.gu_model.proofs.Initial.{FuncsUnder, TablesGood, GlobalsGood, ElemsGood, elem_of, tables_good, globals_good, elems_good}
use Rattle.gu_model.proofs.Copies.{ModesGood, SegsGood, copies_good, datas_good}
use Rattle.gu_model.proofs.Openings.{opened_fits}

module _ (m : Module) (flip : (i j : ℕ) → same_type m.types i m.types j ≡ true → same_type m.types j m.types i ≡ true) (good : GoodTypes m.types) (funcs : GoodFuncs (outline m)) (under : FuncsUnder (outline m)) where
  -- the module, where so much of its globals, tables and element segments is there
  abbrev In : List (ValType × Bool) → List RefType → List RefType → Context
  In gs ts es = within_module (outline m) gs ts es (length m.segs) (declared m)

  abbrev K : Context
  K = In (outline m).globals (map entries_type (outline m).tables) (map elem_type m.elems)

  -- what a valid module says of its parts
  pub record GoodParts : Type 0 where
    pub tables : TablesGood (outline m) good funcs (length m.segs) (declared m) (map entries_type (outline m).tables) (map elem_type m.elems) (λ f s. out spent s) bottom (imported as_global m.imports) m.tables
    pub globals : GlobalsGood (outline m) good funcs (length m.segs) (declared m) (map entries_type (outline m).tables) (map elem_type m.elems) (λ f s. out spent s) bottom (imported as_global m.imports) m.globals
    pub elems : ElemsGood (outline m) good funcs (length m.segs) (declared m) (map entries_type (outline m).tables) (map elem_type m.elems) (λ f s. out spent s) bottom (outline m).globals m.elems
    pub modes : ModesGood (outline m) good funcs (outline m).globals (map entries_type (outline m).tables) (map elem_type m.elems) (length m.segs) (declared m) 0 m.elems
    pub segs : SegsGood (outline m) good funcs (outline m).globals (map entries_type (outline m).tables) (map elem_type m.elems) (length m.segs) (declared m) 0 m.segs
    pub start : is_valid_start m m.start ≡ true
    pub bodies : GoodBodies (outline m) good funcs (map elem_type m.elems) (length m.segs) (declared m) m

  elems_of : (ts : List Table) → map entries_type (map defined_table ts) ≡ map elem_of ts
  elems_of [] = refl
  elems_of (t ∷ ts) = ap (λ l. t.elem ∷ l) (elems_of ts)

  tables_are : map entries_type (imported as_table m.imports) ++ map elem_of m.tables ≡ map entries_type (outline m).tables
  tables_are = sym (map-append entries_type (imported as_table m.imports) (map defined_table m.tables) ∙ ap (λ l. map entries_type (imported as_table m.imports) ++ l) (elems_of m.tables))

  module _ (parts : GoodParts) (n : ℕ) where
    abbrev low : Level
    low = level_over bottom (outline m) m n

    abbrev enters : ℕ → State → Out
    enters = do_enter (outline m) m low

    called : EntersOf (outline m) good funcs (map elem_type m.elems) (length m.segs) (declared m) enters
    called = calls_good (outline m) good funcs (map elem_type m.elems) (length m.segs) (declared m) m parts.bodies n

    level : GoodLevel (outline m) good funcs (map elem_type m.elems) (length m.segs) (declared m) low
    level = level_good (outline m) good funcs (map elem_type m.elems) (length m.segs) (declared m) m parts.bodies n

    empty_is : (us : List ValType) → is_empty us ≡ true → us ≡ []
    empty_is [] h = refl
    empty_is (u ∷ us) h = absurd (true≢false (sym h))

    ended_step : (us : List ValType) (b : Store) (p : Out) → EndOf (outline m) good funcs (map elem_type m.elems) (length m.segs) (declared m) (Some us) b p → Step (outline m) K p
    ended_step us b p e = by p.how p.state e.later.fits e.is
      where
        by : (h : How) (v : State) → StoreFits (outline m) K v.core.store → EndHow (outline m) good funcs (outline m).globals (map entries_type (outline m).tables) (map elem_type m.elems) (length m.segs) (declared m) (Some us) h v.core → Step (outline m) K (out h v)
        by normal v f i = record { is = f }
        by (branch k) v f i = record { is = tt }
        by return v f i = record { is = tt }
        by (tail x) v f i = record { is = tt }
        by (thrown a) v f i = record { is = tt }
        by trap v f i = record { is = tt }
        by spent v f i = record { is = tt }
        by over v f i = record { is = tt }
        by wrong v f i = absurd i
        by foul v f i = record { is = tt }

    start_good : (f : Option ℕ) (s : State) → is_valid_start m f ≡ true → StoreFits (outline m) K s.core.store → Step (outline m) K (call_start (outline m) enters low f s)
    start_good None s h sf = record { is = sf }
    start_good (Some f) s h sf = by (type_of_func (outline m) f) refl h
      where
        by : (p : Option FuncType) → type_of_func (outline m) f ≡ p → is_start_type p ≡ true → Step (outline m) K (call_start (outline m) enters low (Some f) s)
        by None q z = absurd (true≢false (sym z))
        by (Some t) q z = ended_step t.results s.core.store _ (called.ends f t (at s [] []) q (subst (λ us. HasTop (outline m) (allocated s.core.store) [] us) (sym (empty_is t.params (and_first (is_empty t.params) _ z))) tt) sf)

    instantiated : (s : State) → StoreFits (outline m) (In (imported as_global m.imports) (map entries_type (imported as_table m.imports)) []) s.core.store → Step (outline m) K (instantiate (outline m) enters low m s)
    instantiated s f =
        step_after (outline m) (In (imported as_global m.imports) (map entries_type (outline m).tables) []) K (init_tables (outline m) enters low m.tables s) _
        (subst (λ l. Step (outline m) (In (imported as_global m.imports) l []) (init_tables (outline m) enters low m.tables s)) tables_are (tables_good (outline m) good funcs (length m.segs) (declared m) (map entries_type (outline m).tables) (map elem_type m.elems) enters low (imported as_global m.imports) (map entries_type (imported as_table m.imports)) m.tables s parts.tables f))
        (λ s f. step_after (outline m) (In (outline m).globals (map entries_type (outline m).tables) []) K (init_globals (outline m) enters low m.globals s) _
        (globals_good (outline m) good funcs (length m.segs) (declared m) (map entries_type (outline m).tables) (map elem_type m.elems) enters low (imported as_global m.imports) (map entries_type (outline m).tables) m.globals s parts.globals f)
        (λ s f. step_after (outline m) K K (init_elems (outline m) enters low m.elems s) _
        (elems_good (outline m) good funcs (length m.segs) (declared m) (map entries_type (outline m).tables) (map elem_type m.elems) enters low under (outline m).globals (map entries_type (outline m).tables) [] m.elems s parts.elems f)
        (λ s f. step_after (outline m) K K (copy_elems (outline m) enters low 0 m.elems s) _
        (copies_good (outline m) good funcs (outline m).globals (map entries_type (outline m).tables) (map elem_type m.elems) (length m.segs) (declared m) enters low (runs_good (outline m) good funcs (map elem_type m.elems) (length m.segs) (declared m) m parts.bodies low level) 0 m.elems s parts.modes f)
        (λ s f. step_after (outline m) K K (copy_datas (outline m) enters low 0 m.segs s) (call_start (outline m) enters low m.start)
        (datas_good (outline m) good funcs (outline m).globals (map entries_type (outline m).tables) (map elem_type m.elems) (length m.segs) (declared m) enters low (runs_good (outline m) good funcs (map elem_type m.elems) (length m.segs) (declared m) m parts.bodies low level) 0 m.segs s parts.segs f)
        (λ s f. start_good m.start s parts.start f)))))

    ended_right : (b : Store) (p : Out) → EndOf (outline m) good funcs (map elem_type m.elems) (length m.segs) (declared m) None b p → p.how ≡ wrong → ⊥
    ended_right b p e z = subst (λ h. EndHow (outline m) good funcs (outline m).globals (map entries_type (outline m).tables) (map elem_type m.elems) (length m.segs) (declared m) None h p.state.core) z e.is

    begun_right : (p : Out) → Step (outline m) K p → (begun (outline m) enters low p).how ≡ wrong → ⊥
    begun_right p g = by p.how p.state g.is
      where
        by : (h : How) (v : State) → Rattle.gu_model.proofs.Constants.StepHow (outline m) K h v.core.store → (begun_on (outline m) enters low h v).how ≡ wrong → ⊥
        by normal v f z = ended_right v.core.store (begun_on (outline m) enters low normal v) (moves_good (outline m) good funcs (map elem_type m.elems) (length m.segs) (declared m) enters called low level nothing _ _ f) z
        by (branch k) v f z = absurd (let y : ⊥ = cc in y)
        by return v f z = absurd (let y : ⊥ = cc in y)
        by (tail x) v f z = absurd (let y : ⊥ = cc in y)
        by (thrown a) v f z = absurd (let y : ⊥ = cc in y)
        by trap v f z = absurd (let y : ⊥ = cc in y)
        by spent v f z = absurd (let y : ⊥ = cc in y)
        by over v f z = absurd (let y : ⊥ = cc in y)
        by wrong v f z = f
        by foul v f z = absurd (let y : ⊥ = cc in y)

    begins_right : (p : Opening) (s : State) → (begin (outline m) enters low m p s).how ≡ wrong → ⊥
    begins_right p s = by (opened (outline m) p (map (λ (d : Seg). d.bytes) m.segs) m.memories (length m.tags)) refl
      where
        by : (q : Option Store) → opened (outline m) p (map (λ (d : Seg). d.bytes) m.segs) m.memories (length m.tags) ≡ q → (begin_on (outline m) enters low m q s).how ≡ wrong → ⊥
        by None e z = absurd (let y : ⊥ = cc in y)
        by (Some st) e z = begun_right (instantiate (outline m) enters low m (cleared s st)) (instantiated (cleared s st) (opened_fits (outline m) flip good funcs (length m.segs) (declared m) p (map (λ (d : Seg). d.bytes) m.segs) m.memories m.tags st refl refl (length-map m.segs (λ (d : Seg). d.bytes)) e)) z

  pub played_right : (parts : GoodParts) (script : Script) (n : ℕ) → (played m script n).how ≡ wrong → ⊥
  played_right parts script n = begins_right parts n script.opening (start script n)
