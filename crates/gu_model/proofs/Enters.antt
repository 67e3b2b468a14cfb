-- The call of a function ends as its type says, where the level below is good; and so does typed code, and a turn of a
-- loop.
use Rattle.std.proofs.Common.{ℕ, zero, suc, ◌-◌, Bool, true, List, [], ◌++◌, map, reverse, length, Option, Some, None, slice_get, ◌≡◌, refl, sym, subst}
use Rattle.gu_types.specs.declared.types.RefType.{RefType}
use Rattle.gu_types.specs.declared.types.ValType.{ValType}
use Rattle.gu_syntax.specs.declared.module.Func.{Func}
use Rattle.gu_syntax.specs.declared.module.Module.{Module}
use Rattle.gu_syntax.specs.Code.{Code, code_of}
use Rattle.gu_model.specs.Index.{FuncType, numbers, is_func}
use Rattle.gu_model.specs.Outline.{Outline, type_of_func}
use Rattle.gu_model.specs.Value.{Value, Store, allocated, defaults}
use Rattle.gu_model.specs.State.{Core, State, Out, at, spend, spend_from}
use Rattle.gu_model.specs.Control.{Due, nothing, results, Level, run, enter, serve, turned, exec, do_enter, enter_on, enter_own, enter_import, own_func}
use Rattle.gu_model.specs.TypingContext.{Context, Around}
use Rattle.gu_model.specs.TypingShape.{Shape, ends_with, pushes}
use Rattle.gu_model.specs.Typing.{inside, opened, type_code, around, begins, spread, is_typed_body, valid_run}
use Rattle.gu_model.specs.ValidContext.{entries_type}
use Rattle.gu_model.proofs.GoodTypes.{GoodTypes}
use Rattle.gu_model.proofs.Has.{HasTop, and_second}
use Rattle.gu_model.proofs.Stores.{StoreFits, later_same}
use Rattle.gu_model.proofs.ActRows.{within_module}
use Rattle.gu_model.proofs.References.{GoodFuncs}
use Rattle.gu_model.proofs.Moments.{LocalsFit, Fits, Inner, Good}
use Rattle.gu_model.proofs.Calls.{GoodEnters, GoodEnd}
use Rattle.gu_model.proofs.Never.{GoodTurns, turned_good, code_good}
use Rattle.gu_model.proofs.Plays.{asks_good}
use Rattle.gu_model.proofs.Bodies.{begins_fit, finish_good}
use Rattle.std.specs.List.{list_all}

-- what the end of moves gives
abbrev pub due_types : Due → Option (List ValType)
due_types nothing = None
due_types (results ts) = Some ts

module _ (o : Outline) (good : GoodTypes o.types) (funcs : GoodFuncs o) (es : List RefType) (segs : ℕ) (declared : List Bool) where
  abbrev K : Context
  K = within_module o o.globals (map entries_type o.tables) es segs declared

  abbrev FitsOf : Around → Shape → Core → Type 0
  FitsOf a s c = Fits o good K a s c

  abbrev GoodOf : Around → Core → (Core → Type 0) → Out → Type 0
  GoodOf a b N p = Good o good K a b N p

  abbrev pub EndOf : Option (List ValType) → Store → Out → Type 0
  EndOf w b p = GoodEnd o good funcs o.globals (map entries_type o.tables) es segs declared w b p

  abbrev pub EntersOf : (ℕ → State → Out) → Type 0
  EntersOf enters = GoodEnters o good funcs o.globals (map entries_type o.tables) es segs declared enters

  abbrev TurnsOf : Level → Type 0
  TurnsOf low = GoodTurns o good funcs o.globals (map entries_type o.tables) es segs declared low

  -- a level that does each job as it is typed
  pub record GoodLevel (low : Level) : Type 0 where
    pub runs : (a : Around) (c : Code) (st : State) (s e : Shape) → type_code K a c s ≡ Some e → FitsOf a s st.core → StoreFits o K st.core.store → GoodOf a st.core (FitsOf a e) (low (run c) st)
    pub turns : TurnsOf low
    pub enters : EntersOf (λ f. low (enter f))
    pub serves : (w : Due) (st : State) → StoreFits o K st.core.store → EndOf (due_types w) st.core.store (low (serve w) st)

  -- a function that is not imported is there, and its body is typed
  pub record OwnBody (m : Module) (f : ℕ) (t : FuncType) : Type 0 where
    pub func : Func
    pub found : slice_get m.funcs (f - length (numbers is_func 0 o.imports)) ≡ Some func
    pub typed : is_typed_body K t func.locals (code_of func.body.code) ≡ true

  pub record GoodBodies (m : Module) : Type 0 where
    pub bodies : (f : ℕ) (t : FuncType) → slice_get (numbers is_func 0 o.imports) f ≡ None → type_of_func o f ≡ Some t → OwnBody m f t

  spend_from_end : (w : Option (List ValType)) (n : ℕ) (st : State) (go : State → Out) → StoreFits o K st.core.store → ((k : ℕ) → EndOf w st.core.store (go (record st { steps = k }))) → EndOf w st.core.store (spend_from n st go)
  spend_from_end None zero st go sf g = record { later = later_same o K st.core.store sf; is = tt }
  spend_from_end (Some us) zero st go sf g = record { later = later_same o K st.core.store sf; is = tt }
  spend_from_end w (suc n) st go sf g = g n

  pub spend_end : (w : Option (List ValType)) (st : State) (go : State → Out) → StoreFits o K st.core.store → ((k : ℕ) → EndOf w st.core.store (go (record st { steps = k }))) → EndOf w st.core.store (spend st go)
  unfolding spend
  spend_end w st go sf g = spend_from_end w st.steps st go sf g

  module _ (m : Module) (bodies : GoodBodies m) (low : Level) (level : GoodLevel low) where
    -- where a body begins
    abbrev entered : FuncType → Func → State → State
    entered t f u = at u (map Some (reverse u.core.stack) ++ defaults f.locals) []

    own_good : (f : Func) (t : FuncType) (st : State) → is_typed_body K t f.locals (code_of f.body.code) ≡ true → HasTop o (allocated st.core.store) st.core.stack t.params → StoreFits o K st.core.store → EndOf (Some t.results) st.core.store (enter_own o m low f t st)
    own_good f t st h top sf = spend_end (Some t.results) st _ sf (λ k.
        finish_good o good funcs o.globals (map entries_type o.tables) es segs declared m low level.enters t (spread f.locals) (entered t f (record st { steps = k })).core (type_code K (around t (spread f.locals)) (code_of f.body.code) (begins t (spread f.locals))) (Some (begins t (spread f.locals))) (low (run (code_of f.body.code)) (entered t f (record st { steps = k })))
        (and_second (list_all (valid_run K) f.locals) _ h)
        (λ x e. level.runs (around t (spread f.locals)) (code_of f.body.code) (entered t f (record st { steps = k })) (begins t (spread f.locals)) x e (begins_fit o good funcs o.globals (map entries_type o.tables) es segs declared t f.locals (record st { steps = k }) top) sf))

    import_good : (i : ℕ) (t : FuncType) (st : State) → StoreFits o K st.core.store → EndOf (Some t.results) st.core.store (enter_import o m low i t st)
    import_good i t st sf = spend_end (Some t.results) st _ sf (λ k. level.serves (results t.results) _ sf)

    entered_good : (f : ℕ) (t : FuncType) (st : State) → type_of_func o f ≡ Some t → HasTop o (allocated st.core.store) st.core.stack t.params → StoreFits o K st.core.store → EndOf (Some t.results) st.core.store (do_enter o m low f st)
    entered_good f t st e top sf = subst (λ p. EndOf (Some t.results) st.core.store (enter_on o m low (slice_get (numbers is_func 0 o.imports) f) (own_func o m low f) p st)) (sym e) (by (slice_get (numbers is_func 0 o.imports) f) refl)
      where
        by : (p : Option ℕ) → slice_get (numbers is_func 0 o.imports) f ≡ p → EndOf (Some t.results) st.core.store (enter_on o m low p (own_func o m low f) (Some t) st)
        by (Some i) q = import_good i t st sf
        by None q = let b = bodies.bodies f t q e in subst (λ p. EndOf (Some t.results) st.core.store (enter_on o m low None p (Some t) st)) (sym b.found) (own_good b.func t st b.typed top sf)

    -- the call of a function
    pub enters_good : EntersOf (do_enter o m low)
    enters_good = record { ends = entered_good }

    -- typed code
    pub runs_good : (a : Around) (c : Code) (st : State) (s e : Shape) → type_code K a c s ≡ Some e → FitsOf a s st.core → StoreFits o K st.core.store → GoodOf a st.core (FitsOf a e) (exec o (do_enter o m low) low c st)
    runs_good a c st s e h f sf = code_good o good funcs o.globals (map entries_type o.tables) es segs declared (do_enter o m low) enters_good (asks_good o good funcs es segs declared (do_enter o m low)) low level.turns a c st s e h f sf

    -- a turn of a loop
    pub turn_good : (a : Around) (t : FuncType) (c : Code) (u e : Shape) (below : List Value) (st : State) → ends_with o.types t.results (type_code K (inside a t.params) c (opened t.params u)) (pushes t.results u) ≡ Some e → HasTop o (allocated st.core.store) st.core.stack t.params → LocalsFit o good K (allocated st.core.store) st.core.locals a.locals → Inner o good K a st.core t.params t.results u below → StoreFits o K st.core.store → GoodOf a st.core (FitsOf a e) (turned low (length t.params) (length t.results) c below (exec o (do_enter o m low) low c) st)
    turn_good a t c u e below st h top ls inner sf = turned_good o good funcs o.globals (map entries_type o.tables) es segs declared low level.turns a t c u e below st (exec o (do_enter o m low) low c) h inner sf (λ x k z. runs_good (inside a t.params) c (record st { steps = k }) (opened t.params u) x z (record { reached = refl; stack = top; locals = ls; set = inner.set }) sf)
