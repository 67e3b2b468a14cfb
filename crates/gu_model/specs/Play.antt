-- How a module is instantiated and how a script of moves is played (core specification 3.0, 4.7 Modules, and appendix,
-- Embedding).
use Rattle.std.specs.Prelude.{ℕ, zero, suc, Bool, false, cond, List, [], ◌∷◌, ◌++◌, map, length, reverse, replicate, Option, Some, None, option_map, option_and_then, slice_get, pos, position, nat_eq}
use Rattle.std.specs.List.{list_any}
use Rattle.gu_types.specs.declared.types.Abs.TheVariants as A
use Rattle.gu_types.specs.declared.types.HeapType.TheVariants as H
use Rattle.gu_types.specs.declared.types.ValType.{ValType}
use Rattle.gu_types.specs.declared.types.ValType.TheVariants as V
use Rattle.gu_syntax.specs.declared.instr.Body.{Body}
use Rattle.gu_syntax.specs.declared.instr.Instr.{Instr}
use Rattle.gu_syntax.specs.declared.instr.Instr.TheVariants as I
use Rattle.gu_syntax.specs.declared.module.Elem.{Elem}
use Rattle.gu_syntax.specs.declared.module.ElemMode.{ElemMode}
use Rattle.gu_syntax.specs.declared.module.ElemMode.TheVariants as E
use Rattle.gu_syntax.specs.declared.module.Export.{Export}
use Rattle.gu_syntax.specs.declared.module.Global.{Global}
use Rattle.gu_syntax.specs.declared.module.Items.{Items}
use Rattle.gu_syntax.specs.declared.module.Items.TheVariants as T
use Rattle.gu_syntax.specs.declared.module.Kind.TheVariants as K
use Rattle.gu_syntax.specs.declared.module.Module.{Module}
use Rattle.gu_syntax.specs.declared.module.Seg.{Seg}
use Rattle.gu_syntax.specs.declared.module.SegMode.{SegMode}
use Rattle.gu_syntax.specs.declared.module.SegMode.TheVariants as G
use Rattle.gu_syntax.specs.declared.module.Table.{Table}
use Rattle.gu_syntax.specs.Code.{code_of}
use Rattle.gu_model.specs.Index.{FuncType, numbers, is_tag}
use Rattle.gu_model.specs.Outline.{Outline, outline, type_of_func, type_of_tag}
use Rattle.gu_model.specs.Value.{Value, null, exception, function, Identity, foreign, Store, allocated, is_same_tag}
use Rattle.gu_model.specs.Script.{Given, TagName, Opening, Move, Script, What, Event}
use Rattle.gu_model.specs.Script.{Act}
use Rattle.gu_model.specs.State.{State, How, normal, thrown, trap, spent, over, foul, Out, out, at, with_store, after, pop, with_some}
use Rattle.gu_model.specs.Shown.{exported, givens_of, tell, tell_thrown, foul_at}
use Rattle.gu_model.specs.Taken.{known, taken, taken_all, written, as_constant, as_variable, opened}
use Rattle.gu_model.specs.Control.{Due, nothing, results, Job, run, turn, enter, serve, Level, do_enter, turned, exec}

-- the state without a frame, and with another store
abbrev pub cleared : State → Store → State
cleared s st = with_store (at s [] []) st

-- moves

abbrev pub params_of : Option FuncType → Option (List ValType)
params_of None = None
params_of (Some t) = Some t.params

-- an exception that is thrown again
abbrev pub an_exception : ValType
an_exception = V.Ref (record { null = false; heap = H.Abs A.Exn })

abbrev pub exception_in : Option Value → Option ℕ
exception_in (Some (exception a)) = Some a
exception_in _ = None

-- how a move ends the call of an import: with what operands, in which store
pub record Ended : Type 0 where
  pub how : How
  pub stack : List Value
  pub store : Store

abbrev pub ended : How → List Value → Store → Ended
ended h vs st = record { how = h; stack = vs; store = st }

abbrev pub end_with : State → Ended → Out
end_with s e = out e.how (with_store (at s [] e.stack) e.store)

-- a new exception
abbrev pub raised : Store → Identity → (arguments : List Value) → Ended
raised st id vs = ended (thrown (length st.exceptions)) [] (record st { exceptions = st.exceptions ++ record { tag = id; arguments = vs } ∷ [] })

module _ (o : Outline) where
  -- goes on where a move is one that the module allows. The first state is that before the move
  abbrev pub or_foul_on : {X : Type 0} → Option X → State → (X → Out) → Out
  or_foul_on None s go = foul_at o s
  or_foul_on (Some x) s go = go x

  unfoldable pub or_foul : {X : Type 0} → Option X → State → (X → Out) → Out
  or_foul x s go = or_foul_on x s go

  -- what is given as arguments of a function or as results
  abbrev pub given_for : Option (List ValType) → List Given → (tokens : List Value) → Store → Option (List Value)
  given_for None gs tokens st = None
  given_for (Some ts) gs tokens st = taken_all o (known o tokens) (allocated st) ts gs

  -- which tag a name is, and what it takes: a number of the embedder that no import has is of a tag without arguments
  abbrev pub tag_at : Store → (tag : ℕ) → Option (Identity × List ValType)
  tag_at st t = option_and_then (λ id. option_map (λ ts. (id, ts)) (params_of (type_of_tag o t))) (slice_get st.tags t)

  abbrev pub tag_named : Store → TagName → Option (Identity × List ValType)
  tag_named st (TagName.Import i) = option_and_then (tag_at st) (position (nat_eq i) (numbers is_tag 0 o.imports))
  tag_named st (TagName.Export e) = option_and_then (tag_at st) (exported K.Tag (slice_get o.exports e))
  tag_named st (TagName.Host n) = cond (list_any (is_same_tag (foreign n)) st.tags) None (Some (foreign n, []))

  -- how a move ends the call of an import that waits for results: by results, by a trap, by a new exception, or by one
  -- that is known. None where it does not
  abbrev pub thrown_by : Option (Identity × List ValType) → List Given → (tokens : List Value) → Store → Option Ended
  thrown_by None gs tokens st = None
  thrown_by (Some tag) gs tokens st = option_map (raised st tag.0) (given_for (Some tag.1) gs tokens st)

  abbrev pub ends_call : Due → Act → (tokens : List Value) → Store → Option Ended
  ends_call (results ts) (Act.Return gs) tokens st = option_map (λ vs. ended normal (reverse vs) st) (given_for (Some ts) gs tokens st)
  ends_call (results ts) Act.Trap tokens st = Some (ended trap [] st)
  ends_call (results ts) (Act.Throw name gs) tokens st = thrown_by (tag_named st name) gs tokens st
  ends_call (results ts) (Act.Again token) tokens st = option_map (λ a. ended (thrown a) [] st) (exception_in (taken o (known o tokens) (allocated st) an_exception (Given.Ref token)))
  ends_call _ _ tokens st = None

-- instantiation (4.7 Modules, Instantiation)

-- how an active element segment is copied to its table and emptied; a declared one is emptied
abbrev pub count_items : Items → ℕ
count_items (T.Funcs fs) = length fs
count_items (T.Exprs ty bs) = length bs

abbrev pub copy_elem : (segment : ℕ) → ElemMode → (count : ℕ) → List Instr
copy_elem i (E.Active x offset) n = offset.code ++ I.I32Const (pos 0) ∷ I.I32Const (pos n) ∷ I.TableInit i x ∷ I.ElemDrop i ∷ []
copy_elem i E.Passive n = []
copy_elem i E.Declared n = I.ElemDrop i ∷ []

-- how an active data segment is copied to its memory and emptied
abbrev pub copy_data : (segment : ℕ) → SegMode → (count : ℕ) → List Instr
copy_data i (G.Active x offset) n = offset.code ++ I.I32Const (pos 0) ∷ I.I32Const (pos n) ∷ I.MemoryInit i x ∷ I.DataDrop i ∷ []
copy_data i G.Passive n = []

-- the values of the exported immutable globals, in the order of the exports
abbrev pub constant_in : Option (Option Value) → List Value
constant_in (Some (Some v)) = v ∷ []
constant_in _ = []

abbrev pub constant_of : Store → Option ℕ → List Value
constant_of st None = []
constant_of st (Some g) = constant_in (slice_get st.constants g)

abbrev pub exported_constants : Store → List Export → List Value
exported_constants st [] = []
exported_constants st (e ∷ es) = constant_of st (exported K.Global (Some e)) ++ exported_constants st es

-- the module is there
abbrev pub tell_instance : Outline → List Value → State → State
tell_instance o vs s = tell o vs (λ ts. What.Instance (givens_of o ts vs)) s

-- a new table whose entries are all one value, a new global and a new element segment, behind those that there are
abbrev pub add_table : (least : ℕ) → Value → State → Out
add_table n v s = out normal (with_store s (record s.core.store { tables = s.core.store.tables ++ replicate n v ∷ [] }))

abbrev pub add_global : (mutable : Bool) → Value → State → Out
add_global b v s = out normal (with_store s (record s.core.store { constants = s.core.store.constants ++ as_constant b v ∷ []; variables = s.core.store.variables ++ as_variable b v ∷ [] }))

abbrev pub add_elem : List Value → State → Out
add_elem vs s = out normal (with_store s (record s.core.store { elems = s.core.store.elems ++ vs ∷ [] }))

-- an opening that the module does not allow: the open state is empty
abbrev pub no_opening : State → Out
no_opening s = out foul (record s { events = s.events ++ record { what = What.Foul; state = [] } ∷ [] })

-- `enters` is the call of a function on its arguments alone
module _ (o : Outline) (enters : (func : ℕ) → State → Out) (low : Level) where
  -- moves

  -- an export's call has ended
  abbrev pub shown_on : Due → How → State → Out
  shown_on w normal s = low (serve w) (tell o (reverse s.core.stack) (λ ts. What.Result (givens_of o ts (reverse s.core.stack))) (at s [] []))
  shown_on w trap s = low (serve w) (tell o [] (λ ts. What.Trap) (at s [] []))
  shown_on w (thrown a) s = low (serve w) (tell_thrown o What.Thrown a (at s [] []))
  shown_on w h s = out h s

  abbrev pub shown : Due → Out → Out
  shown w p = shown_on w p.how p.state

  -- the call of an export
  abbrev pub do_export : Due → Option ℕ → List Given → State → State → Out
  do_export w f gs s u = or_foul o f s (λ g. or_foul o (given_for o (params_of (type_of_func o g)) gs u.tokens u.core.store) s (λ vs. shown w (enters g (at u [] (reverse vs)))))

  -- the rest of a move, behind its writes. The first state is that before the move
  abbrev pub do_move : Due → Act → State → State → Out
  do_move w (Act.Call e gs) s u = do_export w (exported K.Func (slice_get o.exports e)) gs s u
  do_move w act s u = or_foul o (ends_call o w act u.tokens u.core.store) s (end_with u)

  -- the moves that come
  abbrev pub do_moves : Due → List Move → State → Out
  do_moves w [] s = out over s
  do_moves w (move ∷ ms) s = or_foul o (written o s.tokens move.writes s.core.store) s (λ st. do_move w move.act s (with_store (record s { moves = ms }) st))

  -- a job at this level
  abbrev pub work : Job → State → Out
  work (run c) s = exec o enters low c s
  work (turn p r c below) s = turned low p r c below (exec o enters low c) s
  work (enter f) s = enters f s
  work (serve w) s = do_moves w s.moves s

  -- instantiation (4.7 Modules, Instantiation)

  -- the value of a constant expression
  abbrev pub evaluate : List Instr → State → (Value → State → Out) → Out
  evaluate is s go = after (exec o enters low (code_of is) (at s [] [])) (λ u. pop 1 u (λ vs below. with_some (slice_get vs 0) u (λ v. go v (at u [] []))))

  -- the tables in order, all entries of each with its initial value, or null
  abbrev pub init_table : (least : ℕ) → Option Body → State → Out
  init_table n None s = add_table n null s
  init_table n (Some body) s = evaluate body.code s (add_table n)

  abbrev pub init_tables : List Table → State → Out
  init_tables [] s = out normal s
  init_tables (t ∷ ts) s = after (init_table t.limits.least t.init s) (init_tables ts)

  -- the globals in order
  abbrev pub init_globals : List Global → State → Out
  init_globals [] s = out normal s
  init_globals (g ∷ gs) s = after (evaluate g.init.code s (add_global g.mutable)) (init_globals gs)

  -- the element segments in order
  abbrev pub init_items : List Body → (before : List Value) → State → Out
  init_items [] vs s = add_elem vs s
  init_items (b ∷ bs) vs s = evaluate b.code s (λ v. init_items bs (vs ++ v ∷ []))

  abbrev pub init_elem : Items → State → Out
  init_elem (T.Funcs fs) s = add_elem (map function fs) s
  init_elem (T.Exprs ty bs) s = init_items bs [] s

  abbrev pub init_elems : List Elem → State → Out
  init_elems [] s = out normal s
  init_elems (e ∷ es) s = after (init_elem e.items s) (init_elems es)

  -- active element segments are copied to their tables, and active and declared ones are emptied
  abbrev pub copy_elems : (segment : ℕ) → List Elem → State → Out
  copy_elems i [] s = out normal s
  copy_elems i (e ∷ es) s = after (exec o enters low (code_of (copy_elem i e.mode (count_items e.items))) (at s [] [])) (copy_elems (suc i) es)

  -- active data segments are copied to their memories, and emptied
  abbrev pub copy_datas : (segment : ℕ) → List Seg → State → Out
  copy_datas i [] s = out normal s
  copy_datas i (d ∷ ds) s = after (exec o enters low (code_of (copy_data i d.mode (length d.bytes))) (at s [] [])) (copy_datas (suc i) ds)

  -- the start function is called
  abbrev pub call_start : Option ℕ → State → Out
  call_start None s = out normal s
  call_start (Some f) s = enters f (at s [] [])

  -- tables and globals get their values, active segments are copied, and the start function runs. What was copied before
  -- a trap or an exception stays
  abbrev pub instantiate : Module → State → Out
  instantiate m s = after (init_tables m.tables s) (λ s. after (init_globals m.globals s) (λ s. after (init_elems m.elems s) (λ s. after (copy_elems 0 m.elems s) (λ s. after (copy_datas 0 m.segs s) (call_start m.start)))))

  abbrev pub serve_first : State → Out
  serve_first s = do_moves nothing s.moves s

  -- the module is there, or a trap or an exception ended it
  abbrev pub begun_on : How → State → Out
  begun_on normal s = serve_first (tell_instance o (exported_constants s.core.store o.exports) (at s [] []))
  begun_on trap s = out trap (tell o [] (λ ts. What.InstanceTrap) s)
  begun_on (thrown a) s = out (thrown a) (tell_thrown o What.InstanceThrown a s)
  begun_on h s = out h s

  abbrev pub begun : Out → Out
  begun p = begun_on p.how p.state

  abbrev pub begin_on : Module → Option Store → State → Out
  begin_on m None s = no_opening s
  begin_on m (Some st) s = begun (instantiate m (cleared s st))

  -- the module is instantiated, and the moves come
  abbrev pub begin : Module → Opening → State → Out
  begin m p s = begin_on m (opened o p (map (λ (d : Seg). d.bytes) m.segs) m.memories (length m.tags)) s

-- so many levels over a bottom
abbrev pub level_over : Level → Outline → Module → ℕ → Level
level_over bottom o m zero = bottom
level_over bottom o m (suc n) = work o (do_enter o m (level_over bottom o m n)) (level_over bottom o m n)

-- the bottom: no step is left there
abbrev pub bottom : Level
bottom job s = out spent s

-- before anything is there
abbrev pub nothing_stored : Store
nothing_stored = record { constants = []; variables = []; tables = []; memories = []; tags = []; elems = []; datas = []; structs = []; arrays = []; exceptions = [] }

abbrev pub start : Script → (steps : ℕ) → State
start script n = record {
  core = record { locals = []; stack = []; store = nothing_stored };
  steps = n;
  moves = script.moves;
  tokens = [];
  events = [];
}

-- how a script ends within so many steps, over a bottom
abbrev pub played_over : Level → Module → Script → (steps : ℕ) → Out
played_over low m script n = begin (outline m) (do_enter (outline m) m (level_over low (outline m) m n)) (level_over low (outline m) m n) m script.opening (start script n)

abbrev pub played : Module → Script → (steps : ℕ) → Out
played m script n = played_over bottom m script n

-- the events that so many steps show. Where the moves are used up, the trace ends
abbrev pub trace : Module → Script → (steps : ℕ) → List Event
trace m script n = (played m script n).state.events
