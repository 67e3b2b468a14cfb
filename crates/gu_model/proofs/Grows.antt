-- What was shown stays shown.
use Rattle.std.proofs.Common.{ℕ, zero, suc, Bool, true, false, cond, List, [], ◌∷◌, ◌++◌, reverse, Option, Some, None, slice_get, refl, nat_lt, drop, take, length}
use Rattle.gu_syntax.specs.declared.instr.Body.{Body}
use Rattle.gu_syntax.specs.declared.instr.Catch.{Catch}
use Rattle.gu_syntax.specs.declared.instr.Catch.TheVariants as T
use Rattle.gu_syntax.specs.declared.instr.Instr.{Instr}
use Rattle.gu_syntax.specs.declared.instr.Instr.TheVariants as I
use Rattle.gu_syntax.specs.declared.module.Elem.{Elem}
use Rattle.gu_syntax.specs.declared.module.Func.{Func}
use Rattle.gu_syntax.specs.declared.module.Global.{Global}
use Rattle.gu_syntax.specs.declared.module.Items.{Items}
use Rattle.gu_syntax.specs.declared.module.Items.TheVariants as L
use Rattle.gu_syntax.specs.declared.module.Module.{Module}
use Rattle.gu_syntax.specs.declared.module.Seg.{Seg}
use Rattle.gu_syntax.specs.declared.module.Table.{Table}
use Rattle.gu_syntax.specs.Code.{Ins, Code, leaf, block, loop, choice, try_table, done, next, code_of}
use Rattle.gu_model.specs.Index.{FuncType, block_type, numbers, is_func}
use Rattle.gu_model.specs.Outline.{Outline, type_of_func, type_of_tag}
use Rattle.gu_model.specs.Value.{Value, i32, Identity, Exception, Store, allocated}
use Rattle.gu_model.specs.Did.{Did, goes, traps, fails}
use Rattle.gu_model.specs.Act.{operands, do_act}
use Rattle.gu_model.specs.Script.{Given, Opening, Act, Move, What, Event, Begins}
use Rattle.gu_model.specs.Script as S
use Rattle.gu_model.specs.State.{State, How, normal, branch, return, tail, thrown, trap, spent, wrong, Out, out, at, with_stack, with_store, after, on_normal, spend, spend_from, pop, with_some}
use Rattle.gu_model.specs.Shown.{tell, tell_exception, foul_at}
use Rattle.gu_model.specs.Taken.{written}
use Rattle.gu_model.specs.Control.{Due, nothing, results, Job, run, turn, enter, serve, Level, lift, label_on, over_below, in_block, chosen, Jump, jumps, stops, lacks, land, jumping, branch_if, branch_table, branch_null, branch_non_null, branch_cast, throw_again, first_catch, caught_on, is_tag_of, answer_with, answered, ask, grown_on, memory_grow, table_grow, reference_or_not, back_on, Callee, callee, none, other, called, do_tail, do_throw, do_call, exec_leaf, finish_on, enter_on, own_func, do_enter, turned, in_loop, exec, exec_ins}
use Rattle.gu_model.specs.Play.{shown_on, or_foul, ends_call, do_export, do_move, do_moves, work, evaluate, add_table, init_table, init_tables, add_global, init_globals, init_items, init_elem, init_elems, copy_elem, copy_elems, count_items, copy_data, copy_datas, call_start, instantiate, cleared, begun_on, begin_on, begin, bottom, level_over}
use Rattle.gu_model.proofs.Sames.{begins_same, begins_then}

pub one_more : (a : List Event) (e : Event) → Begins a (a ++ e ∷ [])
one_more a e = record { rest = e ∷ []; is = refl }

-- what an outcome shows begins so
pub record Grows (a : List Event) (o : Out) : Type 0 where
  pub shows : Begins a o.state.events

pub ends : {a : List Event} (h : How) (s : State) → Begins a s.events → Grows a (out h s)
ends h s p = record { shows = p }

pub same : (h : How) (s : State) → Grows s.events (out h s)
same h s = ends h s (begins_same refl)

pub from : {a b : List Event} (o : Out) → Begins a b → Grows b o → Grows a o
from o p q = record { shows = begins_then p q.shows }

abbrev pub GrowsFrom : (State → Out) → Type 0
GrowsFrom go = (s : State) → Grows s.events (go s)

-- of a handler
abbrev pub GrowsAt : (How → State → Out) → Type 0
GrowsAt f = (h : How) (s : State) → Grows s.events (f h s)

pub handled : {a : List Event} (f : How → State → Out) (o : Out) → GrowsAt f → Grows a o → Grows a (f o.how o.state)
handled f o g q = from (f o.how o.state) q.shows (g o.how o.state)

pub normal_grows : (go : State → Out) → GrowsFrom go → GrowsAt (λ h s. on_normal h s go)
normal_grows go g normal s = g s
normal_grows go g h s = same _ s

pub after_grows : {a : List Event} (o : Out) (go : State → Out) → Grows a o → GrowsFrom go → Grows a (after o go)
after_grows o go p g = handled (λ h s. on_normal h s go) o (normal_grows go g) p

pub pop_grows : (n : ℕ) (s : State) (go : List Value → List Value → Out) → ((vs below : List Value) → Grows s.events (go vs below)) → Grows s.events (pop n s go)
unfolding pop
pop_grows n s go g = elim (nat_lt (length s.core.stack) n) as (λ b. Grows s.events (cond b (out wrong s) (go (take n s.core.stack) (drop n s.core.stack)))) [ true ↦ same wrong s | false ↦ g _ _ ]

pub spend_from_grows : (n : ℕ) (s : State) (go : State → Out) → GrowsFrom go → Grows s.events (spend_from n s go)
spend_from_grows zero s go g = same spent s
spend_from_grows (suc n) s go g = g _

pub spend_grows : (s : State) (go : State → Out) → GrowsFrom go → Grows s.events (spend s go)
unfolding spend
spend_grows s go g = spend_from_grows s.steps s go g

pub some_grows : {X : Type 0} (x : Option X) (s : State) (go : X → Out) → ((y : X) → Grows s.events (go y)) → Grows s.events (with_some x s go)
unfolding with_some
some_grows None s go g = same wrong s
some_grows (Some y) s go g = g y

pub lift_grows : (s : State) (below : List Value) (d : Did) → Grows s.events (lift s below d)
lift_grows s below (goes vs ls st) = same _ _
lift_grows s below traps = same _ _
lift_grows s below fails = same _ _

pub label_grows : (r n : ℕ) (below : List Value) (go : State → Out) → GrowsFrom go → GrowsAt (label_on r n below go)
label_grows r n below go g normal s = pop_grows r s _ (λ vs rest. same _ _)
label_grows r n below go g (branch zero) s = pop_grows n s _ (λ vs rest. g _)
label_grows r n below go g (branch (suc k)) s = same _ _
label_grows r n below go g h s = same _ s

pub block_grows : (ty : Option FuncType) (go : State → Out) → GrowsFrom go → GrowsFrom (in_block ty go)
block_grows ty go g s = some_grows ty s _ (λ t. pop_grows (length t.params) s _ (λ vs below. handled (label_on (length t.results) (length t.results) below (over_below below)) (go (with_stack s vs)) (label_grows (length t.results) (length t.results) below (over_below below) (λ u. same _ _)) (g (with_stack s vs))))

pub chosen_grows : (vs : List Value) (y n : State → Out) → GrowsFrom y → GrowsFrom n → GrowsFrom (chosen vs y n)
chosen_grows (i32 zero ∷ []) y n g h s = h s
chosen_grows (i32 (suc k) ∷ []) y n g h s = g s
chosen_grows _ y n g h s = same _ s

pub land_grows : (s : State) (below : List Value) (j : Jump) → Grows s.events (land s below j)
land_grows s below (jumps h vs) = same _ _
land_grows s below stops = same _ _
land_grows s below lacks = same _ _

pub jumping_grows : (n : ℕ) (jump : List Value → Jump) → GrowsFrom (jumping n jump)
jumping_grows n jump s = pop_grows n s _ (λ vs below. land_grows s below (jump vs))

pub first_catch_grows : (cs : List Catch) (a : ℕ) (x : Exception) → GrowsFrom (first_catch cs a x)
first_catch_grows [] a x s = same _ _
first_catch_grows (T.One t k ∷ cs) a x s = elim (is_tag_of (slice_get s.core.store.tags t) x.tag) as (λ b. Grows s.events (cond b (out (branch k) (with_stack s (reverse x.arguments))) (first_catch cs a x s))) [ true ↦ same _ _ | false ↦ first_catch_grows cs a x s ]
first_catch_grows (T.OneRef t k ∷ cs) a x s = elim (is_tag_of (slice_get s.core.store.tags t) x.tag) as (λ b. Grows s.events (cond b (out (branch k) (with_stack s (Rattle.gu_model.specs.Value.exception a ∷ reverse x.arguments))) (first_catch cs a x s))) [ true ↦ same _ _ | false ↦ first_catch_grows cs a x s ]
first_catch_grows (T.All k ∷ cs) a x s = same _ _
first_catch_grows (T.AllRef k ∷ cs) a x s = same _ _

pub caught_grows : (cs : List Catch) → GrowsAt (caught_on cs)
caught_grows cs (thrown a) s = some_grows (slice_get s.core.store.exceptions a) s _ (λ x. first_catch_grows cs a x s)
caught_grows cs h s = same _ s

pub answer_grows : (o : Outline) (act : Act) (st : Option Store) (s : State) (ms : List Move) (go : Bool → State → Out) → ((b : Bool) → GrowsFrom (go b)) → Grows s.events (answer_with o act st s ms go)
answer_grows o (Act.Answer b) (Some st) s ms go g = g b _
answer_grows o _ _ s ms go g = ends _ _ (one_more s.events _)

pub answered_grows : (o : Outline) (ms : List Move) (s : State) (go : Bool → State → Out) → ((b : Bool) → GrowsFrom (go b)) → Grows s.events (answered o ms s go)
answered_grows o [] s go g = same _ _
answered_grows o (move ∷ ms) s go g = answer_grows o move.act (written o s.tokens move.writes s.core.store) s ms go g

pub ask_grows : (o : Outline) (what : What) (s : State) (go : Bool → State → Out) → ((b : Bool) → GrowsFrom (go b)) → Grows s.events (ask o what s go)
unfolding ask
ask_grows o what s go g = from _ (one_more s.events _) (answered_grows o (tell o [] (λ ts. what) s).moves (tell o [] (λ ts. what) s) go g)

pub grown_grows : (x : Option (ℕ × Store)) → GrowsFrom (grown_on x)
grown_grows None s = same _ _
grown_grows (Some g) s = same _ _

pub memory_grows : (o : Outline) (x : ℕ) (vs : List Value) → GrowsFrom (memory_grow o x vs)
memory_grows o x (i32 n ∷ []) s = some_grows (slice_get o.memories x) s _ (λ limits. spend_grows s _ (λ u. ask_grows o _ u _ (λ b v. grown_grows _ v)))
memory_grows o x _ s = same _ s

pub table_grows : (o : Outline) (x : ℕ) (vs : List Value) → GrowsFrom (table_grow o x vs)
table_grows o x (i32 n ∷ v ∷ []) s = some_grows (slice_get o.tables x) s _ (λ t. some_grows (reference_or_not v) s _ (λ w. spend_grows s _ (λ u. ask_grows o _ u _ (λ b y. grown_grows _ y))))
table_grows o x _ s = same _ s

pub back_grows : (locals : List (Option Value)) (below : List Value) → GrowsAt (back_on locals below)
back_grows locals below normal s = same _ _
back_grows locals below (thrown x) s = same _ _
back_grows locals below h s = same _ s

pub called_grows : (c : Callee) (call : ℕ → State → Out) → ((f : ℕ) → GrowsFrom (call f)) → GrowsFrom (called c call)
called_grows (callee f) call g s = g f s
called_grows none call g s = same _ _
called_grows other call g s = same _ _

pub tail_grows : (o : Outline) (f : ℕ) → GrowsFrom (do_tail o f)
tail_grows o f s = some_grows (type_of_func o f) s _ (λ t. pop_grows (length t.params) s _ (λ vs below. same _ _))

pub throw_grows : (o : Outline) (x : ℕ) → GrowsFrom (do_throw o x)
throw_grows o x s = some_grows (type_of_tag o x) s _ (λ t. some_grows (slice_get s.core.store.tags x) s _ (λ id. pop_grows (length t.params) s _ (λ vs below. same _ _)))

module _ (o : Outline) (enters : ℕ → State → Out) (g : (f : ℕ) → GrowsFrom (enters f)) where
  pub call_grows : (f : ℕ) → GrowsFrom (do_call o enters f)
  call_grows f s = some_grows (type_of_func o f) s _ (λ t. pop_grows (length t.params) s _ (λ vs below. handled (back_on s.core.locals below) (enters f (at s [] vs)) (back_grows s.core.locals below) (g f (at s [] vs))))

  pub leaf_grows : (i : Instr) → GrowsFrom (exec_leaf o enters i)
  leaf_grows (I.Br k) s = same _ _
  leaf_grows (I.BrIf k) s = jumping_grows 1 (branch_if k) s
  leaf_grows (I.BrTable table) s = jumping_grows 1 (branch_table table.labels table.last) s
  leaf_grows (I.BrOnNull k) s = jumping_grows 1 (branch_null k) s
  leaf_grows (I.BrOnNonNull k) s = jumping_grows 1 (branch_non_null k) s
  leaf_grows (I.BrOnCast arg) s = jumping_grows 1 (branch_cast o arg.of arg.to (branch arg.label) normal (allocated s.core.store)) s
  leaf_grows (I.BrOnCastFail arg) s = jumping_grows 1 (branch_cast o arg.of arg.to normal (branch arg.label) (allocated s.core.store)) s
  leaf_grows I.Return s = same _ _
  leaf_grows (I.Call f) s = call_grows f s
  leaf_grows (I.CallRef x) s = pop_grows 1 s _ (λ vs below. called_grows _ _ call_grows (with_stack s below))
  leaf_grows (I.CallIndirect x y) s = pop_grows 1 s _ (λ vs below. called_grows _ _ call_grows (with_stack s below))
  leaf_grows (I.ReturnCall f) s = tail_grows o f s
  leaf_grows (I.ReturnCallRef x) s = pop_grows 1 s _ (λ vs below. called_grows _ _ (tail_grows o) (with_stack s below))
  leaf_grows (I.ReturnCallIndirect x y) s = pop_grows 1 s _ (λ vs below. called_grows _ _ (tail_grows o) (with_stack s below))
  leaf_grows (I.Throw x) s = throw_grows o x s
  leaf_grows I.ThrowRef s = jumping_grows 1 throw_again s
  leaf_grows (I.MemoryGrow x) s = pop_grows 1 s _ (λ vs below. memory_grows o x vs (with_stack s below))
  leaf_grows (I.TableGrow x) s = pop_grows 2 s _ (λ vs below. table_grows o x vs (with_stack s below))
  leaf_grows i s = pop_grows (operands o i) s _ (λ vs below. lift_grows s below (do_act o i s.core.locals s.core.store vs))

pub thrown_grows : (o : Outline) (what : S.Exception → What) (a : ℕ) (x : Option Exception) (s : State) → Begins s.events (tell_exception o what a x s).events
thrown_grows o what a None s = one_more s.events _
thrown_grows o what a (Some x) s = one_more s.events _

module _ (o : Outline) (m : Module) (low : Level) (g : (j : Job) → GrowsFrom (low j)) where
  pub finish_grows : (r : ℕ) → GrowsAt (finish_on o m low r)
  finish_grows r normal s = pop_grows r s _ (λ vs below. same _ _)
  finish_grows r return s = pop_grows r s _ (λ vs below. same _ _)
  finish_grows r (branch zero) s = pop_grows r s _ (λ vs below. same _ _)
  finish_grows r (branch (suc k)) s = same _ _
  finish_grows r (tail f) s = g (enter f) _
  finish_grows r h s = same _ s

  pub entered_grows : (i : Option ℕ) (f : Option Func) (t : Option FuncType) → GrowsFrom (enter_on o m low i f t)
  entered_grows (Some i) f (Some t) s = spend_grows s _ (λ u. from _ (one_more u.events _) (g (serve (results t.results)) _))
  entered_grows None (Some f) (Some t) s = spend_grows s _ (λ u. handled (finish_on o m low (length t.results)) (low (run (code_of f.body.code)) _) (finish_grows (length t.results)) (g (run (code_of f.body.code)) _))
  entered_grows (Some i) f None s = same _ _
  entered_grows None None t s = same _ _
  entered_grows None (Some f) None s = same _ _

  pub enter_grows : (f : ℕ) → GrowsFrom (do_enter o m low f)
  enter_grows f s = entered_grows (slice_get (numbers is_func 0 o.imports) f) (own_func o m low f) (type_of_func o f) s

module _ (low : Level) (g : (j : Job) → GrowsFrom (low j)) where
  pub turned_grows : (p r : ℕ) (c : Code) (below : List Value) (go : State → Out) → GrowsFrom go → GrowsFrom (turned low p r c below go)
  turned_grows p r c below go h s = spend_grows s _ (λ u. handled (label_on r p below (low (turn p r c below))) (go u) (label_grows r p below (low (turn p r c below)) (g (turn p r c below))) (h u))

  pub loop_grows : (ty : Option FuncType) (c : Code) (go : State → Out) → GrowsFrom go → GrowsFrom (in_loop low ty c go)
  loop_grows ty c go h s = some_grows ty s _ (λ t. pop_grows (length t.params) s _ (λ vs below. turned_grows (length t.params) (length t.results) c below go h (with_stack s vs)))

module _ (o : Outline) (enters : ℕ → State → Out) (low : Level) (e : (f : ℕ) → GrowsFrom (enters f)) (g : (j : Job) → GrowsFrom (low j)) where
  mutual
    pub code_grows : (c : Code) → GrowsFrom (exec o enters low c)
    code_grows done s = same _ _
    code_grows (next i c) s = after_grows (exec_ins o enters low i s) (exec o enters low c) (ins_grows i s) (code_grows c)

    pub ins_grows : (i : Ins) → GrowsFrom (exec_ins o enters low i)
    ins_grows (leaf i) s = leaf_grows o enters e i s
    ins_grows (block ty c) s = block_grows (block_type o.types ty) (exec o enters low c) (code_grows c) s
    ins_grows (loop ty c) s = loop_grows low g (block_type o.types ty) c (exec o enters low c) (code_grows c) s
    ins_grows (choice ty c d) s = pop_grows 1 s _ (λ vs below. chosen_grows vs _ _ (block_grows (block_type o.types ty) (exec o enters low c) (code_grows c)) (block_grows (block_type o.types ty) (exec o enters low d) (code_grows d)) (with_stack s below))
    ins_grows (try_table ty cs c) s = handled (caught_on cs) (in_block (block_type o.types ty) (exec o enters low c) s) (caught_grows cs) (block_grows (block_type o.types ty) (exec o enters low c) (code_grows c) s)

  pub shown_grows : (w : Due) → GrowsAt (shown_on o enters low w)
  shown_grows w normal s = from _ (one_more s.events _) (g (serve w) _)
  shown_grows w trap s = from _ (one_more s.events _) (g (serve w) _)
  shown_grows w (thrown a) s = from _ (thrown_grows o What.Thrown a (slice_get s.core.store.exceptions a) (at s [] [])) (g (serve w) _)
  shown_grows w h s = same _ s

  pub foul_grows : {X : Type 0} {a : List Event} (x : Option X) (s : State) (go : X → Out) → Begins a s.events → ((y : X) → Grows a (go y)) → Grows a (or_foul o x s go)
  unfolding or_foul
  foul_grows None s go p g = from (foul_at o s) p (ends _ _ (one_more s.events _))
  foul_grows (Some y) s go p g = g y

  pub export_grows : (w : Due) (f : Option ℕ) (gs : List Given) (s : State) (ms : List Move) (st : Store) → Grows s.events (do_export o enters low w f gs s (with_store (record s { moves = ms }) st))
  export_grows w f gs s ms st = foul_grows f s _ (begins_same refl) (λ x. foul_grows _ s _ (begins_same refl) (λ vs. handled (shown_on o enters low w) (enters x (at (with_store (record s { moves = ms }) st) [] (reverse vs))) (shown_grows w) (e x (at (with_store (record s { moves = ms }) st) [] (reverse vs)))))

  pub move_grows : (w : Due) (act : Act) (s : State) (ms : List Move) (st : Store) → Grows s.events (do_move o enters low w act s (with_store (record s { moves = ms }) st))
  move_grows w (Act.Call e gs) s ms st = export_grows w _ gs s ms st
  move_grows w act s ms st = foul_grows (ends_call o w act s.tokens st) s _ (begins_same refl) (λ e. same _ _)

  pub moves_grow : (w : Due) (ms : List Move) → GrowsFrom (do_moves o enters low w ms)
  moves_grow w [] s = same _ _
  moves_grow w (move ∷ ms) s = foul_grows (written o s.tokens move.writes s.core.store) s _ (begins_same refl) (λ st. move_grows w move.act s ms st)

  pub work_grows : (j : Job) → GrowsFrom (work o enters low j)
  work_grows (run c) s = code_grows c s
  work_grows (turn p r c below) s = turned_grows low g p r c below (exec o enters low c) (code_grows c) s
  work_grows (enter f) s = e f s
  work_grows (serve w) s = moves_grow w s.moves s

  pub evaluate_grows : (is : List Instr) (s : State) (go : Value → State → Out) → ((v : Value) → GrowsFrom (go v)) → Grows s.events (evaluate o enters low is s go)
  evaluate_grows is s go h = after_grows (exec o enters low (code_of is) (at s [] [])) _ (code_grows (code_of is) (at s [] [])) (λ u. pop_grows 1 u _ (λ vs below. some_grows (slice_get vs 0) u _ (λ v. h v (at u [] []))))

  pub table_init_grows : (n : ℕ) (b : Option Body) → GrowsFrom (init_table o enters low n b)
  table_init_grows n None s = same _ _
  table_init_grows n (Some b) s = evaluate_grows b.code s (add_table n) (λ v u. same _ _)

  pub tables_grow : (ts : List Table) → GrowsFrom (init_tables o enters low ts)
  tables_grow [] s = same _ _
  tables_grow (t ∷ ts) s = after_grows _ (init_tables o enters low ts) (table_init_grows t.limits.least t.init s) (tables_grow ts)

  pub globals_grow : (gs : List Global) → GrowsFrom (init_globals o enters low gs)
  globals_grow [] s = same _ _
  globals_grow (x ∷ gs) s = after_grows _ (init_globals o enters low gs) (evaluate_grows x.init.code s (add_global x.mutable) (λ v u. same _ _)) (globals_grow gs)

  pub items_grow : (bs : List Body) (vs : List Value) → GrowsFrom (init_items o enters low bs vs)
  items_grow [] vs s = same _ _
  items_grow (b ∷ bs) vs s = evaluate_grows b.code s _ (λ v u. items_grow bs (vs ++ v ∷ []) u)

  pub elem_grows : (is : Items) → GrowsFrom (init_elem o enters low is)
  elem_grows (L.Funcs fs) s = same _ _
  elem_grows (L.Exprs ty bs) s = items_grow bs [] s

  pub elems_grow : (es : List Elem) → GrowsFrom (init_elems o enters low es)
  elems_grow [] s = same _ _
  elems_grow (e ∷ es) s = after_grows _ (init_elems o enters low es) (elem_grows e.items s) (elems_grow es)

  pub copies_grow : (i : ℕ) (es : List Elem) → GrowsFrom (copy_elems o enters low i es)
  copies_grow i [] s = same _ _
  copies_grow i (e ∷ es) s = after_grows _ (copy_elems o enters low (suc i) es) (code_grows (code_of (copy_elem i e.mode (count_items e.items))) (at s [] [])) (copies_grow (suc i) es)

  pub datas_grow : (i : ℕ) (ds : List Seg) → GrowsFrom (copy_datas o enters low i ds)
  datas_grow i [] s = same _ _
  datas_grow i (d ∷ ds) s = after_grows _ (copy_datas o enters low (suc i) ds) (code_grows (code_of (copy_data i d.mode (length d.bytes))) (at s [] [])) (datas_grow (suc i) ds)

  pub start_grows : (f : Option ℕ) → GrowsFrom (call_start o enters low f)
  start_grows None s = same _ _
  start_grows (Some f) s = e f (at s [] [])

  pub instantiate_grows : (m : Module) → GrowsFrom (instantiate o enters low m)
  instantiate_grows m s = after_grows _ _ (tables_grow m.tables s) (λ s. after_grows _ _ (globals_grow m.globals s) (λ s. after_grows _ _ (elems_grow m.elems s) (λ s. after_grows _ _ (copies_grow 0 m.elems s) (λ s. after_grows _ _ (datas_grow 0 m.segs s) (start_grows m.start)))))

  pub begun_grows : GrowsAt (begun_on o enters low)
  begun_grows normal s = from _ (one_more s.events _) (moves_grow nothing s.moves _)
  begun_grows trap s = ends _ _ (one_more s.events _)
  begun_grows (thrown a) s = ends _ _ (thrown_grows o What.InstanceThrown a (slice_get s.core.store.exceptions a) s)
  begun_grows h s = same _ s

  pub begin_on_grows : (m : Module) (st : Option Store) → GrowsFrom (begin_on o enters low m st)
  begin_on_grows m None s = ends _ _ (one_more s.events _)
  begin_on_grows m (Some st) s = handled (begun_on o enters low) (instantiate o enters low m (cleared s st)) begun_grows (instantiate_grows m (cleared s st))

  pub begin_grows : (m : Module) (p : Opening) → GrowsFrom (begin o enters low m p)
  begin_grows m p s = begin_on_grows m _ s

pub level_grows : (o : Outline) (m : Module) (n : ℕ) (j : Job) → GrowsFrom (level_over bottom o m n j)
level_grows o m zero j s = same spent s
level_grows o m (suc n) j s = work_grows o (do_enter o m (level_over bottom o m n)) (level_over bottom o m n) (enter_grows o m (level_over bottom o m n) (level_grows o m n)) (level_grows o m n) j s
