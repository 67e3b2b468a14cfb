-- More steps show more, and as many levels as there are steps suffice: one induction gives both.
use Rattle.std.proofs.Common.{ℕ, zero, suc, ◌+◌, ◌-◌, ◌≤◌, ◌<◌, Bool, true, false, cond, List, [], ◌∷◌, ◌++◌, map, reverse, Option, Some, None, slice_get, ◌≡◌, refl, ap, sym, subst, ◌∙◌, nat_lt, drop, take, length, ◌⊎◌, inl, inr, arith}
use Rattle.std.proofs.Math.Nat.{suc-add}
use Rattle.gu_syntax.specs.declared.instr.Body.{Body}
use Rattle.gu_syntax.specs.declared.instr.Catch.{Catch}
use Rattle.gu_syntax.specs.declared.instr.Catch.TheVariants as T
use Rattle.gu_syntax.specs.declared.instr.Instr.{Instr}
use Rattle.gu_syntax.specs.declared.instr.Instr.TheVariants as I
use Rattle.gu_syntax.specs.declared.module.Elem.{Elem}
use Rattle.gu_syntax.specs.declared.module.Func.{Func}
use Rattle.gu_syntax.specs.declared.module.Global.{Global}
use Rattle.gu_syntax.specs.declared.module.Items.{Items}
use Rattle.gu_syntax.specs.declared.module.Items.TheVariants as L
use Rattle.gu_syntax.specs.declared.module.Module.{Module}
use Rattle.gu_syntax.specs.declared.module.Seg.{Seg}
use Rattle.gu_syntax.specs.declared.module.Table.{Table}
use Rattle.gu_syntax.specs.Code.{Ins, Code, leaf, block, loop, choice, try_table, done, next, code_of}
use Rattle.gu_model.specs.Index.{FuncType, block_type, numbers, is_func}
use Rattle.gu_model.specs.Outline.{Outline, outline, type_of_func, type_of_tag}
use Rattle.gu_model.specs.Value.{Value, i32, Identity, Exception, Store, allocated, defaults}
use Rattle.gu_model.specs.Did.{Did, goes, traps, fails}
use Rattle.gu_model.specs.Act.{operands, do_act}
use Rattle.gu_model.specs.Script.{Script, Given, Opening, Act, Move, What, Begins}
use Rattle.gu_model.specs.State.{State, How, normal, branch, return, tail, thrown, trap, spent, wrong, Out, out, at, with_stack, with_store, after, on_normal, spend, spend_from, pop, with_some}
use Rattle.gu_model.specs.Shown.{givens_of, tell, tell_exception}
use Rattle.gu_model.specs.Taken.{written}
use Rattle.gu_model.specs.Control.{Due, nothing, results, Job, run, turn, enter, serve, Level, lift, label, label_on, over_below, in_block, chosen, Jump, jumps, stops, lacks, land, jumping, branch_if, branch_table, branch_null, branch_non_null, branch_cast, throw_again, first_catch, caught, caught_on, is_tag_of, answer_with, answered, ask, grown_on, memory_grow, table_grow, reference_or_not, back, back_on, Callee, callee, none, other, called, by_reference, by_index, do_tail, do_throw, do_call, exec_leaf, finish, finish_on, enter_on, own_func, do_enter, turned, in_loop, exec, exec_ins}
use Rattle.gu_model.specs.Play.{exported_constants, tell_instance, shown, shown_on, or_foul, ends_call, do_export, do_move, do_moves, work, evaluate, add_table, init_table, init_tables, add_global, init_globals, init_items, init_elem, init_elems, copy_elem, copy_elems, count_items, copy_data, copy_datas, call_start, instantiate, cleared, start, played, played_over, trace, begun, begun_on, begin_on, begin, bottom, level_over}
use Rattle.gu_model.proofs.Sames.{begins_same, begins_then}
use Rattle.gu_model.proofs.Grows.{one_more, from, handled, some_grows, after_grows, GrowsFrom, GrowsAt, same, normal_grows, pop_grows, spend_from_grows, label_grows, caught_grows, back_grows, finish_grows, shown_grows, begun_grows, ask_grows, grown_grows, code_grows, enter_grows, tables_grow, globals_grow, elems_grow, copies_grow, datas_grow, start_grows, items_grow, level_grows}

module _ (k : ℕ) where
  -- the state with so many steps more
  abbrev more : State → State
  more s = record s { steps = s.steps + k }

  -- The second outcome is the first with so many steps more. Or the first ran out of steps, and the second shows what it
  -- showed, and perhaps more; it is the same where there were no steps more
  record More (a : ℕ) (o p : Out) : Type 0 where
    less : o.state.steps ≤ a
    is : (o.how ≡ spent) × Begins o.state.events p.state.events × (k ≡ 0 → p ≡ o) ⊎ (p ≡ out o.how (more o.state))

  none_more : (s : State) → k ≡ 0 → more s ≡ s
  none_more s e = ap (λ n. record s { steps = n }) (let f : s.steps + k ≡ s.steps = omega (arith, e) in f)

  alike : {a : ℕ} (h : How) (s : State) → s.steps ≤ a → More a (out h s) (out h (more s))
  alike h s le = record { less = le; is = inr refl }

  widen : {a b : ℕ} {o p : Out} → a ≤ b → More a o p → More b o p
  widen le w = record { less = omega (arith, le, w.less); is = w.is }

  -- a handler that hands on that steps ran out
  record Strict (f : How → State → Out) : Type 0 where
    hands : (s : State) → f spent s ≡ out spent s

  handle_more : {b : ℕ} (f t : How → State → Out) (o p : Out) (a : ℕ) → Strict f → Strict t → GrowsAt t → a ≤ b → More b (f o.how o.state) (t o.how (more o.state)) → More a o p → More b (f o.how o.state) (t p.how p.state)
  handle_more {b} f t o p a fs ts g le at_it w = elim w.is [
    | inl e ↦ subst (λ h. More b (f h o.state) (t p.how p.state)) (sym e.0) (subst (λ x. More b x (t p.how p.state)) (sym (fs.hands o.state)) (record {
      less = omega (arith, le, w.less);
      is = inl (refl, begins_then e.1 (g p.how p.state).shows, λ z. ap (λ (x : Out). t x.how x.state) (e.2 z) ∙ ap (λ h. t h o.state) e.0 ∙ ts.hands o.state);
    }))
    | inr e ↦ subst (λ (x : Out). More b (f o.how o.state) (t x.how x.state)) (sym e) at_it
  ]

  pop_more : {a : ℕ} (n : ℕ) (s : State) (go to : List Value → List Value → Out) → s.steps ≤ a → ((vs below : List Value) → More a (go vs below) (to vs below)) → More a (pop n s go) (pop n (more s) to)
  unfolding pop
  pop_more {a} n s go to le g = elim (nat_lt (length s.core.stack) n) as (λ b. More a (cond b (out wrong s) (go (take n s.core.stack) (drop n s.core.stack))) (cond b (out wrong (more s)) (to (take n s.core.stack) (drop n s.core.stack)))) [ true ↦ alike wrong s le | false ↦ g _ _ ]

  some_more : {X : Type 0} {a : ℕ} (x : Option X) (s : State) (go to : X → Out) → s.steps ≤ a → ((y : X) → More a (go y) (to y)) → More a (with_some x s go) (with_some x (more s) to)
  unfolding with_some
  some_more None s go to le g = alike wrong s le
  some_more (Some y) s go to le g = g y

  spend_from_more : {a : ℕ} (n : ℕ) (s : State) (go to : State → Out) → n ≡ s.steps → s.steps ≤ a → ((m : ℕ) → m < n → More a (go (record s { steps = m })) (to (more (record s { steps = m })))) → GrowsFrom to → More a (spend_from n s go) (spend_from (n + k) (more s) to)
  spend_from_more zero s go to e le m g = record { less = le; is = inl (refl, (spend_from_grows (0 + k) (more s) to g).shows, λ z. ap (λ j. spend_from j (more s) to) (let q : 0 + k ≡ 0 = omega (arith, z) in q) ∙ ap (out spent) (none_more s z)) }
  spend_from_more (suc n) s go to e le m g = rw (suc-add n k) (m n (omega arith))

  spend_more : {a : ℕ} (s : State) (go to : State → Out) → s.steps ≤ a → ((m : ℕ) → m < s.steps → More a (go (record s { steps = m })) (to (more (record s { steps = m })))) → GrowsFrom to → More a (spend s go) (spend (more s) to)
  unfolding spend
  spend_more s go to le m g = spend_from_more s.steps s go to refl le m g

  -- from a state on, with so many steps more
  abbrev MoreFrom : (State → Out) → (State → Out) → State → Type 0
  MoreFrom go to s = More s.steps (go s) (to (more s))

  after_more : {a : ℕ} (o p : Out) (go to : State → Out) → GrowsFrom to → More a o p → ((u : State) → u.steps ≤ a → More u.steps (go u) (to (more u))) → More a (after o go) (after p to)
  after_more {a} o p go to g w m = handle_more (λ h s. on_normal h s go) (λ h s. on_normal h s to) o p a (record { hands = λ s. refl }) (record { hands = λ s. refl }) (normal_grows to g) (omega arith) (at_it o.how o.state w.less) w
    where
      at_it : (h : How) (u : State) → u.steps ≤ a → More a (on_normal h u go) (on_normal h (more u) to)
      at_it normal u le = widen le (m u le)
      at_it h u le = alike h u le

  lift_more : {a : ℕ} (s : State) (below : List Value) (d : Did) → s.steps ≤ a → More a (lift s below d) (lift (more s) below d)
  lift_more s below (goes vs ls st) le = alike _ _ le
  lift_more s below traps le = alike _ _ le
  lift_more s below fails le = alike _ _ le

  label_more : {a : ℕ} (r n : ℕ) (below : List Value) (go to : State → Out) (h : How) (u : State) → u.steps ≤ a → ((v : State) → v.steps ≤ a → More a (go v) (to (more v))) → More a (label_on r n below go h u) (label_on r n below to h (more u))
  label_more r n below go to normal u le g = pop_more r u _ _ le (λ vs rest. alike _ _ le)
  label_more r n below go to (branch zero) u le g = pop_more n u _ _ le (λ vs rest. g (with_stack u vs) le)
  label_more r n below go to (branch (suc j)) u le g = alike _ _ le
  label_more r n below go to h u le g = alike h u le

  labelled_more : {a b : ℕ} (r n : ℕ) (below : List Value) (go to : State → Out) (o p : Out) → GrowsFrom to → a ≤ b → More a o p → ((v : State) → v.steps ≤ a → More b (go v) (to (more v))) → More b (label r n below go o) (label r n below to p)
  labelled_more {a} {b} r n below go to o p grow le w g = handle_more (label_on r n below go) (label_on r n below to) o p a (record { hands = λ s. refl }) (record { hands = λ s. refl }) (label_grows r n below to grow) le (at_it o.how o.state w.less) w
    where
      at_it : (h : How) (u : State) → u.steps ≤ a → More b (label_on r n below go h u) (label_on r n below to h (more u))
      at_it normal u l = pop_more r u _ _ (omega (arith, l, le)) (λ vs rest. alike _ _ (omega (arith, l, le)))
      at_it (branch zero) u l = pop_more n u _ _ (omega (arith, l, le)) (λ vs rest. g (with_stack u vs) l)
      at_it (branch (suc j)) u l = alike _ _ (omega (arith, l, le))
      at_it h u l = alike h u (omega (arith, l, le))

  block_more : (ty : Option FuncType) (go to : State → Out) (s : State) → GrowsFrom to → ((u : State) → u.steps ≤ s.steps → More u.steps (go u) (to (more u))) → MoreFrom (in_block ty go) (in_block ty to) s
  block_more ty go to s grow g = some_more ty s _ _ (omega arith) (λ t. pop_more (length t.params) s _ _ (omega arith) (λ vs below. labelled_more (length t.results) (length t.results) below (over_below below) (over_below below) (go (with_stack s vs)) (to (more (with_stack s vs))) (λ u. same _ _) (omega arith) (g (with_stack s vs) (omega arith)) (λ v le. alike _ _ le)))

  chosen_more : (vs : List Value) (y n y' n' : State → Out) (s : State) → MoreFrom y y' s → MoreFrom n n' s → MoreFrom (chosen vs y n) (chosen vs y' n') s
  chosen_more (i32 zero ∷ []) y n y' n' s g h = h
  chosen_more (i32 (suc j) ∷ []) y n y' n' s g h = g
  chosen_more _ y n y' n' s g h = alike _ _ (omega arith)

  land_more : (s : State) (below : List Value) (j : Jump) → More s.steps (land s below j) (land (more s) below j)
  land_more s below (jumps h vs) = alike _ _ (omega arith)
  land_more s below stops = alike _ _ (omega arith)
  land_more s below lacks = alike _ _ (omega arith)

  jumping_more : (n : ℕ) (jump : List Value → Jump) (s : State) → MoreFrom (jumping n jump) (jumping n jump) s
  jumping_more n jump s = pop_more n s _ _ (omega arith) (λ vs below. land_more s below (jump vs))

  first_catch_more : (cs : List Catch) (a : ℕ) (x : Exception) (s : State) → More s.steps (first_catch cs a x s) (first_catch cs a x (more s))
  first_catch_more [] a x s = alike _ _ (omega arith)
  first_catch_more (T.One t j ∷ cs) a x s = elim (is_tag_of (slice_get s.core.store.tags t) x.tag) as (λ b. More s.steps (cond b (out (branch j) (with_stack s (reverse x.arguments))) (first_catch cs a x s)) (cond b (out (branch j) (with_stack (more s) (reverse x.arguments))) (first_catch cs a x (more s)))) [ true ↦ alike _ _ (omega arith) | false ↦ first_catch_more cs a x s ]
  first_catch_more (T.OneRef t j ∷ cs) a x s = elim (is_tag_of (slice_get s.core.store.tags t) x.tag) as (λ b. More s.steps (cond b (out (branch j) (with_stack s (Rattle.gu_model.specs.Value.exception a ∷ reverse x.arguments))) (first_catch cs a x s)) (cond b (out (branch j) (with_stack (more s) (Rattle.gu_model.specs.Value.exception a ∷ reverse x.arguments))) (first_catch cs a x (more s)))) [ true ↦ alike _ _ (omega arith) | false ↦ first_catch_more cs a x s ]
  first_catch_more (T.All j ∷ cs) a x s = alike _ _ (omega arith)
  first_catch_more (T.AllRef j ∷ cs) a x s = alike _ _ (omega arith)

  caught_more : {a : ℕ} (cs : List Catch) (o p : Out) → More a o p → More a (caught cs o) (caught cs p)
  caught_more {a} cs o p w = handle_more (caught_on cs) (caught_on cs) o p a (record { hands = λ s. refl }) (record { hands = λ s. refl }) (caught_grows cs) (omega arith) (at_it o.how o.state w.less) w
    where
      at_it : (h : How) (u : State) → u.steps ≤ a → More a (caught_on cs h u) (caught_on cs h (more u))
      at_it (thrown x) u le = some_more (slice_get u.core.store.exceptions x) u _ _ le (λ y. widen le (first_catch_more cs x y u))
      at_it h u le = alike h u le

  answer_more : {a : ℕ} (o : Outline) (act : Act) (st : Option Store) (s : State) (ms : List Move) (go : Bool → State → Out) → s.steps ≤ a → ((b : Bool) (u : State) → u.steps ≤ a → More a (go b u) (go b (more u))) → More a (answer_with o act st s ms go) (answer_with o act st (more s) ms go)
  answer_more o (Act.Answer b) (Some st) s ms go le g = g b _ le
  answer_more o _ _ s ms go le g = alike _ _ le

  answered_more : {a : ℕ} (o : Outline) (ms : List Move) (s : State) (go : Bool → State → Out) → s.steps ≤ a → ((b : Bool) (u : State) → u.steps ≤ a → More a (go b u) (go b (more u))) → More a (answered o ms s go) (answered o ms (more s) go)
  answered_more o [] s go le g = alike _ _ le
  answered_more o (move ∷ ms) s go le g = answer_more o move.act (written o s.tokens move.writes s.core.store) s ms go le g

  ask_more : {a : ℕ} (o : Outline) (what : What) (s : State) (go : Bool → State → Out) → s.steps ≤ a → ((b : Bool) (u : State) → u.steps ≤ a → More a (go b u) (go b (more u))) → More a (ask o what s go) (ask o what (more s) go)
  unfolding ask
  ask_more o what s go le g = answered_more o (tell o [] (λ ts. what) s).moves (tell o [] (λ ts. what) s) go le g

  grown_more : {a : ℕ} (x : Option (ℕ × Store)) (s : State) → s.steps ≤ a → More a (grown_on x s) (grown_on x (more s))
  grown_more None s le = alike _ _ le
  grown_more (Some g) s le = alike _ _ le

  memory_more : (o : Outline) (x : ℕ) (vs : List Value) (s : State) → MoreFrom (memory_grow o x vs) (memory_grow o x vs) s
  memory_more o x (i32 n ∷ []) s = some_more (slice_get o.memories x) s _ _ (omega arith) (λ limits. spend_more s _ _ (omega arith) (λ m lt. ask_more o _ _ _ (omega (arith, lt)) (λ b u le. grown_more _ u le)) (λ u. ask_grows o _ u _ (λ b v. grown_grows _ v)))
  memory_more o x _ s = alike _ _ (omega arith)

  table_more : (o : Outline) (x : ℕ) (vs : List Value) (s : State) → MoreFrom (table_grow o x vs) (table_grow o x vs) s
  table_more o x (i32 n ∷ v ∷ []) s = some_more (slice_get o.tables x) s _ _ (omega arith) (λ t. some_more (reference_or_not v) s _ _ (omega arith) (λ y. spend_more s _ _ (omega arith) (λ m lt. ask_more o _ _ _ (omega (arith, lt)) (λ b u le. grown_more _ u le)) (λ u. ask_grows o _ u _ (λ b z. grown_grows _ z))))
  table_more o x _ s = alike _ _ (omega arith)

  back_more : {a : ℕ} (locals : List (Option Value)) (below : List Value) (o p : Out) → More a o p → More a (back locals below o) (back locals below p)
  back_more {a} locals below o p w = handle_more (back_on locals below) (back_on locals below) o p a (record { hands = λ s. refl }) (record { hands = λ s. refl }) (back_grows locals below) (omega arith) (at_it o.how o.state w.less) w
    where
      at_it : (h : How) (u : State) → u.steps ≤ a → More a (back_on locals below h u) (back_on locals below h (more u))
      at_it normal u le = alike _ _ le
      at_it (thrown x) u le = alike _ _ le
      at_it h u le = alike h u le

  called_more : (c : Callee) (call to : ℕ → State → Out) (s : State) → ((f : ℕ) → MoreFrom (call f) (to f) s) → MoreFrom (called c call) (called c to) s
  called_more (callee f) call to s g = g f
  called_more none call to s g = alike _ _ (omega arith)
  called_more other call to s g = alike _ _ (omega arith)

  tail_more : (o : Outline) (f : ℕ) (s : State) → MoreFrom (do_tail o f) (do_tail o f) s
  tail_more o f s = some_more (type_of_func o f) s _ _ (omega arith) (λ t. pop_more (length t.params) s _ _ (omega arith) (λ vs below. alike _ _ (omega arith)))

  throw_more : (o : Outline) (x : ℕ) (s : State) → MoreFrom (do_throw o x) (do_throw o x) s
  throw_more o x s = some_more (type_of_tag o x) s _ _ (omega arith) (λ t. some_more (slice_get s.core.store.tags x) s _ _ (omega arith) (λ id. pop_more (length t.params) s _ _ (omega arith) (λ vs below. alike _ _ (omega arith))))

  module _ (o : Outline) (enters to : ℕ → State → Out) (n : ℕ) (g : (f : ℕ) (s : State) → s.steps ≤ n → MoreFrom (enters f) (to f) s) where
    call_more : (f : ℕ) (s : State) → s.steps ≤ n → MoreFrom (do_call o enters f) (do_call o to f) s
    call_more f s le = some_more (type_of_func o f) s _ _ (omega arith) (λ t. pop_more (length t.params) s _ _ (omega arith) (λ vs below. back_more s.core.locals below _ _ (g f (at s [] vs) le)))

    leaf_more : (i : Instr) (s : State) → s.steps ≤ n → MoreFrom (exec_leaf o enters i) (exec_leaf o to i) s
    leaf_more (I.Br j) s le = alike _ _ (omega arith)
    leaf_more (I.BrIf j) s le = jumping_more 1 (branch_if j) s
    leaf_more (I.BrTable table) s le = jumping_more 1 (branch_table table.labels table.last) s
    leaf_more (I.BrOnNull j) s le = jumping_more 1 (branch_null j) s
    leaf_more (I.BrOnNonNull j) s le = jumping_more 1 (branch_non_null j) s
    leaf_more (I.BrOnCast arg) s le = jumping_more 1 (branch_cast o arg.of arg.to (branch arg.label) normal (allocated s.core.store)) s
    leaf_more (I.BrOnCastFail arg) s le = jumping_more 1 (branch_cast o arg.of arg.to normal (branch arg.label) (allocated s.core.store)) s
    leaf_more I.Return s le = alike _ _ (omega arith)
    leaf_more (I.Call f) s le = call_more f s le
    leaf_more (I.CallRef x) s le = pop_more 1 s _ _ (omega arith) (λ vs below. called_more (by_reference o x vs) _ _ (with_stack s below) (λ f. call_more f (with_stack s below) le))
    leaf_more (I.CallIndirect x y) s le = pop_more 1 s _ _ (omega arith) (λ vs below. called_more (by_index o x y s.core.store vs) _ _ (with_stack s below) (λ f. call_more f (with_stack s below) le))
    leaf_more (I.ReturnCall f) s le = tail_more o f s
    leaf_more (I.ReturnCallRef x) s le = pop_more 1 s _ _ (omega arith) (λ vs below. called_more (by_reference o x vs) _ _ (with_stack s below) (λ f. tail_more o f (with_stack s below)))
    leaf_more (I.ReturnCallIndirect x y) s le = pop_more 1 s _ _ (omega arith) (λ vs below. called_more (by_index o x y s.core.store vs) _ _ (with_stack s below) (λ f. tail_more o f (with_stack s below)))
    leaf_more (I.Throw x) s le = throw_more o x s
    leaf_more I.ThrowRef s le = jumping_more 1 throw_again s
    leaf_more (I.MemoryGrow x) s le = pop_more 1 s _ _ (omega arith) (λ vs below. memory_more o x vs (with_stack s below))
    leaf_more (I.TableGrow x) s le = pop_more 2 s _ _ (omega arith) (λ vs below. table_more o x vs (with_stack s below))
    leaf_more i s le = pop_more (operands o i) s _ _ (omega arith) (λ vs below. lift_more s below (do_act o i s.core.locals s.core.store vs) (omega arith))

  -- a step was made, unless it could not be
  abbrev MadeAt : ℕ → How → State → Type 0
  MadeAt a spent s = Unit {0}
  MadeAt a wrong s = Unit {0}
  MadeAt a _ s = s.steps < a

  record Made (a : ℕ) (o : Out) : Type 0 where
    is : MadeAt a o.how o.state

  made_at : (a : ℕ) (h : How) (s : State) → s.steps < a → MadeAt a h s
  made_at a spent s lt = tt
  made_at a wrong s lt = tt
  made_at a h s lt = lt

  spend_from_made : (a n : ℕ) (s : State) (go : State → Out) → ((j : ℕ) → j < n → (go (record s { steps = j })).state.steps < a) → Made a (spend_from n s go)
  spend_from_made a zero s go g = record { is = tt }
  spend_from_made a (suc n) s go g = record { is = made_at a _ _ (g n (omega arith)) }

  spend_made : (s : State) (go : State → Out) → ((j : ℕ) → j < s.steps → (go (record s { steps = j })).state.steps < s.steps) → Made s.steps (spend s go)
  unfolding spend
  spend_made s go g = spend_from_made s.steps s.steps s go g

  foul_more : {X : Type 0} {a : ℕ} (o : Outline) (x : Option X) (s : State) (go to : X → Out) → s.steps ≤ a → ((y : X) → More a (go y) (to y)) → More a (or_foul o x s go) (or_foul o x (more s) to)
  unfolding or_foul
  foul_more o None s go to le g = alike _ _ le
  foul_more o (Some y) s go to le g = g y

  module _ (o : Outline) (m : Module) (low top : Level) (n : ℕ) (lows : (j : Job) (s : State) → s.steps < n → MoreFrom (low j) (top j) s) (g : (j : Job) → GrowsFrom (top j)) where
    finish_more : {a : ℕ} (r : ℕ) (p q : Out) → a < n → More a p q → More a (finish o m low r p) (finish o m top r q)
    finish_more {a} r p q lt w = handle_more (finish_on o m low r) (finish_on o m top r) p q a (record { hands = λ s. refl }) (record { hands = λ s. refl }) (finish_grows o m top g r) (omega arith) (at_it p.how p.state w.less) w
      where
        at_it : (h : How) (u : State) → u.steps ≤ a → More a (finish_on o m low r h u) (finish_on o m top r h (more u))
        at_it normal u le = pop_more r u _ _ le (λ vs below. alike _ _ le)
        at_it return u le = pop_more r u _ _ le (λ vs below. alike _ _ le)
        at_it (branch zero) u le = pop_more r u _ _ le (λ vs below. alike _ _ le)
        at_it (branch (suc j)) u le = alike _ _ le
        at_it (tail f) u le = widen le (lows (enter f) (at u [] u.core.stack) (omega (arith, lt, le)))
        at_it h u le = alike h u le

    import_more : (i : ℕ) (t : FuncType) (s : State) → s.steps ≤ n → (j : ℕ) → j < s.steps → More j (low (serve (results t.results)) (tell o (reverse s.core.stack) (λ ts. What.CallOut i (givens_of o ts (reverse s.core.stack))) (at (record s { steps = j }) [] []))) (top (serve (results t.results)) (tell o (reverse s.core.stack) (λ ts. What.CallOut i (givens_of o ts (reverse s.core.stack))) (at (more (record s { steps = j })) [] [])))
    import_more i t s le j lt = lows (serve (results t.results)) (tell o (reverse s.core.stack) (λ ts. What.CallOut i (givens_of o ts (reverse s.core.stack))) (at (record s { steps = j }) [] [])) (let e : j < n = omega (arith, lt, le) in e)

    own_more : (f : Func) (t : FuncType) (s : State) → s.steps ≤ n → (j : ℕ) → j < s.steps → More j (finish o m low (length t.results) (low (run (code_of f.body.code)) (at (record s { steps = j }) (map Some (reverse s.core.stack) ++ defaults f.locals) []))) (finish o m top (length t.results) (top (run (code_of f.body.code)) (at (more (record s { steps = j })) (map Some (reverse s.core.stack) ++ defaults f.locals) [])))
    own_more f t s le j lt = finish_more (length t.results) _ _ (let e : j < n = omega (arith, lt, le) in e) (lows (run (code_of f.body.code)) (at (record s { steps = j }) (map Some (reverse s.core.stack) ++ defaults f.locals) []) (let e : j < n = omega (arith, lt, le) in e))

    entered_more : (i : Option ℕ) (f : Option Func) (t : Option FuncType) (s : State) → s.steps ≤ n → MoreFrom (enter_on o m low i f t) (enter_on o m top i f t) s
    entered_more (Some i) f (Some t) s le = spend_more s _ _ (omega arith) (λ j lt. widen (omega (arith, lt)) (import_more i t s le j lt)) (λ u. from _ (one_more u.events _) (g (serve (results t.results)) _))
    entered_more None (Some f) (Some t) s le = spend_more s _ _ (omega arith) (λ j lt. widen (omega (arith, lt)) (own_more f t s le j lt)) (λ u. handled (finish_on o m top (length t.results)) (top (run (code_of f.body.code)) _) (finish_grows o m top g (length t.results)) (g (run (code_of f.body.code)) _))
    entered_more (Some i) f None s le = alike _ _ (omega arith)
    entered_more None None t s le = alike _ _ (omega arith)
    entered_more None (Some f) None s le = alike _ _ (omega arith)

    entered_made : (i : Option ℕ) (f : Option Func) (t : Option FuncType) (s : State) → s.steps ≤ n → Made s.steps (enter_on o m low i f t s)
    entered_made (Some i) f (Some t) s le = spend_made s _ (λ j lt. let w = import_more i t s le j lt in omega (arith, lt, w.less))
    entered_made None (Some f) (Some t) s le = spend_made s _ (λ j lt. let w = own_more f t s le j lt in omega (arith, lt, w.less))
    entered_made (Some i) f None s le = record { is = tt }
    entered_made None None t s le = record { is = tt }
    entered_made None (Some f) None s le = record { is = tt }

    enter_more : (f : ℕ) (s : State) → s.steps ≤ n → MoreFrom (do_enter o m low f) (do_enter o m top f) s
    enter_more f s le = entered_more (slice_get (numbers is_func 0 o.imports) f) (own_func o m low f) (type_of_func o f) s le

  module _ (low top : Level) (n : ℕ) (lows : (j : Job) (s : State) → s.steps < n → MoreFrom (low j) (top j) s) (g : (j : Job) → GrowsFrom (top j)) where
    turned_more : (p r : ℕ) (c : Code) (below : List Value) (go to : State → Out) (s : State) → s.steps ≤ n → GrowsFrom to → ((u : State) → u.steps ≤ n → MoreFrom go to u) → MoreFrom (turned low p r c below go) (turned top p r c below to) s
    turned_more p r c below go to s le grow h = spend_more s _ _ (omega arith) (λ j lt. labelled_more r p below (low (turn p r c below)) (top (turn p r c below)) _ _ (g (turn p r c below)) (let e : j ≤ s.steps = omega (arith, lt) in e) (h (record s { steps = j }) (let e : j ≤ n = omega (arith, lt, le) in e)) (λ v l. widen (omega (arith, lt, l)) (lows (turn p r c below) v (omega (arith, lt, l, le))))) (λ u. handled (label_on r p below (top (turn p r c below))) (to u) (label_grows r p below (top (turn p r c below)) (g (turn p r c below))) (grow u))

    loop_more : (ty : Option FuncType) (c : Code) (go to : State → Out) (s : State) → s.steps ≤ n → GrowsFrom to → ((u : State) → u.steps ≤ n → MoreFrom go to u) → MoreFrom (in_loop low ty c go) (in_loop top ty c to) s
    loop_more ty c go to s le grow h = some_more ty s _ _ (omega arith) (λ t. pop_more (length t.params) s _ _ (omega arith) (λ vs below. turned_more (length t.params) (length t.results) c below go to (with_stack s vs) le grow h))

  module _ (o : Outline) (enters enters' : ℕ → State → Out) (low top : Level) (n : ℕ) (en : (f : ℕ) (s : State) → s.steps ≤ n → MoreFrom (enters f) (enters' f) s) (made : (f : ℕ) (s : State) → s.steps ≤ n → Made s.steps (enters f s)) (lows : (j : Job) (s : State) → s.steps < n → MoreFrom (low j) (top j) s) (eg : (f : ℕ) → GrowsFrom (enters' f)) (g : (j : Job) → GrowsFrom (top j)) where
    mutual
      code_more : (c : Code) (s : State) → s.steps ≤ n → MoreFrom (exec o enters low c) (exec o enters' top c) s
      code_more done s le = alike _ _ (omega arith)
      code_more (next i c) s le = after_more _ _ (exec o enters low c) (exec o enters' top c) (code_grows o enters' top eg g c) (ins_more i s le) (λ u l. code_more c u (omega (arith, l, le)))

      ins_more : (i : Ins) (s : State) → s.steps ≤ n → MoreFrom (exec_ins o enters low i) (exec_ins o enters' top i) s
      ins_more (leaf i) s le = leaf_more o enters enters' n en i s le
      ins_more (block ty c) s le = block_more (block_type o.types ty) (exec o enters low c) (exec o enters' top c) s (code_grows o enters' top eg g c) (λ u l. code_more c u (omega (arith, l, le)))
      ins_more (loop ty c) s le = loop_more low top n lows g (block_type o.types ty) c (exec o enters low c) (exec o enters' top c) s le (code_grows o enters' top eg g c) (code_more c)
      ins_more (choice ty c d) s le = pop_more 1 s _ _ (omega arith) (λ vs below. chosen_more vs _ _ _ _ (with_stack s below) (block_more (block_type o.types ty) (exec o enters low c) (exec o enters' top c) (with_stack s below) (code_grows o enters' top eg g c) (λ u l. code_more c u (omega (arith, l, le)))) (block_more (block_type o.types ty) (exec o enters low d) (exec o enters' top d) (with_stack s below) (code_grows o enters' top eg g d) (λ u l. code_more d u (omega (arith, l, le)))))
      ins_more (try_table ty cs c) s le = caught_more cs _ _ (block_more (block_type o.types ty) (exec o enters low c) (exec o enters' top c) s (code_grows o enters' top eg g c) (λ u l. code_more c u (omega (arith, l, le))))

    -- an export's call has ended, for which a step was made
    thrown_more : {a : ℕ} (w : Due) (x : ℕ) (e : Option Exception) (u : State) → u.steps < n → u.steps ≤ a → More a (low (serve w) (tell_exception o What.Thrown x e u)) (top (serve w) (tell_exception o What.Thrown x e (more u)))
    thrown_more w x None u lt le = widen le (lows (serve w) (tell_exception o What.Thrown x None u) lt)
    thrown_more w x (Some e) u lt le = widen le (lows (serve w) (tell_exception o What.Thrown x (Some e) u) lt)

    shown_more : {a : ℕ} (w : Due) (p q : Out) → a ≤ n → Made a p → More a p q → More a (shown o enters low w p) (shown o enters' top w q)
    shown_more {a} w p q lt made r = handle_more (shown_on o enters low w) (shown_on o enters' top w) p q a (record { hands = λ s. refl }) (record { hands = λ s. refl }) (shown_grows o enters' top eg g w) (omega arith) (at_it p.how p.state made.is r.less) r
      where
        at_it : (h : How) (u : State) → MadeAt a h u → u.steps ≤ a → More a (shown_on o enters low w h u) (shown_on o enters' top w h (more u))
        at_it normal u d le = widen le (lows (serve w) (tell o (reverse u.core.stack) (λ ts. What.Result (givens_of o ts (reverse u.core.stack))) (at u [] [])) (omega (arith, d, lt)))
        at_it trap u d le = widen le (lows (serve w) (tell o [] (λ ts. What.Trap) (at u [] [])) (omega (arith, d, lt)))
        at_it (thrown x) u d le = thrown_more w x (slice_get u.core.store.exceptions x) (at u [] []) (omega (arith, d, lt)) le
        at_it h u d le = alike h u le

    export_more : (w : Due) (f : Option ℕ) (gs : List Given) (s : State) (ms : List Move) (st : Store) → s.steps ≤ n → More s.steps (do_export o enters low w f gs s (with_store (record s { moves = ms }) st)) (do_export o enters' top w f gs (more s) (with_store (record (more s) { moves = ms }) st))
    export_more w f gs s ms st le = foul_more o f s _ _ (omega arith) (λ x. foul_more o _ s _ _ (omega arith) (λ vs. shown_more w _ _ le (made x (at (with_store (record s { moves = ms }) st) [] (reverse vs)) le) (en x (at (with_store (record s { moves = ms }) st) [] (reverse vs)) le)))

    move_more : (w : Due) (act : Act) (s : State) (ms : List Move) (st : Store) → s.steps ≤ n → More s.steps (do_move o enters low w act s (with_store (record s { moves = ms }) st)) (do_move o enters' top w act (more s) (with_store (record (more s) { moves = ms }) st))
    move_more w (Act.Call e gs) s ms st le = export_more w _ gs s ms st le
    move_more w act s ms st le = foul_more o (ends_call o w act s.tokens st) s _ _ (omega arith) (λ e. alike _ _ (omega arith))

    moves_more : (w : Due) (ms : List Move) (s : State) → s.steps ≤ n → MoreFrom (do_moves o enters low w ms) (do_moves o enters' top w ms) s
    moves_more w [] s le = alike _ _ (omega arith)
    moves_more w (move ∷ ms) s le = foul_more o (written o s.tokens move.writes s.core.store) s _ _ (omega arith) (λ st. move_more w move.act s ms st le)

    work_more : (j : Job) (s : State) → s.steps ≤ n → MoreFrom (work o enters low j) (work o enters' top j) s
    work_more (run c) s le = code_more c s le
    work_more (turn p r c below) s le = turned_more low top n lows g p r c below (exec o enters low c) (exec o enters' top c) s le (code_grows o enters' top eg g c) (code_more c)
    work_more (enter f) s le = en f s le
    work_more (serve w) s le = moves_more w s.moves s le

    -- instantiation

    evaluate_more : (is : List Instr) (s : State) (go to : Value → State → Out) → s.steps ≤ n → ((v : Value) → GrowsFrom (to v)) → ((v : Value) (u : State) → u.steps ≤ n → MoreFrom (go v) (to v) u) → MoreFrom (λ u. evaluate o enters low is u go) (λ u. evaluate o enters' top is u to) s
    evaluate_more is s go to le grow h = after_more _ _ _ _ (λ u. pop_grows 1 u _ (λ vs below. some_grows (slice_get vs 0) u _ (λ v. grow v (at u [] [])))) (code_more (code_of is) (at s [] []) le) (λ u l. pop_more 1 u _ _ (omega arith) (λ vs below. some_more (slice_get vs 0) u _ _ (omega arith) (λ v. h v (at u [] []) (omega (arith, l, le)))))

    table_init_more : (k' : ℕ) (b : Option Body) (s : State) → s.steps ≤ n → MoreFrom (init_table o enters low k' b) (init_table o enters' top k' b) s
    table_init_more k' None s le = alike _ _ (omega arith)
    table_init_more k' (Some b) s le = evaluate_more b.code s (add_table k') (add_table k') le (λ v u. same _ _) (λ v u l. alike _ _ (omega arith))

    tables_more : (ts : List Table) (s : State) → s.steps ≤ n → MoreFrom (init_tables o enters low ts) (init_tables o enters' top ts) s
    tables_more [] s le = alike _ _ (omega arith)
    tables_more (t ∷ ts) s le = after_more _ _ _ _ (tables_grow o enters' top eg g ts) (table_init_more t.limits.least t.init s le) (λ u l. tables_more ts u (omega (arith, l, le)))

    globals_more : (gs : List Global) (s : State) → s.steps ≤ n → MoreFrom (init_globals o enters low gs) (init_globals o enters' top gs) s
    globals_more [] s le = alike _ _ (omega arith)
    globals_more (v ∷ gs) s le = after_more _ _ _ _ (globals_grow o enters' top eg g gs) (evaluate_more v.init.code s (add_global v.mutable) (add_global v.mutable) le (λ v u. same _ _) (λ v u l. alike _ _ (omega arith))) (λ u l. globals_more gs u (omega (arith, l, le)))

    items_more : (bs : List Body) (vs : List Value) (s : State) → s.steps ≤ n → MoreFrom (init_items o enters low bs vs) (init_items o enters' top bs vs) s
    items_more [] vs s le = alike _ _ (omega arith)
    items_more (b ∷ bs) vs s le = evaluate_more b.code s _ _ le (λ v u. items_grow o enters' top eg g bs (vs ++ v ∷ []) u) (λ v u l. items_more bs (vs ++ v ∷ []) u l)

    elem_more : (is : Items) (s : State) → s.steps ≤ n → MoreFrom (init_elem o enters low is) (init_elem o enters' top is) s
    elem_more (L.Funcs fs) s le = alike _ _ (omega arith)
    elem_more (L.Exprs ty bs) s le = items_more bs [] s le

    elems_more : (es : List Elem) (s : State) → s.steps ≤ n → MoreFrom (init_elems o enters low es) (init_elems o enters' top es) s
    elems_more [] s le = alike _ _ (omega arith)
    elems_more (e ∷ es) s le = after_more _ _ _ _ (elems_grow o enters' top eg g es) (elem_more e.items s le) (λ u l. elems_more es u (omega (arith, l, le)))

    copies_more : (i : ℕ) (es : List Elem) (s : State) → s.steps ≤ n → MoreFrom (copy_elems o enters low i es) (copy_elems o enters' top i es) s
    copies_more i [] s le = alike _ _ (omega arith)
    copies_more i (e ∷ es) s le = after_more _ _ _ _ (copies_grow o enters' top eg g (suc i) es) (code_more (code_of (copy_elem i e.mode (count_items e.items))) (at s [] []) le) (λ u l. copies_more (suc i) es u (omega (arith, l, le)))

    datas_more : (i : ℕ) (ds : List Seg) (s : State) → s.steps ≤ n → MoreFrom (copy_datas o enters low i ds) (copy_datas o enters' top i ds) s
    datas_more i [] s le = alike _ _ (omega arith)
    datas_more i (d ∷ ds) s le = after_more _ _ _ _ (datas_grow o enters' top eg g (suc i) ds) (code_more (code_of (copy_data i d.mode (length d.bytes))) (at s [] []) le) (λ u l. datas_more (suc i) ds u (omega (arith, l, le)))

    start_more : (f : Option ℕ) (s : State) → s.steps ≤ n → MoreFrom (call_start o enters low f) (call_start o enters' top f) s
    start_more None s le = alike _ _ (omega arith)
    start_more (Some f) s le = en f (at s [] []) le

    instance_thrown_more : {a : ℕ} (x : ℕ) (e : Option Exception) (u : State) → u.steps ≤ a → More a (out (thrown x) (tell_exception o What.InstanceThrown x e u)) (out (thrown x) (tell_exception o What.InstanceThrown x e (more u)))
    instance_thrown_more x None u le = alike _ _ le
    instance_thrown_more x (Some e) u le = alike _ _ le

    begun_more : {a : ℕ} (p q : Out) → a ≤ n → More a p q → More a (begun o enters low p) (begun o enters' top q)
    begun_more {a} p q lt w = handle_more (begun_on o enters low) (begun_on o enters' top) p q a (record { hands = λ s. refl }) (record { hands = λ s. refl }) (begun_grows o enters' top eg g) (omega arith) (at_it p.how p.state w.less) w
      where
        at_it : (h : How) (u : State) → u.steps ≤ a → More a (begun_on o enters low h u) (begun_on o enters' top h (more u))
        at_it normal u le = widen le (moves_more nothing u.moves (tell_instance o (exported_constants u.core.store o.exports) (at u [] [])) (omega (arith, le, lt)))
        at_it trap u le = alike _ _ le
        at_it (thrown x) u le = instance_thrown_more x (slice_get u.core.store.exceptions x) u le
        at_it h u le = alike h u le

    module _ (m : Module) where
      -- what is behind each part of it
      start_after : GrowsFrom (call_start o enters' top m.start)
      start_after = start_grows o enters' top eg g m.start

      datas_after : GrowsFrom (λ s. after (copy_datas o enters' top 0 m.segs s) (call_start o enters' top m.start))
      datas_after s = after_grows _ _ (datas_grow o enters' top eg g 0 m.segs s) start_after

      copies_after : GrowsFrom (λ s. after (copy_elems o enters' top 0 m.elems s) (λ s. after (copy_datas o enters' top 0 m.segs s) (call_start o enters' top m.start)))
      copies_after s = after_grows _ _ (copies_grow o enters' top eg g 0 m.elems s) datas_after

      elems_after : GrowsFrom (λ s. after (init_elems o enters' top m.elems s) (λ s. after (copy_elems o enters' top 0 m.elems s) (λ s. after (copy_datas o enters' top 0 m.segs s) (call_start o enters' top m.start))))
      elems_after s = after_grows _ _ (elems_grow o enters' top eg g m.elems s) copies_after

      globals_after : GrowsFrom (λ s. after (init_globals o enters' top m.globals s) (λ s. after (init_elems o enters' top m.elems s) (λ s. after (copy_elems o enters' top 0 m.elems s) (λ s. after (copy_datas o enters' top 0 m.segs s) (call_start o enters' top m.start)))))
      globals_after s = after_grows _ _ (globals_grow o enters' top eg g m.globals s) elems_after

      instantiate_more : (s : State) → s.steps ≤ n → MoreFrom (instantiate o enters low m) (instantiate o enters' top m) s
      instantiate_more s le =
          after_more _ _ _ _ globals_after (tables_more m.tables s le) (λ s l.
          after_more _ _ _ _ elems_after (globals_more m.globals s (omega (arith, l, le))) (λ s l'.
          after_more _ _ _ _ copies_after (elems_more m.elems s (omega (arith, l', l, le))) (λ s l''.
          after_more _ _ _ _ datas_after (copies_more 0 m.elems s (omega (arith, l'', l', l, le))) (λ s l'''.
          after_more _ _ _ _ start_after (datas_more 0 m.segs s (omega (arith, l''', l'', l', l, le))) (λ s l''''.
          start_more m.start s (omega (arith, l'''', l''', l'', l', l, le)))))))

      begin_on_more : (st : Option Store) (s : State) → s.steps ≤ n → MoreFrom (begin_on o enters low m st) (begin_on o enters' top m st) s
      begin_on_more None s le = alike _ _ (omega arith)
      begin_on_more (Some st) s le = begun_more _ _ le (instantiate_more (cleared s st) le)

      begin_more : (p : Opening) (s : State) → s.steps ≤ n → MoreFrom (begin o enters low m p) (begin o enters' top m p) s
      begin_more p s le = begin_on_more _ s le

  level_more : (low : Level) (o : Outline) (m : Module) (n b : ℕ) → n ≤ b → (j : Job) (s : State) → s.steps < n → MoreFrom (level_over low o m n j) (level_over bottom o m b j) s
  level_more low o m zero b h j s lt = absurd (omega (arith, lt))
  level_more low o m (suc n) zero h j s lt = absurd (omega (arith, h))
  level_more low o m (suc n) (suc b) h j s lt = work_more o (do_enter o m (level_over low o m n)) (do_enter o m (level_over bottom o m b)) (level_over low o m n) (level_over bottom o m b) n (enter_more o m (level_over low o m n) (level_over bottom o m b) n (level_more low o m n b (omega (arith, h))) (level_grows o m b)) (λ f s le. entered_made o m (level_over low o m n) (level_over bottom o m b) n (level_more low o m n b (omega (arith, h))) (level_grows o m b) (slice_get (numbers is_func 0 o.imports) f) (own_func o m (level_over low o m n) f) (type_of_func o f) s le) (level_more low o m n b (omega (arith, h))) (enter_grows o m (level_over bottom o m b) (level_grows o m b)) (level_grows o m b) j s (omega (arith, lt))

  made_enter : (low : Level) (m : Module) (a b : ℕ) → a ≤ b → (f : ℕ) (s : State) → s.steps ≤ a → Made s.steps (do_enter (outline m) m (level_over low (outline m) m a) f s)
  made_enter low m a b h f s le = entered_made (outline m) m (level_over low (outline m) m a) (level_over bottom (outline m) m b) a (level_more low (outline m) m a b h) (level_grows (outline m) m b) (slice_get (numbers is_func 0 (outline m).imports) f) (own_func (outline m) m (level_over low (outline m) m a) f) (type_of_func (outline m) f) s le

  played_more : (low : Level) (m : Module) (script : Script) (a b : ℕ) → a ≤ b → More a (played_over low m script a) (begin (outline m) (do_enter (outline m) m (level_over bottom (outline m) m b)) (level_over bottom (outline m) m b) m script.opening (more (start script a)))
  played_more low m script a b h = begin_more (outline m) (do_enter (outline m) m (level_over low (outline m) m a)) (do_enter (outline m) m (level_over bottom (outline m) m b)) (level_over low (outline m) m a) (level_over bottom (outline m) m b) a (enter_more (outline m) m (level_over low (outline m) m a) (level_over bottom (outline m) m b) a (level_more low (outline m) m a b h) (level_grows (outline m) m b)) (made_enter low m a b h) (level_more low (outline m) m a b h) (enter_grows (outline m) m (level_over bottom (outline m) m b) (level_grows (outline m) m b)) (level_grows (outline m) m b) m script.opening (start script a) (omega arith)

more_trace : (m : Module) (script : Script) (a k : ℕ) → Begins (trace m script a) (trace m script (a + k))
more_trace m script a k = elim (played_more k bottom m script a (a + k) (omega arith)).is [
  | inl e ↦ e.1
  | inr e ↦ begins_same (ap (λ (o : Out). o.state.events) (sym e))
]

pub traces_grow : (m : Module) (script : Script) (fewer more : ℕ) → fewer ≤ more → Begins (trace m script fewer) (trace m script more)
traces_grow m script a b h = subst (λ n. Begins (trace m script a) (trace m script n)) (let e : a + (b - a) ≡ b = omega (arith, h) in e) (more_trace m script a (b - a))

pub levels_suffice : (low : Level) (m : Module) (script : Script) (steps : ℕ) → played_over low m script steps ≡ played m script steps
levels_suffice low m script n = same_start (elim (played_more 0 low m script n n (omega arith)).is [
  | inl e ↦ sym (e.2 refl)
  | inr e ↦ sym (e ∙ ap (out (played_over low m script n).how) (none_more 0 (played_over low m script n).state refl))
])
  where
    same_start : played_over low m script n ≡ begin (outline m) (do_enter (outline m) m (level_over bottom (outline m) m n)) (level_over bottom (outline m) m n) m script.opening (more 0 (start script n)) → played_over low m script n ≡ played m script n
    same_start e = e ∙ ap (begin (outline m) (do_enter (outline m) m (level_over bottom (outline m) m n)) (level_over bottom (outline m) m n) m script.opening) (none_more 0 (start script n) refl)
