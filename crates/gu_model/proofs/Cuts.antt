-- A module that was cut does what it did before, in as many steps.
use Rattle.std.proofs.Common.{ℕ, zero, suc, Bool, true, false, cond, List, [], ◌∷◌, ◌++◌, map, reverse, Option, Some, None, option_map, slice_get, ◌≡◌, refl, ap, sym, ◌∙◌, true≢false, nat_lt, drop, take, length}
use Rattle.std.proofs.lemmas.Option.{slice_get-map}
use Rattle.gu_syntax.specs.declared.instr.Instr.{Instr}
use Rattle.gu_syntax.specs.declared.instr.Instr.TheVariants as I
use Rattle.gu_syntax.specs.declared.module.Func.{Func}
use Rattle.gu_syntax.specs.declared.module.Module.{Module}
use Rattle.gu_syntax.specs.Code.{Ins, Code, leaf, block, loop, choice, try_table, done, next, code_of}
use Rattle.gu_model.specs.Index.{FuncType, defined_func, imported, as_func, block_type, numbers, is_func}
use Rattle.gu_model.specs.Outline.{Outline, outline, type_of_func, type_of_tag}
use Rattle.gu_model.specs.Value.{Value, i32, null, exception, defaults}
use Rattle.gu_model.specs.Act.{do_act}
use Rattle.gu_model.specs.Script.{Script}
use Rattle.gu_model.specs.State.{State, wrong, Out, out, at, with_stack, after, spend, pop, with_some}
use Rattle.gu_model.specs.Control.{Job, run, turn, enter, serve, Level, label, in_block, chosen, land, branch_table, throw_again, caught, Callee, callee, none, other, called, by_reference, by_index, do_tail, exec_leaf, finish, enter_on, own_func, do_enter, in_loop, exec, exec_ins}
use Rattle.gu_model.specs.Cut.{leaves, leaves_ins, cut, cut_ins, cut_func, cut_module}
use Rattle.gu_model.specs.Same.{seen_export, SameSteps}
use Rattle.gu_model.proofs.Trees.{list_kept}
use Rattle.gu_model.specs.Play.{work, start, begin, bottom, level_over}

pub defined_cut : (fs : List Func) → map defined_func (map cut_func fs) ≡ map defined_func fs
defined_cut [] = refl
defined_cut (f ∷ fs) = ap (λ rest. f.ty ∷ rest) (defined_cut fs)

pub outline_cut : (m : Module) → outline (cut_module m) ≡ outline m
outline_cut m = ap (λ fs. record (outline m) { funcs = imported as_func m.imports ++ fs }) (defined_cut m.funcs)

abbrev cut_job : Job → Job
cut_job (run c) = run (cut c)
cut_job (turn p r c below) = turn p r (cut c) below
cut_job (enter f) = enter f
cut_job (serve w) = serve w

-- what stops goes on nowhere
pop_stops : (n : ℕ) (s : State) (k : List Value → List Value → Out) (go to : State → Out) → ((vs rest : List Value) → after (k vs rest) go ≡ after (k vs rest) to) → after (pop n s k) go ≡ after (pop n s k) to
unfolding pop
pop_stops n s k go to same = elim (nat_lt (length s.core.stack) n) as (λ b. after (cond b (out wrong s) (k (take n s.core.stack) (drop n s.core.stack))) go ≡ after (cond b (out wrong s) (k (take n s.core.stack) (drop n s.core.stack))) to) [ true ↦ refl | false ↦ same _ _ ]

some_stops : {X : Type 0} (x : Option X) (s : State) (k : X → Out) (go to : State → Out) → ((y : X) → after (k y) go ≡ after (k y) to) → after (with_some x s k) go ≡ after (with_some x s k) to
unfolding with_some
some_stops None s k go to same = refl
some_stops (Some y) s k go to same = same y

tail_stops : (o : Outline) (f : ℕ) (s : State) (go to : State → Out) → after (do_tail o f s) go ≡ after (do_tail o f s) to
tail_stops o f s go to = some_stops (type_of_func o f) s _ go to (λ t. pop_stops (length t.params) s _ go to (λ vs rest. refl))

called_stops : (o : Outline) (c : Callee) (s : State) (go to : State → Out) → after (called c (do_tail o) s) go ≡ after (called c (do_tail o) s) to
called_stops o (callee f) s go to = tail_stops o f s go to
called_stops o none s go to = refl
called_stops o other s go to = refl

table_stops : (ks : List ℕ) (k : ℕ) (vs rest : List Value) (s : State) (go to : State → Out) → after (land s rest (branch_table ks k vs)) go ≡ after (land s rest (branch_table ks k vs)) to
table_stops ks k (i32 n ∷ []) rest s go to = refl
table_stops ks k _ rest s go to = refl

again_stops : (vs rest : List Value) (s : State) (go to : State → Out) → after (land s rest (throw_again vs)) go ≡ after (land s rest (throw_again vs)) to
again_stops (null ∷ []) rest s go to = refl
again_stops (exception a ∷ []) rest s go to = refl
again_stops _ rest s go to = refl

leaf_stops : (o : Outline) (enters : ℕ → State → Out) (i : Instr) (s : State) (go to : State → Out) → leaves i ≡ true → after (exec_leaf o enters i s) go ≡ after (exec_leaf o enters i s) to
unfolding do_act
leaf_stops o e I.Unreachable s go to h = pop_stops 0 s _ go to (λ vs rest. refl)
leaf_stops o e (I.Br l) s go to h = refl
leaf_stops o e (I.BrTable table) s go to h = pop_stops 1 s _ go to (λ vs rest. table_stops table.labels table.last vs rest s go to)
leaf_stops o e I.Return s go to h = refl
leaf_stops o e (I.ReturnCall f) s go to h = tail_stops o f s go to
leaf_stops o e (I.ReturnCallIndirect x y) s go to h = pop_stops 1 s _ go to (λ vs rest. called_stops o (by_index o x y s.core.store vs) (with_stack s rest) go to)
leaf_stops o e (I.ReturnCallRef x) s go to h = pop_stops 1 s _ go to (λ vs rest. called_stops o (by_reference o x vs) (with_stack s rest) go to)
leaf_stops o e (I.Throw x) s go to h = some_stops (type_of_tag o x) s _ go to (λ t. some_stops (slice_get s.core.store.tags x) s _ go to (λ id. pop_stops (length t.params) s _ go to (λ vs rest. refl)))
leaf_stops o e I.ThrowRef s go to h = pop_stops 1 s _ go to (λ vs rest. again_stops vs rest s go to)
leaf_stops o e i s go to h = absurd (true≢false (sym h))

ins_stops : (o : Outline) (enters : ℕ → State → Out) (low : Level) (i : Ins) (s : State) (go to : State → Out) → leaves_ins i ≡ true → after (exec_ins o enters low i s) go ≡ after (exec_ins o enters low i s) to
ins_stops o e low (leaf i) s go to h = leaf_stops o e i s go to h
ins_stops o e low i s go to h = absurd (true≢false (sym h))

-- code that was cut does what it did. The level below is asked for code that was cut too
module _ (o : Outline) (enters : ℕ → State → Out) (low : Level) where
  abbrev below : Level
  below job s = low (cut_job job) s

  rest_cut : (b : Bool) (i : Ins) (c : Code) (s : State) → leaves_ins i ≡ b → ((t : State) → exec o enters low (cut c) t ≡ exec o enters below c t) → after (exec_ins o enters below i s) (exec o enters low (cond b done (cut c))) ≡ after (exec_ins o enters below i s) (exec o enters below c)
  rest_cut true i c s h rest = ins_stops o enters below i s _ _ h
  rest_cut false i c s h rest = ap (after (exec_ins o enters below i s)) (λ j t. rest t j)

  loop_cut : (ty : Option FuncType) (c : Code) (go : State → Out) (s : State) → in_loop low ty (cut c) go s ≡ in_loop below ty c go s
  loop_cut ty c go s = refl

  mutual
    code_cut : (c : Code) (s : State) → exec o enters low (cut c) s ≡ exec o enters below c s
    code_cut done s = refl
    code_cut (next i c) s = ap (λ o'. after o' (exec o enters low (cond (leaves_ins i) done (cut c)))) (ins_cut i s) ∙ rest_cut (leaves_ins i) i c s refl (code_cut c)

    ins_cut : (i : Ins) (s : State) → exec_ins o enters low (cut_ins i) s ≡ exec_ins o enters below i s
    ins_cut (leaf i) s = refl
    ins_cut (block ty c) s = ap (λ go. in_block (block_type o.types ty) go s) (λ j t. code_cut c t j)
    ins_cut (loop ty c) s = ap (λ go. in_loop low (block_type o.types ty) (cut c) go s) (λ j t. code_cut c t j) ∙ loop_cut (block_type o.types ty) c (exec o enters below c) s
    ins_cut (choice ty c d) s = ap (λ y. pop 1 s (λ vs rest. chosen vs (in_block (block_type o.types ty) y) (in_block (block_type o.types ty) (exec o enters low (cut d))) (with_stack s rest))) (λ j t. code_cut c t j) ∙ ap (λ n. pop 1 s (λ vs rest. chosen vs (in_block (block_type o.types ty) (exec o enters below c)) (in_block (block_type o.types ty) n) (with_stack s rest))) (λ j t. code_cut d t j)
    ins_cut (try_table ty cs c) s = ap (λ go. caught cs (in_block (block_type o.types ty) go s)) (λ j t. code_cut c t j)

  -- a job of code that was cut
  job_cut : (job : Job) (s : State) → work o enters low (cut_job job) s ≡ work o enters below job s
  job_cut (run c) s = code_cut c s
  job_cut (turn p r c rest) s = ap (λ (go : State → Out). spend s (λ u. label r p rest (low (turn p r (cut c) rest)) (go u))) (λ j t. code_cut c t j)
  job_cut (enter f) s = refl
  job_cut (serve w) s = refl

-- the call of a function whose body was cut, over levels that are alike on code that was cut and on code that was not
module _ (o : Outline) (m : Module) (low top : Level) (cuts : (job : Job) (s : State) → low (cut_job job) s ≡ top job s) (stays : (job : Job) (s : State) → low job s ≡ top job s) where
  own_cut : (f : Option Func) (t : Option FuncType) (i : Option ℕ) (s : State) → enter_on o (cut_module m) low i (option_map cut_func f) t s ≡ enter_on o m top i f t s
  own_cut f (Some t) (Some i) s = ap (λ (l : Level). enter_on o m l (Some i) f (Some t) s) (λ j job u. stays job u j)
  own_cut f None (Some i) s = refl
  own_cut None t None s = refl
  own_cut (Some f) None None s = refl
  own_cut (Some f) (Some t) None s =
      ap (λ c. spend s (λ u. finish o m low (length t.results) (low (run c) (at u (map Some (reverse u.core.stack) ++ defaults f.locals) [])))) (list_kept f.body.code)
      ∙ ap (λ (go : State → Out). spend s (λ u. finish o m low (length t.results) (go (at u (map Some (reverse u.core.stack) ++ defaults f.locals) [])))) (λ j u. cuts (run (code_of f.body.code)) u j)
      ∙ ap (λ (l : Level). spend s (λ u. finish o m l (length t.results) (top (run (code_of f.body.code)) (at u (map Some (reverse u.core.stack) ++ defaults f.locals) [])))) (λ j job u. stays job u j)

  enter_cut : (f : ℕ) (s : State) → do_enter o (cut_module m) low f s ≡ do_enter o m top f s
  enter_cut f s = ap (λ g. enter_on o (cut_module m) low (slice_get (numbers is_func 0 o.imports) f) g (type_of_func o f) s) (slice_get-map cut_func m.funcs _) ∙ own_cut (own_func o m low f) (type_of_func o f) (slice_get (numbers is_func 0 o.imports) f) s

mutual
  level_cut : (o : Outline) (m : Module) (n : ℕ) (job : Job) (s : State) → level_over bottom o (cut_module m) n (cut_job job) s ≡ level_over bottom o m n job s
  level_cut o m zero job s = refl
  level_cut o m (suc n) job s =
      job_cut o (do_enter o (cut_module m) (level_over bottom o (cut_module m) n)) (level_over bottom o (cut_module m) n) job s
      ∙ ap (λ (l : Level). work o (do_enter o (cut_module m) (level_over bottom o (cut_module m) n)) l job s) (λ i j u. level_cut o m n j u i)
      ∙ ap (λ (e : ℕ → State → Out). work o e (level_over bottom o m n) job s) (λ i f u. enter_cut o m (level_over bottom o (cut_module m) n) (level_over bottom o m n) (level_cut o m n) (level_stays o m n) f u i)

  level_stays : (o : Outline) (m : Module) (n : ℕ) (job : Job) (s : State) → level_over bottom o (cut_module m) n job s ≡ level_over bottom o m n job s
  level_stays o m zero job s = refl
  level_stays o m (suc n) job s =
      ap (λ (l : Level). work o (do_enter o (cut_module m) (level_over bottom o (cut_module m) n)) l job s) (λ i j u. level_stays o m n j u i)
      ∙ ap (λ (e : ℕ → State → Out). work o e (level_over bottom o m n) job s) (λ i f u. enter_cut o m (level_over bottom o (cut_module m) n) (level_over bottom o m n) (level_cut o m n) (level_stays o m n) f u i)

-- a module whose levels are of an outline
abbrev played_in : Outline → Module → Script → ℕ → Out
played_in o m script n = begin o (do_enter o m (level_over bottom o m n)) (level_over bottom o m n) m script.opening (start script n)

played_cut : (o : Outline) (m : Module) (script : Script) (n : ℕ) → played_in o (cut_module m) script n ≡ played_in o m script n
played_cut o m script n =
    ap (λ (l : Level). begin o (do_enter o (cut_module m) (level_over bottom o (cut_module m) n)) l m script.opening (start script n)) (λ i j u. level_stays o m n j u i)
    ∙ ap (λ (e : ℕ → State → Out). begin o e (level_over bottom o m n) m script.opening (start script n)) (λ i f u. enter_cut o m (level_over bottom o (cut_module m) n) (level_over bottom o m n) (level_cut o m n) (level_stays o m n) f u i)

pub cut_is_same : (m : Module) → SameSteps m (cut_module m)
cut_is_same m = record {
  outside = record { imports = refl; exports = ap (λ o. map (seen_export o) m.exports) (sym (outline_cut m)) };
  traces = λ script n. ap (λ (p : Out). p.state.events) (sym (played_cut (outline m) m script n) ∙ ap (λ o. played_in o (cut_module m) script n) (sym (outline_cut m)));
}
