-- Typed code never lacks an operand, over levels and calls that never do.
use Rattle.std.proofs.Common.{ℕ, zero, suc, Bool, true, false, cond, List, [], ◌∷◌, ◌++◌, map, reverse, length, Option, Some, None, slice_get, nat_lt, nat_eq, ◌≡◌, refl, ap, ◌∙◌, sym, subst, true≢false, append-nil}
use Rattle.std.proofs.lemmas.List.{length-map, length-reverse, reverse-append}
use Rattle.std.proofs.lemmas.Option.{same_Some, none-some}
use Rattle.std.specs.List.{list_all}
use Rattle.gu_types.specs.declared.types.Abs.TheVariants as A
use Rattle.gu_types.specs.declared.types.HeapType.TheVariants as H
use Rattle.gu_types.specs.declared.types.RefType.{RefType}
use Rattle.gu_types.specs.declared.types.ValType.{ValType}
use Rattle.gu_types.specs.declared.types.ValType.TheVariants.{I32, I64, Ref}
use Rattle.gu_syntax.specs.declared.instr.Instr.{Instr}
use Rattle.gu_syntax.specs.declared.instr.Instr.TheVariants as I
use Rattle.gu_model.specs.Index.{FuncType, block_type}
use Rattle.gu_syntax.specs.declared.instr.BlockType.{BlockType}
use Rattle.gu_syntax.specs.declared.instr.BlockType.TheVariants as B
use Rattle.gu_syntax.specs.declared.instr.Catch.{Catch}
use Rattle.gu_syntax.specs.declared.instr.Catch.TheVariants as T
use Rattle.gu_syntax.specs.Code.{Ins, Code, leaf, block, loop, choice, try_table, done, next}
use Rattle.gu_model.specs.Outline.{Outline, type_of_tag}
use Rattle.gu_model.specs.Value.{Value, i32, exception, Store, Allocated, allocated, is_under}
use Rattle.gu_model.specs.Act.{act, do_act}
use Rattle.gu_model.specs.State.{spend, spend_from, Core, State, How, normal, branch, return, tail, thrown, trap, spent, over, wrong, foul, Out, out, with_stack, pop}
use Rattle.gu_model.specs.Control.{Level, turn, label, over_below, in_block, chosen, first_catch, caught, caught_on, is_tag_of, turned, in_loop, exec_leaf, exec, exec_ins, lift}
use Rattle.gu_model.specs.TypingContext.{Context, Around, ◌>>=◌, given, matches}
use Rattle.gu_model.specs.TypingShape.{ends_with, Kind, of, Nothing, Bot, Shape, push, pushes, pop_kind, pops, type_row}
use Rattle.gu_model.specs.TypingRows as R
use Rattle.gu_model.specs.TypingContext.{abs}
use Rattle.gu_model.specs.Typing.{inside, opened, type_code, type_ins, type_catch, reaches, tag_at, control_row, type_leaf, selected, same_number}
use Rattle.gu_model.proofs.GoodTypes.{GoodTypes}
use Rattle.gu_model.proofs.Has.{bind_some, Has, HasAll, HasKind, HasTop, all_append, all_length, all_reverse, takes, pop_goes, and_first, and_second}
use Rattle.gu_model.proofs.Stores.{there, StoreFits, Later, later_same}
use Rattle.gu_model.proofs.ActRows.{within_module, i32_one}
use Rattle.gu_model.proofs.ActNumbers.{asks}
use Rattle.gu_model.proofs.References.{GoodFuncs}
use Rattle.gu_model.proofs.Moments.{keeps_same, LocalsFit, Fits, Frame, Good, popped, row_good}
use Rattle.gu_model.proofs.Moments.{set_keeps, GoodHow, Inner, label_good, after_good}
use Rattle.gu_model.proofs.Leaves.{drop_good, get_good, set_good, tee_good, br_if_good, br_table_good, nop_row, select_row, plain_rows, pops_last, given_some, any_taken, did_good, stays, below_fits, with_below}
use Rattle.gu_model.specs.Value.{Identity, Exception}
use Rattle.gu_model.specs.TypingContext.{type_of_block, is_valid_val}
use Rattle.gu_model.proofs.Has.{all_more}
use Rattle.gu_model.proofs.Branches.{br_good, return_good, unreachable_good, throw_ref_good, is_null_good, as_non_null_good, on_null_good, on_non_null_good, on_cast_good, on_cast_fail_good, to_any_good, to_extern_good}
use Rattle.gu_model.proofs.CutValid.{ends_is, ends_then}
use Rattle.gu_model.proofs.Calls.{Arguments, arguments_of, GoodEnters, some_is, top_matches, throw_good, call_typed, call_ref_typed, call_indirect_typed, tail_typed, tail_ref_typed, tail_indirect_typed}

module _ (o : Outline) (good : GoodTypes o.types) (funcs : GoodFuncs o) (gs : List (ValType × Bool)) (ts es : List RefType) (segs : ℕ) (declared : List Bool) where
  abbrev K : Context
  K = within_module o gs ts es segs declared

  abbrev FitsOf : Around → Shape → Core → Type 0
  FitsOf a s c = Fits o good K a s c

  abbrev GoodOf : Around → Core → (Core → Type 0) → Out → Type 0
  GoodOf a b N p = Good o good K a b N p

  -- select without a type
  same_is : (al : Allocated) (j k r : Kind) (v w : Value) → selected j k ≡ Some r → HasKind o al j v → HasKind o al k w → (b : Bool) → HasKind o al r (cond b w v)
  same_is al Nothing k r v w q hv hw b = absurd hv
  same_is al Bot k r v w q hv hw b = absurd hv
  same_is al (of t) Nothing r v w q hv hw b = absurd hw
  same_is al (of t) Bot r v w q hv hw b = absurd hw
  same_is al (of t) (of u) r v w q hv hw b = subst (λ r. HasKind o al r (cond b w v)) (same_Some _ _ (given_some (same_number t u) (Some (of t)) r q).1) (pick b (numbers t u w (given_some (same_number t u) (Some (of t)) r q).0 hw))
    where
      numbers : (t u : ValType) (w : Value) → same_number t u ≡ true → Has o al u w → Has o al t w
      numbers I32 I32 w s h = h
      numbers I64 I64 w s h = h
      numbers I32 I64 w s h = absurd (true≢false (sym s))
      numbers I32 (Ref r) w s h = absurd (true≢false (sym s))
      numbers I64 I32 w s h = absurd (true≢false (sym s))
      numbers I64 (Ref r) w s h = absurd (true≢false (sym s))
      numbers (Ref r) u w s h = absurd (true≢false (sym s))

      pick : (b : Bool) → Has o al t w → Has o al t (cond b w v)
      pick true h = h
      pick false h = hv

  select_good : (a : Around) (st : State) (s e : Shape) → type_leaf K a I.Select s ≡ Some e → FitsOf a s st.core → StoreFits o K st.core.store → GoodOf a st.core (FitsOf a e) (pop 3 st (λ vs below. lift st below (do_act o I.Select st.core.locals st.core.store vs)))
  unfolding do_act
  select_good a st s e h f sf =
      let b = bind_some (pops o.types (I32 ∷ []) s) (λ t. pop_kind t (λ k u. pop_kind u (λ j v. selected j k >>= λ r. push r v))) e h in
      let t = takes o good (allocated st.core.store) (I32 ∷ []) st.core.stack s b.mid b.first f.reached f.stack in
      i32_one o (allocated st.core.store) (λ g. t.given ≡ g → GoodOf a st.core (FitsOf a e) (pop 3 st (λ vs below. lift st below (act o I.Select st.core.locals st.core.store vs)))) t.given t.has (λ n z.
      let f1 = below_fits o good funcs gs ts es segs declared a s b.mid st t.below f t.rest t.reached t.set in
      any_taken o good funcs gs ts es segs declared a b.mid e (with_stack st t.below).core (λ k u. pop_kind u (λ j v. selected j k >>= λ r. push r v)) b.then f1 (λ k u q w.
      let f2 = below_fits o good funcs gs ts es segs declared a b.mid u (with_stack st t.below) w.below f1 w.rest w.reached w.set in
      any_taken o good funcs gs ts es segs declared a u e (with_stack st w.below).core (λ j v. selected j k >>= λ r. push r v) q f2 (λ j v q' x.
      let c = bind_some (selected j k) (λ r. push r v) e q' in
      let y = same_Some _ _ c.then in
      subst (GoodOf a st.core (FitsOf a e)) (sym (pop_goes 3 st (i32 n ∷ w.value ∷ x.value ∷ []) x.below (λ vs below. lift st below (act o I.Select st.core.locals st.core.store vs)) (t.split ∙ ap (λ g. g ++ t.below) z ∙ ap (λ l. i32 n ∷ l) (w.split ∙ ap (λ l. w.value ∷ l) x.split)) refl))
      (did_good o good funcs gs ts es segs declared a s e st (cond (nat_eq n 0) w.value x.value ∷ []) x.below sf f (subst (λ (y : Shape). HasAll o (allocated st.core.store) (cond (nat_eq n 0) w.value x.value ∷ x.below) y.types) y (same_is (allocated st.core.store) j k c.mid x.value w.value c.first x.has w.has (nat_eq n 0), x.rest)) (subst (λ (y : Shape). y.any ≡ false) y x.reached) (ap (λ (y : Shape). y.set) (sym y) ∙ x.set ∙ w.set ∙ t.set))))) refl

  -- a block's type is one that validation lets through
  block_of : (ty : BlockType) (t : FuncType) → type_of_block o.types ty ≡ Some t → block_type o.types ty ≡ Some t
  block_of B.Empty t h = h
  block_of (B.Val u) t h = (given_some (is_valid_val o.types u) (block_type o.types (B.Val u)) t h).1
  block_of (B.Idx x) t h = h

  -- what is asked of the levels below and of questions
  pub record GoodTurns (low : Level) : Type 0 where
    pub goes_on : (a : Around) (t : FuncType) (c : Code) (u e : Shape) (below : List Value) (st : State) → ends_with o.types t.results (type_code K (inside a t.params) c (opened t.params u)) (pushes t.results u) ≡ Some e → HasTop o (allocated st.core.store) st.core.stack t.params → LocalsFit o good K (allocated st.core.store) st.core.locals a.locals → Inner o good K a st.core t.params t.results u below → StoreFits o K st.core.store → GoodOf a st.core (FitsOf a e) (low (turn (length t.params) (length t.results) c below) st)

  pub record GoodAsks (enters : ℕ → State → Out) : Type 0 where
    pub asked : (a : Around) (i : Instr) (st : State) (s e : Shape) → asks i ≡ true → type_leaf K a i s ≡ Some e → FitsOf a s st.core → StoreFits o K st.core.store → GoodOf a st.core (FitsOf a e) (exec_leaf o enters i st)

  spend_from_good : (a : Around) (n : ℕ) (st : State) (N : Core → Type 0) (go : State → Out) → StoreFits o K st.core.store → ((m : ℕ) → GoodOf a st.core N (go (record st { steps = m }))) → GoodOf a st.core N (spend_from n st go)
  spend_from_good a zero st N go sf g = record { later = later_same o K st.core.store sf; is = tt }
  spend_from_good a (suc n) st N go sf g = g n

  pub spend_good : (a : Around) (st : State) (N : Core → Type 0) (go : State → Out) → StoreFits o K st.core.store → ((m : ℕ) → GoodOf a st.core N (go (record st { steps = m }))) → GoodOf a st.core N (spend st go)
  unfolding spend
  spend_good a st N go sf g = spend_from_good a st.steps st N go sf g

  module _ (enters : ℕ → State → Out) (ge : GoodEnters o good funcs gs ts es segs declared enters) (ask : GoodAsks enters) where
    leaf_good : (a : Around) (i : Instr) (st : State) (s e : Shape) → type_leaf K a i s ≡ Some e → FitsOf a s st.core → StoreFits o K st.core.store → GoodOf a st.core (FitsOf a e) (exec_leaf o enters i st)
    leaf_good a I.Unreachable st s e h f sf = unreachable_good o good funcs gs ts es segs declared a st (FitsOf a e) sf
    leaf_good a I.Nop st s e h f sf = row_good o good K a I.Nop (Some (R.goes [] [])) st s e (nop_row o good funcs gs ts es segs declared) h f sf
    leaf_good a I.Drop st s e h f sf = drop_good o good funcs gs ts es segs declared a st s e h f sf
    leaf_good a I.Select st s e h f sf = select_good a st s e h f sf
    leaf_good a (I.SelectOf []) st s e h f sf = absurd (none-some e h)
    leaf_good a (I.SelectOf (t ∷ [])) st s e h f sf = by (is_valid_val o.types t) h
      where
        by : (b : Bool) → type_row o.types (given b (Some (R.goes (t ∷ t ∷ I32 ∷ []) (t ∷ [])))) s ≡ Some e → GoodOf a st.core (FitsOf a e) (exec_leaf o enters (I.SelectOf (t ∷ [])) st)
        by true h = row_good o good K a (I.SelectOf (t ∷ [])) (Some (R.goes (t ∷ t ∷ I32 ∷ []) (t ∷ []))) st s e (select_row o good funcs gs ts es segs declared t) h f sf
        by false h = absurd (none-some e h)
    leaf_good a (I.SelectOf (t ∷ u ∷ us)) st s e h f sf = absurd (none-some e h)
    leaf_good a (I.LocalGet x) st s e h f sf = get_good o good funcs gs ts es segs declared a x st s e h f sf
    leaf_good a (I.LocalSet x) st s e h f sf = set_good o good funcs gs ts es segs declared a x st s e h f sf
    leaf_good a (I.LocalTee x) st s e h f sf = tee_good o good funcs gs ts es segs declared a x st s e h f sf
    leaf_good a I.RefIsNull st s e h f sf = is_null_good o good funcs gs ts es segs declared a st s e h f sf
    leaf_good a I.RefAsNonNull st s e h f sf = as_non_null_good o good funcs gs ts es segs declared a st s e h f sf
    leaf_good a I.AnyConvertExtern st s e h f sf = to_any_good o good funcs gs ts es segs declared a st s e h f sf
    leaf_good a I.ExternConvertAny st s e h f sf = to_extern_good o good funcs gs ts es segs declared a st s e h f sf
    leaf_good a (I.Br k) st s e h f sf = br_good o good funcs gs ts es segs declared a k st s e h f sf
    leaf_good a (I.BrIf k) st s e h f sf = br_if_good o good funcs gs ts es segs declared a k st s e h f sf
    leaf_good a (I.BrTable table) st s e h f sf = br_table_good o good funcs gs ts es segs declared a table st s e h f sf
    leaf_good a (I.BrOnNull k) st s e h f sf = on_null_good o good funcs gs ts es segs declared a k st s e h f sf
    leaf_good a (I.BrOnNonNull k) st s e h f sf = on_non_null_good o good funcs gs ts es segs declared a k st s e h f sf
    leaf_good a (I.BrOnCast arg) st s e h f sf = on_cast_good o good funcs gs ts es segs declared a arg st s e h f sf
    leaf_good a (I.BrOnCastFail arg) st s e h f sf = on_cast_fail_good o good funcs gs ts es segs declared a arg st s e h f sf
    leaf_good a I.Return st s e h f sf = return_good o good funcs gs ts es segs declared a st s e h f sf
    leaf_good a (I.Call x) st s e h f sf = call_typed o good funcs gs ts es segs declared enters ge a x st s e h f sf
    leaf_good a (I.CallRef x) st s e h f sf = call_ref_typed o good funcs gs ts es segs declared enters ge a x st s e h f sf
    leaf_good a (I.CallIndirect x y) st s e h f sf = call_indirect_typed o good funcs gs ts es segs declared enters ge a x y st s e h f sf
    leaf_good a (I.ReturnCall x) st s e h f sf = tail_typed o good funcs gs ts es segs declared a x st s e h f sf
    leaf_good a (I.ReturnCallRef x) st s e h f sf = tail_ref_typed o good funcs gs ts es segs declared a x st s e h f sf
    leaf_good a (I.ReturnCallIndirect x y) st s e h f sf = tail_indirect_typed o good funcs gs ts es segs declared a x y st s e h f sf
    leaf_good a (I.Throw x) st s e h f sf = throw_good o good funcs gs ts es segs declared a x st s e h f sf
    leaf_good a I.ThrowRef st s e h f sf = throw_ref_good o good funcs gs ts es segs declared a st s e h f sf
    leaf_good a (I.MemoryGrow x) st s e h f sf = ask.asked a (I.MemoryGrow x) st s e refl h f sf
    leaf_good a (I.TableGrow x) st s e h f sf = ask.asked a (I.TableGrow x) st s e refl h f sf
    leaf_good a i st s e h f sf = row_good o good K a i (control_row K a i) st s e (plain_rows o good funcs gs ts es segs declared i refl) h f sf

  -- blocks

  opened_fits : (a : Around) (lbl : List ValType) (us : List ValType) (u : Shape) (st : State) (g : Arguments o good funcs gs ts es segs declared st a us u) → FitsOf (inside a lbl) (opened us u) (with_stack st g.given).core
  opened_fits a lbl us u st g = record { reached = refl; stack = g.has; locals = g.locals; set = g.set }

  inner_of : (a : Around) (lbl rs us : List ValType) (u : Shape) (st : State) (g : Arguments o good funcs gs ts es segs declared st a us u) → Inner o good K a (with_stack st g.given).core lbl rs u g.below
  inner_of a lbl rs us u st g = record { rest = g.rest; reached = g.reached; set = g.set }

  results_are : (rs : List ValType) (q : Option Shape) (u e : Shape) → ends_with o.types rs q (pushes rs u) ≡ Some e → record u { types = map of (reverse rs) ++ u.types } ≡ e
  results_are rs q u e h = same_Some _ _ (ends_is K rs q (pushes rs u) e h)

  in_block_good : (a : Around) (p : Option FuncType) (t : FuncType) (st : State) (u e : Shape) (q : Option Shape) (go : State → Out) → p ≡ Some t → (g : Arguments o good funcs gs ts es segs declared st a t.params u) → ends_with o.types t.results q (pushes t.results u) ≡ Some e → StoreFits o K st.core.store → ((x : Shape) → q ≡ Some x → GoodOf (inside a t.results) (with_stack st g.given).core (FitsOf (inside a t.results) x) (go (with_stack st g.given))) → GoodOf a st.core (FitsOf a e) (in_block p go st)
  in_block_good a p t st u e q go z g h sf k =
      subst (GoodOf a st.core (FitsOf a e)) (sym (some_is o good funcs gs ts es segs declared p st _ t z ∙ pop_goes (length t.params) st g.given g.below (λ vs below. label (length t.results) (length t.results) below (over_below below) (go (with_stack st vs))) g.split (all_length o (allocated st.core.store) g.given (map of (reverse t.params)) g.has ∙ length-map (reverse t.params) of ∙ length-reverse t.params)))
      (with_below o good funcs gs ts es segs declared a st (FitsOf a e) g.given _ (label_good o good K a (with_stack st g.given).core t.results t.results u e g.below (over_below g.below) q (go (with_stack st g.given)) (inner_of a t.results t.results t.params u st g) h k
      (λ v hv vf fr gr. record { later = later_same o K v.core.store vf; is = record { is = subst (λ e. FitsOf a e (with_stack v (v.core.stack ++ g.below)).core) (results_are t.results q u e h) (record { reached = g.reached; stack = all_append o (allocated v.core.store) v.core.stack g.below (map of (reverse t.results)) u.types hv (all_more o (allocated st.core.store) (allocated v.core.store) g.below u.types gr g.rest); locals = fr.locals; set = set_keeps st.core.locals v.core.locals u.set fr.keeps g.set }); frame = record { locals = fr.locals; keeps = keeps_same v.core.locals } } })))

  pub turned_good : (low : Level) (tg : GoodTurns low) (a : Around) (t : FuncType) (c : Code) (u e : Shape) (below : List Value) (st : State) (go : State → Out) → ends_with o.types t.results (type_code K (inside a t.params) c (opened t.params u)) (pushes t.results u) ≡ Some e → Inner o good K a st.core t.params t.results u below → StoreFits o K st.core.store → ((x : Shape) (m : ℕ) → type_code K (inside a t.params) c (opened t.params u) ≡ Some x → GoodOf (inside a t.params) st.core (FitsOf (inside a t.params) x) (go (record st { steps = m }))) → GoodOf a st.core (FitsOf a e) (turned low (length t.params) (length t.results) c below go st)
  turned_good low tg a t c u e below st go h inner sf k = spend_good a st (FitsOf a e) _ sf (λ m. label_good o good K a st.core t.params t.results u e below (low (turn (length t.params) (length t.results) c below)) (type_code K (inside a t.params) c (opened t.params u)) (go (record st { steps = m })) inner h (λ x. k x m) (λ v hv vf fr gr. tg.goes_on a t c u e below v h hv fr.locals (record { rest = all_more o (allocated st.core.store) (allocated v.core.store) below u.types gr inner.rest; reached = inner.reached; set = set_keeps st.core.locals v.core.locals u.set fr.keeps inner.set }) vf))

  in_loop_good : (low : Level) (tg : GoodTurns low) (a : Around) (p : Option FuncType) (t : FuncType) (c : Code) (st : State) (u e : Shape) (go : State → Out) → p ≡ Some t → (g : Arguments o good funcs gs ts es segs declared st a t.params u) → ends_with o.types t.results (type_code K (inside a t.params) c (opened t.params u)) (pushes t.results u) ≡ Some e → StoreFits o K st.core.store → ((x : Shape) (m : ℕ) → type_code K (inside a t.params) c (opened t.params u) ≡ Some x → GoodOf (inside a t.params) (with_stack st g.given).core (FitsOf (inside a t.params) x) (go (record (with_stack st g.given) { steps = m }))) → GoodOf a st.core (FitsOf a e) (in_loop low p c go st)
  in_loop_good low tg a p t c st u e go z g h sf k =
      subst (GoodOf a st.core (FitsOf a e)) (sym (some_is o good funcs gs ts es segs declared p st _ t z ∙ pop_goes (length t.params) st g.given g.below (λ vs below. turned low (length t.params) (length t.results) c below go (with_stack st vs)) g.split (all_length o (allocated st.core.store) g.given (map of (reverse t.params)) g.has ∙ length-map (reverse t.params) of ∙ length-reverse t.params)))
      (with_below o good funcs gs ts es segs declared a st (FitsOf a e) g.given _ (turned_good low tg a t c u e g.below (with_stack st g.given) go h (inner_of a t.params t.results t.params u st g) sf k))

  -- try_table

  -- a clause's label takes what it gives
  record Reached (a : Around) (l : ℕ) (us : List ValType) : Type 0 where
    types : List ValType
    found : slice_get a.labels l ≡ Some types
    matched : matches o.types us types ≡ true

  reached_is : (a : Around) (l : ℕ) (us : List ValType) → reaches K a (Some (l, us)) ≡ true → Reached a l us
  reached_is a l us h = by (slice_get a.labels l) refl h
    where
      by : (p : Option (List ValType)) → slice_get a.labels l ≡ p → elim p as (λ _. Bool) [ None ↦ false | Some ws ↦ matches o.types us ws ] ≡ true → Reached a l us
      by None q z = absurd (true≢false (sym z))
      by (Some ws) q z = record { types = ws; found = q; matched = z }

  -- a branch of a clause
  clause_good : (a : Around) (b : Core) (l : ℕ) (us : List ValType) (N : Core → Type 0) (st : State) (vs : List Value) → Later o K b.store st.core.store → Frame o good K a b st.core → Reached a l us → HasTop o (allocated st.core.store) vs us → GoodOf a b N (out (branch l) (with_stack st vs))
  clause_good a b l us N st vs la fr r h = record { later = la; is = record { types = r.types; found = r.found; top = record { top = vs; rest = []; split = sym (append-nil vs); has = top_matches o good funcs gs ts es segs declared (allocated st.core.store) vs us r.types r.matched h }; frame = record { locals = fr.locals; keeps = fr.keeps } } }

  exception_has : (st : Store) (x : ℕ) → nat_lt x (length st.exceptions) ≡ true → Has o (allocated st) (abs A.Exn) (exception x)
  exception_has st x h = ap (λ b. is_under o (H.Abs A.Exn) (cond b (Some (H.Abs A.Exn)) None)) h ∙ good.itself (H.Abs A.Exn)

  -- the arguments of an exception, by a tag that is its tag
  tagged_has : (st : Store) (sf : StoreFits o K st) (x : ℕ) (y : Exception) (t : ℕ) (f : FuncType) → slice_get st.exceptions x ≡ Some y → type_of_tag o t ≡ Some f → is_tag_of (slice_get st.tags t) y.tag ≡ true → HasTop o (allocated st) (reverse y.arguments) f.params
  tagged_has st sf x y t f q ft h = by (slice_get st.tags t) refl h
    where
      by : (p : Option Identity) → slice_get st.tags t ≡ p → is_tag_of p y.tag ≡ true → HasTop o (allocated st) (reverse y.arguments) f.params
      by None z h = absurd (true≢false (sym h))
      by (Some id) z h = all_reverse o (allocated st) y.arguments f.params ((sf.exceptions x y q).hold t id f z h ft)

  module _ (a : Around) (b : Core) (N : Core → Type 0) (x : ℕ) (y : Exception) (st : State) (sf : StoreFits o K st.core.store) (la : Later o K b.store st.core.store) (fr : Frame o good K a b st.core) (q : slice_get st.core.store.exceptions x ≡ Some y) (l : nat_lt x (length st.core.store.exceptions) ≡ true) where
    -- a clause that names a tag, and one that wants the reference besides
    tag_clause : (t k : ℕ) (rest : List Catch) → reaches K a (tag_at K t >>= λ f. Some (k, f.params)) ≡ true → GoodOf a b N (first_catch rest x y st) → GoodOf a b N (first_catch (T.One t k ∷ rest) x y st)
    tag_clause t k rest h r = by (type_of_tag o t) refl h
      where
        on : (f : FuncType) → type_of_tag o t ≡ Some f → reaches K a (Some (k, f.params)) ≡ true → (c : Bool) → is_tag_of (slice_get st.core.store.tags t) y.tag ≡ c → GoodOf a b N (cond c (out (branch k) (with_stack st (reverse y.arguments))) (first_catch rest x y st))
        on f z h true e = clause_good a b k f.params N st (reverse y.arguments) la fr (reached_is a k f.params h) (tagged_has st.core.store sf x y t f q z e)
        on f z h false e = r

        by : (p : Option FuncType) → type_of_tag o t ≡ p → reaches K a (p >>= λ f. Some (k, f.params)) ≡ true → GoodOf a b N (first_catch (T.One t k ∷ rest) x y st)
        by None z h = absurd (true≢false (sym h))
        by (Some f) z h = on f z h (is_tag_of (slice_get st.core.store.tags t) y.tag) refl

    tag_ref_clause : (t k : ℕ) (rest : List Catch) → reaches K a (tag_at K t >>= λ f. Some (k, f.params ++ abs A.Exn ∷ [])) ≡ true → GoodOf a b N (first_catch rest x y st) → GoodOf a b N (first_catch (T.OneRef t k ∷ rest) x y st)
    tag_ref_clause t k rest h r = by (type_of_tag o t) refl h
      where
        on : (f : FuncType) → type_of_tag o t ≡ Some f → reaches K a (Some (k, f.params ++ abs A.Exn ∷ [])) ≡ true → (c : Bool) → is_tag_of (slice_get st.core.store.tags t) y.tag ≡ c → GoodOf a b N (cond c (out (branch k) (with_stack st (exception x ∷ reverse y.arguments))) (first_catch rest x y st))
        on f z h true e = clause_good a b k (f.params ++ abs A.Exn ∷ []) N st (exception x ∷ reverse y.arguments) la fr (reached_is a k (f.params ++ abs A.Exn ∷ []) h) (subst (λ us. HasAll o (allocated st.core.store) (exception x ∷ reverse y.arguments) (map of us)) (sym (reverse-append f.params (abs A.Exn ∷ []))) (exception_has st.core.store x l, tagged_has st.core.store sf x y t f q z e))
        on f z h false e = r

        by : (p : Option FuncType) → type_of_tag o t ≡ p → reaches K a (p >>= λ f. Some (k, f.params ++ abs A.Exn ∷ [])) ≡ true → GoodOf a b N (first_catch (T.OneRef t k ∷ rest) x y st)
        by None z h = absurd (true≢false (sym h))
        by (Some f) z h = on f z h (is_tag_of (slice_get st.core.store.tags t) y.tag) refl

    first_catch_good : (cs : List Catch) → list_all (type_catch K a) cs ≡ true → GoodOf a b N (first_catch cs x y st)
    first_catch_good [] h = record { later = la; is = record { there = l; frame = record { locals = fr.locals; keeps = fr.keeps } } }
    first_catch_good (T.One t k ∷ cs) h = tag_clause t k cs (and_first (type_catch K a (T.One t k)) _ h) (first_catch_good cs (and_second (type_catch K a (T.One t k)) _ h))
    first_catch_good (T.OneRef t k ∷ cs) h = tag_ref_clause t k cs (and_first (type_catch K a (T.OneRef t k)) _ h) (first_catch_good cs (and_second (type_catch K a (T.OneRef t k)) _ h))
    first_catch_good (T.All k ∷ cs) h = clause_good a b k [] N st [] la fr (reached_is a k [] (and_first (type_catch K a (T.All k)) _ h)) tt
    first_catch_good (T.AllRef k ∷ cs) h = clause_good a b k (abs A.Exn ∷ []) N st (exception x ∷ []) la fr (reached_is a k (abs A.Exn ∷ []) (and_first (type_catch K a (T.AllRef k)) _ h)) (exception_has st.core.store x l, tt)

  -- the end of a try_table
  caught_good : (a : Around) (b : Core) (N : Core → Type 0) (cs : List Catch) (p : Out) → list_all (type_catch K a) cs ≡ true → GoodOf a b N p → GoodOf a b N (caught cs p)
  caught_good a b N cs p h g = by p.how p.state g.later g.is
    where
      by : (w : How) (v : State) → Later o K b.store v.core.store → GoodHow o good K a b N w v.core → GoodOf a b N (caught_on cs w v)
      by (thrown x) v l i = let e = there v.core.store.exceptions (length v.core.store.exceptions) x refl i.there in subst (GoodOf a b N) (sym (some_is o good funcs gs ts es segs declared (slice_get v.core.store.exceptions x) v (λ y. first_catch cs x y v) e.0 e.1)) (first_catch_good a b N x e.0 v l.fits l i.frame e.1 i.there cs h)
      by normal v l i = record { later = l; is = i }
      by (branch j) v l i = record { later = l; is = i }
      by return v l i = record { later = l; is = i }
      by (tail f) v l i = record { later = l; is = i }
      by wrong v l i = absurd i
      by trap v l i = record { later = l; is = tt }
      by spent v l i = record { later = l; is = tt }
      by over v l i = record { later = l; is = tt }
      by foul v l i = record { later = l; is = tt }

  module _ (enters : ℕ → State → Out) (ge : GoodEnters o good funcs gs ts es segs declared enters) (ask : GoodAsks enters) (low : Level) (tg : GoodTurns low) where
    chosen_good : (a : Around) (N : Core → Type 0) (n : ℕ) (y z : State → Out) (st : State) → GoodOf a st.core N (y st) → GoodOf a st.core N (z st) → GoodOf a st.core N (chosen (i32 n ∷ []) y z st)
    chosen_good a N zero y z st p q = q
    chosen_good a N (suc n) y z st p q = p

    mutual
      -- typed code
      pub code_good : (a : Around) (c : Code) (st : State) (s e : Shape) → type_code K a c s ≡ Some e → FitsOf a s st.core → StoreFits o K st.core.store → GoodOf a st.core (FitsOf a e) (exec o enters low c st)
      code_good a done st s e h f sf = subst (λ e. GoodOf a st.core (FitsOf a e) (out normal st)) (same_Some _ _ h) (stays o good funcs gs ts es segs declared a s st f sf)
      code_good a (next i c) st s e h f sf = let b = bind_some (type_ins K a i s) (type_code K a c) e h in after_good o good K a st.core (FitsOf a b.mid) (FitsOf a e) (exec_ins o enters low i st) (exec o enters low c) (ins_good a i st s b.mid b.first f sf) (λ u g ug ul. code_good a c u b.mid e b.then g ug)

      ins_good : (a : Around) (i : Ins) (st : State) (s e : Shape) → type_ins K a i s ≡ Some e → FitsOf a s st.core → StoreFits o K st.core.store → GoodOf a st.core (FitsOf a e) (exec_ins o enters low i st)
      ins_good a (leaf i) st s e h f sf = leaf_good enters ge ask a i st s e h f sf
      ins_good a (block ty c) st s e h f sf =
          let t = bind_some (type_of_block o.types ty) _ e h in
          let u = bind_some (pops o.types t.mid.params s) _ e t.then in
          let g = arguments_of o good funcs gs ts es segs declared a t.mid.params s u.mid st u.first f in
          in_block_good a (block_type o.types ty) t.mid st u.mid e (type_code K (inside a t.mid.results) c (opened t.mid.params u.mid)) (exec o enters low c) (block_of ty t.mid t.first) g u.then sf (λ x z. code_good (inside a t.mid.results) c (with_stack st g.given) (opened t.mid.params u.mid) x z (opened_fits a t.mid.results t.mid.params u.mid st g) sf)
      ins_good a (loop ty c) st s e h f sf =
          let t = bind_some (type_of_block o.types ty) _ e h in
          let u = bind_some (pops o.types t.mid.params s) _ e t.then in
          let g = arguments_of o good funcs gs ts es segs declared a t.mid.params s u.mid st u.first f in
          in_loop_good low tg a (block_type o.types ty) t.mid c st u.mid e (exec o enters low c) (block_of ty t.mid t.first) g u.then sf (λ x m z. code_good (inside a t.mid.params) c (record (with_stack st g.given) { steps = m }) (opened t.mid.params u.mid) x z (opened_fits a t.mid.params t.mid.params u.mid st g) sf)
      ins_good a (choice ty c d) st s e h f sf =
          let t = bind_some (type_of_block o.types ty) _ e h in
          let u = bind_some (pops o.types (t.mid.params ++ I32 ∷ []) s) _ e t.then in
          let m = pops_last o good funcs gs ts es segs declared t.mid.params I32 s u.mid u.first in
          popped o good K a st.core (FitsOf a e) (I32 ∷ []) 1 st s m.0 _ refl m.1 f (λ vs below split hv hb r set.
          i32_one o (allocated st.core.store) (λ vs. GoodOf a st.core (FitsOf a e) (chosen vs (in_block (block_type o.types ty) (exec o enters low c)) (in_block (block_type o.types ty) (exec o enters low d)) (with_stack st below))) vs hv (λ n.
          let w = below_fits o good funcs gs ts es segs declared a s m.0 st below f hb r set in
          let g = arguments_of o good funcs gs ts es segs declared a t.mid.params m.0 u.mid (with_stack st below) m.2 w in
          let inner = ends_is K t.mid.results (type_code K (inside a t.mid.results) c (opened t.mid.params u.mid)) (ends_with o.types t.mid.results (type_code K (inside a t.mid.results) d (opened t.mid.params u.mid)) (pushes t.mid.results u.mid)) e u.then in
          let last = ends_is K t.mid.results (type_code K (inside a t.mid.results) d (opened t.mid.params u.mid)) (pushes t.mid.results u.mid) e inner in
          with_below o good funcs gs ts es segs declared a st (FitsOf a e) below _ (chosen_good a (FitsOf a e) n (in_block (block_type o.types ty) (exec o enters low c)) (in_block (block_type o.types ty) (exec o enters low d)) (with_stack st below)
          (in_block_good a (block_type o.types ty) t.mid (with_stack st below) u.mid e (type_code K (inside a t.mid.results) c (opened t.mid.params u.mid)) (exec o enters low c) (block_of ty t.mid t.first) g (ends_then K t.mid.results (type_code K (inside a t.mid.results) c (opened t.mid.params u.mid)) _ (pushes t.mid.results u.mid) e (λ z. last) u.then) sf (λ x z. code_good (inside a t.mid.results) c (with_stack (with_stack st below) g.given) (opened t.mid.params u.mid) x z (opened_fits a t.mid.results t.mid.params u.mid (with_stack st below) g) sf))
          (in_block_good a (block_type o.types ty) t.mid (with_stack st below) u.mid e (type_code K (inside a t.mid.results) d (opened t.mid.params u.mid)) (exec o enters low d) (block_of ty t.mid t.first) g inner sf (λ x z. code_good (inside a t.mid.results) d (with_stack (with_stack st below) g.given) (opened t.mid.params u.mid) x z (opened_fits a t.mid.results t.mid.params u.mid (with_stack st below) g) sf)))))
      ins_good a (try_table ty cs c) st s e h f sf =
          let t = bind_some (type_of_block o.types ty) _ e h in
          let l = given_some (list_all (type_catch K a) cs) (pops o.types t.mid.params s >>= λ u. ends_with o.types t.mid.results (type_code K (inside a t.mid.results) c (opened t.mid.params u)) (pushes t.mid.results u)) e t.then in
          let u = bind_some (pops o.types t.mid.params s) _ e l.1 in
          let g = arguments_of o good funcs gs ts es segs declared a t.mid.params s u.mid st u.first f in
          caught_good a st.core (FitsOf a e) cs (in_block (block_type o.types ty) (exec o enters low c) st) l.0 (in_block_good a (block_type o.types ty) t.mid st u.mid e (type_code K (inside a t.mid.results) c (opened t.mid.params u.mid)) (exec o enters low c) (block_of ty t.mid t.first) g u.then sf (λ x z. code_good (inside a t.mid.results) c (with_stack st g.given) (opened t.mid.params u.mid) x z (opened_fits a t.mid.results t.mid.params u.mid st g) sf))
