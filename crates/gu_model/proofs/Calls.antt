-- Calls, tail calls and new exceptions go on as they are typed, where the call of a function does.
use Rattle.std.proofs.Common.{ℕ, zero, suc, ◌+◌, Bool, true, false, cond, not, ◌&&◌, ◌||◌, List, [], ◌∷◌, ◌++◌, map, reverse, length, Option, Some, None, slice_get, nat_lt, ◌≡◌, refl, ap, ◌∙◌, sym, subst, true≢false, append-nil, arith}
use Rattle.std.proofs.lemmas.List.{length-map, length-reverse, reverse-reverse, length-append}
use Rattle.std.proofs.lemmas.Option.{same_Some, none-some, slice_get_within}
use Rattle.gu_types.specs.declared.types.Abs.TheVariants as A
use Rattle.gu_types.specs.declared.types.HeapType.TheVariants as H
use Rattle.gu_types.specs.declared.types.RefType.{RefType}
use Rattle.gu_types.specs.declared.types.ValType.{ValType}
use Rattle.gu_types.specs.declared.types.ValType.TheVariants.{I32, I64, Ref}
use Rattle.gu_rec.specs.Sub.{is_sub, line, is_sub_ref, is_sub_val}
use Rattle.gu_syntax.specs.declared.instr.Instr.TheVariants as I
use Rattle.gu_model.specs.Index.{FuncType, func_type}
use Rattle.gu_model.specs.Outline.{Outline, type_of_func, type_of_tag}
use Rattle.gu_model.specs.Value.{Value, null, function, Store, Allocated, allocated, fits_ref}
use Rattle.gu_model.specs.State.{Core, State, How, normal, branch, return, tail, thrown, trap, spent, over, wrong, foul, Out, out, at, with_stack, trapped, pop, with_some, with_on}
use Rattle.gu_model.specs.Control.{callee, none, other, called, callee_of, by_reference, entry_named, entry_in, by_index, do_tail, do_throw, do_call, back, back_on, raise}
use Rattle.gu_model.specs.TypingContext.{Context, Around, ◌>>=◌, given, matches}
use Rattle.gu_model.specs.TypingShape.{Kind, of, Nothing, Bot, Shape, non_null, push, pushes, pop_kind, pop_kind_on, pop_on, pops, pops_down, type_row}
use Rattle.gu_model.specs.TypingShape as Y
use Rattle.gu_model.specs.TypingRows as R
use Rattle.gu_model.specs.TypingContext.{abs_or_null}
use Rattle.gu_model.specs.Typing.{func_at, calls, tail_calls, indirect, type_leaf}
use Rattle.gu_model.proofs.GoodTypes.{GoodTypes}
use Rattle.gu_model.proofs.Has.{bind_some, Grown, HasAll, HasTop, all_append, all_length, all_back, all_reverse, all_matches, takes, pop_goes, and_first, and_second}
use Rattle.gu_model.proofs.Stores.{there, StoreFits, Later, later_same, ExceptionFits, refs_at, each_get, globals_more, refs_more, struct_more, array_more, exception_more}
use Rattle.gu_model.proofs.ActRows.{within_module, one_is, i32_one}
use Rattle.gu_model.proofs.References.{GoodFuncs}
use Rattle.gu_model.proofs.Moments.{IsSet, keeps_same, LocalsFit, Fits, Good, popped}
use Rattle.gu_model.proofs.References.{function_is, reference_cases, root_false, struct_kind, array_kind}
use Rattle.gu_model.proofs.Moments.{locals_more}
use Rattle.gu_model.proofs.Leaves.{pops_last, given_some, below_fits, with_below}
use Rattle.gu_model.specs.Value.{Identity, Exception}
use Rattle.gu_model.specs.TypingContext.{idx_or_null}
use Rattle.gu_model.proofs.Has.{all_more, ref_sub}

module _ (o : Outline) (good : GoodTypes o.types) (funcs : GoodFuncs o) (gs : List (ValType × Bool)) (ts es : List RefType) (segs : ℕ) (declared : List Bool) where
  abbrev K : Context
  K = within_module o gs ts es segs declared

  abbrev FitsOf : Around → Shape → Core → Type 0
  FitsOf a s c = Fits o good K a s c

  abbrev GoodOf : Around → Core → (Core → Type 0) → Out → Type 0
  GoodOf a b N p = Good o good K a b N p

  -- how a call, or the moves that come, may end: with results of types, where there may be any
  abbrev pub EndHow : Option (List ValType) → How → Core → Type 0
  EndHow (Some us) normal c = HasTop o (allocated c.store) c.stack us
  EndHow None normal c = ⊥
  EndHow w (branch k) c = ⊥
  EndHow w return c = ⊥
  EndHow w (tail f) c = ⊥
  EndHow w (thrown x) c = nat_lt x (length c.store.exceptions) ≡ true
  EndHow w wrong c = ⊥
  EndHow w _ c = Unit {0}

  pub record GoodEnd (w : Option (List ValType)) (b : Store) (p : Out) : Type 0 where
    pub later : Later o K b p.state.core.store
    pub is : EndHow w p.how p.state.core

  -- operands as other types that theirs are below
  pub top_matches : (al : Allocated) (vs : List Value) (us ws : List ValType) → matches o.types us ws ≡ true → HasTop o al vs us → HasTop o al vs ws
  top_matches al vs us ws m h = subst (λ l. HasAll o al l (map of (reverse ws))) (reverse-reverse vs) (all_reverse o al (reverse vs) ws (all_matches o good al (reverse vs) us ws m (all_back o al vs us h)))

  pub matches_then : (us vs ws : List ValType) → matches o.types us vs ≡ true → matches o.types vs ws ≡ true → matches o.types us ws ≡ true
  matches_then [] [] [] p q = refl
  matches_then [] [] (w ∷ ws) p q = q
  matches_then [] (v ∷ vs) ws p q = absurd (true≢false (sym p))
  matches_then (u ∷ us) [] ws p q = absurd (true≢false (sym p))
  matches_then (u ∷ us) (v ∷ vs) [] p q = absurd (true≢false (sym q))
  matches_then (u ∷ us) (v ∷ vs) (w ∷ ws) p q = both (is_sub_val o.types u w) (matches o.types us ws) (val_then u v w (and_first (is_sub_val o.types u v) _ p) (and_first (is_sub_val o.types v w) _ q)) (matches_then us vs ws (and_second (is_sub_val o.types u v) _ p) (and_second (is_sub_val o.types v w) _ q))
    where
      both : (a b : Bool) → a ≡ true → b ≡ true → (a && b) ≡ true
      both true b x y = y
      both false b x y = x

      imply : (a b c : Bool) → (not a || b) ≡ true → (not b || c) ≡ true → (not a || c) ≡ true
      imply false b c p q = refl
      imply true true c p q = q
      imply true false c p q = absurd (true≢false (sym p))

      val_then : (u v w : ValType) → is_sub_val o.types u v ≡ true → is_sub_val o.types v w ≡ true → is_sub_val o.types u w ≡ true
      val_then I32 I32 I32 p q = refl
      val_then I64 I64 I64 p q = refl
      val_then (Ref x) (Ref y) (Ref z) p q = both (not x.null || z.null) (is_sub o.types x.heap z.heap) (imply x.null y.null z.null (and_first (not x.null || y.null) _ p) (and_first (not y.null || z.null) _ q)) (good.through x.heap y.heap z.heap (and_second (not x.null || y.null) _ p) (and_second (not y.null || z.null) _ q))
      val_then I32 I64 w p q = absurd (true≢false (sym p))
      val_then I32 (Ref y) w p q = absurd (true≢false (sym p))
      val_then I64 I32 w p q = absurd (true≢false (sym p))
      val_then I64 (Ref y) w p q = absurd (true≢false (sym p))
      val_then (Ref x) I32 w p q = absurd (true≢false (sym p))
      val_then (Ref x) I64 w p q = absurd (true≢false (sym p))
      val_then I32 I32 I64 p q = absurd (true≢false (sym q))
      val_then I32 I32 (Ref z) p q = absurd (true≢false (sym q))
      val_then I64 I64 I32 p q = absurd (true≢false (sym q))
      val_then I64 I64 (Ref z) p q = absurd (true≢false (sym q))
      val_then (Ref x) (Ref y) I32 p q = absurd (true≢false (sym q))
      val_then (Ref x) (Ref y) I64 p q = absurd (true≢false (sym q))

  pub some_is : {X : Type 0} (p : Option X) (st : State) (go : X → Out) (x : X) → p ≡ Some x → with_some p st go ≡ go x
  unfolding with_some
  some_is p st go x e = ap (λ p. with_on p st go) e

  -- operands of a call, over others
  pub record Arguments (st : State) (a : Around) (us : List ValType) (u : Shape) : Type 0 where
    pub given : List Value
    pub below : List Value
    pub split : st.core.stack ≡ given ++ below
    pub has : HasTop o (allocated st.core.store) given us
    pub rest : HasAll o (allocated st.core.store) below u.types
    pub reached : u.any ≡ false
    pub locals : LocalsFit o good K (allocated st.core.store) st.core.locals a.locals
    pub set : IsSet st.core.locals u.set

  pub arguments_of : (a : Around) (us : List ValType) (s u : Shape) (st : State) → pops o.types us s ≡ Some u → FitsOf a s st.core → Arguments st a us u
  arguments_of a us s u st e f = let t = takes o good (allocated st.core.store) us st.core.stack s u e f.reached f.stack in record { given = t.given; below = t.below; split = t.split; has = t.has; rest = t.rest; reached = t.reached; locals = f.locals; set = subst (IsSet st.core.locals) (sym t.set) f.set }

  pub arguments_as : (st : State) (a : Around) (us ws : List ValType) (u : Shape) → matches o.types us ws ≡ true → Arguments st a us u → Arguments st a ws u
  arguments_as st a us ws u m g = record { given = g.given; below = g.below; split = g.split; has = top_matches (allocated st.core.store) g.given us ws m g.has; rest = g.rest; reached = g.reached; locals = g.locals; set = g.set }

  given_length : (st : State) (a : Around) (us : List ValType) (u : Shape) (g : Arguments st a us u) → length g.given ≡ length us
  given_length st a us u g = all_length o (allocated st.core.store) g.given (map of (reverse us)) g.has ∙ length-map (reverse us) of ∙ length-reverse us

  abbrev pub with_results : List ValType → Shape → Shape
  with_results us u = record u { types = map of (reverse us) ++ u.types }

  -- back in the caller's frame
  pub back_good : (a : Around) (us rs ws : List ValType) (u : Shape) (st : State) (g : Arguments st a us u) (p : Out) → matches o.types rs ws ≡ true → GoodEnd (Some rs) st.core.store p → GoodOf a st.core (FitsOf a (with_results ws u)) (back st.core.locals g.below p)
  back_good a us rs ws u st g p m e = by p.how p.state e.later e.is
    where
      locals : (v : State) → Later o K st.core.store v.core.store → LocalsFit o good K (allocated v.core.store) st.core.locals a.locals
      locals v l = locals_more o good K (allocated st.core.store) (allocated v.core.store) st.core.locals a.locals l.grown g.locals

      by : (h : How) (v : State) → Later o K st.core.store v.core.store → EndHow (Some rs) h v.core → GoodOf a st.core (FitsOf a (with_results ws u)) (back_on st.core.locals g.below h v)
      by normal v l i = record { later = l; is = record { is = record { reached = g.reached; stack = all_append o (allocated v.core.store) v.core.stack g.below (map of (reverse ws)) u.types (top_matches (allocated v.core.store) v.core.stack rs ws m i) (all_more o (allocated st.core.store) (allocated v.core.store) g.below u.types l.grown g.rest); locals = locals v l; set = g.set }; frame = record { locals = locals v l; keeps = keeps_same st.core.locals } } }
      by (branch k) v l i = absurd i
      by return v l i = absurd i
      by (tail f) v l i = absurd i
      by (thrown x) v l i = record { later = l; is = record { there = i; frame = record { locals = locals v l; keeps = keeps_same st.core.locals } } }
      by trap v l i = record { later = l; is = tt }
      by spent v l i = record { later = l; is = tt }
      by over v l i = record { later = l; is = tt }
      by wrong v l i = absurd i
      by foul v l i = record { later = l; is = tt }

  -- the call of a function is good on its arguments alone
  pub record GoodEnters (enters : ℕ → State → Out) : Type 0 where
    pub ends : (f : ℕ) (t : FuncType) (st : State) → type_of_func o f ≡ Some t → HasTop o (allocated st.core.store) st.core.stack t.params → StoreFits o K st.core.store → GoodEnd (Some t.results) st.core.store (enters f st)

  module _ (enters : ℕ → State → Out) (ge : GoodEnters enters) where
    -- a call, where the arguments are there
    pub call_good : (a : Around) (f : ℕ) (t : FuncType) (ws : List ValType) (u : Shape) (st : State) → type_of_func o f ≡ Some t → Arguments st a t.params u → matches o.types t.results ws ≡ true → StoreFits o K st.core.store → GoodOf a st.core (FitsOf a (with_results ws u)) (do_call o enters f st)
    call_good a f t ws u st e g m sf =
        subst (GoodOf a st.core (FitsOf a (with_results ws u))) (sym (some_is (type_of_func o f) st _ t e ∙ pop_goes (length t.params) st g.given g.below (λ vs below. back st.core.locals below (enters f (at st [] vs))) g.split (given_length st a t.params u g)))
        (back_good a t.params t.results ws u st g (enters f (at st [] g.given)) m (ge.ends f t (at st [] g.given) e g.has sf))

  -- a tail call, where the arguments are there
  pub tail_good : (a : Around) (f : ℕ) (t : FuncType) (u e : Shape) (st : State) → type_of_func o f ≡ Some t → Arguments st a t.params u → matches o.types t.results a.results ≡ true → StoreFits o K st.core.store → GoodOf a st.core (FitsOf a e) (do_tail o f st)
  tail_good a f t u e st q g m sf =
      subst (GoodOf a st.core (FitsOf a e)) (sym (some_is (type_of_func o f) st _ t q ∙ pop_goes (length t.params) st g.given g.below (λ vs below. out (tail f) (with_stack st vs)) g.split (given_length st a t.params u g)))
      (record { later = later_same o K st.core.store sf; is = record { type = t; found = q; arguments = g.has; results = m } })

  -- new exceptions

  pub less_append : {X : Type 0} (xs : List X) (y : X) → nat_lt (length xs) (length (xs ++ y ∷ [])) ≡ true
  less_append xs y = let e : length (xs ++ y ∷ []) ≡ length xs + 1 = length-append xs (y ∷ []) in grind (arith, e)

  get_either : {X : Type 0} (P : X → Type 0) (xs : List X) (y : X) (a : ℕ) (x : X) → slice_get (xs ++ y ∷ []) a ≡ Some x → ((b : ℕ) (z : X) → slice_get xs b ≡ Some z → P z) → P y → P x
  get_either P [] y zero x e before last = subst P (same_Some _ _ e) last
  get_either P [] y (suc a) x e before last = absurd (none-some x e)
  get_either P (z ∷ xs) y zero x e before last = subst P (same_Some _ _ e) (before zero z refl)
  get_either P (z ∷ xs) y (suc a) x e before last = get_either P xs y a x e (λ b. before (suc b)) last

  pub exception_later : (st : Store) (x : Exception) → StoreFits o K st → ExceptionFits o (allocated st) st.tags x → Later o K st (record st { exceptions = st.exceptions ++ x ∷ [] })
  exception_later st x f h = let g = grown in let b = allocated (record st { exceptions = st.exceptions ++ x ∷ [] }) in record {
    grown = g;
    fits = record {
      globals = globals_more o (allocated st) b st.constants st.variables K.globals g f.globals;
      tables = refs_more o (allocated st) b st.tables K.tables g f.tables;
      elems = refs_more o (allocated st) b st.elems K.elems g f.elems;
      memories = f.memories;
      datas = f.datas;
      tags = f.tags;
      alike = f.alike;
      structs = λ a u q. struct_more o (allocated st) b u g (f.structs a u q);
      arrays = λ a u q. array_more o (allocated st) b u g (f.arrays a u q);
      exceptions = λ a y q. exception_more o (allocated st) b st.tags y g (get_either (ExceptionFits o (allocated st) st.tags) st.exceptions x a y q f.exceptions h);
    };
  }
    where
      grown : Grown (allocated st) (allocated (record st { exceptions = st.exceptions ++ x ∷ [] }))
      grown = record { structs = λ a t e. e; arrays = λ a t e. e; exceptions = let e : length (st.exceptions ++ x ∷ []) ≡ length st.exceptions + 1 = length-append st.exceptions (x ∷ []) in omega (arith, e) }

  -- throw
  tag_there : (st : Store) (x : ℕ) (f : FuncType) → StoreFits o K st → type_of_tag o x ≡ Some f → (id : Identity) × (slice_get st.tags x ≡ Some id)
  tag_there st x f sf e = by (slice_get o.tags x) refl e
    where
      by : (p : Option ℕ) → slice_get o.tags x ≡ p → Rattle.gu_model.specs.Index.func_type_in o.types p ≡ Some f → (id : Identity) × (slice_get st.tags x ≡ Some id)
      by None q z = absurd (none-some f z)
      by (Some t) q z = there st.tags (length o.tags) x sf.tags (let w = slice_get_within o.tags x t q in grind (arith, w))

  pub throw_good : (a : Around) (x : ℕ) (st : State) (s e : Shape) → type_leaf K a (I.Throw x) s ≡ Some e → FitsOf a s st.core → StoreFits o K st.core.store → GoodOf a st.core (FitsOf a e) (do_throw o x st)
  throw_good a x st s e h f sf = by (type_of_tag o x) refl h
    where
      typed : (t : FuncType) → type_of_tag o x ≡ Some t → (pops o.types t.params s >>= Y.stops) ≡ Some e → GoodOf a st.core (FitsOf a e) (do_throw o x st)
      typed t q h = let b = bind_some (pops o.types t.params s) Y.stops e h in let id = tag_there st.core.store x t sf q in let g = arguments_of a t.params s b.mid st b.first f in
          subst (GoodOf a st.core (FitsOf a e)) (sym (some_is (type_of_tag o x) st _ t q ∙ some_is (slice_get st.core.store.tags x) st _ id.0 id.1 ∙ pop_goes (length t.params) st g.given g.below (λ vs below. raise id.0 (reverse vs) st) g.split (given_length st a t.params b.mid g)))
          (thrown_good t q id.0 id.1 g.given g.has)
        where
          thrown_good : (t : FuncType) → type_of_tag o x ≡ Some t → (id : Identity) → slice_get st.core.store.tags x ≡ Some id → (vs : List Value) → HasTop o (allocated st.core.store) vs t.params → GoodOf a st.core (FitsOf a e) (raise id (reverse vs) st)
          thrown_good t q id z vs hv = let l = exception_later st.core.store (record { tag = id; arguments = reverse vs }) sf (record { hold = λ u j g z' m k. all_matches o good (allocated st.core.store) (reverse vs) t.params g.params (sf.alike u x j id g t z' z m k q) (all_back o (allocated st.core.store) vs t.params hv) }) in record { later = l; is = record { there = less_append st.core.store.exceptions (record { tag = id; arguments = reverse vs }); frame = record { locals = locals_more o good K (allocated st.core.store) _ st.core.locals a.locals l.grown f.locals; keeps = keeps_same st.core.locals } } }

      by : (p : Option FuncType) → type_of_tag o x ≡ p → type_row o.types (p >>= λ t. Some (R.leaves t.params)) s ≡ Some e → GoodOf a st.core (FitsOf a e) (do_throw o x st)
      by None q h = absurd (none-some e h)
      by (Some t) q h = typed t q h

  -- functions and null among the values of a table of functions
  function_ref_is : (st : Store) (sf : StoreFits o K st) (P : Value → Type 0) (v : Value) → P null → ((f t : ℕ) → slice_get o.funcs f ≡ Some t → P (function f)) → fits_ref o (allocated st) (record { null = true; heap = H.Abs A.AnyFunc }) v ≡ true → P v
  unfolding is_sub line
  function_ref_is st sf P v pn pf = reference_cases o good K st sf P (record { null = true; heap = H.Abs A.AnyFunc }) v (λ t. pn) (record {
    unboxed = λ k s. absurd (true≢false (sym s));
    structs = λ a u q f s. absurd (true≢false (sym (root_false o good K st sf funcs u.type A.AnyStruct A.AnyFunc (struct_kind o.types u.type f.fields f.found) s)));
    arrays = λ a u q f s. absurd (true≢false (sym (root_false o good K st sf funcs u.type A.AnyArray A.AnyFunc (array_kind o.types u.type f.field f.found) s)));
    exceptions = λ a l s. absurd (true≢false (sym s));
    functions = λ f t q s. pf f t q;
    hosts = λ k s. absurd (true≢false (sym s));
    externals = λ k s. absurd (true≢false (sym s));
    forms = λ w q s. absurd (true≢false (sym s));
  })

  -- a function of a type below another is called as that one
  pub record CalledAs (x f : ℕ) (t : FuncType) : Type 0 where
    pub type : FuncType
    pub found : type_of_func o f ≡ Some type
    pub params : matches o.types t.params type.params ≡ true
    pub results : matches o.types type.results t.results ≡ true

  called_as : (x f y : ℕ) (t : FuncType) → func_type o.types x ≡ Some t → slice_get o.funcs f ≡ Some y → is_sub o.types (H.Idx y) (H.Idx x) ≡ true → CalledAs x f t
  called_as x f y t e q s = let u = good.funcs y x t s e in record { type = u.type; found = ap (Rattle.gu_model.specs.Index.func_type_in o.types) q ∙ u.found; params = u.params; results = u.results }

  -- a way to call, or to call in place of returning
  module _ (a : Around) (call : ℕ → State → Out) (t : FuncType) (x : ℕ) (ft : func_type o.types x ≡ Some t) (u : Shape) (N : Core → Type 0) (good_call : (f : ℕ) (c : CalledAs x f t) (st : State) → Arguments st a t.params u → StoreFits o K st.core.store → GoodOf a st.core N (call f st)) where
    trapped_good : (st : State) → StoreFits o K st.core.store → GoodOf a st.core N (trapped st)
    trapped_good st sf = record { later = later_same o K st.core.store sf; is = tt }

    -- by a reference
    pub by_reference_good : (st : State) (s m : Shape) → pops o.types (idx_or_null x ∷ []) s ≡ Some m → pops o.types t.params m ≡ Some u → FitsOf a s st.core → StoreFits o K st.core.store → GoodOf a st.core N (pop 1 st (λ vs below. called (by_reference o x vs) call (with_stack st below)))
    by_reference_good st s m p q f sf =
        popped o good K a st.core N (idx_or_null x ∷ []) 1 st s m _ refl p f (λ vs below split hv hb r set.
        one_is o (allocated st.core.store) (λ vs. GoodOf a st.core N (called (by_reference o x vs) call (with_stack st below))) vs (idx_or_null x) hv (λ v hv.
        with_below o good funcs gs ts es segs declared a st N below _
        (let g = below_fits o good funcs gs ts es segs declared a s m st below f hb r set in
        function_is o good K st.core.store sf funcs (λ v. GoodOf a (with_stack st below).core N (called (by_reference o x (v ∷ [])) call (with_stack st below))) x t true v ft (trapped_good (with_stack st below) sf)
        (λ fn y e s'. subst (λ p. GoodOf a (with_stack st below).core N (called (callee_of o x fn other p) call (with_stack st below))) (sym e) (subst (λ b. GoodOf a (with_stack st below).core N (called (cond b (callee fn) other) call (with_stack st below))) (sym s') (good_call fn (called_as x fn y t ft e s') (with_stack st below) (arguments_of a t.params m u (with_stack st below) q g) sf))) hv)))

    -- by an entry of a table
    pub by_index_good : (y : ℕ) (rt : RefType) (st : State) (s m : Shape) → slice_get ts y ≡ Some rt → is_sub_ref o.types rt (record { null = true; heap = H.Abs A.AnyFunc }) ≡ true → pops o.types (I32 ∷ []) s ≡ Some m → pops o.types t.params m ≡ Some u → FitsOf a s st.core → StoreFits o K st.core.store → GoodOf a st.core N (pop 1 st (λ vs below. called (by_index o x y st.core.store vs) call (with_stack st below)))
    by_index_good y rt st s m l z p q f sf =
        popped o good K a st.core N (I32 ∷ []) 1 st s m _ refl p f (λ vs below split hv hb r set.
        i32_one o (allocated st.core.store) (λ vs. GoodOf a st.core N (called (by_index o x y st.core.store vs) call (with_stack st below))) vs hv (λ i.
        with_below o good funcs gs ts es segs declared a st N below _
        (let g = below_fits o good funcs gs ts es segs declared a s m st below f hb r set in
        let w = refs_at o (allocated st.core.store) st.core.store.tables ts y rt sf.tables l in
        subst (λ p. GoodOf a (with_stack st below).core N (called (entry_in o x i p) call (with_stack st below))) (sym w.found) (entry below (arguments_of a t.params m u (with_stack st below) q g) (slice_get w.entries i) (λ v e. ref_sub o good (allocated st.core.store) rt (record { null = true; heap = H.Abs A.AnyFunc }) v z (each_get o (allocated st.core.store) (Ref rt) w.entries i v w.has e))))))
      where
        typed : (below : List Value) → Arguments (with_stack st below) a t.params u → (fn y' : ℕ) → slice_get o.funcs fn ≡ Some y' → (b : Bool) → is_sub o.types (H.Idx y') (H.Idx x) ≡ b → GoodOf a (with_stack st below).core N (called (cond b (callee fn) none) call (with_stack st below))
        typed below g fn y' e true s' = good_call fn (called_as x fn y' t ft e s') (with_stack st below) g sf
        typed below g fn y' e false s' = trapped_good (with_stack st below) sf

        entry : (below : List Value) → Arguments (with_stack st below) a t.params u → (p : Option Value) → ((v : Value) → p ≡ Some v → fits_ref o (allocated st.core.store) (record { null = true; heap = H.Abs A.AnyFunc }) v ≡ true) → GoodOf a (with_stack st below).core N (called (entry_named o x p) call (with_stack st below))
        entry below g None k = trapped_good (with_stack st below) sf
        entry below g (Some v) k = function_ref_is st.core.store sf (λ v. GoodOf a (with_stack st below).core N (called (entry_named o x (Some v)) call (with_stack st below))) v (trapped_good (with_stack st below) sf) (λ fn y' e. subst (λ p. GoodOf a (with_stack st below).core N (called (callee_of o x fn none p) call (with_stack st below))) (sym e) (typed below g fn y' e (is_sub o.types (H.Idx y') (H.Idx x)) refl)) (k v refl)

  -- the row of a call
  record CallRow (t : FuncType) (named : List ValType) (s e : Shape) : Type 0 where
    end : Shape
    first : pops o.types (t.params ++ named) s ≡ Some end
    is : with_results t.results end ≡ e

  call_row : (t : FuncType) (named : List ValType) (s e : Shape) → type_row o.types (calls named t) s ≡ Some e → CallRow t named s e
  call_row t named s e h = let b = bind_some (pops o.types (t.params ++ named) s) (pushes t.results) e h in record { end = b.mid; first = b.first; is = same_Some _ _ b.then }

  record TailRow (a : Around) (t : FuncType) (named : List ValType) (s e : Shape) : Type 0 where
    end : Shape
    first : pops o.types (t.params ++ named) s ≡ Some end
    results : matches o.types t.results a.results ≡ true

  tail_row : (a : Around) (t : FuncType) (named : List ValType) (s e : Shape) → type_row o.types (tail_calls K a named t) s ≡ Some e → TailRow a t named s e
  tail_row a t named s e h = by (matches o.types t.results a.results) refl h
    where
      by : (b : Bool) → matches o.types t.results a.results ≡ b → type_row o.types (given b (Some (R.leaves (t.params ++ named)))) s ≡ Some e → TailRow a t named s e
      by true m h = let b = bind_some (pops o.types (t.params ++ named) s) Y.stops e h in record { end = b.mid; first = b.first; results = m }
      by false m h = absurd (none-some e h)

  pub matches_self : (us : List ValType) → matches o.types us us ≡ true
  matches_self [] = refl
  matches_self (u ∷ us) = both (is_sub_val o.types u u) (matches o.types us us) (self u) (matches_self us)
    where
      both : (a b : Bool) → a ≡ true → b ≡ true → (a && b) ≡ true
      both true b x y = y
      both false b x y = x

      nulls : (b : Bool) → (not b || b) ≡ true
      nulls true = refl
      nulls false = refl

      self : (u : ValType) → is_sub_val o.types u u ≡ true
      self I32 = refl
      self I64 = refl
      self (Ref r) = both (not r.null || r.null) (is_sub o.types r.heap r.heap) (nulls r.null) (good.itself r.heap)

  -- a row that rests on a function type that there is
  bound_row : {P : Type 0} (p : Option FuncType) (row : FuncType → Option R.Row) (s e : Shape) → type_row o.types (p >>= row) s ≡ Some e → ((t : FuncType) → p ≡ Some t → type_row o.types (row t) s ≡ Some e → P) → P
  bound_row None row s e h k = absurd (none-some e h)
  bound_row (Some t) row s e h k = k t refl h

  -- a table of functions, and the type that an entry is called as
  record Indirect (x y : ℕ) (t : FuncType) : Type 0 where
    elem : RefType
    found : slice_get ts y ≡ Some elem
    sub : is_sub_ref o.types elem (record { null = true; heap = H.Abs A.AnyFunc }) ≡ true
    type : func_type o.types x ≡ Some t

  indirect_is : (x y : ℕ) (t : FuncType) → indirect K x y ≡ Some t → Indirect x y t
  indirect_is x y t h = let b = bind_some (slice_get ts y) _ t h in let g = given_some (is_sub_val o.types (Ref b.mid) (abs_or_null A.AnyFunc)) (func_type o.types x) t b.then in record { elem = b.mid; found = b.first; sub = g.0; type = g.1 }

  module _ (enters : ℕ → State → Out) (ge : GoodEnters enters) where
    called_good : (a : Around) (x : ℕ) (t : FuncType) (u : Shape) (f : ℕ) (c : CalledAs x f t) (st : State) → Arguments st a t.params u → StoreFits o K st.core.store → GoodOf a st.core (FitsOf a (with_results t.results u)) (do_call o enters f st)
    called_good a x t u f c st g sf = call_good enters ge a f c.type t.results u st c.found (arguments_as st a t.params c.type.params u c.params g) c.results sf

    -- call
    pub call_typed : (a : Around) (f : ℕ) (st : State) (s e : Shape) → type_leaf K a (I.Call f) s ≡ Some e → FitsOf a s st.core → StoreFits o K st.core.store → GoodOf a st.core (FitsOf a e) (do_call o enters f st)
    call_typed a f st s e h g sf = bound_row (func_at K f) (calls []) s e h (λ t q h. let r = call_row t [] s e h in subst (λ e. GoodOf a st.core (FitsOf a e) (do_call o enters f st)) r.is (call_good enters ge a f t t.results r.end st q (arguments_of a t.params s r.end st (ap (λ us. pops o.types us s) (sym (append-nil t.params)) ∙ r.first) g) (matches_self t.results) sf))

    -- call_ref
    pub call_ref_typed : (a : Around) (x : ℕ) (st : State) (s e : Shape) → type_leaf K a (I.CallRef x) s ≡ Some e → FitsOf a s st.core → StoreFits o K st.core.store → GoodOf a st.core (FitsOf a e) (pop 1 st (λ vs below. called (by_reference o x vs) (do_call o enters) (with_stack st below)))
    call_ref_typed a x st s e h g sf = bound_row (func_type o.types x) (calls (idx_or_null x ∷ [])) s e h (λ t q h. let r = call_row t (idx_or_null x ∷ []) s e h in let m = pops_last o good funcs gs ts es segs declared t.params (idx_or_null x) s r.end r.first in subst (λ e. GoodOf a st.core (FitsOf a e) (pop 1 st (λ vs below. called (by_reference o x vs) (do_call o enters) (with_stack st below)))) r.is (by_reference_good a (do_call o enters) t x q r.end (FitsOf a (with_results t.results r.end)) (called_good a x t r.end) st s m.0 m.1 m.2 g sf))

    -- call_indirect
    pub call_indirect_typed : (a : Around) (x y : ℕ) (st : State) (s e : Shape) → type_leaf K a (I.CallIndirect x y) s ≡ Some e → FitsOf a s st.core → StoreFits o K st.core.store → GoodOf a st.core (FitsOf a e) (pop 1 st (λ vs below. called (by_index o x y st.core.store vs) (do_call o enters) (with_stack st below)))
    call_indirect_typed a x y st s e h g sf = bound_row (indirect K x y) (calls (I32 ∷ [])) s e h (λ t q h. let i = indirect_is x y t q in let r = call_row t (I32 ∷ []) s e h in let m = pops_last o good funcs gs ts es segs declared t.params I32 s r.end r.first in subst (λ e. GoodOf a st.core (FitsOf a e) (pop 1 st (λ vs below. called (by_index o x y st.core.store vs) (do_call o enters) (with_stack st below)))) r.is (by_index_good a (do_call o enters) t x i.type r.end (FitsOf a (with_results t.results r.end)) (called_good a x t r.end) y i.elem st s m.0 i.found i.sub m.1 m.2 g sf))

  tailed_good : (a : Around) (x : ℕ) (t : FuncType) (u e : Shape) → matches o.types t.results a.results ≡ true → (f : ℕ) (c : CalledAs x f t) (st : State) → Arguments st a t.params u → StoreFits o K st.core.store → GoodOf a st.core (FitsOf a e) (do_tail o f st)
  tailed_good a x t u e m f c st g sf = tail_good a f c.type u e st c.found (arguments_as st a t.params c.type.params u c.params g) (matches_then c.type.results t.results a.results c.results m) sf

  -- return_call, return_call_ref and return_call_indirect
  pub tail_typed : (a : Around) (f : ℕ) (st : State) (s e : Shape) → type_leaf K a (I.ReturnCall f) s ≡ Some e → FitsOf a s st.core → StoreFits o K st.core.store → GoodOf a st.core (FitsOf a e) (do_tail o f st)
  tail_typed a f st s e h g sf = bound_row (func_at K f) (tail_calls K a []) s e h (λ t q h. let r = tail_row a t [] s e h in tail_good a f t r.end e st q (arguments_of a t.params s r.end st (ap (λ us. pops o.types us s) (sym (append-nil t.params)) ∙ r.first) g) r.results sf)

  pub tail_ref_typed : (a : Around) (x : ℕ) (st : State) (s e : Shape) → type_leaf K a (I.ReturnCallRef x) s ≡ Some e → FitsOf a s st.core → StoreFits o K st.core.store → GoodOf a st.core (FitsOf a e) (pop 1 st (λ vs below. called (by_reference o x vs) (do_tail o) (with_stack st below)))
  tail_ref_typed a x st s e h g sf = bound_row (func_type o.types x) (tail_calls K a (idx_or_null x ∷ [])) s e h (λ t q h. let r = tail_row a t (idx_or_null x ∷ []) s e h in let m = pops_last o good funcs gs ts es segs declared t.params (idx_or_null x) s r.end r.first in by_reference_good a (do_tail o) t x q r.end (FitsOf a e) (tailed_good a x t r.end e r.results) st s m.0 m.1 m.2 g sf)

  pub tail_indirect_typed : (a : Around) (x y : ℕ) (st : State) (s e : Shape) → type_leaf K a (I.ReturnCallIndirect x y) s ≡ Some e → FitsOf a s st.core → StoreFits o K st.core.store → GoodOf a st.core (FitsOf a e) (pop 1 st (λ vs below. called (by_index o x y st.core.store vs) (do_tail o) (with_stack st below)))
  tail_indirect_typed a x y st s e h g sf = bound_row (indirect K x y) (tail_calls K a (I32 ∷ [])) s e h (λ t q h. let i = indirect_is x y t q in let r = tail_row a t (I32 ∷ []) s e h in let m = pops_last o good funcs gs ts es segs declared t.params I32 s r.end r.first in by_index_good a (do_tail o) t x i.type r.end (FitsOf a e) (tailed_good a x t r.end e r.results) y i.elem st s m.0 i.found i.sub m.1 m.2 g sf)
