-- Instructions that hold no code: each goes on as its typing says.
use Rattle.std.proofs.Common.{ℕ, zero, suc, Bool, true, false, cond, ◌&&◌, List, [], ◌∷◌, ◌++◌, map, reverse, length, Option, Some, None, is_some, unwrap_or, slice_get, slice_set, nat_eq, ◌≡◌, refl, ap, ◌∙◌, sym, subst, true≢false}
use Rattle.std.proofs.lemmas.List.{reverse-append}
use Rattle.std.proofs.lemmas.Option.{same_Some, none-some}
use Rattle.std.specs.List.{list_all}
use Rattle.gu_types.specs.declared.types.RefType.{RefType}
use Rattle.gu_types.specs.declared.types.ValType.{ValType}
use Rattle.gu_types.specs.declared.types.ValType.TheVariants.{I32}
use Rattle.gu_syntax.specs.declared.instr.BranchTable.{BranchTable}
use Rattle.gu_syntax.specs.declared.instr.Instr.{Instr}
use Rattle.gu_syntax.specs.declared.instr.Instr.TheVariants as I
use Rattle.gu_model.specs.Outline.{Outline}
use Rattle.gu_model.specs.Value.{Value, i32, Allocated, allocated}
use Rattle.gu_model.specs.Did.{goes, need, need_on}
use Rattle.gu_model.specs.Act.{act, do_act, found}
use Rattle.gu_model.specs.State.{Core, State, How, normal, branch, return, tail, thrown, trap, spent, over, wrong, foul, Out, out, with_stack, pop}
use Rattle.gu_model.specs.Control.{lift, land, jumping, branch_if, branch_table}
use Rattle.gu_model.specs.TypingContext.{Context, Around, ◌>>=◌, given}
use Rattle.gu_model.specs.TypingShape.{Kind, of, Nothing, Bot, Shape, non_null, push, pushes, pop_kind, pop_kind_on, pop_on, pops, pops_down, type_row}
use Rattle.gu_model.specs.TypingShape as Y
use Rattle.gu_model.specs.TypingRows as R
use Rattle.gu_model.specs.Typing.{if_set, sets, type_leaf, table_branch, takes as could_take}
use Rattle.gu_model.proofs.GoodTypes.{GoodTypes}
use Rattle.gu_model.proofs.Has.{bind_some, Has, HasAll, HasKind, all_append, takes, pop_goes, and_first, and_second}
use Rattle.gu_model.proofs.Stores.{StoreFits, later_same, DidGood}
use Rattle.gu_model.proofs.ActRows.{within_module, RowGoodAt, none_is, one_is, three_is, i32_is, i32_one}
use Rattle.gu_model.proofs.ActNumbers.{asks, number_rows}
use Rattle.gu_model.proofs.ActTables.{table_rows}
use Rattle.gu_model.proofs.ActObjects.{object_rows}
use Rattle.gu_model.proofs.References.{GoodFuncs}
use Rattle.gu_model.proofs.Moments.{Keeps, IsSet, keeps_same, LocalsFit, Fits, TopHas, Frame, Lands, Goes, Good, popped, goes_on, row_good}

-- a step of typing under a condition
pub given_some : {X : Type 0} (b : Bool) (p : Option X) (e : X) → given b p ≡ Some e → (b ≡ true) × (p ≡ Some e)
given_some true p e h = (refl, h)
given_some false p e h = absurd (none-some e h)

module _ (o : Outline) (good : GoodTypes o.types) (funcs : GoodFuncs o) (gs : List (ValType × Bool)) (ts es : List RefType) (segs : ℕ) (declared : List Bool) where
  abbrev K : Context
  K = within_module o gs ts es segs declared

  -- a state of a shape
  abbrev FitsOf : Around → Shape → Core → Type 0
  FitsOf a s c = Fits o good K a s c

  abbrev GoodOf : Around → Core → (Core → Type 0) → Out → Type 0
  GoodOf a b N p = Good o good K a b N p

  -- the last of the operands' types is taken first
  pub pops_last : (us : List ValType) (t : ValType) (s u : Shape) → pops o.types (us ++ t ∷ []) s ≡ Some u → (m : Shape) × (pops o.types (t ∷ []) s ≡ Some m) × (pops o.types us m ≡ Some u)
  pops_last us t s u h = by (pop_on o.types t s.types s) refl (ap (λ l. pops_down o.types l s) (sym (reverse-append us (t ∷ []))) ∙ h)
    where
      by : (p : Option Shape) → pop_on o.types t s.types s ≡ p → (p >>= pops_down o.types (reverse us)) ≡ Some u → (m : Shape) × (pops o.types (t ∷ []) s ≡ Some m) × (pops o.types us m ≡ Some u)
      by None q e = absurd (none-some u e)
      by (Some m) q e = (m, ap (λ p. p >>= pops_down o.types []) q, e)

  -- operands that are there, without a pop
  pub on_top : (us : List ValType) (a : Around) (s u : Shape) (c : Core) → pops o.types us s ≡ Some u → FitsOf a s c → TopHas o good K us c
  on_top us a s u c e f = let t = takes o good (allocated c.store) us c.stack s u e f.reached f.stack in record { top = t.given; rest = t.below; split = t.split; has = t.has }

  -- the operands as the types that were asked of them
  pub retyped : (us : List ValType) (a : Around) (s u : Shape) (c : Core) → pops o.types us s ≡ Some u → FitsOf a s c → FitsOf a (record u { types = map of (reverse us) ++ u.types }) c
  retyped us a s u c e f = let t = takes o good (allocated c.store) us c.stack s u e f.reached f.stack in record {
    reached = t.reached;
    stack = subst (λ st. HasAll o (allocated c.store) st (map of (reverse us) ++ u.types)) (sym t.split) (all_append o (allocated c.store) t.given t.below (map of (reverse us)) u.types t.has t.rest);
    locals = f.locals;
    set = subst (IsSet c.locals) (sym t.set) f.set;
  }

  frame_same : (a : Around) (s : Shape) (c : Core) → FitsOf a s c → Frame o good K a c c
  frame_same a s c f = record { locals = f.locals; keeps = keeps_same c.locals }

  -- a state that fits, as it is
  pub stays : (a : Around) (s : Shape) (st : State) → FitsOf a s st.core → StoreFits o K st.core.store → GoodOf a st.core (FitsOf a s) (out normal st)
  stays a s st f sf = record { later = later_same o K st.core.store sf; is = record { is = f; frame = frame_same a s st.core f } }

  -- a branch to a label whose operands are there
  pub branches : (a : Around) (k : ℕ) (us : List ValType) (s u : Shape) (N : Core → Type 0) (st : State) → slice_get a.labels k ≡ Some us → pops o.types us s ≡ Some u → FitsOf a s st.core → StoreFits o K st.core.store → GoodOf a st.core N (out (branch k) st)
  branches a k us s u N st l e f sf = record { later = later_same o K st.core.store sf; is = record { types = us; found = l; top = on_top us a s u st.core e f; frame = frame_same a s st.core f } }

  -- a state behind operands that were taken
  pub below_fits : (a : Around) (s u : Shape) (st : State) (below : List Value) → FitsOf a s st.core → HasAll o (allocated st.core.store) below u.types → u.any ≡ false → u.set ≡ s.set → FitsOf a u (with_stack st below).core
  below_fits a s u st below f h r set = record { reached = r; stack = h; locals = f.locals; set = subst (IsSet st.core.locals) (sym set) f.set }

  -- from a state with other operands
  pub with_below : (a : Around) (st : State) (N : Core → Type 0) (below : List Value) (p : Out) → GoodOf a (with_stack st below).core N p → GoodOf a st.core N p
  with_below a st N below p g = record { later = g.later; is = by p.how g.is }
    where
      frame : (c : Core) → Frame o good K a (with_stack st below).core c → Frame o good K a st.core c
      frame c f = record { locals = f.locals; keeps = f.keeps }

      by : (h : How) → Rattle.gu_model.proofs.Moments.GoodHow o good K a (with_stack st below).core N h p.state.core → Rattle.gu_model.proofs.Moments.GoodHow o good K a st.core N h p.state.core
      by normal i = record { is = i.is; frame = frame p.state.core i.frame }
      by (branch j) i = record { types = i.types; found = i.found; top = i.top; frame = frame p.state.core i.frame }
      by return i = i
      by (tail f) i = i
      by (thrown x) i = record { there = i.there; frame = frame p.state.core i.frame }
      by wrong i = i
      by trap i = tt
      by spent i = tt
      by over i = tt
      by foul i = tt

  -- one operand of any kind was taken
  pub record OneOf (al : Allocated) (vs : List Value) (s u : Shape) (k : Kind) : Type 0 where
    pub value : Value
    pub below : List Value
    pub split : vs ≡ value ∷ below
    pub has : HasKind o al k value
    pub rest : HasAll o al below u.types
    pub reached : u.any ≡ false
    pub set : u.set ≡ s.set

  pub any_taken : {P : Type 0} (a : Around) (s e : Shape) (c : Core) (go : Kind → Shape → Option Shape) → pop_kind s go ≡ Some e → FitsOf a s c → ((k : Kind) (u : Shape) → go k u ≡ Some e → OneOf (allocated c.store) c.stack s u k → P) → P
  any_taken {P} a s e c go h f g = by s.types c.stack f.stack h
    where
      none : (b : Bool) → b ≡ false → cond b (go Bot s) None ≡ Some e → P
      none true r q = absurd (true≢false r)
      none false r q = absurd (none-some e q)

      give : (vs : List Value) → vs ≡ c.stack → (k : Kind) (u : Shape) → go k u ≡ Some e → OneOf (allocated c.store) vs s u k → P
      give vs z k u q w = g k u q (subst (λ vs. OneOf (allocated c.store) vs s u k) z w)

      by' : (ks : List Kind) (vs : List Value) → vs ≡ c.stack → HasAll o (allocated c.store) vs ks → pop_kind_on ks s go ≡ Some e → P
      by' [] vs z hs q = none s.any f.reached q
      by' (k ∷ ks) [] z hs q = absurd hs
      by' (k ∷ ks) (v ∷ vs) z hs q = give (v ∷ vs) z k (record s { types = ks }) q (record { value = v; below = vs; split = refl; has = hs.0; rest = hs.1; reached = f.reached; set = refl })

      by : (ks : List Kind) (vs : List Value) → HasAll o (allocated c.store) c.stack s.types → pop_kind_on s.types s go ≡ Some e → P
      by ks vs hs q = by' s.types c.stack refl hs q

  -- taking the operand that is there
  pub pop_one : (a : Around) (st : State) (s u : Shape) (k : Kind) (N : Core → Type 0) (go : List Value → List Value → Out) → (w : OneOf (allocated st.core.store) st.core.stack s u k) → GoodOf a st.core N (go (w.value ∷ []) w.below) → GoodOf a st.core N (pop 1 st go)
  pop_one a st s u k N go w g = subst (GoodOf a st.core N) (sym (pop_goes 1 st (w.value ∷ []) w.below go w.split refl)) g

  -- locals

  -- a local that is set
  pub record LocalAt (al : Allocated) (ls : List (Option Value)) (x : ℕ) (t : ValType) : Type 0 where
    pub value : Value
    pub found : slice_get ls x ≡ Some (Some value)
    pub has : Has o al t value

  pub local_at : (al : Allocated) (ls : List (Option Value)) (us : List ValType) (bs : List Bool) (x : ℕ) (t : ValType) → LocalsFit o good K al ls us → IsSet ls bs → slice_get us x ≡ Some t → slice_get bs x ≡ Some true → LocalAt al ls x t
  local_at al ls [] bs x t f s e b = absurd (none-some t e)
  local_at al [] (u ∷ us) bs x t f s e b = absurd f
  local_at al (None ∷ ls) (u ∷ us) [] x t f s e b = absurd s
  local_at al (Some v ∷ ls) (u ∷ us) [] x t f s e b = absurd s
  local_at al (None ∷ ls) (u ∷ us) (true ∷ bs) x t f s e b = absurd s
  local_at al (None ∷ ls) (u ∷ us) (false ∷ bs) zero t f s e b = absurd (true≢false (sym (same_Some _ _ b)))
  local_at al (None ∷ ls) (u ∷ us) (false ∷ bs) (suc x) t f s e b = let q = local_at al ls us bs x t f s e b in record { value = q.value; found = q.found; has = q.has }
  local_at al (Some v ∷ ls) (u ∷ us) (c ∷ bs) zero t f s e b = record { value = v; found = refl; has = subst (λ t. Has o al t v) (same_Some _ _ e) f.0 }
  local_at al (Some v ∷ ls) (u ∷ us) (true ∷ bs) (suc x) t f s e b = let q = local_at al ls us bs x t f.1 s e b in record { value = q.value; found = q.found; has = q.has }
  local_at al (Some v ∷ ls) (u ∷ us) (false ∷ bs) (suc x) t f s e b = let q = local_at al ls us bs x t f.1 s e b in record { value = q.value; found = q.found; has = q.has }

  -- a local that is written
  pub record LocalSet (al : Allocated) (ls : List (Option Value)) (us : List ValType) (bs : List Bool) (x : ℕ) (v : Value) : Type 0 where
    pub old : Option Value
    pub found : slice_get ls x ≡ Some old
    pub locals : LocalsFit o good K al (slice_set ls x (Some v)) us
    pub set : IsSet (slice_set ls x (Some v)) (slice_set bs x true)
    pub keeps : Keeps ls (slice_set ls x (Some v))

  pub local_set_is : (al : Allocated) (ls : List (Option Value)) (us : List ValType) (bs : List Bool) (x : ℕ) (t : ValType) (v : Value) → LocalsFit o good K al ls us → IsSet ls bs → slice_get us x ≡ Some t → Has o al t v → LocalSet al ls us bs x v
  local_set_is al ls [] bs x t v f s e h = absurd (none-some t e)
  local_set_is al [] (u ∷ us) bs x t v f s e h = absurd f
  local_set_is al (None ∷ ls) (u ∷ us) [] x t v f s e h = absurd s
  local_set_is al (Some w ∷ ls) (u ∷ us) [] x t v f s e h = absurd s
  local_set_is al (None ∷ ls) (u ∷ us) (true ∷ bs) x t v f s e h = absurd s
  local_set_is al (None ∷ ls) (u ∷ us) (false ∷ bs) zero t v f s e h = record { old = None; found = refl; locals = (subst (λ t. Has o al t v) (sym (same_Some _ _ e)) h, f); set = s; keeps = keeps_same ls }
  local_set_is al (None ∷ ls) (u ∷ us) (false ∷ bs) (suc x) t v f s e h = let q = local_set_is al ls us bs x t v f s e h in record { old = q.old; found = q.found; locals = q.locals; set = q.set; keeps = q.keeps }
  local_set_is al (Some w ∷ ls) (u ∷ us) (true ∷ bs) zero t v f s e h = record { old = Some w; found = refl; locals = (subst (λ t. Has o al t v) (sym (same_Some _ _ e)) h, f.1); set = s; keeps = keeps_same ls }
  local_set_is al (Some w ∷ ls) (u ∷ us) (false ∷ bs) zero t v f s e h = record { old = Some w; found = refl; locals = (subst (λ t. Has o al t v) (sym (same_Some _ _ e)) h, f.1); set = s; keeps = keeps_same ls }
  local_set_is al (Some w ∷ ls) (u ∷ us) (true ∷ bs) (suc x) t v f s e h = let q = local_set_is al ls us bs x t v f.1 s e h in record { old = q.old; found = q.found; locals = (f.0, q.locals); set = q.set; keeps = q.keeps }
  local_set_is al (Some w ∷ ls) (u ∷ us) (false ∷ bs) (suc x) t v f s e h = let q = local_set_is al ls us bs x t v f.1 s e h in record { old = q.old; found = q.found; locals = (f.0, q.locals); set = q.set; keeps = q.keeps }

  -- all plain instructions that have a row of their own
  pub plain_rows : (i : Instr) → asks i ≡ false → RowGoodAt o K i (Rattle.gu_model.specs.TypingNumbers.number_row K i)
  plain_rows i p = number_rows o K i p (table_rows o good K refl i p (object_rows o good funcs gs ts es segs declared i))

  -- nop and select by a type
  pub nop_row : RowGoodAt o K I.Nop (Some (R.goes [] []))
  nop_row = record { count = refl; acts = λ ls st vs f h. none_is o (allocated st) (λ vs. DidGood o K [] ls st (act o I.Nop ls st vs)) vs h (later_same o K st f, tt, refl) }

  pick : (al : Allocated) (t : ValType) (b : Bool) (w v : Value) → Has o al t w → Has o al t v → Has o al t (cond b w v)
  pick al t true w v hw hv = hw
  pick al t false w v hw hv = hv

  pub select_row : (t : ValType) → RowGoodAt o K (I.SelectOf (t ∷ [])) (Some (R.goes (t ∷ t ∷ I32 ∷ []) (t ∷ [])))
  select_row t = record { count = refl; acts = λ ls st vs f h. three_is o (allocated st) (λ vs. DidGood o K (t ∷ []) ls st (act o (I.SelectOf (t ∷ [])) ls st vs)) vs I32 t t h (λ n w v hn hw hv. i32_is o (allocated st) (λ n. DidGood o K (t ∷ []) ls st (act o (I.SelectOf (t ∷ [])) ls st (n ∷ w ∷ v ∷ []))) n hn (λ n. (later_same o K st f, (pick (allocated st) t (nat_eq n 0) w v hw hv, tt), refl))) }

  -- what an instruction did that leaves the locals and the store
  pub did_good : (a : Around) (s e : Shape) (st : State) (vs below : List Value) → StoreFits o K st.core.store → FitsOf a s st.core → HasAll o (allocated st.core.store) (vs ++ below) e.types → e.any ≡ false → e.set ≡ s.set → GoodOf a st.core (FitsOf a e) (lift st below (goes vs st.core.locals st.core.store))
  did_good a s e st vs below sf f h r set = record { later = later_same o K st.core.store sf; is = record { is = record { reached = r; stack = h; locals = f.locals; set = subst (IsSet st.core.locals) (sym set) f.set }; frame = record { locals = f.locals; keeps = keeps_same st.core.locals } } }

  -- drop
  pub drop_good : (a : Around) (st : State) (s e : Shape) → type_leaf K a I.Drop s ≡ Some e → FitsOf a s st.core → StoreFits o K st.core.store → GoodOf a st.core (FitsOf a e) (pop 1 st (λ vs below. lift st below (do_act o I.Drop st.core.locals st.core.store vs)))
  unfolding do_act
  drop_good a st s e h f sf = any_taken a s e st.core (λ k u. Some u) h f (λ k u q w. pop_one a st s u k (FitsOf a e) (λ vs below. lift st below (act o I.Drop st.core.locals st.core.store vs)) w (did_good a s e st [] w.below sf f (subst (λ (x : Shape). HasAll o (allocated st.core.store) w.below x.types) (same_Some _ _ q) w.rest) (subst (λ (x : Shape). x.any ≡ false) (same_Some _ _ q) w.reached) (ap (λ (x : Shape). x.set) (sym (same_Some _ _ q)) ∙ w.set)))

  -- local.get
  pub get_good : (a : Around) (x : ℕ) (st : State) (s e : Shape) → type_leaf K a (I.LocalGet x) s ≡ Some e → FitsOf a s st.core → StoreFits o K st.core.store → GoodOf a st.core (FitsOf a e) (pop 0 st (λ vs below. lift st below (do_act o (I.LocalGet x) st.core.locals st.core.store vs)))
  unfolding do_act
  get_good a x st s e h f sf =
      let b = bind_some (slice_get a.locals x) (λ t. if_set (slice_get s.set x) (pushes (t ∷ []) s)) e h in
      let c = set_is (slice_get s.set x) (pushes (b.mid ∷ []) s) e b.then in
      let q = local_at (allocated st.core.store) st.core.locals a.locals s.set x b.mid f.locals f.set b.first c.0 in
      let z = same_Some _ _ c.1 in
      subst (GoodOf a st.core (FitsOf a e)) (sym (pop_goes 0 st [] st.core.stack (λ vs below. lift st below (act o (I.LocalGet x) st.core.locals st.core.store vs)) refl refl))
      (subst (λ p. GoodOf a st.core (FitsOf a e) (lift st st.core.stack (found p st.core.locals st.core.store))) (sym q.found)
      (did_good a s e st (q.value ∷ []) st.core.stack sf f (subst (λ (y : Shape). HasAll o (allocated st.core.store) (q.value ∷ st.core.stack) y.types) z (q.has, f.stack)) (subst (λ (y : Shape). y.any ≡ false) z f.reached) (ap (λ (y : Shape). y.set) (sym z))))
    where
      set_is : (p : Option Bool) (r : Option Shape) (e : Shape) → if_set p r ≡ Some e → (p ≡ Some true) × (r ≡ Some e)
      set_is (Some true) r e q = (refl, q)
      set_is (Some false) r e q = absurd (none-some e q)
      set_is None r e q = absurd (none-some e q)

  -- local.set, and what local.tee puts besides
  written_good : (a : Around) (x : ℕ) (t : ValType) (st : State) (s u e : Shape) (v : Value) (vs below : List Value) → slice_get a.locals x ≡ Some t → Has o (allocated st.core.store) t v → FitsOf a s st.core → StoreFits o K st.core.store → HasAll o (allocated st.core.store) (vs ++ below) e.types → e.any ≡ false → e.set ≡ slice_set s.set x true → GoodOf a st.core (FitsOf a e) (lift st below (need (slice_get st.core.locals x) (λ old. goes vs (slice_set st.core.locals x (Some v)) st.core.store)))
  unfolding need
  written_good a x t st s u e v vs below l hv f sf h r set =
      let q = local_set_is (allocated st.core.store) st.core.locals a.locals s.set x t v f.locals f.set l hv in
      subst (λ p. GoodOf a st.core (FitsOf a e) (lift st below (need_on p (λ old. goes vs (slice_set st.core.locals x (Some v)) st.core.store)))) (sym q.found)
      (record { later = later_same o K st.core.store sf; is = record { is = record { reached = r; stack = h; locals = q.locals; set = subst (IsSet (slice_set st.core.locals x (Some v))) (sym set) q.set }; frame = record { locals = q.locals; keeps = q.keeps } } })

  pub set_good : (a : Around) (x : ℕ) (st : State) (s e : Shape) → type_leaf K a (I.LocalSet x) s ≡ Some e → FitsOf a s st.core → StoreFits o K st.core.store → GoodOf a st.core (FitsOf a e) (pop 1 st (λ vs below. lift st below (do_act o (I.LocalSet x) st.core.locals st.core.store vs)))
  unfolding do_act
  set_good a x st s e h f sf =
      let b = bind_some (slice_get a.locals x) (λ t. pops o.types (t ∷ []) s >>= sets x) e h in
      let c = bind_some (pops o.types (b.mid ∷ []) s) (sets x) e b.then in
      let z = same_Some _ _ c.then in
      popped o good K a st.core (FitsOf a e) (b.mid ∷ []) 1 st s c.mid _ refl c.first f (λ vs below split hv hb r set.
      one_is o (allocated st.core.store) (λ vs. GoodOf a st.core (FitsOf a e) (lift st below (act o (I.LocalSet x) st.core.locals st.core.store vs))) vs b.mid hv (λ v hv.
      written_good a x b.mid st s c.mid e v [] below b.first hv f sf (subst (λ (y : Shape). HasAll o (allocated st.core.store) below y.types) z hb) (subst (λ (y : Shape). y.any ≡ false) z r) (ap (λ (y : Shape). y.set) (sym z) ∙ ap (λ bs. slice_set bs x true) set)))

  pub tee_good : (a : Around) (x : ℕ) (st : State) (s e : Shape) → type_leaf K a (I.LocalTee x) s ≡ Some e → FitsOf a s st.core → StoreFits o K st.core.store → GoodOf a st.core (FitsOf a e) (pop 1 st (λ vs below. lift st below (do_act o (I.LocalTee x) st.core.locals st.core.store vs)))
  unfolding do_act
  tee_good a x st s e h f sf =
      let b = bind_some (slice_get a.locals x) (λ t. pops o.types (t ∷ []) s >>= λ u. sets x u >>= pushes (t ∷ [])) e h in
      let c = bind_some (pops o.types (b.mid ∷ []) s) (λ u. sets x u >>= pushes (b.mid ∷ [])) e b.then in
      let z = same_Some _ _ c.then in
      popped o good K a st.core (FitsOf a e) (b.mid ∷ []) 1 st s c.mid _ refl c.first f (λ vs below split hv hb r set.
      one_is o (allocated st.core.store) (λ vs. GoodOf a st.core (FitsOf a e) (lift st below (act o (I.LocalTee x) st.core.locals st.core.store vs))) vs b.mid hv (λ v hv.
      written_good a x b.mid st s c.mid e v (v ∷ []) below b.first hv f sf (subst (λ (y : Shape). HasAll o (allocated st.core.store) (v ∷ below) y.types) z (hv, hb)) (subst (λ (y : Shape). y.any ≡ false) z r) (ap (λ (y : Shape). y.set) (sym z) ∙ ap (λ bs. slice_set bs x true) set)))

  -- br_if: the operands of the label stay, as its types
  pub br_if_good : (a : Around) (k : ℕ) (st : State) (s e : Shape) → type_leaf K a (I.BrIf k) s ≡ Some e → FitsOf a s st.core → StoreFits o K st.core.store → GoodOf a st.core (FitsOf a e) (jumping 1 (branch_if k) st)
  br_if_good a k st s e h f sf = by (slice_get a.labels k) refl h
    where
      typed : (us : List ValType) → slice_get a.labels k ≡ Some us → (m u : Shape) → pops o.types (I32 ∷ []) s ≡ Some m → pops o.types us m ≡ Some u → pushes us u ≡ Some e → GoodOf a st.core (FitsOf a e) (jumping 1 (branch_if k) st)
      typed us l m u q p z = popped o good K a st.core (FitsOf a e) (I32 ∷ []) 1 st s m _ refl q f (λ vs below split hv hb r set. i32_one o (allocated st.core.store) (λ vs. GoodOf a st.core (FitsOf a e) (land st below (branch_if k vs))) vs hv (on below hb r set))
        where
          on : (below : List Value) → HasAll o (allocated st.core.store) below m.types → m.any ≡ false → m.set ≡ s.set → (n : ℕ) → GoodOf a st.core (FitsOf a e) (land st below (branch_if k (i32 n ∷ [])))
          on below hb r set zero = with_below a st (FitsOf a e) below _ (stays a e (with_stack st below) (subst (λ e. FitsOf a e (with_stack st below).core) (same_Some _ _ z) (retyped us a m u (with_stack st below).core p (below_fits a s m st below f hb r set))) sf)
          on below hb r set (suc n) = with_below a st (FitsOf a e) below _ (branches a k us m u (FitsOf a e) (with_stack st below) l p (below_fits a s m st below f hb r set) sf)

      split_row : (us : List ValType) → slice_get a.labels k ≡ Some us → (pops o.types (us ++ I32 ∷ []) s >>= pushes us) ≡ Some e → GoodOf a st.core (FitsOf a e) (jumping 1 (branch_if k) st)
      split_row us l q = let b = bind_some (pops o.types (us ++ I32 ∷ []) s) (pushes us) e q in let m = pops_last us I32 s b.mid b.first in typed us l m.0 b.mid m.1 m.2 b.then

      by : (p : Option (List ValType)) → slice_get a.labels k ≡ p → type_row o.types (p >>= λ us. Some (R.goes (us ++ I32 ∷ []) us)) s ≡ Some e → GoodOf a st.core (FitsOf a e) (jumping 1 (branch_if k) st)
      by None l q = absurd (none-some e q)
      by (Some us) l q = split_row us l q

  -- br_table
  pub br_table_good : (a : Around) (table : BranchTable) (st : State) (s e : Shape) → type_leaf K a (I.BrTable table) s ≡ Some e → FitsOf a s st.core → StoreFits o K st.core.store → GoodOf a st.core (FitsOf a e) (jumping 1 (branch_table table.labels table.last) st)
  br_table_good a table st s e h f sf =
      let b = bind_some (slice_get a.labels table.last) (λ us. pops o.types (I32 ∷ []) s >>= table_branch K a table.labels us) e h in
      let c = bind_some (pops o.types (I32 ∷ []) s) (table_branch K a table.labels b.mid) e b.then in
      let g = given_some (list_all (could_take K a (length b.mid) c.mid) table.labels) (pops o.types b.mid c.mid >>= Y.stops) e c.then in
      let d = bind_some (pops o.types b.mid c.mid) Y.stops e g.1 in
      popped o good K a st.core (FitsOf a e) (I32 ∷ []) 1 st s c.mid _ refl c.first f (λ vs below split hv hb r set.
      i32_one o (allocated st.core.store) (λ vs. GoodOf a st.core (FitsOf a e) (land st below (branch_table table.labels table.last vs))) vs hv (λ n.
      with_below a st (FitsOf a e) below _ (chosen c.mid b.mid (with_stack st below) (below_fits a s c.mid st below f hb r set) sf g.0 b.first d.mid d.first (slice_get table.labels n) (λ j q. taken_at (could_take K a (length b.mid) c.mid) table.labels n j g.0 q))))
    where
      taken_at : (test : ℕ → Bool) (js : List ℕ) (n j : ℕ) → list_all test js ≡ true → slice_get js n ≡ Some j → test j ≡ true
      taken_at test [] n j t q = absurd (none-some j q)
      taken_at test (i ∷ js) zero j t q = subst (λ x. test x ≡ true) (same_Some _ _ q) (and_first (test i) _ t)
      taken_at test (i ∷ js) (suc n) j t q = taken_at test js n j (and_second (test i) _ t) q

      one : (m : Shape) (c : State) (us : List ValType) (j : ℕ) → FitsOf a m c.core → StoreFits o K c.core.store → (p : Option (List ValType)) → slice_get a.labels j ≡ p → elim p as (λ _. Bool) [ None ↦ false | Some vs ↦ nat_eq (length vs) (length us) && is_some (pops o.types vs m) ] ≡ true → GoodOf a c.core (FitsOf a e) (out (branch j) c)
      one m c us j fm sm None l t = absurd (true≢false (sym t))
      one m c us j fm sm (Some vs) l t = by (pops o.types vs m) refl (and_second (nat_eq (length vs) (length us)) _ t)
        where
          by : (p : Option Shape) → pops o.types vs m ≡ p → is_some p ≡ true → GoodOf a c.core (FitsOf a e) (out (branch j) c)
          by None q z = absurd (true≢false (sym z))
          by (Some u) q z = branches a j vs m u (FitsOf a e) c l q fm sm

      chosen : (m : Shape) (us : List ValType) (c : State) → FitsOf a m c.core → StoreFits o K c.core.store → list_all (could_take K a (length us) m) table.labels ≡ true → slice_get a.labels table.last ≡ Some us → (u : Shape) → pops o.types us m ≡ Some u → (p : Option ℕ) → ((j : ℕ) → p ≡ Some j → could_take K a (length us) m j ≡ true) → GoodOf a c.core (FitsOf a e) (out (branch (unwrap_or p table.last)) c)
      chosen m us c fm sm t l u q None z = branches a table.last us m u (FitsOf a e) c l q fm sm
      chosen m us c fm sm t l u q (Some j) z = one m c us j fm sm (slice_get a.labels j) refl (z j refl)
