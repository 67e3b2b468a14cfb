-- Writes, questions, calls and moves keep a store that fits.
use Rattle.std.proofs.Common.{ℕ, zero, suc, ◌*◌, ◌/◌, Bool, true, false, cond, List, [], ◌∷◌, ◌++◌, map, length, replicate, Option, Some, None, is_some, unwrap_or, slice_get, slice_set, nat_lt, ◌≡◌, refl, ap, ◌∙◌, sym, subst, true≢false}
use Rattle.std.proofs.lemmas.Option.{same_Some, none-some}
use Rattle.gu_types.specs.declared.types.RefType.{RefType}
use Rattle.gu_types.specs.declared.types.ValType.{ValType}
use Rattle.gu_types.specs.declared.types.ValType.TheVariants.{I32, Ref}
use Rattle.gu_syntax.specs.declared.instr.Instr.{Instr}
use Rattle.gu_syntax.specs.declared.instr.Instr.TheVariants as I
use Rattle.gu_model.specs.Outline.{Outline}
use Rattle.gu_model.specs.Value.{Value, i32, i64, null, i31, struct, array, exception, function, host, host_external, external, Store, Allocated, allocated, heap_type, is_under, fits_ref}
use Rattle.gu_model.specs.State.{Core, State, normal, Out, out, with_stack, pop}
use Rattle.gu_model.specs.Control.{exec_leaf, memory_grow, table_grow, ask, answered, answer_with, grown_on, grow_memory, grow_table, reference_or_not, refused}
use Rattle.gu_model.specs.TypingContext.{Context, Around, ◌>>=◌, given}
use Rattle.gu_model.specs.TypingShape.{Shape, pushes, pops, type_row}
use Rattle.gu_model.specs.TypingRows as R
use Rattle.gu_model.specs.Typing.{type_leaf}
use Rattle.gu_model.proofs.GoodTypes.{GoodTypes}
use Rattle.gu_model.proofs.Has.{has_sub, has_suits, Bound, bind_some, Grown, grown_same, Has, HasAll, HasKind, HasTop, all_append, all_length, all_back, all_reverse, all_matches, Taken, takes, pop_goes, and_first, and_second}
use Rattle.gu_model.proofs.Stores.{there, StoreFits, Later, later_same, refs_at, EachHas}
use Rattle.gu_model.proofs.ActRows.{within_module, two_is, i32_is, i32_one}
use Rattle.gu_model.proofs.ActNumbers.{asks}
use Rattle.gu_model.proofs.ActTables.{reference_is}
use Rattle.gu_model.proofs.References.{GoodFuncs}
use Rattle.gu_model.proofs.Moments.{Keeps, IsSet, keeps_same, LocalsFit, Fits, TopHas, Frame, Lands, Goes, Good, popped, goes_on, row_good}
use Rattle.gu_model.proofs.Moments.{set_keeps, GoodHow, Inner, label_good, after_good, good_from, Throws, Tails, locals_more}
use Rattle.gu_model.proofs.Leaves.{below_fits, with_below}
use Rattle.gu_model.specs.Value.{Identity, Exception, is_same_tag}
use Rattle.gu_model.proofs.Has.{all_more, ref_sub}
use Rattle.gu_model.proofs.Calls.{some_is}
use Rattle.std.proofs.lemmas.Option.{slice_get-map}
use Rattle.gu_syntax.specs.declared.module.Limits.{Limits}
use Rattle.gu_model.specs.Index.{TableType}
use Rattle.gu_model.specs.Value.{defaults}
use Rattle.gu_model.specs.Did.{with_memory, with_table}
use Rattle.gu_model.specs.Script.{Token, Given, Write, Move, Act, What}
use Rattle.gu_model.specs.State.{with_store}
use Rattle.gu_model.specs.Numbers.{page}
use Rattle.gu_model.specs.Shown.{tell, foul_at, entries_at}
use Rattle.gu_model.specs.Taken.{known, fitting, taken, item_at, element_type, global_type, write_entry, write_global, write_global_on, written_one, written}
use Rattle.gu_model.specs.ValidContext.{entries_type}
use Rattle.std.specs.Option.{option_and_then, option_map}
use Rattle.gu_syntax.specs.declared.module.Kind.TheVariants as D
use Rattle.gu_model.proofs.Has.{has_fits}
use Rattle.gu_model.proofs.Stores.{GlobalsFit, each_append, each_replicate}
use Rattle.gu_model.proofs.ActNumbers.{memory_set}
use Rattle.gu_model.proofs.ActTables.{table_sets, variable_sets}
use Rattle.gu_model.proofs.Never.{GoodAsks, spend_good}

pub and_then_some : {X Y : Type 0} (f : X → Option Y) (p : Option X) (e : Y) → option_and_then f p ≡ Some e → (x : X) × (p ≡ Some x) × (f x ≡ Some e)
and_then_some f None e h = absurd (none-some e h)
and_then_some f (Some x) e h = (x, refl, h)

pub cond_some : {X : Type 0} (b : Bool) (x e : X) → cond b (Some x) None ≡ Some e → (b ≡ true) × (x ≡ e)
cond_some true x e h = (refl, same_Some _ _ h)
cond_some false x e h = absurd (none-some e h)

-- a global that holds a value among the mutable ones may hold another of its type
written_globals : (o : Outline) (al : Allocated) (cs vs : List (Option Value)) (gs : List (ValType × Bool)) (y : ℕ) (old : Value) (g : ValType × Bool) (v : Value) → GlobalsFit o al cs vs gs → slice_get vs y ≡ Some (Some old) → slice_get gs y ≡ Some g → Has o al g.0 v → GlobalsFit o al cs (slice_set vs y (Some v)) gs
written_globals o al cs vs [] y old g v f q e h = absurd (none-some g e)
written_globals o al [] [] (z ∷ gs) y old g v f q e h = absurd f
written_globals o al [] (u ∷ vs) (z ∷ gs) y old g v f q e h = absurd f
written_globals o al (c ∷ cs) [] (z ∷ gs) y old g v f q e h = absurd f
written_globals o al (Some c ∷ cs) (None ∷ vs) (z ∷ gs) zero old g v f q e h = absurd (none-some old (same_Some _ _ q))
written_globals o al (None ∷ cs) (None ∷ vs) (z ∷ gs) zero old g v f q e h = absurd (none-some old (same_Some _ _ q))
written_globals o al (Some c ∷ cs) (Some u ∷ vs) (z ∷ gs) zero old g v f q e h = absurd f.0
written_globals o al (None ∷ cs) (Some u ∷ vs) (z ∷ gs) zero old g v f q e h = ((subst (λ (y : ValType × Bool). Has o al y.0 v) (sym (same_Some _ _ e)) h, f.0.1), f.1)
written_globals o al (c ∷ cs) (u ∷ vs) (z ∷ gs) (suc y) old g v f q e h = (f.0, written_globals o al cs vs gs y old g v f.1 q e h)

-- a module with all its globals and tables
module _ (o : Outline) (good : GoodTypes o.types) (funcs : GoodFuncs o) (es : List RefType) (segs : ℕ) (declared : List Bool) where
  abbrev K : Context
  K = within_module o o.globals (map entries_type o.tables) es segs declared

  abbrev FitsOf : Around → Shape → Core → Type 0
  FitsOf a s c = Fits o good K a s c

  abbrev GoodOf : Around → Core → (Core → Type 0) → Out → Type 0
  GoodOf a b N p = Good o good K a b N p

  later_then : {a b c : Store} → Later o K a b → Later o K b c → Later o K a c
  later_then p q = Rattle.gu_model.proofs.Moments.later_then o good K p q

  -- a value that is taken fits
  fitting_has : (al : Allocated) (t : ValType) (v w : Value) → fitting o al t v ≡ Some w → Has o al t w
  fitting_has al t v w h = let q = cond_some (Rattle.gu_model.specs.Value.fits o al t v) v w h in subst (Has o al t) q.1 (has_fits o al t v q.0)

  pub taken_has : (find : Token → Option Value) (al : Allocated) (t : ValType) (g : Given) (w : Value) → taken o find al t g ≡ Some w → Has o al t w
  taken_has find al t (Given.I32 n) w h = fitting_has al t (i32 n) w h
  taken_has find al t (Given.I64 n) w h = fitting_has al t (i64 n) w h
  taken_has find al t Given.Null w h = fitting_has al t null w h
  taken_has find al t (Given.I31 n) w h = let q = and_then_some (fitting o al t) _ w h in fitting_has al t q.0 w q.2
  taken_has find al t (Given.Ref k) w h = let q = and_then_some (fitting o al t) _ w h in fitting_has al t q.0 w q.2

  -- writes

  table_type_at : (x : ℕ) (t : TableType) → slice_get o.tables x ≡ Some t → slice_get K.tables x ≡ Some t.elem
  table_type_at x t e = slice_get-map entries_type o.tables x ∙ ap (option_map entries_type) e

  each_set : (al : Allocated) (t : ValType) (vs : List Value) (i : ℕ) (v : Value) → EachHas o al t vs → Has o al t v → EachHas o al t (slice_set vs i v)
  each_set al t [] i v h w = h
  each_set al t (u ∷ vs) zero v h w = (w, h.1)
  each_set al t (u ∷ vs) (suc i) v h w = (h.0, each_set al t vs i v h.1 w)

  entry_good : (st new : Store) (x i : ℕ) (t : TableType) (v : Value) → StoreFits o K st → slice_get o.tables x ≡ Some t → Has o (allocated st) (Ref t.elem) v → write_entry x i st v ≡ Some new → Later o K st new
  entry_good st new x i t v f e hv h =
      let r = refs_at o (allocated st) st.tables K.tables x t.elem f.tables (table_type_at x t e) in
      subst (Later o K st) (cond_some (nat_lt i (length (entries_at st x))) (with_table st x (slice_set (entries_at st x) i v)) new h).1
      (table_sets o good K st x t.elem (slice_set (entries_at st x) i v) f (table_type_at x t e) (each_set (allocated st) (Ref t.elem) (entries_at st x) i v (subst (λ p. EachHas o (allocated st) (Ref t.elem) (unwrap_or p [])) (sym r.found) r.has) hv))

  global_written : (st new : Store) (x : ℕ) (g : ValType × Bool) (v : Value) → StoreFits o K st → slice_get o.globals x ≡ Some g → Has o (allocated st) g.0 v → write_global x st v ≡ Some new → Later o K st new
  global_written st new x g v f e hv h = by (slice_get st.variables x) refl h
    where
      by : (p : Option (Option Value)) → slice_get st.variables x ≡ p → write_global_on x st v p ≡ Some new → Later o K st new
      by None q h = absurd (none-some new h)
      by (Some None) q h = absurd (none-some new h)
      by (Some (Some old)) q h = subst (Later o K st) (same_Some _ _ h) (variable_sets o good K st x v f (written_globals o (allocated st) st.constants st.variables o.globals x old g v f.globals q e hv))

  written_one_good : (tokens : List Value) (st new : Store) (w : Write) → StoreFits o K st → written_one o tokens st w ≡ Some new → Later o K st new
  written_one_good tokens st new (Write.Byte k x b) f h = let q = and_then_some _ (item_at o D.Memory k) new h in subst (Later o K st) (cond_some _ _ new q.2).1 (memory_set o K st q.0 _ f)
  written_one_good tokens st new (Write.Entry k i g) f h = let q = and_then_some _ (item_at o D.Table k) new h in let r = and_then_some _ (element_type (slice_get o.tables q.0)) new q.2 in let z = and_then_some (write_entry q.0 i st) _ new r.2 in entry_of q.0 (slice_get o.tables q.0) refl r.1 z
    where
      entry_of : (x : ℕ) (p : Option TableType) → slice_get o.tables x ≡ p → {t : ValType} → element_type p ≡ Some t → (v : Value) × (taken o (known o tokens) (allocated st) t g ≡ Some v) × (write_entry x i st v ≡ Some new) → Later o K st new
      entry_of x None e q z = absurd (none-some _ q)
      entry_of x (Some t) e q z = entry_good st new x i t z.0 f e (taken_has (known o tokens) (allocated st) (Ref t.elem) g z.0 (subst (λ u. taken o (known o tokens) (allocated st) u g ≡ Some z.0) (sym (same_Some _ _ q)) z.1)) z.2
  written_one_good tokens st new (Write.Global k g) f h = let q = and_then_some _ (item_at o D.Global k) new h in let r = and_then_some _ (global_type (slice_get o.globals q.0)) new q.2 in let z = and_then_some (write_global q.0 st) _ new r.2 in global_of q.0 (slice_get o.globals q.0) refl r.1 z
    where
      global_of : (x : ℕ) (p : Option (ValType × Bool)) → slice_get o.globals x ≡ p → {t : ValType} → global_type p ≡ Some t → (v : Value) × (taken o (known o tokens) (allocated st) t g ≡ Some v) × (write_global x st v ≡ Some new) → Later o K st new
      global_of x None e q z = absurd (none-some _ q)
      global_of x (Some t) e q z = global_written st new x t z.0 f e (taken_has (known o tokens) (allocated st) t.0 g z.0 (subst (λ u. taken o (known o tokens) (allocated st) u g ≡ Some z.0) (sym (same_Some _ _ q)) z.1)) z.2

  pub written_good : (tokens : List Value) (ws : List Write) (st new : Store) → StoreFits o K st → written o tokens ws st ≡ Some new → Later o K st new
  written_good tokens [] st new f h = subst (Later o K st) (same_Some _ _ h) (later_same o K st f)
  written_good tokens (w ∷ ws) st new f h = let q = and_then_some (written o tokens ws) (written_one o tokens st w) new h in let l = written_one_good tokens st q.0 w f q.1 in later_then l (written_good tokens ws q.0 new l.fits q.2)

  -- questions

  answered_good : (a : Around) (N : Core → Type 0) (ms : List Move) (s : State) (go : Bool → State → Out) → StoreFits o K s.core.store → LocalsFit o good K (allocated s.core.store) s.core.locals a.locals → ((b : Bool) (v : State) (new : Store) → Later o K s.core.store new → v.core ≡ record { locals = s.core.locals; stack = s.core.stack; store = new } → GoodOf a v.core N (go b v)) → GoodOf a s.core N (answered o ms s go)
  answered_good a N [] s go sf l k = record { later = later_same o K s.core.store sf; is = tt }
  answered_good a N (move ∷ ms) s go sf l k = by move.act (written o s.tokens move.writes s.core.store) refl
    where
      none_good : GoodOf a s.core N (foul_at o s)
      none_good = record { later = later_same o K s.core.store sf; is = tt }

      by : (act : Act) (p : Option Store) → written o s.tokens move.writes s.core.store ≡ p → GoodOf a s.core N (answer_with o act p s ms go)
      by (Act.Answer b) (Some new) q = let la = written_good s.tokens move.writes s.core.store new sf q in good_from o good K a s.core (record { locals = s.core.locals; stack = s.core.stack; store = new }) N _ la (keeps_same s.core.locals) (k b (with_store (record s { moves = ms }) new) new la refl)
      by (Act.Answer b) None q = none_good
      by (Act.Call n gs) p q = none_good
      by (Act.Return gs) p q = none_good
      by Act.Trap p q = none_good
      by (Act.Throw n gs) p q = none_good
      by (Act.Again t) p q = none_good

  ask_good : (a : Around) (N : Core → Type 0) (what : What) (s : State) (go : Bool → State → Out) → StoreFits o K s.core.store → LocalsFit o good K (allocated s.core.store) s.core.locals a.locals → ((b : Bool) (v : State) (new : Store) → Later o K s.core.store new → v.core ≡ record { locals = s.core.locals; stack = s.core.stack; store = new } → GoodOf a v.core N (go b v)) → GoodOf a s.core N (ask o what s go)
  unfolding ask
  ask_good a N what s go sf l k = answered_good a N (tell o [] (λ ts. what) s).moves (tell o [] (λ ts. what) s) go sf l k

  -- behind a grow stands an i32, over a store that fits
  grown_good : (a : Around) (u e : Shape) (s v : State) (new : Store) → pushes (I32 ∷ []) u ≡ Some e → FitsOf a u s.core → Later o K s.core.store new → v.core ≡ record { locals = s.core.locals; stack = s.core.stack; store = new } → (p : Option (ℕ × Store)) → ((y : ℕ × Store) → p ≡ Some y → Later o K new y.1) → is_some p ≡ true → GoodOf a v.core (FitsOf a e) (grown_on p v)
  grown_good a u e s v new h f la c None g z = absurd (true≢false (sym z))
  grown_good a u e s v new h f la c (Some y) g z = subst (λ (c : Core). GoodOf a c (FitsOf a e) (out normal (record v { core = record { locals = c.locals; stack = i32 y.0 ∷ c.stack; store = y.1 } }))) (sym c) (
      let l = g y refl in
      let m = later_then la l in
      let ls = locals_more o good K (allocated s.core.store) (allocated y.1) s.core.locals a.locals m.grown f.locals in
      record { later = l; is = record { is = subst (λ e. FitsOf a e (record { locals = s.core.locals; stack = i32 y.0 ∷ s.core.stack; store = y.1 })) (same_Some _ _ h) (record { reached = f.reached; stack = (tt, all_more o (allocated s.core.store) (allocated y.1) s.core.stack u.types m.grown f.stack); locals = ls; set = f.set }); frame = record { locals = ls; keeps = keeps_same s.core.locals } } })

  memory_there : (x : ℕ) (st : Store) → StoreFits o K st → nat_lt x K.memories ≡ true → (bytes : List ℕ) × (slice_get st.memories x ≡ Some bytes)
  memory_there x st f lt = there st.memories K.memories x f.memories lt

  memory_grown : (x n : ℕ) (limits : Limits) (b : Bool) (st : Store) (bytes : List ℕ) → StoreFits o K st → Later o K st (grow_memory x n limits b st bytes).1
  memory_grown x n limits false st bytes f = later_same o K st f
  memory_grown x n limits true st bytes f = by _
    where
      by : (c : Bool) → Later o K st (cond {A = ℕ × Store} c (refused, st) (length bytes / page, with_memory st x (bytes ++ replicate (n * page) 0))).1
      by true = later_same o K st f
      by false = memory_set o K st x _ f

  option_there : {X Y : Type 0} (f : X → Y) (p : Option X) (x : X) → p ≡ Some x → is_some (option_map f p) ≡ true
  option_there f p x e = ap (λ p. is_some (option_map f p)) e

  option_is : {X Y : Type 0} (f : X → Y) (p : Option X) (y : Y) → option_map f p ≡ Some y → (x : X) × (f x ≡ y)
  option_is f None y h = absurd (none-some y h)
  option_is f (Some x) y h = (x, same_Some _ _ h)

  -- memory.grow
  memory_asked : (a : Around) (x : ℕ) (st : State) (s e : Shape) → type_row o.types (Rattle.gu_model.specs.TypingNumbers.on_memory K x (I32 ∷ []) (I32 ∷ [])) s ≡ Some e → FitsOf a s st.core → StoreFits o K st.core.store → GoodOf a st.core (FitsOf a e) (pop 1 st (λ vs below. memory_grow o x vs (with_stack st below)))
  memory_asked a x st s e h f sf = on (nat_lt x K.memories) refl h
    where
      grown : (u : Shape) → pushes (I32 ∷ []) u ≡ Some e → (c : State) → FitsOf a u c.core → StoreFits o K c.core.store → nat_lt x K.memories ≡ true → (n : ℕ) → GoodOf a c.core (FitsOf a e) (memory_grow o x (i32 n ∷ []) c)
      grown u z c fu cf lt n =
          let m = there o.memories (length o.memories) x refl lt in
          subst (GoodOf a c.core (FitsOf a e)) (sym (some_is o good funcs o.globals (map entries_type o.tables) es segs declared (slice_get o.memories x) c _ m.0 m.1))
          (spend_good o good funcs o.globals (map entries_type o.tables) es segs declared a c (FitsOf a e) _ cf (λ k.
          ask_good a (FitsOf a e) (What.AskMemory n) (record c { steps = k }) _ cf fu.locals (λ b v new la vc.
          let vs = subst (λ (d : Core). StoreFits o K d.store) (sym vc) la.fits in
          let t = memory_there x v.core.store vs lt in
          grown_good a u e (record c { steps = k }) v new z fu la vc (option_map (grow_memory x n m.0 b v.core.store) (slice_get v.core.store.memories x))
          (λ y q. let w = option_is (grow_memory x n m.0 b v.core.store) (slice_get v.core.store.memories x) y q in subst (λ st'. Later o K st' y.1) (ap (λ (d : Core). d.store) vc) (subst (λ (y : ℕ × Store). Later o K v.core.store y.1) w.1 (memory_grown x n m.0 b v.core.store w.0 vs)))
          (option_there (grow_memory x n m.0 b v.core.store) (slice_get v.core.store.memories x) t.0 t.1))))

      on : (c : Bool) → nat_lt x K.memories ≡ c → type_row o.types (given c (Some (R.goes (I32 ∷ []) (I32 ∷ [])))) s ≡ Some e → GoodOf a st.core (FitsOf a e) (pop 1 st (λ vs below. memory_grow o x vs (with_stack st below)))
      on false lt h = absurd (none-some e h)
      on true lt h = let b = bind_some (pops o.types (I32 ∷ []) s) (pushes (I32 ∷ [])) e h in
          popped o good K a st.core (FitsOf a e) (I32 ∷ []) 1 st s b.mid _ refl b.first f (λ vs below split hv hb r set.
          i32_one o (allocated st.core.store) (λ vs. GoodOf a st.core (FitsOf a e) (memory_grow o x vs (with_stack st below))) vs hv (λ n.
          with_below o good funcs o.globals (map entries_type o.tables) es segs declared a st (FitsOf a e) below _ (grown b.mid b.then (with_stack st below) (below_fits o good funcs o.globals (map entries_type o.tables) es segs declared a s b.mid st below f hb r set) sf lt n)))

  -- table.grow
  type_there : (x : ℕ) (r : RefType) → slice_get K.tables x ≡ Some r → (t : TableType) × (slice_get o.tables x ≡ Some t) × (t.elem ≡ r)
  type_there x r e = by (slice_get o.tables x) refl (sym (slice_get-map entries_type o.tables x) ∙ e)
    where
      by : (p : Option TableType) → slice_get o.tables x ≡ p → option_map entries_type p ≡ Some r → (t : TableType) × (slice_get o.tables x ≡ Some t) × (t.elem ≡ r)
      by None q h = absurd (none-some r h)
      by (Some t) q h = (t, q, same_Some _ _ h)

  table_grown : (x n : ℕ) (r : RefType) (w : Value) (limits : Limits) (b : Bool) (st : Store) (entries : List Value) → StoreFits o K st → slice_get K.tables x ≡ Some r → Has o (allocated st) (Ref r) w → EachHas o (allocated st) (Ref r) entries → Later o K st (grow_table x n w limits b st entries).1
  table_grown x n r w limits false st entries f e h k = later_same o K st f
  table_grown x n r w limits true st entries f e h k = by _
    where
      by : (c : Bool) → Later o K st (cond {A = ℕ × Store} c (refused, st) (length entries, with_table st x (entries ++ replicate n w))).1
      by true = later_same o K st f
      by false = table_sets o good K st x r (entries ++ replicate n w) f e (each_append o (allocated st) (Ref r) entries (replicate n w) k (each_replicate o (allocated st) (Ref r) n w h))

  table_asked : (a : Around) (x : ℕ) (st : State) (s e : Shape) → type_row o.types (Rattle.gu_model.specs.TypingTables.on_table K x (λ t. R.goes (Ref t ∷ I32 ∷ []) (I32 ∷ []))) s ≡ Some e → FitsOf a s st.core → StoreFits o K st.core.store → GoodOf a st.core (FitsOf a e) (pop 2 st (λ vs below. table_grow o x vs (with_stack st below)))
  table_asked a x st s e h f sf = on (slice_get K.tables x) refl h
    where
      grown : (r : RefType) → slice_get K.tables x ≡ Some r → (u : Shape) → pushes (I32 ∷ []) u ≡ Some e → (c : State) → FitsOf a u c.core → StoreFits o K c.core.store → (n : ℕ) (w : Value) → Has o (allocated c.core.store) (Ref r) w → GoodOf a c.core (FitsOf a e) (table_grow o x (i32 n ∷ w ∷ []) c)
      grown r l u z c fu cf n w hw =
          let m = type_there x r l in
          subst (GoodOf a c.core (FitsOf a e)) (sym (some_is o good funcs o.globals (map entries_type o.tables) es segs declared (slice_get o.tables x) c _ m.0 m.1 ∙ some_is o good funcs o.globals (map entries_type o.tables) es segs declared (reference_or_not w) c _ w (ap (λ b. cond b (Some w) None) (reference_is o (allocated c.core.store) r w hw))))
          (spend_good o good funcs o.globals (map entries_type o.tables) es segs declared a c (FitsOf a e) _ cf (λ k.
          ask_good a (FitsOf a e) (What.AskTable n) (record c { steps = k }) _ cf fu.locals (λ b v new la vc.
          let vs = subst (λ (d : Core). StoreFits o K d.store) (sym vc) la.fits in
          let t = refs_at o (allocated v.core.store) v.core.store.tables K.tables x r vs.tables l in
          let hv = subst (λ (d : Core). Has o (allocated d.store) (Ref r) w) (sym vc) (Rattle.gu_model.proofs.Has.has_more o (allocated c.core.store) (allocated new) (Ref r) w la.grown hw) in
          grown_good a u e (record c { steps = k }) v new z fu la vc (option_map (grow_table x n w m.0.limits b v.core.store) (slice_get v.core.store.tables x))
          (λ y q. subst (λ st'. Later o K st' y.1) (ap (λ (d : Core). d.store) vc) (subst (λ (y : ℕ × Store). Later o K v.core.store y.1) (same_Some _ _ (sym (ap (option_map (grow_table x n w m.0.limits b v.core.store)) t.found) ∙ q)) (table_grown x n r w m.0.limits b v.core.store t.entries vs l hv t.has)))
          (option_there (grow_table x n w m.0.limits b v.core.store) (slice_get v.core.store.tables x) t.entries t.found))))

      on : (p : Option RefType) → slice_get K.tables x ≡ p → type_row o.types (p >>= λ t. Some (R.goes (Ref t ∷ I32 ∷ []) (I32 ∷ []))) s ≡ Some e → GoodOf a st.core (FitsOf a e) (pop 2 st (λ vs below. table_grow o x vs (with_stack st below)))
      on None l h = absurd (none-some e h)
      on (Some r) l h = let b = bind_some (pops o.types (Ref r ∷ I32 ∷ []) s) (pushes (I32 ∷ [])) e h in
          popped o good K a st.core (FitsOf a e) (Ref r ∷ I32 ∷ []) 2 st s b.mid _ refl b.first f (λ vs below split hv hb z set.
          two_is o (allocated st.core.store) (λ vs. GoodOf a st.core (FitsOf a e) (table_grow o x vs (with_stack st below))) vs I32 (Ref r) hv (λ n w hn hw.
          i32_is o (allocated st.core.store) (λ n. GoodOf a st.core (FitsOf a e) (table_grow o x (n ∷ w ∷ []) (with_stack st below))) n hn (λ n.
          with_below o good funcs o.globals (map entries_type o.tables) es segs declared a st (FitsOf a e) below _ (grown r l b.mid b.then (with_stack st below) (below_fits o good funcs o.globals (map entries_type o.tables) es segs declared a s b.mid st below f hb z set) sf n w hw))))

  pub asks_good : (enters : ℕ → State → Out) → GoodAsks o good funcs o.globals (map entries_type o.tables) es segs declared enters
  asks_good enters = record { asked = asked }
    where
      asked : (a : Around) (i : Instr) (st : State) (s e : Shape) → asks i ≡ true → type_leaf K a i s ≡ Some e → FitsOf a s st.core → StoreFits o K st.core.store → GoodOf a st.core (FitsOf a e) (exec_leaf o enters i st)
      asked a (I.MemoryGrow x) st s e p h f sf = memory_asked a x st s e h f sf
      asked a (I.TableGrow x) st s e p h f sf = table_asked a x st s e h f sf
      asked a i st s e p h f sf = absurd (true≢false (sym p))
