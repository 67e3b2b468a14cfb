-- What holds of a state in the middle of code that is typed, and of an outcome: the frame of the never-wrong law.
use Rattle.std.proofs.Common.{ℕ, zero, suc, Bool, true, false, List, [], ◌∷◌, ◌++◌, map, reverse, length, Option, Some, None, slice_get, nat_lt, ◌≡◌, refl, ◌∙◌, sym, subst}
use Rattle.std.proofs.lemmas.List.{length-map, length-reverse}
use Rattle.std.proofs.lemmas.Option.{same_Some, none-some}
use Rattle.gu_types.specs.declared.types.ValType.{ValType}
use Rattle.gu_syntax.specs.declared.instr.Instr.{Instr}
use Rattle.gu_model.specs.Index.{FuncType}
use Rattle.gu_model.specs.Outline.{Outline, type_of_func}
use Rattle.gu_model.specs.Value.{Value, Store, Allocated, allocated}
use Rattle.gu_model.specs.Did.{Did, goes, traps, fails}
use Rattle.gu_model.specs.Act.{operands, act, do_act}
use Rattle.gu_model.specs.State.{Core, State, How, normal, branch, return, tail, thrown, trap, spent, over, wrong, foul, Out, out, with_stack, after, on_normal, pop}
use Rattle.gu_model.specs.Control.{lift, label, label_on}
use Rattle.gu_model.specs.TypingContext.{Context, Around, matches}
use Rattle.gu_model.specs.TypingShape.{Kind, of, Shape, pops, pushes, type_row, empties, ends_with}
use Rattle.gu_model.specs.TypingRows as R
use Rattle.gu_model.specs.Typing.{inside}
use Rattle.gu_model.proofs.GoodTypes.{GoodTypes}
use Rattle.gu_model.proofs.Has.{bind_some, Grown, grown_then, Has, HasAll, HasTop, has_more, all_more, all_length, all_append, takes, pop_goes}
use Rattle.gu_model.proofs.Stores.{StoreFits, Later, later_same, DidGood}
use Rattle.gu_model.proofs.ActRows.{RowGoodAt}

-- locals

-- what was set stays set
abbrev pub Keeps : (before after' : List (Option Value)) → Type 0
Keeps [] [] = Unit {0}
Keeps (None ∷ ls) (m ∷ ms) = Keeps ls ms
Keeps (Some v ∷ ls) (Some w ∷ ms) = Keeps ls ms
Keeps _ _ = ⊥

abbrev pub IsSet : List (Option Value) → List Bool → Type 0
IsSet [] [] = Unit {0}
IsSet (l ∷ ls) (false ∷ bs) = IsSet ls bs
IsSet (Some v ∷ ls) (true ∷ bs) = IsSet ls bs
IsSet _ _ = ⊥

pub keeps_same : (ls : List (Option Value)) → Keeps ls ls
keeps_same [] = tt
keeps_same (None ∷ ls) = keeps_same ls
keeps_same (Some v ∷ ls) = keeps_same ls

pub keeps_then : (a b c : List (Option Value)) → Keeps a b → Keeps b c → Keeps a c
keeps_then [] [] [] p q = tt
keeps_then [] [] (z ∷ c) p q = absurd q
keeps_then [] (y ∷ b) c p q = absurd p
keeps_then (None ∷ a) [] c p q = absurd p
keeps_then (Some v ∷ a) [] c p q = absurd p
keeps_then (None ∷ a) (None ∷ b) [] p q = absurd q
keeps_then (None ∷ a) (Some w ∷ b) [] p q = absurd q
keeps_then (Some v ∷ a) (None ∷ b) c p q = absurd p
keeps_then (Some v ∷ a) (Some w ∷ b) [] p q = absurd q
keeps_then (None ∷ a) (None ∷ b) (z ∷ c) p q = keeps_then a b c p q
keeps_then (None ∷ a) (Some w ∷ b) (None ∷ c) p q = absurd q
keeps_then (None ∷ a) (Some w ∷ b) (Some x ∷ c) p q = keeps_then a b c p q
keeps_then (Some v ∷ a) (Some w ∷ b) (None ∷ c) p q = absurd q
keeps_then (Some v ∷ a) (Some w ∷ b) (Some x ∷ c) p q = keeps_then a b c p q

pub set_keeps : (ls ms : List (Option Value)) (bs : List Bool) → Keeps ls ms → IsSet ls bs → IsSet ms bs
set_keeps [] [] [] p q = tt
set_keeps [] [] (b ∷ bs) p q = absurd q
set_keeps [] (m ∷ ms) bs p q = absurd p
set_keeps (None ∷ ls) [] bs p q = absurd p
set_keeps (Some v ∷ ls) [] bs p q = absurd p
set_keeps (None ∷ ls) (m ∷ ms) [] p q = absurd q
set_keeps (None ∷ ls) (m ∷ ms) (false ∷ bs) p q = set_keeps ls ms bs p q
set_keeps (None ∷ ls) (m ∷ ms) (true ∷ bs) p q = absurd q
set_keeps (Some v ∷ ls) (None ∷ ms) bs p q = absurd p
set_keeps (Some v ∷ ls) (Some w ∷ ms) [] p q = absurd q
set_keeps (Some v ∷ ls) (Some w ∷ ms) (false ∷ bs) p q = set_keeps ls ms bs p q
set_keeps (Some v ∷ ls) (Some w ∷ ms) (true ∷ bs) p q = set_keeps ls ms bs p q

module _ (o : Outline) (good : GoodTypes o.types) (K : Context) where
  abbrev pub LocalsFit : Allocated → List (Option Value) → List ValType → Type 0
  LocalsFit al [] [] = Unit {0}
  LocalsFit al (None ∷ ls) (t ∷ ts) = LocalsFit al ls ts
  LocalsFit al (Some v ∷ ls) (t ∷ ts) = Has o al t v × LocalsFit al ls ts
  LocalsFit al _ _ = ⊥

  pub locals_more : (a b : Allocated) (ls : List (Option Value)) (ts : List ValType) → Grown a b → LocalsFit a ls ts → LocalsFit b ls ts
  locals_more a b [] [] g h = tt
  locals_more a b [] (t ∷ ts) g h = absurd h
  locals_more a b (None ∷ ls) [] g h = absurd h
  locals_more a b (Some v ∷ ls) [] g h = absurd h
  locals_more a b (None ∷ ls) (t ∷ ts) g h = locals_more a b ls ts g h
  locals_more a b (Some v ∷ ls) (t ∷ ts) g h = (has_more o a b t v g h.0, locals_more a b ls ts g h.1)

  -- a state that a shape describes
  pub record Fits (a : Around) (s : Shape) (c : Core) : Type 0 where
    pub reached : s.any ≡ false
    pub stack : HasAll o (allocated c.store) c.stack s.types
    pub locals : LocalsFit (allocated c.store) c.locals a.locals
    pub set : IsSet c.locals s.set

  -- operands of types are on top
  pub record TopHas (ts : List ValType) (c : Core) : Type 0 where
    pub top : List Value
    pub rest : List Value
    pub split : c.stack ≡ top ++ rest
    pub has : HasTop o (allocated c.store) top ts

  pub record Frame (a : Around) (b c : Core) : Type 0 where
    pub locals : LocalsFit (allocated c.store) c.locals a.locals
    pub keeps : Keeps b.locals c.locals

  pub record Lands (a : Around) (b : Core) (k : ℕ) (c : Core) : Type 0 where
    pub types : List ValType
    pub found : slice_get a.labels k ≡ Some types
    pub top : TopHas types c
    pub frame : Frame a b c

  pub record Goes (N : Core → Type 0) (a : Around) (b c : Core) : Type 0 where
    pub is : N c
    pub frame : Frame a b c

  pub record Tails (a : Around) (f : ℕ) (c : Core) : Type 0 where
    pub type : FuncType
    pub found : type_of_func o f ≡ Some type
    pub arguments : HasTop o (allocated c.store) c.stack type.params
    pub results : matches o.types type.results a.results ≡ true

  pub record Throws (a : Around) (b : Core) (x : ℕ) (c : Core) : Type 0 where
    pub there : nat_lt x (length c.store.exceptions) ≡ true
    pub frame : Frame a b c

  abbrev pub GoodHow : Around → (before : Core) → (Core → Type 0) → How → Core → Type 0
  GoodHow a b N normal c = Goes N a b c
  GoodHow a b N (branch k) c = Lands a b k c
  GoodHow a b N return c = TopHas a.results c
  GoodHow a b N (tail f) c = Tails a f c
  GoodHow a b N (thrown x) c = Throws a b x c
  GoodHow a b N wrong c = ⊥
  GoodHow a b N _ c = Unit {0}

  -- an outcome of code in the middle of a function, which began so
  pub record Good (a : Around) (b : Core) (N : Core → Type 0) (p : Out) : Type 0 where
    pub later : Later o K b.store p.state.core.store
    pub is : GoodHow a b N p.how p.state.core

  pub later_then : {a b c : Store} → Later o K a b → Later o K b c → Later o K a c
  later_then p q = record { grown = grown_then p.grown q.grown; fits = q.fits }

  -- from an earlier state
  pub good_from : (a : Around) (b c : Core) (N : Core → Type 0) (p : Out) → Later o K b.store c.store → Keeps b.locals c.locals → Good a c N p → Good a b N p
  good_from a b c N p l k g = record { later = later_then l g.later; is = by p.how p.state.core g.is }
    where
      frame : (d : Core) → Frame a c d → Frame a b d
      frame d f = record { locals = f.locals; keeps = keeps_then b.locals c.locals d.locals k f.keeps }

      by : (h : How) (d : Core) → GoodHow a c N h d → GoodHow a b N h d
      by normal d i = record { is = i.is; frame = frame d i.frame }
      by (branch j) d i = record { types = i.types; found = i.found; top = i.top; frame = frame d i.frame }
      by return d i = i
      by (tail f) d i = i
      by (thrown x) d i = record { there = i.there; frame = frame d i.frame }
      by wrong d i = i
      by trap d i = tt
      by spent d i = tt
      by over d i = tt
      by foul d i = tt

  pub after_good : (a : Around) (b : Core) (N M : Core → Type 0) (p : Out) (go : State → Out) → Good a b N p → ((u : State) → N u.core → StoreFits o K u.core.store → LocalsFit (allocated u.core.store) u.core.locals a.locals → Good a u.core M (go u)) → Good a b M (after p go)
  after_good a b N M p go g k = by p.how p.state g.later g.is
    where
      by : (h : How) (u : State) → Later o K b.store u.core.store → GoodHow a b N h u.core → Good a b M (on_normal h u go)
      by normal u l i = good_from a b u.core M (go u) l i.frame.keeps (k u i.is l.fits i.frame.locals)
      by (branch j) u l i = record { later = l; is = i }
      by return u l i = record { later = l; is = i }
      by (tail f) u l i = record { later = l; is = i }
      by (thrown x) u l i = record { later = l; is = i }
      by wrong u l i = absurd i
      by trap u l i = record { later = l; is = tt }
      by spent u l i = record { later = l; is = tt }
      by over u l i = record { later = l; is = tt }
      by foul u l i = record { later = l; is = tt }

  -- operands that were taken, before the rest of code
  pub popped : (a : Around) (b : Core) (N : Core → Type 0) (ts : List ValType) (n : ℕ) (st : State) (s u : Shape) (go : List Value → List Value → Out) → n ≡ length ts → pops o.types ts s ≡ Some u → Fits a s st.core → ((vs below : List Value) → st.core.stack ≡ vs ++ below → HasTop o (allocated st.core.store) vs ts → HasAll o (allocated st.core.store) below u.types → u.any ≡ false → u.set ≡ s.set → Good a b N (go vs below)) → Good a b N (pop n st go)
  popped a b N ts n st s u go count e f k = let t = takes o good (allocated st.core.store) ts st.core.stack s u e f.reached f.stack in subst (Good a b N) (sym (pop_goes n st t.given t.below go t.split (all_length o (allocated st.core.store) t.given (map of (reverse ts)) t.has ∙ length-map (reverse ts) of ∙ length-reverse ts ∙ sym count))) (k t.given t.below t.split t.has t.rest t.reached t.set)

  -- nothing but the operands changes
  pub goes_on : (a : Around) (s : Shape) (st : State) (vs : List Value) → StoreFits o K st.core.store → LocalsFit (allocated st.core.store) st.core.locals a.locals → IsSet st.core.locals s.set → s.any ≡ false → HasAll o (allocated st.core.store) vs s.types → Good a st.core (Fits a s) (out normal (with_stack st vs))
  goes_on a s st vs f l i r h = record { later = later_same o K st.core.store f; is = record { is = record { reached = r; stack = h; locals = l; set = i }; frame = record { locals = l; keeps = keeps_same st.core.locals } } }

  -- a plain instruction, by its row
  pub row_good : (a : Around) (i : Instr) (p : Option R.Row) (st : State) (s e : Shape) → RowGoodAt o K i p → type_row o.types p s ≡ Some e → Fits a s st.core → StoreFits o K st.core.store → Good a st.core (Fits a e) (pop (operands o i) st (λ vs below. lift st below (do_act o i st.core.locals st.core.store vs)))
  unfolding do_act
  row_good a i None st s e g q f sf = absurd (none-some e q)
  row_good a i (Some (R.leaves ts)) st s e g q f sf = absurd g
  row_good a i (Some (R.goes ts us)) st s e g q f sf =
      let bound = bind_some (pops o.types ts s) (pushes us) e q in
      popped a st.core (Fits a e) ts (operands o i) st s bound.mid _ g.count bound.first f (λ vs below split hv hb r set.
      by (act o i st.core.locals st.core.store vs) below bound.mid (same_Some _ _ bound.then) (g.acts st.core.locals st.core.store vs sf hv) hb r set)
    where
      by : (d : Did) (below : List Value) (u : Shape) → record u { types = map of (reverse us) ++ u.types } ≡ e → DidGood o K us st.core.locals st.core.store d → HasAll o (allocated st.core.store) below u.types → u.any ≡ false → u.set ≡ s.set → Good a st.core (Fits a e) (lift st below d)
      by (goes vs ls new) below u z dg hb r set =
          let l = locals_more (allocated st.core.store) (allocated new) st.core.locals a.locals dg.0.grown f.locals in
          subst (λ ls. Good a st.core (Fits a e) (lift st below (goes vs ls new))) (sym dg.2) (record {
            later = dg.0;
            is = record {
              is = subst (λ e. Fits a e (record { locals = st.core.locals; stack = vs ++ below; store = new })) z (record {
                reached = r;
                stack = all_append o (allocated new) vs below (map of (reverse us)) u.types dg.1 (all_more o (allocated st.core.store) (allocated new) below u.types dg.0.grown hb);
                locals = l;
                set = subst (IsSet st.core.locals) (sym set) f.set;
              });
              frame = record { locals = l; keeps = keeps_same st.core.locals };
            };
          })
      by traps below u z dg hb r set = record { later = later_same o K st.core.store sf; is = tt }
      by fails below u z dg hb r set = absurd dg

  -- the end of a block
  pub record Inner (a : Around) (b : Core) (lbl rs : List ValType) (u : Shape) (below : List Value) : Type 0 where
    pub rest : HasAll o (allocated b.store) below u.types
    pub reached : u.any ≡ false
    pub set : IsSet b.locals u.set

  pub label_good : (a : Around) (b : Core) (lbl rs : List ValType) (u e : Shape) (below : List Value) (go : State → Out) (p : Option Shape) (q : Out) → Inner a b lbl rs u below → ends_with o.types rs p (pushes rs u) ≡ Some e → ((x : Shape) → p ≡ Some x → Good (inside a lbl) b (Fits (inside a lbl) x) q) → ((v : State) → HasTop o (allocated v.core.store) v.core.stack lbl → StoreFits o K v.core.store → Frame a b v.core → Grown (allocated b.store) (allocated v.core.store) → Good a v.core (Fits a e) (go v)) → Good a b (Fits a e) (label (length rs) (length lbl) below go q)
  label_good a b lbl rs u e below go None q inner h g k = absurd (none-some e h)
  label_good a b lbl rs u e below go (Some x) q inner h g k = let w = g x refl in by q.how q.state w.later w.is
    where
      pushed : (y : Shape) → empties o.types y (pushes rs u) ≡ Some e → (y.types ≡ []) × (record u { types = map of (reverse rs) ++ u.types } ≡ e)
      pushed y = on y.types refl
        where
          on : (ks : List Kind) → y.types ≡ ks → elim ks as (λ _. Option Shape) [ [] ↦ pushes rs u | k ∷ ks ↦ None ] ≡ Some e → (y.types ≡ []) × (record u { types = map of (reverse rs) ++ u.types } ≡ e)
          on [] z c = (z, same_Some _ _ c)
          on (k ∷ ks) z c = absurd (none-some e c)

      ended : (v : State) → Later o K b.store v.core.store → Goes (Fits (inside a lbl) x) (inside a lbl) b v.core → Good a b (Fits a e) (pop (length rs) v (λ vs rest. out normal (with_stack v (vs ++ below))))
      ended v l i = let bound = bind_some (pops o.types rs x) (λ y. empties o.types y (pushes rs u)) e h in let z = pushed bound.mid bound.then in
          popped_in v l i bound.mid bound.first z.1
        where
          popped_in : (v : State) → Later o K b.store v.core.store → Goes (Fits (inside a lbl) x) (inside a lbl) b v.core → (y : Shape) → pops o.types rs x ≡ Some y → record u { types = map of (reverse rs) ++ u.types } ≡ e → Good a b (Fits a e) (pop (length rs) v (λ vs rest. out normal (with_stack v (vs ++ below))))
          popped_in v l i y first z = let t = takes o good (allocated v.core.store) rs v.core.stack x y first i.is.reached i.is.stack in
              subst (Good a b (Fits a e)) (sym (pop_goes (length rs) v t.given t.below (λ vs rest. out normal (with_stack v (vs ++ below))) t.split (all_length o (allocated v.core.store) t.given (map of (reverse rs)) t.has ∙ length-map (reverse rs) of ∙ length-reverse rs))) (record {
                later = l;
                is = record {
                  is = subst (λ e. Fits a e (record { locals = v.core.locals; stack = t.given ++ below; store = v.core.store })) z (record {
                    reached = inner.reached;
                    stack = all_append o (allocated v.core.store) t.given below (map of (reverse rs)) u.types t.has (all_more o (allocated b.store) (allocated v.core.store) below u.types l.grown inner.rest);
                    locals = i.frame.locals;
                    set = set_keeps b.locals v.core.locals u.set i.frame.keeps inner.set;
                  });
                  frame = record { locals = i.frame.locals; keeps = i.frame.keeps };
                };
              })

      landed : (v : State) → Later o K b.store v.core.store → Lands (inside a lbl) b zero v.core → Good a b (Fits a e) (pop (length lbl) v (λ vs rest. go (with_stack v vs)))
      landed v l i = let t = subst (λ ts. TopHas ts v.core) (sym (same_Some _ _ i.found)) i.top in
          subst (Good a b (Fits a e)) (sym (pop_goes (length lbl) v t.top t.rest (λ vs rest. go (with_stack v vs)) t.split (all_length o (allocated v.core.store) t.top (map of (reverse lbl)) t.has ∙ length-map (reverse lbl) of ∙ length-reverse lbl)))
          (good_from a b (with_stack v t.top).core (Fits a e) (go (with_stack v t.top)) l i.frame.keeps (k (with_stack v t.top) t.has l.fits (record { locals = i.frame.locals; keeps = i.frame.keeps }) l.grown))

      by : (h : How) (v : State) → Later o K b.store v.core.store → GoodHow (inside a lbl) b (Fits (inside a lbl) x) h v.core → Good a b (Fits a e) (label_on (length rs) (length lbl) below go h v)
      by normal v l i = ended v l i
      by (branch zero) v l i = landed v l i
      by (branch (suc j)) v l i = record { later = l; is = record { types = i.types; found = i.found; top = i.top; frame = record { locals = i.frame.locals; keeps = i.frame.keeps } } }
      by return v l i = record { later = l; is = i }
      by (tail f) v l i = record { later = l; is = record { type = i.type; found = i.found; arguments = i.arguments; results = i.results } }
      by (thrown y) v l i = record { later = l; is = record { there = i.there; frame = record { locals = i.frame.locals; keeps = i.frame.keeps } } }
      by wrong v l i = absurd i
      by trap v l i = record { later = l; is = tt }
      by spent v l i = record { later = l; is = tt }
      by over v l i = record { later = l; is = tt }
      by foul v l i = record { later = l; is = tt }
