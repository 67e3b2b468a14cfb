-- Where a function begins: its locals fit their types.
use Rattle.std.proofs.Common.{ℕ, zero, suc, Bool, true, false, cond, List, [], ◌∷◌, ◌++◌, map, reverse, length, replicate, Option, Some, None, is_some, ◌≡◌, refl, ap, ◌∙◌, sym, subst, true≢false}
use Rattle.std.proofs.lemmas.List.{length-map, length-reverse, map-append}
use Rattle.std.proofs.lemmas.Option.{same_Some, none-some}
use Rattle.gu_types.specs.declared.types.RefType.{RefType}
use Rattle.gu_types.specs.declared.types.ValType.{ValType}
use Rattle.gu_types.specs.declared.types.ValType.TheVariants.{I32, I64, Ref}
use Rattle.gu_model.specs.Index.{FuncType}
use Rattle.gu_model.specs.Outline.{Outline}
use Rattle.gu_model.specs.Value.{Value, null, Allocated, allocated}
use Rattle.gu_model.specs.State.{Core, State, How, normal, branch, return, tail, thrown, trap, spent, over, wrong, foul, Out, out, at, with_stack, pop}
use Rattle.gu_model.specs.Control.{finish, finish_on, enter, Level}
use Rattle.gu_model.specs.TypingContext.{Context, Around, ◌>>=◌, matches}
use Rattle.gu_model.specs.TypingShape.{ends_with, Kind, of, Nothing, Bot, Shape, non_null, push, pushes, pop_kind, pop_kind_on, pop_on, pops, pops_down, type_row}
use Rattle.gu_model.specs.TypingShape as Y
use Rattle.gu_model.specs.Typing.{around, begins, spread}
use Rattle.gu_model.proofs.GoodTypes.{GoodTypes}
use Rattle.gu_model.proofs.Has.{HasAll, HasTop, all_length, all_back, pop_goes}
use Rattle.gu_model.proofs.Stores.{Later}
use Rattle.gu_model.proofs.ActRows.{within_module}
use Rattle.gu_model.proofs.References.{GoodFuncs}
use Rattle.gu_model.proofs.Moments.{Keeps, IsSet, keeps_same, LocalsFit, Fits, TopHas, Frame, Lands, Goes, Good, popped, goes_on, row_good}
use Rattle.gu_model.proofs.Moments.{set_keeps, GoodHow, Inner, label_good, after_good, good_from, Throws, Tails, locals_more}
use Rattle.gu_model.proofs.Leaves.{on_top}
use Rattle.gu_model.specs.TypingContext.{has_default}
use Rattle.gu_model.proofs.Calls.{GoodEnters, top_matches}
use Rattle.gu_syntax.specs.declared.module.Module.{Module}
use Rattle.gu_model.specs.Value.{default, defaults}
use Rattle.gu_model.proofs.Moments.{Goes, GoodHow}
use Rattle.gu_model.proofs.Calls.{GoodEnd, EndHow}

module _ (o : Outline) (good : GoodTypes o.types) (funcs : GoodFuncs o) (gs : List (ValType × Bool)) (ts es : List RefType) (segs : ℕ) (declared : List Bool) where
  abbrev K : Context
  K = within_module o gs ts es segs declared

  abbrev FitsOf : Around → Shape → Core → Type 0
  FitsOf a s c = Fits o good K a s c

  abbrev GoodOf : Around → Core → (Core → Type 0) → Out → Type 0
  GoodOf a b N p = Good o good K a b N p

  -- the locals of a function that begins: its arguments, and what its declared locals hold at first

  locals_append : (al : Allocated) (ls ms : List (Option Value)) (us ws : List ValType) → LocalsFit o good K al ls us → LocalsFit o good K al ms ws → LocalsFit o good K al (ls ++ ms) (us ++ ws)
  locals_append al [] ms [] ws f g = g
  locals_append al [] ms (u ∷ us) ws f g = absurd f
  locals_append al (None ∷ ls) ms [] ws f g = absurd f
  locals_append al (Some v ∷ ls) ms [] ws f g = absurd f
  locals_append al (None ∷ ls) ms (u ∷ us) ws f g = locals_append al ls ms us ws f g
  locals_append al (Some v ∷ ls) ms (u ∷ us) ws f g = (f.0, locals_append al ls ms us ws f.1 g)

  set_append : (ls ms : List (Option Value)) (bs cs : List Bool) → IsSet ls bs → IsSet ms cs → IsSet (ls ++ ms) (bs ++ cs)
  set_append [] ms [] cs f g = g
  set_append [] ms (b ∷ bs) cs f g = absurd f
  set_append (None ∷ ls) ms [] cs f g = absurd f
  set_append (Some v ∷ ls) ms [] cs f g = absurd f
  set_append (None ∷ ls) ms (false ∷ bs) cs f g = set_append ls ms bs cs f g
  set_append (None ∷ ls) ms (true ∷ bs) cs f g = absurd f
  set_append (Some v ∷ ls) ms (false ∷ bs) cs f g = set_append ls ms bs cs f g
  set_append (Some v ∷ ls) ms (true ∷ bs) cs f g = set_append ls ms bs cs f g

  given_fit : (al : Allocated) (vs : List Value) (us : List ValType) → HasAll o al vs (map of us) → LocalsFit o good K al (map Some vs) us
  given_fit al [] [] h = tt
  given_fit al [] (u ∷ us) h = absurd h
  given_fit al (v ∷ vs) [] h = absurd h
  given_fit al (v ∷ vs) (u ∷ us) h = (h.0, given_fit al vs us h.1)

  given_set : (al : Allocated) (vs : List Value) (us : List ValType) → HasAll o al vs (map of us) → IsSet (map Some vs) (map (λ p. true) us)
  given_set al [] [] h = tt
  given_set al [] (u ∷ us) h = absurd h
  given_set al (v ∷ vs) [] h = absurd h
  given_set al (v ∷ vs) (u ∷ us) h = given_set al vs us h.1

  default_fit : (al : Allocated) (n : ℕ) (t : ValType) → LocalsFit o good K al (replicate n (default t)) (replicate n t)
  default_fit al n t = each (default t) n (one t)
    where
      one : (u : ValType) → LocalsFit o good K al (default u ∷ []) (u ∷ [])
      one I32 = (tt, tt)
      one I64 = (tt, tt)
      one (Ref r) = nullable r.null refl
        where
          nullable : (b : Bool) → r.null ≡ b → LocalsFit o good K al (cond b (Some null) None ∷ []) (Ref r ∷ [])
          nullable true e = (e, tt)
          nullable false e = tt

      each : (d : Option Value) (n : ℕ) → LocalsFit o good K al (d ∷ []) (t ∷ []) → LocalsFit o good K al (replicate n d) (replicate n t)
      each d zero h = tt
      each None (suc n) h = each None n h
      each (Some v) (suc n) h = (h.0, each (Some v) n h)

  defaults_fit : (al : Allocated) (runs : List (ℕ × ValType)) → LocalsFit o good K al (defaults runs) (spread runs)
  defaults_fit al [] = tt
  defaults_fit al (r ∷ runs) = locals_append al (replicate r.0 (default r.1)) (defaults runs) (replicate r.0 r.1) (spread runs) (default_fit al r.0 r.1) (defaults_fit al runs)

  -- which declared locals are set: those whose types have a default
  default_set : (n : ℕ) (t : ValType) → IsSet (replicate n (default t)) (map has_default (replicate n t))
  default_set n t = each (default t) (has_default t) n refl (one t)
    where
      one : (u : ValType) → IsSet (default u ∷ []) (has_default u ∷ [])
      one I32 = tt
      one I64 = tt
      one (Ref r) = nullable r.null
        where
          nullable : (b : Bool) → IsSet (cond b (Some null) None ∷ []) (b ∷ [])
          nullable true = tt
          nullable false = tt

      each : (d : Option Value) (b : Bool) (n : ℕ) → has_default t ≡ b → IsSet (d ∷ []) (b ∷ []) → IsSet (replicate n d) (map has_default (replicate n t))
      each d b zero e h = tt
      each None true (suc n) e h = absurd h
      each None false (suc n) e h = subst (λ c. IsSet (None ∷ replicate n None) (c ∷ map has_default (replicate n t))) (sym e) (each None false n e h)
      each (Some v) true (suc n) e h = subst (λ c. IsSet (Some v ∷ replicate n (Some v)) (c ∷ map has_default (replicate n t))) (sym e) (each (Some v) true n e h)
      each (Some v) false (suc n) e h = subst (λ c. IsSet (Some v ∷ replicate n (Some v)) (c ∷ map has_default (replicate n t))) (sym e) (each (Some v) false n e h)

  defaults_set : (runs : List (ℕ × ValType)) → IsSet (defaults runs) (map has_default (spread runs))
  defaults_set [] = tt
  defaults_set (r ∷ runs) = subst (IsSet (defaults (r ∷ runs))) (sym (map-append has_default (replicate r.0 r.1) (spread runs))) (set_append (replicate r.0 (default r.1)) (defaults runs) (map has_default (replicate r.0 r.1)) (map has_default (spread runs)) (default_set r.0 r.1) (defaults_set runs))

  -- a function begins as its typing says
  pub begins_fit : (t : FuncType) (runs : List (ℕ × ValType)) (st : State) → HasTop o (allocated st.core.store) st.core.stack t.params → FitsOf (around t (spread runs)) (begins t (spread runs)) (at st (map Some (reverse st.core.stack) ++ defaults runs) []).core
  begins_fit t runs st h = let g = all_back o (allocated st.core.store) st.core.stack t.params h in record {
    reached = refl;
    stack = tt;
    locals = locals_append (allocated st.core.store) (map Some (reverse st.core.stack)) (defaults runs) t.params (spread runs) (given_fit (allocated st.core.store) (reverse st.core.stack) t.params g) (defaults_fit (allocated st.core.store) runs);
    set = set_append (map Some (reverse st.core.stack)) (defaults runs) (map (λ p. true) t.params) (map has_default (spread runs)) (given_set (allocated st.core.store) (reverse st.core.stack) t.params g) (defaults_set runs);
  }

  -- the end of a body: its results alone are left, and a tail call goes on
  pub ends_so : (us : List ValType) (x : Shape) (r : Option Shape) → is_some (ends_with o.types us (Some x) r) ≡ true → (y : Shape) × (pops o.types us x ≡ Some y)
  ends_so us x r h = by (pops o.types us x) refl h
    where
      by : (p : Option Shape) → pops o.types us x ≡ p → is_some (p >>= λ e. Y.empties o.types e r) ≡ true → (y : Shape) × (pops o.types us x ≡ Some y)
      by None q h = absurd (true≢false (sym h))
      by (Some y) q h = (y, q)

  module _ (m : Module) (low : Level) (low_enters : GoodEnters o good funcs gs ts es segs declared (λ f. low (enter f))) (t : FuncType) (locals : List ValType) (b : Core) where
    left_good : (us : List ValType) (v : State) → us ≡ t.results → Later o K b.store v.core.store → TopHas o good K us v.core → GoodEnd o good funcs gs ts es segs declared (Some t.results) b.store (pop (length t.results) v (λ vs below. out normal (with_stack v vs)))
    left_good us v e la h = subst (GoodEnd o good funcs gs ts es segs declared (Some t.results) b.store) (sym (pop_goes (length t.results) v h.top h.rest (λ vs below. out normal (with_stack v vs)) h.split (all_length o (allocated v.core.store) h.top (map of (reverse us)) h.has ∙ length-map (reverse us) of ∙ length-reverse us ∙ ap length e))) (record { later = la; is = subst (HasTop o (allocated v.core.store) h.top) e h.has })

    pub finish_good : (q r : Option Shape) (p : Out) → is_some (ends_with o.types t.results q r) ≡ true → ((x : Shape) → q ≡ Some x → GoodOf (around t locals) b (FitsOf (around t locals) x) p) → GoodEnd o good funcs gs ts es segs declared (Some t.results) b.store (finish o m low (length t.results) p)
    finish_good None r p h g = absurd (true≢false (sym h))
    finish_good (Some x) r p h g = by p.how p.state (g x refl).later (g x refl).is
      where
        by : (w : How) (v : State) → Later o K b.store v.core.store → GoodHow o good K (around t locals) b (FitsOf (around t locals) x) w v.core → GoodEnd o good funcs gs ts es segs declared (Some t.results) b.store (finish_on o m low (length t.results) w v)
        by normal v la i = let y = ends_so t.results x r h in left_good t.results v refl la (on_top o good funcs gs ts es segs declared t.results (around t locals) x y.0 v.core y.1 i.is)
        by return v la i = left_good t.results v refl la i
        by (branch zero) v la i = left_good i.types v (sym (same_Some _ _ i.found)) la i.top
        by (branch (suc j)) v la i = absurd (none-some i.types i.found)
        by (tail f) v la i = let e = low_enters.ends f i.type (at v [] v.core.stack) i.found i.arguments la.fits in record { later = Rattle.gu_model.proofs.Moments.later_then o good K la e.later; is = matched i.type.results (low (enter f) (at v [] v.core.stack)).how (low (enter f) (at v [] v.core.stack)).state.core e.is i.results }
          where
            matched : (us : List ValType) (w : How) (c : Core) → EndHow o good funcs gs ts es segs declared (Some us) w c → matches o.types us t.results ≡ true → EndHow o good funcs gs ts es segs declared (Some t.results) w c
            matched us normal c i z = top_matches o good funcs gs ts es segs declared (allocated c.store) c.stack us t.results z i
            matched us (branch k) c i z = absurd i
            matched us return c i z = absurd i
            matched us (tail f) c i z = absurd i
            matched us (thrown y) c i z = i
            matched us trap c i z = tt
            matched us spent c i z = tt
            matched us over c i z = tt
            matched us wrong c i z = absurd i
            matched us foul c i z = tt
        by (thrown y) v la i = record { later = la; is = i.there }
        by trap v la i = record { later = la; is = tt }
        by spent v la i = record { later = la; is = tt }
        by over v la i = record { later = la; is = tt }
        by wrong v la i = absurd i
        by foul v la i = record { later = la; is = tt }
