-- Which values have which types while a module runs, and what taking operands says of the values. The ranges of numbers
-- play no part.
use Rattle.std.proofs.Common.{ℕ, suc, ◌≤◌, ◌+◌, Bool, true, false, cond, not, ◌||◌, ◌&&◌, List, [], ◌∷◌, ◌++◌, map, reverse, length, drop, take, Option, Some, None, option_map, slice_get, nat_lt, ◌≡◌, refl, ap, ◌∙◌, sym, subst, true≢false, arith, inl, inr}
use Rattle.std.proofs.lemmas.Bool.{cases_Bool}
use Rattle.std.proofs.lemmas.List.{length-map, length-reverse, map-append, reverse-append, reverse-reverse}
use Rattle.std.proofs.lemmas.Option.{same_Some, none-some}
use Rattle.gu_types.specs.declared.types.Abs.TheVariants as A
use Rattle.gu_types.specs.declared.types.HeapType.{HeapType}
use Rattle.gu_types.specs.declared.types.HeapType.TheVariants as H
use Rattle.gu_types.specs.declared.types.RefType.{RefType}
use Rattle.gu_types.specs.declared.types.ValType.{ValType}
use Rattle.gu_types.specs.declared.types.ValType.TheVariants as V
use Rattle.gu_rec.specs.Sub.{is_sub, is_sub_ref, is_sub_val}
use Rattle.gu_model.specs.Outline.{Outline}
use Rattle.gu_model.specs.Value.{Value, i32, i64, null, i31, struct, array, exception, function, host, host_external, external, Allocated, is_under, heap_type, fits_ref, fits}
use Rattle.gu_model.specs.State.{State, Out, pop, out, wrong}
use Rattle.gu_model.specs.TypingContext.{◌>>=◌, matches}
use Rattle.gu_model.specs.TypingShape.{Kind, of, Nothing, Bot, Shape, suits, pop_on, pops_down, pops}
use Rattle.gu_model.proofs.GoodTypes.{GoodTypes}

and_left : (a b : Bool) → (a && b) ≡ true → a ≡ true
and_left true b h = refl
and_left false b h = h

pub and_first : (a b : Bool) → (a && b) ≡ true → a ≡ true
and_first a b h = and_left a b h

pub and_second : (a b : Bool) → (a && b) ≡ true → b ≡ true
and_second true b h = h
and_second false b h = absurd (true≢false (sym h))

pub record Bound {X Y : Type 0} (o : Option X) (f : X → Option Y) (end : Y) : Type 0 where
  pub mid : X
  pub first : o ≡ Some mid
  pub then : f mid ≡ Some end

pub bind_some : {X Y : Type 0} (o : Option X) (f : X → Option Y) (end : Y) → (o >>= f) ≡ Some end → Bound o f end
bind_some None f end h = absurd (none-some end h)
bind_some (Some s) f end h = record { mid = s; first = refl; then = h }

-- more was allocated, and nothing else changed
pub record Grown (a b : Allocated) : Type 0 where
  pub structs : (x t : ℕ) → slice_get a.structs x ≡ Some t → slice_get b.structs x ≡ Some t
  pub arrays : (x t : ℕ) → slice_get a.arrays x ≡ Some t → slice_get b.arrays x ≡ Some t
  pub exceptions : a.exceptions ≤ b.exceptions

pub grown_same : (a : Allocated) → Grown a a
grown_same a = record { structs = λ x t e. e; arrays = λ x t e. e; exceptions = omega arith }

pub grown_then : {a b c : Allocated} → Grown a b → Grown b c → Grown a c
grown_then p q = record { structs = λ x t e. q.structs x t (p.structs x t e); arrays = λ x t e. q.arrays x t (p.arrays x t e); exceptions = omega (arith, p.exceptions, q.exceptions) }

module _ (o : Outline) where
  -- a value of a type, where so much was allocated
  abbrev pub Has : Allocated → ValType → Value → Type 0
  Has al V.I32 (i32 n) = Unit {0}
  Has al V.I64 (i64 n) = Unit {0}
  Has al (V.Ref r) v = fits_ref o al r v ≡ true
  Has al _ _ = ⊥

  abbrev pub HasKind : Allocated → Kind → Value → Type 0
  HasKind al (of t) v = Has al t v
  HasKind al Nothing v = ⊥
  HasKind al Bot v = ⊥

  -- each value is of the kind at its place
  abbrev pub HasAll : Allocated → List Value → List Kind → Type 0
  HasAll al [] [] = Unit {0}
  HasAll al (v ∷ vs) (k ∷ ks) = HasKind al k v × HasAll al vs ks
  HasAll al _ _ = ⊥

  -- the values of types in order, the last on top
  abbrev pub HasTop : Allocated → List Value → List ValType → Type 0
  HasTop al vs ts = HasAll al vs (map of (reverse ts))

  pub has_fits : (al : Allocated) (t : ValType) (v : Value) → fits o al t v ≡ true → Has al t v
  has_fits al V.I32 (i32 n) h = tt
  has_fits al V.I32 _ h = absurd (true≢false (sym h))
  has_fits al V.I64 (i64 n) h = tt
  has_fits al V.I64 _ h = absurd (true≢false (sym h))
  has_fits al (V.Ref r) v h = h

  -- what was there stays there
  heap_map : (al bl : List ℕ) (x : ℕ) (h : HeapType) → ((t : ℕ) → slice_get al x ≡ Some t → slice_get bl x ≡ Some t) → option_map H.Idx (slice_get al x) ≡ Some h → option_map H.Idx (slice_get bl x) ≡ Some h
  heap_map al bl x h g e = by (slice_get al x) refl e
    where
      by : (p : Option ℕ) → slice_get al x ≡ p → option_map H.Idx p ≡ Some h → option_map H.Idx (slice_get bl x) ≡ Some h
      by None q f = absurd (none-some h f)
      by (Some t) q f = ap (option_map H.Idx) (g t q) ∙ f

  pub heap_more : (a b : Allocated) (v : Value) (h : HeapType) → Grown a b → heap_type o a v ≡ Some h → heap_type o b v ≡ Some h
  heap_more a b (struct x) h g e = heap_map a.structs b.structs x h (g.structs x) e
  heap_more a b (array x) h g e = heap_map a.arrays b.arrays x h (g.arrays x) e
  heap_more a b (exception x) h g e = elim (cases_Bool (nat_lt x a.exceptions)) [
    | inl y ↦ ap (λ c. cond c (Some (H.Abs A.Exn)) None) (let q : nat_lt x b.exceptions ≡ true = grind (arith, y, g.exceptions) in q) ∙ sym (ap (λ c. cond c (Some (H.Abs A.Exn)) None) y) ∙ e
    | inr n ↦ absurd (none-some h (sym (ap (λ c. cond c (Some (H.Abs A.Exn)) None) n) ∙ e))
  ]
  heap_more a b (external v) h g e = by (λ y. heap_more a b v y g) (heap_type o a v) refl e
    where
      by : ((y : HeapType) → heap_type o a v ≡ Some y → heap_type o b v ≡ Some y) → (p : Option HeapType) → heap_type o a v ≡ p → cond (is_under o (H.Abs A.Any) p) (Some (H.Abs A.Extern)) None ≡ Some h → cond (is_under o (H.Abs A.Any) (heap_type o b v)) (Some (H.Abs A.Extern)) None ≡ Some h
      by again None q f = absurd (none-some h f)
      by again (Some y) q f = ap (λ p. cond (is_under o (H.Abs A.Any) p) (Some (H.Abs A.Extern)) None) (again y q) ∙ f
  heap_more a b (i31 n) h g e = e
  heap_more a b (function f) h g e = e
  heap_more a b (host n) h g e = e
  heap_more a b (host_external n) h g e = e
  heap_more a b (i32 n) h g e = e
  heap_more a b (i64 n) h g e = e
  heap_more a b null h g e = e

  under_more : (a b : Allocated) (v : Value) (h : HeapType) → Grown a b → is_under o h (heap_type o a v) ≡ true → is_under o h (heap_type o b v) ≡ true
  under_more a b v h g e = by (heap_type o a v) refl e
    where
      by : (p : Option HeapType) → heap_type o a v ≡ p → is_under o h p ≡ true → is_under o h (heap_type o b v) ≡ true
      by None q f = absurd (true≢false (sym f))
      by (Some y) q f = ap (is_under o h) (heap_more a b v y g q) ∙ f

  pub ref_more : (a b : Allocated) (r : RefType) (v : Value) → Grown a b → fits_ref o a r v ≡ true → fits_ref o b r v ≡ true
  ref_more a b r null g e = e
  ref_more a b r v g e = under_more a b v r.heap g e

  pub has_more : (a b : Allocated) (t : ValType) (v : Value) → Grown a b → Has a t v → Has b t v
  has_more a b V.I32 (i32 n) g h = tt
  has_more a b V.I32 _ g h = absurd h
  has_more a b V.I64 (i64 n) g h = tt
  has_more a b V.I64 _ g h = absurd h
  has_more a b (V.Ref r) v g h = ref_more a b r v g h

  pub kind_more : (a b : Allocated) (k : Kind) (v : Value) → Grown a b → HasKind a k v → HasKind b k v
  kind_more a b (of t) v g h = has_more a b t v g h
  kind_more a b Nothing v g h = absurd h
  kind_more a b Bot v g h = absurd h

  pub all_more : (a b : Allocated) (vs : List Value) (ks : List Kind) → Grown a b → HasAll a vs ks → HasAll b vs ks
  all_more a b [] [] g h = tt
  all_more a b [] (k ∷ ks) g h = absurd h
  all_more a b (v ∷ vs) [] g h = absurd h
  all_more a b (v ∷ vs) (k ∷ ks) g h = (kind_more a b k v g h.0, all_more a b vs ks g h.1)

  pub all_length : (al : Allocated) (vs : List Value) (ks : List Kind) → HasAll al vs ks → length vs ≡ length ks
  all_length al [] [] h = refl
  all_length al [] (k ∷ ks) h = absurd h
  all_length al (v ∷ vs) [] h = absurd h
  all_length al (v ∷ vs) (k ∷ ks) h = ap suc (all_length al vs ks h.1)

  pub all_append : (al : Allocated) (vs ws : List Value) (ks ls : List Kind) → HasAll al vs ks → HasAll al ws ls → HasAll al (vs ++ ws) (ks ++ ls)
  all_append al [] ws [] ls h g = g
  all_append al [] ws (k ∷ ks) ls h g = absurd h
  all_append al (v ∷ vs) ws [] ls h g = absurd h
  all_append al (v ∷ vs) ws (k ∷ ks) ls h g = (h.0, all_append al vs ws ks ls h.1 g)

  -- the same values and types from the other end
  pub all_reverse : (al : Allocated) (vs : List Value) (ts : List ValType) → HasAll al vs (map of ts) → HasAll al (reverse vs) (map of (reverse ts))
  all_reverse al [] [] h = tt
  all_reverse al [] (t ∷ ts) h = absurd h
  all_reverse al (v ∷ vs) [] h = absurd h
  all_reverse al (v ∷ vs) (t ∷ ts) h =
      subst (λ ws. HasAll al ws (map of (reverse (t ∷ ts)))) (sym (reverse-append (v ∷ []) vs))
      (subst (λ us. HasAll al (reverse vs ++ v ∷ []) (map of us)) (sym (reverse-append (t ∷ []) ts))
      (subst (HasAll al (reverse vs ++ v ∷ [])) (sym (map-append of (reverse ts) (t ∷ [])))
      (all_append al (reverse vs) (v ∷ []) (map of (reverse ts)) (of t ∷ []) (all_reverse al vs ts h.1) (h.0, tt))))

  pub all_back : (al : Allocated) (vs : List Value) (ts : List ValType) → HasTop al vs ts → HasAll al (reverse vs) (map of ts)
  all_back al vs ts h = subst (λ us. HasAll al (reverse vs) (map of us)) (reverse-reverse ts) (all_reverse al vs (reverse ts) h)

module _ (o : Outline) (good : GoodTypes o.types) where
  under_sub : (p : Option HeapType) (g h : HeapType) → is_sub o.types g h ≡ true → is_under o g p ≡ true → is_under o h p ≡ true
  under_sub None g h s e = e
  under_sub (Some y) g h s e = good.through y g h e s

  or_null : (a b : Bool) → (not a || b) ≡ true → a ≡ true → b ≡ true
  or_null true b h e = h
  or_null false b h e = absurd (true≢false (sym e))

  pub ref_sub : (al : Allocated) (r u : RefType) (v : Value) → is_sub_ref o.types r u ≡ true → fits_ref o al r v ≡ true → fits_ref o al u v ≡ true
  ref_sub al r u null s h = or_null r.null u.null (and_first (not r.null || u.null) _ s) h
  ref_sub al r u v s h = under_sub (heap_type o al v) r.heap u.heap (and_second (not r.null || u.null) _ s) h

  pub has_sub : (al : Allocated) (t u : ValType) (v : Value) → is_sub_val o.types t u ≡ true → Has o al t v → Has o al u v
  has_sub al V.I32 V.I32 v s h = h
  has_sub al V.I64 V.I64 v s h = h
  has_sub al (V.Ref r) (V.Ref u) v s h = ref_sub al r u v s h
  has_sub al t u v s h = absurd (true≢false (sym s))

  pub has_suits : (al : Allocated) (k : Kind) (t : ValType) (v : Value) → HasKind o al k v → suits o.types k t ≡ true → Has o al t v
  has_suits al (of u) t v h s = has_sub al u t v s h
  has_suits al Nothing t v h s = absurd h
  has_suits al Bot t v h s = absurd h

  pub all_matches : (al : Allocated) (vs : List Value) (ts us : List ValType) → matches o.types ts us ≡ true → HasAll o al vs (map of ts) → HasAll o al vs (map of us)
  all_matches al [] [] [] s h = tt
  all_matches al (v ∷ vs) (t ∷ ts) (u ∷ us) s h = (has_sub al t u v (and_first (is_sub_val o.types t u) _ s) h.0, all_matches al vs ts us (and_second (is_sub_val o.types t u) _ s) h.1)
  all_matches al vs [] (u ∷ us) s h = absurd (true≢false (sym s))
  all_matches al vs (t ∷ ts) [] s h = absurd (true≢false (sym s))
  all_matches al [] (t ∷ ts) (u ∷ us) s h = absurd h
  all_matches al (v ∷ vs) [] [] s h = absurd h

  -- operands of types were taken
  pub record Taken (al : Allocated) (ts : List ValType) (vs : List Value) (s u : Shape) : Type 0 where
    pub given : List Value
    pub below : List Value
    pub split : vs ≡ given ++ below
    pub has : HasAll o al given (map of ts)
    pub rest : HasAll o al below u.types
    pub reached : u.any ≡ false
    pub set : u.set ≡ s.set

  pub down_takes : (al : Allocated) (ts : List ValType) (vs : List Value) (s u : Shape) → pops_down o.types ts s ≡ Some u → s.any ≡ false → HasAll o al vs s.types → Taken al ts vs s u
  down_takes al [] vs s u e r h = let q = same_Some _ _ e in record { given = []; below = vs; split = refl; has = tt; rest = subst (λ (x : Shape). HasAll o al vs x.types) q h; reached = subst (λ (x : Shape). x.any ≡ false) q r; set = ap (λ (x : Shape). x.set) (sym q) }
  down_takes al (t ∷ ts) vs s u e r h = by (λ ws ks. down_takes al ts ws (record s { types = ks }) u) s.types vs e h
    where
      one : ((ws : List Value) (ks : List Kind) → pops_down o.types ts (record s { types = ks }) ≡ Some u → s.any ≡ false → HasAll o al ws ks → Taken al ts ws (record s { types = ks }) u) → (b : Bool) (k : Kind) (ks : List Kind) (w : Value) (ws : List Value) → suits o.types k t ≡ b → (cond b (Some (record s { types = ks })) None >>= pops_down o.types ts) ≡ Some u → HasKind o al k w → HasAll o al ws ks → Taken al (t ∷ ts) (w ∷ ws) s u
      one again false k ks w ws c e hk hs = absurd (none-some u e)
      one again true k ks w ws c e hk hs = let q = again ws ks e r hs in record { given = w ∷ q.given; below = q.below; split = ap (λ l. w ∷ l) q.split; has = (has_suits al k t w hk c, q.has); rest = q.rest; reached = q.reached; set = q.set }

      none : (b : Bool) → b ≡ false → (cond b (Some s) None >>= pops_down o.types ts) ≡ Some u → ⊥
      none true c e = true≢false c
      none false c e = none-some u e

      by : ((ws : List Value) (ks : List Kind) → pops_down o.types ts (record s { types = ks }) ≡ Some u → s.any ≡ false → HasAll o al ws ks → Taken al ts ws (record s { types = ks }) u) → (ks : List Kind) (ws : List Value) → (pop_on o.types t ks s >>= pops_down o.types ts) ≡ Some u → HasAll o al ws ks → Taken al (t ∷ ts) ws s u
      by again [] ws e h = absurd (none s.any r e)
      by again (k ∷ ks) [] e h = absurd h
      by again (k ∷ ks) (w ∷ ws) e h = one again (suits o.types k t) k ks w ws refl e h.0 h.1

  pub takes : (al : Allocated) (ts : List ValType) (vs : List Value) (s u : Shape) → pops o.types ts s ≡ Some u → s.any ≡ false → HasAll o al vs s.types → Taken al (reverse ts) vs s u
  takes al ts vs s u e r h = down_takes al (reverse ts) vs s u e r h

-- taking operands that are there
take_front : (as' bs : List Value) → take (length as') (as' ++ bs) ≡ as'
take_front [] bs = refl
take_front (a ∷ as') bs = ap (λ l. a ∷ l) (take_front as' bs)

drop_front : (as' bs : List Value) → drop (length as') (as' ++ bs) ≡ bs
drop_front [] bs = refl
drop_front (a ∷ as') bs = drop_front as' bs

enough : (as' bs : List Value) → nat_lt (length (as' ++ bs)) (length as') ≡ false
enough as' bs = let e : length (as' ++ bs) ≡ length as' + length bs = Rattle.std.proofs.lemmas.List.length-append as' bs in grind (arith, e)

pub pop_goes : (n : ℕ) (s : State) (top below : List Value) (go : List Value → List Value → Out) → s.core.stack ≡ top ++ below → length top ≡ n → pop n s go ≡ go top below
unfolding pop
pop_goes n s top below go e l =
    ap (λ (st : List Value). cond (nat_lt (length st) n) (out wrong s) (go (take n st) (drop n st))) e
    ∙ ap (λ k. cond (nat_lt (length (top ++ below)) k) (out wrong s) (go (take k (top ++ below)) (drop k (top ++ below)))) (sym l)
    ∙ ap (λ b. cond b (out wrong s) (go (take (length top) (top ++ below)) (drop (length top) (top ++ below)))) (enough top below)
    ∙ ap (λ x. go x (drop (length top) (top ++ below))) (take_front top below)
    ∙ ap (go top) (drop_front top below)
