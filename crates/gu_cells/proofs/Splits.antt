-- The table at the start, and splitting and joining seats, keep the rule. At the end the records settle the words.
use Rattle.std.proofs.Common.{ℕ, zero, suc, ◌≡◌, ◌⊎◌, ◌<◌, ◌≤◌, true, false, List, [], ◌∷◌, ◌++◌, length, get_or, set, sym, refl, ap, ◌∙◌, subst, inl, inr, ⊎_elim, arith}
use mathlib.Core.Logic.{dite}
use mathlib.Core.Option.{some, some-ne-none}
use native.Mathlib.Decide.{ℕ_discrete}
use lib.ListN.{get_elem?}
use Rattle.atomic_table.specs.Table.{opening, Splits, Joins}
use Rattle.atomic_table.proofs.Lists.{at_set, set_else, at_snoc, at_longer}
use Rattle.gu_contents.specs.declared.content.Content.{Content}
use Rattle.gu_contents.specs.declared.content.Content.TheVariants.{Empty}
use Rattle.gu_contents.specs.declared.facts.Facts.{Facts}
use Rattle.gu_contents.specs.Order.{AtMost}
use Rattle.gu_contents.specs.Codes.{code, content}
use Rattle.gu_cells.specs.declared.record.Part.{Part}
use Rattle.gu_cells.specs.declared.record.View.{View}
use Rattle.gu_cells.specs.declared.sizes.Sizes.{Sizes}
use Rattle.gu_cells.specs.Record.{BelongsTo, RecordsBelong, CoversAll, SomeFresh, Settled}
use Rattle.gu_cells.specs.Rule.{now_of, word_ceiling, IsWord, parts, records, times, held, total, once, IsSeat, IsAlone, Kept, first_view, spent_view, counted, new_seat, both}
use Rattle.gu_cells.proofs.Lattice.{Laws}
use Rattle.gu_cells.proofs.Counts.{total_set, total_snoc, two_within, times_append, held_live, held_own, once_few, once_some, once_next, first_once}
use Rattle.gu_cells.proofs.Steps.{St, same_view, set_at}

below_append : (f : Facts) (ps qs : List Part) (z : ℕ → Content) → CoversAll f (records ps) z → CoversAll f (records qs) z → CoversAll f (records (ps ++ qs)) z
below_append f [] qs z h k = k
below_append f (p ∷ ps) qs z h k = (h.0, below_append f ps qs z h.1 k)

belong_append : (f : Facts) (longs : List ℕ) (ps qs : List Part) → RecordsBelong f longs (records ps) → RecordsBelong f longs (records qs) → RecordsBelong f longs (records (ps ++ qs))
belong_append f longs [] qs h k = k
belong_append f longs (p ∷ ps) qs h k = (h.0, belong_append f longs ps qs h.1 k)

fresh_right : (cells : List ℕ) (z : ℕ → Content) (ps qs : List Part) → SomeFresh cells z (records qs) → SomeFresh cells z (records (ps ++ qs))
fresh_right cells z [] qs h = h
fresh_right cells z (p ∷ ps) qs h = inr (fresh_right cells z ps qs h)

fresh_left : (cells : List ℕ) (z : ℕ → Content) (ps qs : List Part) → SomeFresh cells z (records ps) → SomeFresh cells z (records (ps ++ qs))
fresh_left cells z [] qs h = absurd h
fresh_left cells z (p ∷ ps) qs h = ⊎_elim (λ t. inl t) (λ t. inr (fresh_left cells z ps qs t)) h

module _ {f : Facts} {longs : List ℕ} (laws : Laws f longs) (ceilings : List Content) (sizes : Sizes) where
  abbrev Keeps : St → Type 0
  Keeps = Kept f longs ceilings sizes

  pub nothing : content longs 0 ≡ Empty
  unfolding content
  nothing = refl

  no_code : code longs Empty ≡ 0
  unfolding code
  no_code = refl

  -- the word 0 codes nothing, which is at most every ceiling
  zero_word : (ceiling : Content) → IsWord f longs ceiling 0
  zero_word ceiling = record {
    coded = ap (code longs) nothing ∙ no_code;
    belongs = subst (BelongsTo f longs) (sym nothing) (tt, tt);
    capped = subst (λ (x : Content). AtMost f x ceiling) (sym nothing) (laws.order.least ceiling);
  }

  -- the table at the start keeps the rule
  pub starts : (words : List ℕ) → length words ≡ suc sizes.cells → ((i : ℕ) → get_or words i 0 ≡ 0) → 1 ≤ sizes.seats → Keeps (opening words [] first_view)
  starts words long zeros some_seats =
      let only : (j : ℕ) (u : View) → IsSeat (first_view ∷ []) j u → (j ≡ 0) × (first_view ≡ u) =
      λ j u is. ⊎_elim (λ t. absurd (some-ne-none u (sym t))) (λ e. (first_place j u is.stands, e)) (at_snoc [] first_view u j is.stands) in
      record {
        wide = long;
        words = λ i. subst (IsWord f longs (word_ceiling ceilings i)) (sym (zeros i)) (zero_word (word_ceiling ceilings i));
        belong = λ j u is. subst (λ (x : View). RecordsBelong f longs (records (parts x))) (only j u is).1 (tt, tt);
        below = λ j u is. subst (λ (x : View). CoversAll f (records (parts x)) (now_of longs words)) (only j u is).1 (record { covers = λ c. laws.order.least (now_of longs words c) }, tt);
        first = first_view;
        is_seat = record { stands = refl; live = refl };
        number = refl;
        few = some_seats;
        numbers = first_once;
        alone = λ j u is. absurd (omega (arith, (only (suc j) u is).0));
        fresh = λ cells c m ne. absurd (ne (ap (content longs) (zeros (suc c)) ∙ nothing));
      }
    where
      first_place : (j : ℕ) (u : View) → get_elem? (first_view ∷ []) j ≡ some u → j ≡ 0
      first_place zero u e = refl
      first_place (suc j) u e = absurd (some-ne-none u (sym e))

  -- a seat with the number 0 is the first
  pub only_first : (s : St) (k : Keeps s) (id : ℕ) (v : View) → IsSeat s.views id v → v.number ≡ 0 → id ≡ 0
  only_first s k id v me zero_is = dite (ℕ_discrete id 0) (λ e. e)
      (λ ne.
      let two = two_within (held 0) s.views id 0 v k.first ne me.stands k.is_seat.stands in
      let one : 1 ≤ held 0 v = subst (λ (n : ℕ). 1 ≤ held n v) zero_is (held_own v me.live) in
      let other : 1 ≤ held 0 k.first = subst (λ (n : ℕ). 1 ≤ held n k.first) k.number (held_own k.first k.is_seat.live) in
      absurd (omega (arith, k.numbers 0, once_few 0 k.first.count)))

  pub is_first : (s : St) (k : Keeps s) (v : View) → get_elem? s.views 0 ≡ some v → v ≡ k.first
  is_first s k v me = same_view (get_elem? s.views 0) v k.first me k.is_seat.stands

  numbers_of : (s : St) (k : Keeps s) (v : View) → get_elem? s.views 0 ≡ some v → (n : ℕ) → total (held n) s.views ≡ once n v.count
  numbers_of s k v me n = k.numbers n ∙ ap (λ (x : View). once n x.count) (sym (is_first s k v me))

  -- a seat is split off the first
  pub split_allowed : (id : ℕ) (v : View) → v.spent ≡ false → v.number ≡ 0 → v.count < sizes.seats → Splits Keeps id v (counted v) (new_seat v)
  split_allowed id v live zero_is room s k me =
      let e = only_first s k id v (record { stands = me; live = live }) zero_is in
      let me0 : get_elem? s.views 0 ≡ some v = subst (λ (x : ℕ). get_elem? s.views x ≡ some v) e me in
      let vs = set s.views id (counted v) in
      let z = now_of longs s.words in
      let seat : IsSeat s.views id v = record { stands = me; live = live } in
      let here : get_elem? vs id ≡ some (counted v) = set_at s.views id v (counted v) me in
      let side : (j : ℕ) (u : View) → IsSeat (vs ++ new_seat v ∷ []) j u → (((j ≡ id) × (counted v ≡ u)) ⊎ IsSeat s.views j u) ⊎ (new_seat v ≡ u) =
      λ j u is. ⊎_elim
      (λ t. inl (⊎_elim (λ p. inl (p.0, p.1)) (λ p. inr (record { stands = p.1; live = is.live })) (at_set s.views id j (counted v) u t)))
      (λ t. inr t)
      (at_snoc vs (new_seat v) u j is.stands) in
      record {
        wide = k.wide;
        words = k.words;
        belong = λ j u is. ⊎_elim
            (λ t. ⊎_elim (λ p. subst (λ (x : View). RecordsBelong f longs (records (parts x))) p.1 (k.belong id v seat)) (λ p. k.belong j u p) t)
            (λ t. subst (λ (x : View). RecordsBelong f longs (records (parts x))) t (tt, tt))
            (side j u is);
        below = λ j u is. ⊎_elim
            (λ t. ⊎_elim (λ p. subst (λ (x : View). CoversAll f (records (parts x)) z) p.1 (k.below id v seat)) (λ p. k.below j u p) t)
            (λ t. subst (λ (x : View). CoversAll f (records (parts x)) z) t (record { covers = λ c. laws.order.least (z c) }, tt))
            (side j u is);
        first = counted v;
        is_seat = record { stands = at_longer vs (new_seat v ∷ []) 0 (counted v) (subst (λ (x : ℕ). get_elem? vs x ≡ some (counted v)) e here); live = live };
        number = zero_is;
        few = omega (arith, room);
        numbers = λ n.
            let a = total_snoc (held n) vs (new_seat v) in let b = total_set (held n) s.views id v (counted v) me in
            omega (arith, numbers_of s k v me0 n, once_next n v.count);
        alone = λ j u is. ⊎_elim
            (λ t. ⊎_elim (λ p. absurd (omega (arith, p.0, e))) (λ p. k.alone j u p) t)
            (λ t. subst IsAlone t (record { counts_none = refl; no_others = refl }))
            (side (suc j) u is);
        fresh = λ cells c m ne. let h = k.fresh cells c m ne in dite (ℕ_discrete h.place id)
            (λ d.
            let same : h.who ≡ v = same_view (get_elem? s.views id) h.who v (subst (λ (x : ℕ). get_elem? s.views x ≡ some h.who) d h.is_seat.stands) me in
            record {
              place = id;
              who = counted v;
              is_seat = record { stands = at_longer vs (new_seat v ∷ []) id (counted v) here; live = live };
              fresh = subst (λ (x : View). SomeFresh cells z (records (parts x))) same h.fresh;
            })
            (λ d. record {
              place = h.place;
              who = h.who;
              is_seat = record { stands = at_longer vs (new_seat v ∷ []) h.place h.who (set_else s.views id h.place (counted v) d ∙ h.is_seat.stands); live = h.is_seat.live };
              fresh = h.fresh;
            });
      }

  -- a seat is joined into the first
  pub merge_allowed : (id : ℕ) (v : View) (other : ℕ) (w : View) → v.spent ≡ false → v.number ≡ 0 → w.spent ≡ false → Joins Keeps id v other w (both v w) spent_view
  merge_allowed id v other w live zero_is live' s k me apart there =
      let seat : IsSeat s.views id v = record { stands = me; live = live } in
      let e = only_first s k id v seat zero_is in
      let me0 : get_elem? s.views 0 ≡ some v = subst (λ (x : ℕ). get_elem? s.views x ≡ some v) e me in
      let b = both v w in
      let one = set s.views id b in
      let vs = set one other spent_view in
      let z = now_of longs s.words in
      let his : IsSeat s.views other w = record { stands = sym (set_else s.views id other b apart) ∙ there; live = live' } in
      let here : get_elem? vs id ≡ some b = set_else one other id spent_view (λ d. apart (sym d)) ∙ set_at s.views id v b me in
      let gone : (u : View) → spent_view ≡ u → u.spent ≡ false → ⊥ = λ u p q. let bad : true ≡ false = ap (λ (x : View). x.spent) p ∙ q in cc in
      let side : (j : ℕ) (u : View) → IsSeat vs j u → ((j ≡ id) × (b ≡ u)) ⊎ IsSeat s.views j u =
      λ j u is. ⊎_elim (λ t. absurd (gone u t.1 is.live))
      (λ t. ⊎_elim (λ p. inl (p.0, p.1)) (λ p. inr (record { stands = p.1; live = is.live })) (at_set s.views id j b u t.1))
      (at_set one other j spent_view u is.stands) in
      let mine = k.below id v seat in
      let my_own = k.belong id v seat in
      record {
        wide = k.wide;
        words = k.words;
        belong = λ j u is. ⊎_elim
            (λ t. subst (λ (x : View). RecordsBelong f longs (records (parts x))) t.1 (my_own.0, belong_append f longs v.others (parts w) my_own.1 (k.belong other w his)))
            (λ t. k.belong j u t)
            (side j u is);
        below = λ j u is. ⊎_elim
            (λ t. subst (λ (x : View). CoversAll f (records (parts x)) z) t.1 (mine.0, below_append f v.others (parts w) z mine.1 (k.below other w his)))
            (λ t. k.below j u t)
            (side j u is);
        first = b;
        is_seat = record { stands = subst (λ (x : ℕ). get_elem? vs x ≡ some b) e here; live = live };
        number = zero_is;
        few = subst (λ (x : View). x.count ≤ sizes.seats) (sym (is_first s k v me0)) k.few;
        numbers = λ n.
            let t = total_set (held n) s.views id v b me in let r = total_set (held n) one other w spent_view there in
            let hb = held_live n b live in let hv = held_live n v live in let hw = held_live n w live' in
            omega (arith, times_append n v.others (parts w), numbers_of s k v me0 n);
        alone = λ j u is. ⊎_elim (λ t. absurd (omega (arith, t.0, e))) (λ t. k.alone j u t) (side (suc j) u is);
        fresh = λ cells c m ne. let h = k.fresh cells c m ne in
            let joined : IsSeat vs id b = record { stands = here; live = live } in
            dite (ℕ_discrete h.place id)
            (λ d.
            let same : h.who ≡ v = same_view (get_elem? s.views id) h.who v (subst (λ (x : ℕ). get_elem? s.views x ≡ some h.who) d h.is_seat.stands) me in
            let t : SomeFresh cells z (records (parts v)) = subst (λ (x : View). SomeFresh cells z (records (parts x))) same h.fresh in
            record { place = id; who = b; is_seat = joined; fresh = ⊎_elim (λ p. inl p) (λ p. inr (fresh_left cells z v.others (parts w) p)) t })
            (λ d. dite (ℕ_discrete h.place other)
            (λ x.
            let same : h.who ≡ w = same_view (get_elem? s.views other) h.who w (subst (λ (y : ℕ). get_elem? s.views y ≡ some h.who) x h.is_seat.stands) his.stands in
            let t : SomeFresh cells z (records (parts w)) = subst (λ (y : View). SomeFresh cells z (records (parts y))) same h.fresh in
            record { place = id; who = b; is_seat = joined; fresh = inr (fresh_right cells z v.others (parts w) t) })
            (λ x. record {
              place = h.place;
              who = h.who;
              is_seat = record { stands = set_else one other h.place spent_view x ∙ (set_else s.views id h.place b d ∙ h.is_seat.stands); live = h.is_seat.live };
              fresh = h.fresh;
            }));
      }

  -- once the first seat has a part of every number, its parts settle the words
  pub settles : (s : St) (k : Keeps s) (id : ℕ) (v : View) → IsSeat s.views id v → v.number ≡ 0 → ((n : ℕ) → n < sizes.seats → 1 ≤ times n (parts v)) → Settled (records (parts v)) (now_of longs s.words)
  settles s k id v me zero_is whole =
      let e = only_first s k id v me zero_is in
      let me0 : get_elem? s.views 0 ≡ some v = subst (λ (x : ℕ). get_elem? s.views x ≡ some v) e me.stands in
      let z = now_of longs s.words in
      record {
        somebody = λ cells c m ne. let h = k.fresh cells c m ne in dite (ℕ_discrete h.place id)
            (λ d.
            let same : h.who ≡ v = same_view (get_elem? s.views id) h.who v (subst (λ (x : ℕ). get_elem? s.views x ≡ some h.who) d h.is_seat.stands) me.stands in
            subst (λ (x : View). SomeFresh cells z (records (parts x))) same h.fresh)
            (λ d.
            let n = h.who.number in
            let two = two_within (held n) s.views h.place id h.who v d h.is_seat.stands me.stands in
            let one = held_own h.who h.is_seat.live in
            let low : n < v.count = once_some n v.count (omega (arith, numbers_of s k v me0 n)) in
            let few : v.count ≤ sizes.seats = subst (λ (x : View). x.count ≤ sizes.seats) (sym (is_first s k v me0)) k.few in
            absurd (omega (arith, whole n (omega arith), held_live n v me.live, numbers_of s k v me0 n, once_few n v.count)));
      }
