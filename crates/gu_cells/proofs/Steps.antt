-- Loads and exchanges keep the rule.
use Rattle.std.proofs.Common.{ℕ, zero, suc, ◌≡◌, ◌≢◌, ◌⊎◌, ◌-◌, ◌<◌, Bool, true, false, eqb, cond, List, [], ◌∷◌, length, get_or, set, sym, refl, ap, ◌∙◌, subst, inl, inr, ⊎_elim, arith, eq-eqb, ne_eqb, length-set}
use lib.Seq.{set-get_or}
use mathlib.Core.Logic.{dite}
use mathlib.Core.Option.{Option, none, some, some-injective, some-ne-none}
use native.Mathlib.Decide.{ℕ_discrete}
use lib.ListN.{get_elem?}
use prog.Atomic.{either}
use Rattle.atomic_table.specs.Table.{State, Me, Step, step, Act, keeps, stepped, Valid, carried_after, Allows}
use Rattle.atomic_table.proofs.Lists as lists
use Rattle.atomic_table.proofs.Lists.{at_set, set_else}
use Rattle.gu_contents.specs.declared.content.Content.{Content}
use Rattle.gu_contents.specs.declared.content.Content.TheVariants.{Empty}
use Rattle.gu_contents.specs.declared.facts.Facts.{Facts}
use Rattle.gu_contents.specs.Order.{AtMost, at_most}
use Rattle.gu_contents.specs.Codes.{content}
use Rattle.gu_cells.specs.declared.record.Entry.{Entry}
use Rattle.gu_cells.specs.declared.record.Entry.TheVariants.{Read, Join}
use Rattle.gu_cells.specs.declared.record.View.{View}
use Rattle.gu_cells.specs.declared.sizes.Sizes.{Sizes}
use Rattle.gu_cells.specs.Record.{BelongsTo, RecordBelongs, RecordsBelong, seen, CoversSeen, CoversAll, is_among, Fresh, SomeFresh}
use Rattle.gu_cells.specs.Rule.{now_of, word_ceiling, IsWord, parts, records, held, once, IsSeat, HasFresh, Kept, noted, looked, own_is, Finds, Reads, Looks, Exchanges}
use Rattle.gu_cells.proofs.Lattice.{Laws}
use Rattle.gu_cells.proofs.Entries.{Rises, Agree, covers_more, covers_up, covers_all_up, looked_belongs, fresh_same, some_fresh_same, fresh_read, fresh_looked, fresh_join, fresh_raise}
use Rattle.gu_cells.proofs.Counts.{total_set}
use Rattle.gu_cells.proofs.Words.{AllWords, all_belong, word_here, written, words_set, rises_set, rises_not, agree_set}

abbrev pub St : Type 0
St = State ℕ View

abbrev table : List ℕ → List (Option ℕ) → List View → St
table words homes views = record { words = words; homes = homes; views = views }

pub same_view : (o : Option View) (v u : View) → o ≡ some v → o ≡ some u → v ≡ u
same_view o v u p q = some-injective v u (sym p ∙ q)

pub set_at : (vs : List View) (i : ℕ) (v w : View) → get_elem? vs i ≡ some v → get_elem? (set vs i w) i ≡ some w
set_at [] i v w e = absurd (some-ne-none v (sym e))
set_at (x ∷ xs) zero v w e = refl
set_at (x ∷ xs) (suc i) v w e = set_at xs i v w e

module _ {f : Facts} {longs : List ℕ} (laws : Laws f longs) (ceilings : List Content) (sizes : Sizes) where
  abbrev Keeps : St → Type 0
  Keeps = Kept f longs ceilings sizes

  pub all_words : (s : St) → Keeps s → AllWords f longs ceilings s.words
  all_words s k = record { each = k.words }

  -- the words, and the own record of a seat, change
  record Change (s : St) (id : ℕ) (v : View) (own : List Entry) (words : List ℕ) : Type 0 where
    pub seat : IsSeat s.views id v
    pub long : length words ≡ length s.words
    pub coded : AllWords f longs ceilings words
    pub up : Rises f (now_of longs s.words) (now_of longs words)
    pub belongs : RecordBelongs f longs own
    pub covered : CoversSeen f own (now_of longs words)
    pub fresh : (cells : List ℕ) (cell : ℕ) → is_among cells cell ≡ true → now_of longs words cell ≢ Empty → HasFresh (set s.views id (own_is v own)) cells (now_of longs words)

  seat_of : (s : St) (id : ℕ) (v w : View) → get_elem? s.views id ≡ some v → (j : ℕ) (u : View) → IsSeat (set s.views id w) j u → ((j ≡ id) × (w ≡ u)) ⊎ IsSeat s.views j u
  seat_of s id v w me j u is = ⊎_elim (λ t. inl (t.0, t.1)) (λ t. inr (record { stands = t.1; live = is.live })) (at_set s.views id j w u is.stands)

  first_after : (s : St) (k : Keeps s) (id : ℕ) (v : View) (own : List Entry) → IsSeat s.views id v → Dec (0 ≡ id)
      → (m : View) × IsSeat (set s.views id (own_is v own)) 0 m × (m.number ≡ 0) × (m.count ≡ k.first.count)
  first_after s k id v own me (yes e) =
      let here : get_elem? s.views id ≡ some k.first = subst (λ (x : ℕ). get_elem? s.views x ≡ some k.first) e k.is_seat.stands in
      let same : v ≡ k.first = same_view (get_elem? s.views id) v k.first me.stands here in
      let w = own_is v own in (
        w,
        record { stands = subst (λ (x : ℕ). get_elem? (set s.views id w) x ≡ some w) (sym e) (set_at s.views id v w me.stands); live = me.live },
        ap (λ (x : View). x.number) same ∙ k.number,
        ap (λ (x : View). x.count) same,
      )
  first_after s k id v own me (no ne) = (k.first, record { stands = set_else s.views id 0 (own_is v own) ne ∙ k.is_seat.stands; live = k.is_seat.live }, k.number, refl)

  change : (s : St) (k : Keeps s) (id : ℕ) (v : View) (own : List Entry) (words : List ℕ) → Change s id v own words → Keeps (table words s.homes (set s.views id (own_is v own)))
  change s k id v own words c =
      let w = own_is v own in
      let m = first_after s k id v own c.seat (ℕ_discrete 0 id) in
      let old = all_belong f longs ceilings s.words (all_words s k) in
      let new = all_belong f longs ceilings words c.coded in
      let side = seat_of s id v w c.seat.stands in
      record {
        wide = c.long ∙ k.wide;
        words = c.coded.each;
        belong = λ j u is. ⊎_elim
            (λ t. subst (λ (x : View). RecordsBelong f longs (records (parts x))) t.1 (c.belongs, (k.belong id v c.seat).1))
            (λ t. k.belong j u t)
            (side j u is);
        below = λ j u is. ⊎_elim
            (λ t. subst (λ (x : View). CoversAll f (records (parts x)) (now_of longs words)) t.1
            (c.covered, covers_all_up laws (records v.others) (now_of longs s.words) (now_of longs words) (k.belong id v c.seat).1 old new c.up (k.below id v c.seat).1))
            (λ t. covers_all_up laws (records (parts u)) (now_of longs s.words) (now_of longs words) (k.belong j u t) old new c.up (k.below j u t))
            (side j u is);
        first = m.0;
        is_seat = m.1;
        number = m.2;
        few = omega (arith, m.3, k.few);
        numbers = λ n. let t = total_set (held n) s.views id v w c.seat.stands in omega arith ∙ (k.numbers n ∙ ap (once n) (sym m.3));
        alone = λ j u is. ⊎_elim
            (λ t. let a = k.alone j v (record { stands = subst (λ (x : ℕ). get_elem? s.views x ≡ some v) (sym t.0) c.seat.stands; live = c.seat.live }) in
            record { counts_none = ap (λ (x : View). x.count) (sym t.1) ∙ a.counts_none; no_others = ap (λ (x : View). x.others) (sym t.1) ∙ a.no_others })
            (λ t. k.alone j u t)
            (side (suc j) u is);
        fresh = c.fresh;
      }

  -- what was fresh stays so
  carry : (vs : List View) (id : ℕ) (v : View) (own : List Entry) (cells : List ℕ) (z z' : ℕ → Content) → IsSeat vs id v → Agree cells z z' → (Fresh cells z v.own → Fresh cells z' own)
      → HasFresh vs cells z → HasFresh (set vs id (own_is v own)) cells z'
  carry vs id v own cells z z' me agree mine h = dite (ℕ_discrete h.place id)
      (λ e. let same : v ≡ h.who = same_view (get_elem? vs id) v h.who me.stands (subst (λ (x : ℕ). get_elem? vs x ≡ some h.who) e h.is_seat.stands) in
      let fresh : SomeFresh cells z (records (parts v)) = subst (λ (x : View). SomeFresh cells z (records (parts x))) (sym same) h.fresh in
      record {
        place = id;
        who = own_is v own;
        is_seat = record { stands = set_at vs id v (own_is v own) me.stands; live = me.live };
        fresh = ⊎_elim (λ t. inl (mine t)) (λ t. inr (some_fresh_same cells z z' agree (records v.others) t)) fresh;
      })
      (λ ne. record {
        place = h.place;
        who = h.who;
        is_seat = record { stands = set_else vs id h.place (own_is v own) ne ∙ h.is_seat.stands; live = h.is_seat.live };
        fresh = some_fresh_same cells z z' agree (records (parts h.who)) h.fresh;
      })

  agree_not : (cells : List ℕ) (z : ℕ → Content) → Agree cells z z
  agree_not cells z = record { same = λ d _. refl }

  -- the words stay
  unmoved : (s : St) (k : Keeps s) (id : ℕ) (v : View) (own : List Entry) → IsSeat s.views id v → RecordBelongs f longs own → CoversSeen f own (now_of longs s.words)
      → ((cells : List ℕ) → Fresh cells (now_of longs s.words) v.own → Fresh cells (now_of longs s.words) own)
      → Keeps (table s.words s.homes (set s.views id (own_is v own)))
  unmoved s k id v own me belongs covered mine =
      let z = now_of longs s.words in
      change s k id v own s.words record {
        seat = me;
        long = refl;
        coded = all_words s k;
        up = rises_not laws z;
        belongs = belongs;
        covered = covered;
        fresh = λ cells c m n. carry s.views id v own cells z z me (agree_not cells z) (mine cells) (k.fresh cells c m n);
      }

  -- the same with the word that was read written again
  reread : (s : St) (i id : ℕ) (w : View) → Keeps (table s.words s.homes (set s.views id w)) → Keeps (table (set s.words i (get_or s.words i 0)) s.homes (set s.views id w))
  reread s i id w k = subst (λ (words : List ℕ). Keeps (table words s.homes (set s.views id w))) (sym (set-get_or s.words i 0)) k

  -- what a step finds
  found : (s : St) (k : Keeps s) (id i : ℕ) (v : View) → 0 < i → IsSeat s.views id v → Finds f longs ceilings i v (get_or s.words i 0)
  found s k id i v pos me = record {
    is_word = k.words i;
    seen_before = subst (λ (x : Content). AtMost f (seen f (i - 1) v.own) x) (word_here longs s.words i pos) ((k.below id v me).0.covers (i - 1));
  }

  -- a seat that notes what it reads covers what it has seen
  read_covers : (s : St) (k : Keeps s) (id i : ℕ) (v : View) → 0 < i → IsSeat s.views id v → CoversSeen f (Read (i - 1) (content longs (get_or s.words i 0)) ∷ v.own) (now_of longs s.words)
  read_covers s k id i v pos me =
      let x = content longs (get_or s.words i 0) in
      covers_more laws (Read (i - 1) x) v.own (now_of longs s.words) ((k.words i).belongs, (k.belong id v me).0) (all_belong f longs ceilings s.words (all_words s k))
      (subst (λ (y : Content). AtMost f x y) (sym (word_here longs s.words i pos)) (laws.order.reflexive x)) (k.below id v me).0

  -- a read keeps the rule
  read_kept : (s : St) (k : Keeps s) (id i : ℕ) (v : View) → 0 < i → IsSeat s.views id v → Keeps (table s.words s.homes (set s.views id (noted v (Read (i - 1) (content longs (get_or s.words i 0))))))
  read_kept s k id i v pos me =
      let x = content longs (get_or s.words i 0) in
      unmoved s k id v (Read (i - 1) x ∷ v.own) me ((k.words i).belongs, (k.belong id v me).0) (read_covers s k id i v pos me)
      (λ cells h. fresh_read cells (now_of longs s.words) (i - 1) x v.own (sym (word_here longs s.words i pos)) h)

  look_covers : (s : St) (k : Keeps s) (id i : ℕ) (asked : Content) (v : View) (is : Bool) → 0 < i → IsSeat s.views id v → BelongsTo f longs asked
      → let x = content longs (get_or s.words i 0) in CoversSeen f (cond is (Join (i - 1) asked x x ∷ Read (i - 1) x ∷ v.own) (Read (i - 1) x ∷ v.own)) (now_of longs s.words)
  look_covers s k id i asked v false pos me bel = read_covers s k id i v pos me
  look_covers s k id i asked v true pos me bel =
      let x = content longs (get_or s.words i 0) in
      covers_more laws (Join (i - 1) asked x x) (Read (i - 1) x ∷ v.own) (now_of longs s.words) ((bel, (k.words i).belongs, (k.words i).belongs), ((k.words i).belongs, (k.belong id v me).0))
      (all_belong f longs ceilings s.words (all_words s k)) (subst (λ (y : Content). AtMost f x y) (sym (word_here longs s.words i pos)) (laws.order.reflexive x)) (read_covers s k id i v pos me)

  -- and so does a look
  look_kept : (s : St) (k : Keeps s) (id i : ℕ) (asked : Content) (v : View) → 0 < i → IsSeat s.views id v → BelongsTo f longs asked
      → Keeps (table s.words s.homes (set s.views id (own_is v (looked f (i - 1) asked (content longs (get_or s.words i 0)) v.own))))
  look_kept s k id i asked v pos me bel =
      let x = content longs (get_or s.words i 0) in
      let is = at_most f asked x in
      unmoved s k id v (looked f (i - 1) asked x v.own) me
      (looked_belongs f longs (i - 1) asked x v.own is bel (k.words i).belongs (k.belong id v me).0)
      (look_covers s k id i asked v is pos me bel)
      (λ cells h. fresh_looked cells (now_of longs s.words) (i - 1) asked x v.own is (sym (word_here longs s.words i pos)) h)

  abbrev seat_at : (s : St) (id : ℕ) (v : View) → get_elem? s.views id ≡ some v → v.spent ≡ false → IsSeat s.views id v
  seat_at s id v me live = record { stands = me; live = live }

  -- a load may read
  pub read_allowed : (n id i : ℕ) (m : Me ℕ View) → 0 < i → m.0.spent ≡ false → Allows Keeps n id m i (λ y. y) (Reads f longs ceilings (step n i 0 0 none) m)
  read_allowed n id i m pos live s k wide me fits =
      let seat = seat_at s id m.0 me live in
      let w = noted m.0 (Read (i - 1) (content longs (get_or s.words i 0))) in
      (w, keeps, tt, reread s i id w (read_kept s k id i m.0 pos seat), record { finds = found s k id i m.0 pos seat; after = refl })

  -- a load may read, and decide a join
  pub look_allowed : (n id i : ℕ) (asked : Content) (m : Me ℕ View) → 0 < i → m.0.spent ≡ false → BelongsTo f longs asked → Allows Keeps n id m i (λ y. y) (Looks f longs ceilings asked (step n i 0 0 none) m)
  look_allowed n id i asked m pos live bel s k wide me fits =
      let seat = seat_at s id m.0 me live in
      let w = own_is m.0 (looked f (i - 1) asked (content longs (get_or s.words i 0)) m.0.own) in
      (w, keeps, tt, reread s i id w (look_kept s k id i asked m.0 pos seat bel), record { finds = found s k id i m.0 pos seat; after = refl })

  -- a raise of the cell before the word i
  record Raise (s : St) (id i new : ℕ) (asked : Content) (v : View) : Type 0 where
    pub pos : 0 < i
    pub fits : i < length s.words
    pub seat : IsSeat s.views id v
    pub asked_belongs : BelongsTo f longs asked
    pub is_word : IsWord f longs (word_ceiling ceilings i) new
    pub le : AtMost f (content longs (get_or s.words i 0)) (content longs new)
    pub differ : content longs (get_or s.words i 0) ≢ content longs new

  -- what is fresh after it
  raised_fresh : (s : St) (k : Keeps s) (id i new : ℕ) (asked : Content) (v : View) → Raise s id i new asked v
      → (cells : List ℕ) (cell : ℕ) → is_among cells cell ≡ true → now_of longs (set s.words i new) cell ≢ Empty → (is : Bool) → is_among cells (i - 1) ≡ is
      → HasFresh (set s.views id (noted v (Join (i - 1) asked (content longs (get_or s.words i 0)) (content longs new)))) cells (now_of longs (set s.words i new))
  raised_fresh s k id i new asked v r cells cell m ne true is =
      let x = content longs (get_or s.words i 0) in
      let w = noted v (Join (i - 1) asked x (content longs new)) in
      record {
        place = id;
        who = w;
        is_seat = record { stands = set_at s.views id v w r.seat.stands; live = r.seat.live };
        fresh = inl (fresh_raise cells (now_of longs (set s.words i new)) (i - 1) asked x (content longs new) v.own is r.differ);
      }
  raised_fresh s k id i new asked v r cells cell m ne false is =
      let x = content longs (get_or s.words i 0) in
      let z = now_of longs s.words in let z' = now_of longs (set s.words i new) in
      let agree = agree_set longs s.words i new cells r.pos is in
      carry s.views id v (Join (i - 1) asked x (content longs new) ∷ v.own) cells z z' r.seat agree
      (λ h. fresh_join cells z' (i - 1) asked x (content longs new) v.own (fresh_same cells z z' agree v.own h))
      (k.fresh cells cell m (λ e. ne (sym (agree.same cell m) ∙ e)))

  raise_kept : (s : St) (k : Keeps s) (id i new : ℕ) (asked : Content) (v : View) → Raise s id i new asked v
      → Keeps (table (set s.words i new) s.homes (set s.views id (noted v (Join (i - 1) asked (content longs (get_or s.words i 0)) (content longs new)))))
  raise_kept s k id i new asked v r =
      let x = content longs (get_or s.words i 0) in
      let z = now_of longs s.words in let z' = now_of longs (set s.words i new) in
      let coded = words_set f longs ceilings s.words i new r.fits (all_words s k) r.is_word in
      let new_belong = all_belong f longs ceilings (set s.words i new) coded in
      let up = rises_set laws s.words i new r.fits r.le in
      let here : z' (i - 1) ≡ content longs new = written longs s.words i new (i - 1) r.fits (omega (arith, r.pos)) in
      let belongs : RecordBelongs f longs (Join (i - 1) asked x (content longs new) ∷ v.own) = ((r.asked_belongs, (k.words i).belongs, r.is_word.belongs), (k.belong id v r.seat).0) in
      change s k id v (Join (i - 1) asked x (content longs new) ∷ v.own) (set s.words i new) record {
        seat = r.seat;
        long = length-set s.words i new;
        coded = coded;
        up = up;
        belongs = belongs;
        covered = covers_more laws (Join (i - 1) asked x (content longs new)) v.own z' belongs new_belong (subst (λ (y : Content). AtMost f (content longs new) y) (sym here) (laws.order.reflexive (content longs new)))
            (covers_up laws v.own z z' (k.belong id v r.seat).0 (all_belong f longs ceilings s.words (all_words s k)) new_belong up (k.below id v r.seat).0);
        fresh = λ cells cell m ne. raised_fresh s k id i new asked v r cells cell m ne (is_among cells (i - 1)) refl;
      }

  -- an exchange of an old word for a new one, which codes a greater content
  pub record Exchange (i old new : ℕ) (asked : Content) : Type 0 where
    pub pos : 0 < i
    pub short : i < suc sizes.cells
    pub asked_belongs : BelongsTo f longs asked
    pub is_word : IsWord f longs (word_ceiling ceilings i) new
    pub le : AtMost f (content longs old) (content longs new)
    pub differ : content longs old ≢ content longs new

  abbrev Goes : Step ℕ → ℕ → Me ℕ View → Content → St → ℕ → Type 0
  Goes p id m asked s j = (w : View) × (a : Act ℕ) × Valid s.homes m.1 a × Keeps (stepped s p.word j id m.1 w a) × Exchanges f longs ceilings asked p m (get_or s.words p.word 0) (w, carried_after m.1 a)

  pub exchange_allowed : (n id i old new : ℕ) (asked : Content) (m : Me ℕ View) → m.0.spent ≡ false → Exchange i old new asked
      → Allows Keeps n id m i (λ y. either (eqb y old) new y) (Exchanges f longs ceilings asked (step n i old new none) m)
  exchange_allowed n id i old new asked m live e s k wide me fits =
      let seat = seat_at s id m.0 me live in
      let w : ℕ = get_or s.words i 0 in
      let p = step n i old new none in
      let lost = looked f (i - 1) asked (content longs w) m.0.own in
      let finds = found s k id i m.0 e.pos seat in
      lists.exchanged w old new (Goes p id m asked s)
      (λ hit.
      let won = Join (i - 1) asked (content longs w) (content longs new) ∷ m.0.own in (
        own_is m.0 won,
        keeps,
        tt,
        raise_kept s k id i new asked m.0 record {
          pos = e.pos;
          fits = omega (arith, k.wide, e.short);
          seat = seat;
          asked_belongs = e.asked_belongs;
          is_word = e.is_word;
          le = subst (λ (y : ℕ). AtMost f (content longs y) (content longs new)) (sym hit) e.le;
          differ = λ d. e.differ (subst (λ (y : ℕ). content longs y ≡ content longs new) hit d);
        },
        record {
          finds = finds;
          after = sym (ap (λ (b : Bool). (own_is m.0 (cond b (Join (i - 1) asked (content longs old) (content longs new) ∷ m.0.own) lost), m.1)) (eq-eqb w old hit)
              ∙ ap (λ (y : ℕ). (own_is m.0 (Join (i - 1) asked (content longs y) (content longs new) ∷ m.0.own), m.1)) (sym hit));
        },
      ))
      (λ miss. (
        own_is m.0 lost,
        keeps,
        tt,
        reread s i id (own_is m.0 lost) (look_kept s k id i asked m.0 e.pos seat e.asked_belongs),
        record {
          finds = finds;
          after = sym (ap (λ (b : Bool). (own_is m.0 (cond b (Join (i - 1) asked (content longs old) (content longs new) ∷ m.0.own) lost), m.1)) (ne_eqb w old miss));
        },
      ))
