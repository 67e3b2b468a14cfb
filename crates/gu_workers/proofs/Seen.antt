-- What a record has seen is at least what each of its entries shows.
use Rattle.std.proofs.Common.{ℕ, Bool, true, false, List, [], ◌∷◌, cond, eqb, sym, subst, eq-eqb, refl}
use Rattle.std.specs.Prelude.{All, Contains}
use Rattle.std.proofs.lemmas.List.Elements.{All-nil, All-cons, All-weaker, All-contains}
use Rattle.gu_contents.specs.declared.content.Content.{Content}
use Rattle.gu_contents.specs.declared.facts.Facts.{Facts}
use Rattle.gu_contents.specs.Order.{AtMost}
use Rattle.gu_contents.specs.Join.{join}
use Rattle.gu_contents.specs.Belongs.{Belongs}
use Rattle.gu_contents.specs.Laws.{AnswersBelong, ContentsAreALattice}
use Rattle.gu_cells.specs.declared.record.Entry.{Entry}
use Rattle.gu_cells.specs.declared.record.Entry.TheVariants.{Read, Join}
use Rattle.gu_cells.specs.Record.{EntryBelongs, RecordBelongs, cell_of, shown, seen, CoversSeen}
use Rattle.gu_links.specs.Gives.{Contents, Asked}
use Rattle.gu_links.specs.Solutions.{AllBelong, IsMet}
use Rattle.gu_workers.specs.Work.{WasJoined}

-- every entry of a record belongs
pub entry_belongs : (f : Facts) (longs : List ℕ) (entries : List Entry) (entry : Entry) → RecordBelongs f longs entries → Contains entries entry → EntryBelongs f longs entry
entry_belongs f longs entries entry h at = All-contains (EntryBelongs f longs) entries entry (every entries h) at
  where
    every : (es : List Entry) → RecordBelongs f longs es → All (EntryBelongs f longs) es
    every [] p = All-nil (EntryBelongs f longs)
    every (e ∷ es) p = All-cons (EntryBelongs f longs) e es p.0 (every es p.1)

module _ (f : Facts) (lattice : ContentsAreALattice f) (answers : AnswersBelong f) (longs : List ℕ) where
  pub shown_belongs : (entry : Entry) → EntryBelongs f longs entry → Belongs f (shown entry)
  shown_belongs (Read cell content) h = h.0
  shown_belongs (Join cell asked before after) h = let t = h.2 in t.0

  seen_belongs_on : (is : Bool) (a b : Content) → Belongs f a → Belongs f b → Belongs f (cond is (join f a b) b)
  seen_belongs_on true a b p q = answers.join_does a b p q
  seen_belongs_on false a b p q = q

  pub seen_belongs : (cell : ℕ) (entries : List Entry) → RecordBelongs f longs entries → Belongs f (seen f cell entries)
  seen_belongs cell [] h = tt
  seen_belongs cell (e ∷ es) h = seen_belongs_on (eqb (cell_of e) cell) (shown e) (seen f cell es) (shown_belongs e h.0) (seen_belongs cell es h.1)

  seen_grows_on : (is : Bool) (a b : Content) → Belongs f a → Belongs f b → AtMost f b (cond is (join f a b) b)
  seen_grows_on true a b p q = lattice.joins.second a b p q
  seen_grows_on false a b p q = lattice.order.reflexive b

  -- one entry more sees no less
  pub seen_grows : (cell : ℕ) (e : Entry) (es : List Entry) → RecordBelongs f longs (e ∷ es) → AtMost f (seen f cell es) (seen f cell (e ∷ es))
  seen_grows cell e es h = seen_grows_on (eqb (cell_of e) cell) (shown e) (seen f cell es) (shown_belongs e h.0) (seen_belongs cell es h.1)

  seen_first : (e : Entry) (es : List Entry) → RecordBelongs f longs (e ∷ es) → AtMost f (shown e) (seen f (cell_of e) (e ∷ es))
  seen_first e es h = subst (λ (b : Bool). AtMost f (shown e) (cond b (join f (shown e) (seen f (cell_of e) es)) (seen f (cell_of e) es))) (sym (eq-eqb (cell_of e) (cell_of e) refl))
      (lattice.joins.first (shown e) (seen f (cell_of e) es) (shown_belongs e h.0) (seen_belongs (cell_of e) es h.1))

  record IsSeen (entries : List Entry) (entry : Entry) : Type 0 where
    pub belongs : EntryBelongs f longs entry
    pub seen_is : AtMost f (shown entry) (seen f (cell_of entry) entries)

  all_seen : (entries : List Entry) → RecordBelongs f longs entries → All (IsSeen entries) entries
  all_seen [] h = All-nil (IsSeen [])
  all_seen (e ∷ es) h = All-cons (IsSeen (e ∷ es)) e es (record { belongs = h.0; seen_is = seen_first e es h })
      (All-weaker (IsSeen es) (IsSeen (e ∷ es)) (λ d s. record {
        belongs = s.belongs;
        seen_is = lattice.order.transitive (shown d) (seen f (cell_of d) es) (seen f (cell_of d) (e ∷ es)) (shown_belongs d s.belongs) (seen_belongs (cell_of d) es h.1) (seen_belongs (cell_of d) (e ∷ es) h)
            s.seen_is (seen_grows (cell_of d) e es h);
      }) es (all_seen es h.1))

  pub entry_seen : (entries : List Entry) (entry : Entry) → RecordBelongs f longs entries → Contains entries entry → AtMost f (shown entry) (seen f (cell_of entry) entries)
  entry_seen entries entry h at = (All-contains (IsSeen entries) entries entry (all_seen entries h) at).seen_is

  -- a join that was made is met by contents that are at least what the record has seen
  pub joined_is_met : (entries : List Entry) (z : Contents) (asked : Asked) → RecordBelongs f longs entries → AllBelong f z → CoversSeen f entries z → WasJoined f entries asked → IsMet f z asked
  joined_is_met entries z asked h all covers joined =
      let b = joined.before in
      let a = joined.after in
      let entry = Join asked.0 asked.1 b a in
      let belong = entry_belongs f longs entries entry h joined.made in
      let asked_belongs : Belongs f asked.1 = let t = belong.0 in t.0 in
      let before_belongs : Belongs f b = let t = belong.1 in t.0 in
      let after_belongs : Belongs f a = let t = belong.2 in t.0 in
      let up : AtMost f asked.1 a = subst (λ (c : Content). AtMost f asked.1 c) (sym joined.after_is) (lattice.joins.second b asked.1 before_belongs asked_belongs) in
      let top : AtMost f a (z asked.0) = lattice.order.transitive a (seen f asked.0 entries) (z asked.0) after_belongs (seen_belongs asked.0 entries h) (all.at asked.0) (entry_seen entries entry h joined.made) (covers.covers asked.0) in
      lattice.order.transitive asked.1 a (z asked.0) asked_belongs after_belongs (all.at asked.0) up top
