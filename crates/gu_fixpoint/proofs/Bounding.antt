-- What records show of joins, and that no content in them is more than contents have which they do not exceed.
use Rattle.std.proofs.Common.{ℕ, ◌≡◌, List, [], ◌∷◌, get_or, sym, subst}
use Rattle.std.specs.Prelude.{All, Contains, Some, slice_get}
use Rattle.std.proofs.lemmas.Option.{slice_get-get_or}
use Rattle.std.proofs.lemmas.List.Elements.{All-nil, All-cons, All-head, All-tail, All-weaker, Contains-get_or}
use Rattle.gu_contents.specs.declared.content.Content.{Content}
use Rattle.gu_contents.specs.declared.facts.Facts.{Facts}
use Rattle.gu_contents.specs.Order.{AtMost}
use Rattle.gu_contents.specs.Belongs.{Belongs}
use Rattle.gu_contents.proofs.Law.{lattice}
use Rattle.gu_contents.proofs.Belonging.{answers_belong}
use Rattle.gu_cells.specs.declared.record.Entry.{Entry}
use Rattle.gu_cells.specs.declared.record.Entry.TheVariants.{Read, Join}
use Rattle.gu_cells.specs.Record.{BelongsTo, EntryBelongs, RecordBelongs, RecordsBelong, cell_of, shown, seen, CoversSeen, CoversAll}
use Rattle.gu_links.specs.declared.link.Link.{Link}
use Rattle.gu_links.specs.Gives.{Contents}
use Rattle.gu_links.specs.Solutions.{IsOf, AllBelong}
use Rattle.gu_workers.specs.Work.{LeavesJoin, IsWork}
use Rattle.gu_workers.proofs.Seen.{entry_belongs, shown_belongs, seen_belongs, entry_seen}
use Rattle.gu_fixpoint.specs.Track.{IsBounded}

-- contents that belong are of a system
pub are_of : (f : Facts) (longs : List ℕ) (z : List Content) → All (BelongsTo f longs) z → All (IsOf f longs) z
are_of f longs z h = All-weaker (BelongsTo f longs) (IsOf f longs) (λ a p. record { belongs = p.0; listed = p.1 }) z h

-- each record shows joins that leave what they found joined with what was asked
pub all_leave_joins : (f : Facts) (links : List Link) (n : ℕ) (records : List (List Entry)) → ((j : ℕ) (entries : List Entry) → slice_get records j ≡ Some entries → IsWork f links j n entries)
    → All (All (LeavesJoin f)) records
all_leave_joins f links n records works j d lt = (works j (get_or records j d) (slice_get-get_or records j d lt)).asks.joins

module _ (f : Facts) (longs : List ℕ) (z : Contents) (all : AllBelong f z) where
  -- what is shown is at most what was seen
  shown_bounded : (entries : List Entry) (e : Entry) → RecordBelongs f longs entries → CoversSeen f entries z → Contains entries e → AtMost f (shown e) (z (cell_of e))
  shown_bounded entries e h covers at =
      let l = lattice f in
      l.order.transitive (shown e) (seen f (cell_of e) entries) (z (cell_of e))
      (shown_belongs f l (answers_belong f) longs e (entry_belongs f longs entries e h at)) (seen_belongs f l (answers_belong f) longs (cell_of e) entries h) (all.at (cell_of e))
      (entry_seen f l (answers_belong f) longs entries e h at) (covers.covers (cell_of e))

  -- and what a join found and asked is at most what it left
  entry_bounded : (e : Entry) → EntryBelongs f longs e → LeavesJoin f e → AtMost f (shown e) (z (cell_of e)) → IsBounded f z e
  entry_bounded (Read cell content) h joins low = low
  entry_bounded (Join cell asked before after) h joins low =
      let l = lattice f in
      let ha : Belongs f asked = let t = h.0 in t.0 in
      let hb : Belongs f before = let t = h.1 in t.0 in
      let hx : Belongs f after = let t = h.2 in t.0 in
      let first : AtMost f before after = subst (AtMost f before) (sym joins) (l.joins.first before asked hb ha) in
      let second : AtMost f asked after = subst (AtMost f asked) (sym joins) (l.joins.second before asked hb ha) in (
        l.order.transitive asked after (z cell) ha hx (all.at cell) second low,
        l.order.transitive before after (z cell) hb hx (all.at cell) first low,
        low,
      )

  entries_bounded : (entries : List Entry) → RecordBelongs f longs entries → CoversSeen f entries z → All (LeavesJoin f) entries → All (IsBounded f z) entries
  entries_bounded entries h covers joins i d lt =
      let e = get_or entries i d in
      let at : Contains entries e = Contains-get_or entries i d lt in
      entry_bounded e (entry_belongs f longs entries e h at) (joins i d lt) (shown_bounded entries e h covers at)

  pub records_bounded : (records : List (List Entry)) → RecordsBelong f longs records → CoversAll f records z → All (All (LeavesJoin f)) records → All (All (IsBounded f z)) records
  records_bounded [] h covers joins = All-nil (All (IsBounded f z))
  records_bounded (entries ∷ records) h covers joins = All-cons (All (IsBounded f z)) entries records
      (entries_bounded entries h.0 covers.0 (All-head (All (LeavesJoin f)) entries records joins))
      (records_bounded records h.1 covers.1 (All-tail (All (LeavesJoin f)) entries records joins))
