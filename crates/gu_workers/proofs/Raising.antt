-- One join, as a seat makes it.
use Rattle.std.proofs.Common.{ℕ, ◌≡◌, ◌≢◌, ◌<◌, ◌≤◌, Bool, true, false, List, [], ◌∷◌, sym, refl, subst, arith}
use Rattle.std.specs.Prelude.{Contains, MatchBool, Some, slice_get}
use Rattle.gu_contents.specs.declared.content.Content.{Content}
use Rattle.gu_contents.specs.declared.facts.Facts.{Facts}
use Rattle.gu_contents.specs.Order.{AtMost}
use Rattle.gu_contents.specs.Join.{join}
use Rattle.gu_cells.specs.declared.record.Entry.{Entry}
use Rattle.gu_cells.specs.declared.record.Entry.TheVariants.{Join}
use Rattle.gu_cells.specs.Record.{BelongsTo, RecordBelongs, seen, Appends, reads_of}
use Rattle.gu_links.specs.declared.link.Link.{Link}
use Rattle.gu_links.specs.Solutions.{IsReader}
use Rattle.gu_workers.specs.Steps.{Adds, AreOf, Makes, room, weight}
use Rattle.gu_workers.proofs.Splits.{are_of_more, reads_are_of}
use Rattle.gu_workers.proofs.Records.{makes_join}
use Rattle.gu_workers.proofs.Room.{join_room, raise_room, weight_less, weight_same}

module _ (f : Facts) (longs : List ℕ) (links : List Link) (cell : ℕ) (asked before after : Content) (old new : List Entry) (a : Appends cell asked before after old new) where
  pub join_adds : after ≡ join f before asked → Adds (AreOf f ((cell, asked) ∷ [])) old new
  join_adds is = record {
    more = Join cell asked before after ∷ reads_of cell a.found;
    added = a.appended;
    holds = are_of_more f ((cell, asked) ∷ []) (Join cell asked before after) (reads_of cell a.found) ((0, omega arith, refl), is) (reads_are_of f ((cell, asked) ∷ []) cell a.found);
  }

  pub join_makes : (Q : List ℕ) → after ≡ join f before asked
      → (before ≢ after → (number : ℕ) (link : Link) → slice_get links number ≡ Some link → IsReader f links cell link → Contains Q number) → Adds (Makes f links Q ((cell, asked) ∷ [])) old new
  join_makes Q is left = record {
    more = Join cell asked before after ∷ reads_of cell a.found;
    added = a.appended;
    holds = makes_join f links Q cell asked before after (reads_of cell a.found) (reads_are_of f [] cell a.found) is left;
  }

  pub join_weighs : (cells n p : ℕ) → RecordBelongs f longs new → weight f cells n new p ≤ weight f cells n old p
  join_weighs cells n p h = weight_same n (room f cells new) (room f cells old) p (join_room f longs cells cell asked before after old new a h)

  pub raise_weighs : (cells n p q : ℕ) → cell < cells → RecordBelongs f longs new → BelongsTo f longs before → BelongsTo f longs asked → BelongsTo f longs after
      → AtMost f (seen f cell old) before → after ≡ join f before asked → before ≢ after → q ≤ n → weight f cells n new q ≤ weight f cells n old p
  raise_weighs cells n p q lt h hb ha hx low is ne few =
      weight_less n (room f cells new) (room f cells old) p q (raise_room f longs cells cell asked before after old new lt a h hb.0 ha.0 hx.0 low is ne) few

-- the readers over the facts by another name
pub readers_as : (f g : Facts) (links : List Link) (cell : ℕ) (Q : List ℕ) → g ≡ f
    → ((number : ℕ) (link : Link) → slice_get links number ≡ Some link → IsReader g links cell link → Contains Q number)
    → (number : ℕ) (link : Link) → slice_get links number ≡ Some link → IsReader f links cell link → Contains Q number
readers_as f g links cell Q e h number link at r = h number link at (subst (λ (x : Facts). IsReader x links cell link) (sym e) r)

-- what holds where a test is true, and where it is false
pub when_true : (P Q : Type 0) (b : Bool) → MatchBool b P Q → b ≡ true → P
when_true P Q true h e = h
when_true P Q false h e = cc

pub when_false : (P Q : Type 0) (b : Bool) → MatchBool b P Q → b ≡ false → Q
when_false P Q true h e = cc
when_false P Q false h e = h
