-- What a worker knows of the cells that it has read for a link.
use Rattle.std.specs.Prelude.{ℕ, List, [], All, Contains}
use Rattle.gu_contents.specs.declared.content.Content.{Content}
use Rattle.gu_contents.specs.declared.facts.Facts.{Facts}
use Rattle.gu_contents.specs.Order.{AtMost}
use Rattle.gu_cells.specs.declared.record.Entry.{Entry}
use Rattle.gu_cells.specs.declared.record.Entry.TheVariants.{Read}
use Rattle.gu_cells.specs.Record.{at, BelongsTo}
use Rattle.gu_links.specs.Gives.{Contents}
use Rattle.gu_links.specs.Known.{Item, Has}
use Rattle.gu_workers.specs.Steps.{AreOf}

-- some contents have what is known, belong, and are at most the ceilings
pub record IsHeld (f : Facts) (longs : List ℕ) (ceilings : List Content) (known : List Item) : Type 0 where
  pub contents : Contents
  pub has : Has known contents
  pub belong : (c : ℕ) → BelongsTo f longs (contents c)
  pub capped : (c : ℕ) → AtMost f (contents c) (at ceilings c)

-- the entries are reads, among them those of all that is known
pub record AreKnown (f : Facts) (known : List Item) (entries : List Entry) : Type 0 where
  pub reads_alone : AreOf f [] entries
  pub shown : All (λ (k : Item). Contains entries (Read k.0 k.1)) known
