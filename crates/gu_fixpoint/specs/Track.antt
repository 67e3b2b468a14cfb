-- What the track of some workers shows.
use Rattle.std.specs.Prelude.{ℕ, ◌≡◌, Some, List, All, length, slice_get}
use Rattle.gu_contents.specs.declared.facts.Facts.{Facts}
use Rattle.gu_contents.specs.Order.{AtMost}
use Rattle.gu_cells.specs.declared.record.Entry.{Entry}
use Rattle.gu_cells.specs.declared.record.Entry.TheVariants.{Read, Join}
use Rattle.gu_cells.specs.Record.{RecordsBelong, CoversAll, Settled}
use Rattle.gu_links.specs.declared.link.Link.{Link}
use Rattle.gu_links.specs.Gives.{Contents}
use Rattle.gu_workers.specs.Work.{IsWork}

-- no content in an entry is more than some contents have for its cell: what was read, and what a join asked, found and left
abbrev pub IsBounded : Facts → Contents → Entry → Type 0
IsBounded f z (Read cell content) = AtMost f content (z cell)
IsBounded f z (Join cell asked before after) = AtMost f asked (z cell) × AtMost f before (z cell) × AtMost f after (z cell)

-- There is one record for each worker, which shows his whole work. No content in a record is more than the contents have,
-- no record has seen more than the contents have, all in the records belongs, and they settle the contents
pub record IsTrack (f : Facts) (longs : List ℕ) (links : List Link) (workers : ℕ) (z : Contents) (records : List (List Entry)) : Type 0 where
  pub long : length records ≡ workers
  pub works : (index : ℕ) (entries : List Entry) → slice_get records index ≡ Some entries → IsWork f links index workers entries
  pub bounded : All (All (IsBounded f z)) records
  pub belong : RecordsBelong f longs records
  pub covers : CoversAll f records z
  pub settled : Settled records z
