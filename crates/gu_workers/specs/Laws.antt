-- When contents that workers leave are the least solution.
use Rattle.std.specs.Prelude.{ℕ, ◌≡◌, ◌<◌, Some, List, length, slice_get}
use Rattle.gu_contents.specs.declared.facts.Facts.{Facts}
use Rattle.gu_cells.specs.declared.record.Entry.{Entry}
use Rattle.gu_cells.specs.Record.{RecordsBelong, CoversAll, Settled}
use Rattle.gu_links.specs.declared.link.Link.{Link}
use Rattle.gu_links.specs.Gives.{Contents}
use Rattle.gu_links.specs.Solutions.{AllBelong, IsBelow, Least}
use Rattle.gu_workers.specs.Work.{IsWork}

-- each record shows the work of one worker: the first that of the worker 0, and so on
pub record AllWork (f : Facts) (links : List Link) (records : List (List Entry)) : Type 0 where
  pub some_worker : 0 < length records
  pub works : (index : ℕ) (entries : List Entry) → slice_get records index ≡ Some entries → IsWork f links index (length records) entries

-- the records tell of contents: they belong to the facts and to the list of 64-bit literals, as all in the records does,
-- they are at least what every record has seen, and the records settle them
pub record AreSettled (f : Facts) (longs : List ℕ) (records : List (List Entry)) (z : Contents) : Type 0 where
  pub belong : AllBelong f z
  pub all_belong : RecordsBelong f longs records
  pub covers : CoversAll f records z
  pub settled : Settled records z

-- settled contents that are at most the least solution are the least solution
abbrev pub SettledIsLeast : Type 0
SettledIsLeast = (f : Facts) (longs : List ℕ) (links : List Link) (least z : Contents) (records : List (List Entry))
    → Least f links least → IsBelow f z least → AreSettled f longs records z → AllWork f links records → Least f links z
