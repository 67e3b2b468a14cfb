-- What one step of a worker adds to its record, and what it leaves.
use Rattle.std.specs.Prelude.{ℕ, zero, suc, ◌≡◌, ◌≢◌, ◌+◌, ◌-◌, ◌*◌, ◌%◌, ◌<◌, Some, List, [], ◌∷◌, ◌++◌, All, Contains, slice_get}
use Rattle.gu_contents.specs.declared.content.Content.{Content}
use Rattle.gu_contents.specs.declared.facts.Facts.{Facts}
use Rattle.gu_contents.specs.Order.{AtMost}
use Rattle.gu_contents.specs.Rank.{rank}
use Rattle.gu_contents.specs.Join.{join}
use Rattle.gu_cells.specs.declared.record.Entry.{Entry}
use Rattle.gu_cells.specs.declared.record.Entry.TheVariants.{Read, Join}
use Rattle.gu_cells.specs.Record.{at, seen, BelongsTo}
use Rattle.gu_links.specs.declared.link.Link.{Link}
use Rattle.gu_links.specs.declared.link.Link.TheVariants.{Root}
use Rattle.gu_links.specs.Gives.{Contents, Asked, gives, reads}
use Rattle.gu_links.specs.Solutions.{IsReader}
use Rattle.gu_workers.specs.Work.{WereRead, WasJoined, IsServed, AsksGiven}

-- a record is another with entries in front, of which something holds
pub record Adds (P : List Entry → Type 0) (old new : List Entry) : Type 0 where
  pub more : List Entry
  pub added : new ≡ more ++ old
  pub holds : P more

-- an entry is a read, or one of the joins that are asked for, which leaves what it found joined with what was asked
abbrev pub IsOneOf : Facts → List Asked → Entry → Type 0
IsOneOf f asked (Read cell content) = Unit {0}
IsOneOf f asked (Join cell content before after) = Contains asked (cell, content) × (after ≡ join f before content)

-- each entry is
pub record AreOf (f : Facts) (asked : List Asked) (entries : List Entry) : Type 0 where
  pub each : All (IsOneOf f asked) entries

-- a join is of one of so many cells, its content belongs, and is at most the ceiling
pub record IsFitting (f : Facts) (longs : List ℕ) (count : ℕ) (ceilings : List Content) (asked : Asked) : Type 0 where
  pub cell : asked.0 < count
  pub belongs : BelongsTo f longs asked.1
  pub capped : AtMost f asked.1 (at ceilings asked.0)

-- the entries are reads of all cells on which a link rests, and the joins are what it asks for on the contents that these
-- had
pub record Asks (f : Facts) (links : List Link) (link : Link) (asked : List Asked) (entries : List Entry) : Type 0 where
  pub reads_alone : AreOf f [] entries
  pub contents : Contents
  pub were_read : WereRead entries (reads f links link contents) contents
  pub given : asked ≡ gives f links link contents

-- the readers of each cell that a join raised are left
pub record LeavesReaders (f : Facts) (links : List Link) (left : List ℕ) (entries : List Entry) : Type 0 where
  pub readers : (newer older : List Entry) (cell : ℕ) (asked before after : Content) → entries ≡ newer ++ Join cell asked before after ∷ older → before ≢ after
      → (number : ℕ) (link : Link) → slice_get links number ≡ Some link → IsReader f links cell link → Contains left number

-- the entries are joins that were asked for and reads: all of the joins were made, and the readers of each cell that rose
-- are left
pub record Makes (f : Facts) (links : List Link) (left : List ℕ) (asked : List Asked) (entries : List Entry) : Type 0 where
  pub joined : All (WasJoined f entries) asked
  pub are_of : AreOf f asked entries
  pub leaves : LeavesReaders f links left entries

-- a link is served, with joins that are asked for alone, and the readers of each cell that rose are left
pub record Serves (f : Facts) (links : List Link) (left : List ℕ) (link : Link) (entries : List Entry) : Type 0 where
  pub served : IsServed f links entries link
  pub asks : AsksGiven f links entries
  pub leaves : LeavesReaders f links left entries

-- what the link with a number gives was joined, if it is a root of the share of a worker, with joins that are asked for
-- alone, and the readers of each cell that rose are left
pub record Starts (f : Facts) (links : List Link) (left : List ℕ) (index of number : ℕ) (entries : List Entry) : Type 0 where
  pub root : (give : Content) (to : ℕ) → slice_get links number ≡ Some (Root give to) → number % of ≡ index → WasJoined f entries (to, give)
  pub asks : AsksGiven f links entries
  pub leaves : LeavesReaders f links left entries

-- how far all that was seen of the first cells, so many, may still rise
abbrev pub room : Facts → ℕ → List Entry → ℕ
room f zero entries = 0
room f (suc cell) entries = (70 - rank (seen f cell entries)) + room f cell entries

-- the most steps that a worker has still to take, with so many links left
abbrev pub weight : Facts → ℕ → ℕ → List Entry → ℕ → ℕ
weight f cells links entries left = room f cells entries * (links + 1) + left
