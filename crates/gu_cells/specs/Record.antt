-- What a seat of the cells has read and joined, and what of it is up to date. A record is a list of entries, the newest
-- first. A list of contents, one for each cell, is a function from cells to contents.
use Rattle.std.specs.Prelude.{ℕ, ◌≡◌, ◌≢◌, ◌⊎◌, Bool, true, List, [], ◌∷◌, ◌++◌, map, nat_eq, slice_index_or, if◌then◌else◌}
use Rattle.std.specs.List.{list_any}
use Rattle.gu_contents.specs.declared.content.Content.{Content}
use Rattle.gu_contents.specs.declared.content.Content.TheVariants.{Empty}
use Rattle.gu_contents.specs.declared.facts.Facts.{Facts}
use Rattle.gu_contents.specs.Order.{AtMost}
use Rattle.gu_contents.specs.Join.{join}
use Rattle.gu_contents.specs.Belongs.{Belongs, IsListed}
use Rattle.gu_cells.specs.declared.record.Entry.{Entry}
use Rattle.gu_cells.specs.declared.record.Entry.TheVariants.{Read, Join}

-- the content that a list has for a cell
abbrev pub at : List Content → ℕ → Content
at contents cell = slice_index_or contents cell Empty

-- a content belongs to the facts, and its 64-bit literal, if it is one, to a list of these
abbrev pub BelongsTo : Facts → List ℕ → Content → Type 0
BelongsTo f longs a = Belongs f a × IsListed longs a

-- each content of an entry does
abbrev pub EntryBelongs : Facts → List ℕ → Entry → Type 0
EntryBelongs f longs (Read cell content) = BelongsTo f longs content
EntryBelongs f longs (Join cell asked before after) = BelongsTo f longs asked × BelongsTo f longs before × BelongsTo f longs after

-- each content of a record does
abbrev pub RecordBelongs : Facts → List ℕ → List Entry → Type 0
RecordBelongs f longs [] = Unit {0}
RecordBelongs f longs (entry ∷ entries) = EntryBelongs f longs entry × RecordBelongs f longs entries

-- each content of every record does
abbrev pub RecordsBelong : Facts → List ℕ → List (List Entry) → Type 0
RecordsBelong f longs [] = Unit {0}
RecordsBelong f longs (entries ∷ records) = RecordBelongs f longs entries × RecordsBelong f longs records

-- the cell that an entry is of
abbrev pub cell_of : Entry → ℕ
cell_of (Read cell content) = cell
cell_of (Join cell asked before after) = cell

-- what an entry shows of its cell: what was read, and what a join left there
abbrev pub shown : Entry → Content
shown (Read cell content) = content
shown (Join cell asked before after) = after

-- the join of all contents that were read at a cell and of all that joins left there
abbrev pub seen : Facts → ℕ → List Entry → Content
seen f cell [] = Empty
seen f cell (entry ∷ entries) = if nat_eq (cell_of entry) cell then join f (shown entry) (seen f cell entries) else seen f cell entries

-- at every cell a list of contents is at least what a record has seen there
pub record CoversSeen (f : Facts) (entries : List Entry) (contents : ℕ → Content) : Type 0 where
  pub covers : (cell : ℕ) → AtMost f (seen f cell entries) (contents cell)

-- it is at least what every record has seen
abbrev pub CoversAll : Facts → List (List Entry) → (ℕ → Content) → Type 0
CoversAll f [] contents = Unit {0}
CoversAll f (entries ∷ records) contents = CoversSeen f entries contents × CoversAll f records contents

-- whether a cell is one of a list of cells
abbrev pub is_among : List ℕ → ℕ → Bool
is_among cells cell = list_any (nat_eq cell) cells

-- An entry that raises one of a list of cells: a join that left there what it did not find
abbrev pub Raises : List ℕ → Entry → Type 0
Raises cells (Read cell content) = ⊥
Raises cells (Join cell asked before after) = (is_among cells cell ≡ true) × (before ≢ after)

-- an entry is up to date: where it is a read of one of the cells, it shows what a list of contents has there
abbrev pub IsCurrent : List ℕ → (ℕ → Content) → Entry → Type 0
IsCurrent cells contents (Read cell content) = is_among cells cell ≡ true → content ≡ contents cell
IsCurrent cells contents (Join cell asked before after) = Unit {0}

-- A record raised one of the cells, and is up to date since: of its entries, from the newest to the oldest, one raises one
-- of the cells, and until there all are up to date
abbrev pub Fresh : List ℕ → (ℕ → Content) → List Entry → Type 0
Fresh cells contents [] = ⊥
Fresh cells contents (entry ∷ entries) = Raises cells entry ⊎ (IsCurrent cells contents entry × Fresh cells contents entries)

-- some record is fresh
abbrev pub SomeFresh : List ℕ → (ℕ → Content) → List (List Entry) → Type 0
SomeFresh cells contents [] = ⊥
SomeFresh cells contents (entries ∷ records) = Fresh cells contents entries ⊎ SomeFresh cells contents records

-- for each list of cells with one that is not empty, somebody raised one of them last, and his later reads of them are up
-- to date
pub record Settled (records : List (List Entry)) (contents : ℕ → Content) : Type 0 where
  pub somebody : (cells : List ℕ) (cell : ℕ) → is_among cells cell ≡ true → contents cell ≢ Empty → SomeFresh cells contents records

-- reads of one cell, the newest first
abbrev pub reads_of : ℕ → List Content → List Entry
reads_of cell contents = map (λ (content : Content). Read cell content) contents

-- a join puts reads of its cell in front of a record, and itself last
pub record Appends (cell : ℕ) (asked before after : Content) (old new : List Entry) : Type 0 where
  pub found : List Content
  pub appended : new ≡ Join cell asked before after ∷ (reads_of cell found ++ old)
