-- The rule over the words and the views of the seats: what holds between any two atomic steps.
use Rattle.std.specs.Prelude.{ℕ, ◌≡◌, ◌≢◌, suc, ◌+◌, ◌-◌, ◌^◌, ◌<◌, ◌≤◌, List, [], ◌∷◌, ◌++◌, length, map, Bool, true, false, nat_eq, nat_lt, slice_index, slice_index_or, if◌then◌else◌}
use mathlib.Core.Option.{some}
use lib.ListN.{get_elem?}
use Rattle.atomic_table.specs.Table.{State, Me, Step}
use Rattle.gu_contents.specs.declared.content.Content.{Content}
use Rattle.gu_contents.specs.declared.content.Content.TheVariants.{Empty}
use Rattle.gu_contents.specs.declared.facts.Facts.{Facts}
use Rattle.gu_contents.specs.Order.{AtMost, at_most}
use Rattle.gu_contents.specs.Belongs.{Belongs}
use Rattle.gu_contents.specs.Codes.{code, content}
use Rattle.gu_cells.specs.declared.record.Entry.{Entry}
use Rattle.gu_cells.specs.declared.record.Entry.TheVariants.{Read, Join}
use Rattle.gu_cells.specs.declared.record.Part.{Part}
use Rattle.gu_cells.specs.declared.record.View.{View}
use Rattle.gu_cells.specs.declared.sizes.Sizes.{Sizes}
use Rattle.gu_cells.specs.Record.{at, BelongsTo, RecordBelongs, RecordsBelong, seen, CoversAll, is_among, SomeFresh}

-- the content of a cell, whose word is one further on: the word 0 is of no cell
abbrev pub now_of : List ℕ → List ℕ → ℕ → Content
now_of longs words cell = content longs (slice_index words (suc cell))

-- the ceiling of a word: that of its cell, and nothing at the word 0
abbrev pub word_ceiling : List Content → ℕ → Content
word_ceiling ceilings word = slice_index_or (Empty ∷ ceilings) word Empty

-- a word codes a content that belongs to the facts and to the 64-bit literals and is at most a ceiling
pub record IsWord (f : Facts) (longs : List ℕ) (ceiling : Content) (word : ℕ) : Type 0 where
  pub coded : code longs (content longs word) ≡ word
  pub belongs : BelongsTo f longs (content longs word)
  pub capped : AtMost f (content longs word) ceiling

-- the parts of a seat's record: its own, and those of the seats that were joined into it
abbrev pub parts : View → List Part
parts v = record { number = v.number; entries = v.own } ∷ v.others

-- the records of parts
abbrev pub records : List Part → List (List Entry)
records ps = map (λ (p : Part). p.entries) ps

-- the view with the number of seats so far, its own number and the parts of its record, whether it is spent
abbrev pub view : Bool → ℕ → ℕ → List Entry → List Part → View
view spent count number own others = record { spent = spent; count = count; number = number; own = own; others = others }

-- how many parts carry a number
abbrev pub times : ℕ → List Part → ℕ
times n [] = 0
times n (p ∷ ps) = (if nat_eq p.number n then 1 else 0) + times n ps

-- how many parts of a seat carry a number, unless it is spent
abbrev pub held : ℕ → View → ℕ
held n v = if v.spent then 0 else times n (parts v)

abbrev pub total : (View → ℕ) → List View → ℕ
total f [] = 0
total f (v ∷ vs) = f v + total f vs

-- one for each number below a count
abbrev pub once : ℕ → ℕ → ℕ
once n count = if nat_lt n count then 1 else 0

-- a seat with a view, that is not spent, stands at a place among the views
pub record IsSeat (views : List View) (place : ℕ) (v : View) : Type 0 where
  pub stands : get_elem? views place ≡ some v
  pub live : v.spent ≡ false

-- a seat that was never split, and that none was joined into
pub record IsAlone (v : View) : Type 0 where
  pub counts_none : v.count ≡ 0
  pub no_others : v.others ≡ []

-- some part of a seat that is not spent is fresh
pub record HasFresh (views : List View) (cells : List ℕ) (contents : ℕ → Content) : Type 0 where
  pub place : ℕ
  pub who : View
  pub is_seat : IsSeat views place who
  pub fresh : SomeFresh cells contents (records (parts who))

-- what holds between any two steps, where so many cells and seats are asked for
pub record Kept (f : Facts) (longs : List ℕ) (ceilings : List Content) (sizes : Sizes) (s : State ℕ View) : Type 0 where
  -- there is a word for each cell, and the word 0
  pub wide : length s.words ≡ suc sizes.cells
  -- every word codes a content that belongs to the facts and the literals and is at most its ceiling
  pub words : (i : ℕ) → IsWord f longs (word_ceiling ceilings i) (slice_index s.words i)
  -- the contents in the record of every seat that is not spent belong to them too
  pub belong : (j : ℕ) (v : View) → IsSeat s.views j v → RecordsBelong f longs (records (parts v))
  -- for every seat that is not spent, and every part of its record, what was seen of a cell is at most the content of its word
  pub below : (j : ℕ) (v : View) → IsSeat s.views j v → CoversAll f (records (parts v)) (now_of longs s.words)
  -- the first seat is the one with the number 0. It is never spent, and holds the count of seats, which are no more than asked for
  pub first : View
  pub is_seat : IsSeat s.views 0 first
  pub number : first.number ≡ 0
  pub few : first.count ≤ sizes.seats
  -- the parts of seats that are not spent carry the numbers below the count of seats, and no two of them carry one number
  pub numbers : (n : ℕ) → total (held n) s.views ≡ once n first.count
  -- that seat alone splits, and other seats are joined into it alone: each other seat counts none, and has no part but its own
  pub alone : (j : ℕ) (v : View) → IsSeat s.views (suc j) v → IsAlone v
  -- for each list of cells with one that is not empty, some part is fresh for these cells and the contents of the words
  pub fresh : (cells : List ℕ) (cell : ℕ) → is_among cells cell ≡ true → now_of longs s.words cell ≢ Empty → HasFresh s.views cells (now_of longs s.words)

-- the view with one more entry
abbrev pub noted : View → Entry → View
noted v entry = record v { own = entry ∷ v.own }

-- what a seat knows after it found a content at a cell into which it joins another: that it was read, and where the join
-- would leave what was found, that it was made
abbrev pub looked : Facts → ℕ → Content → Content → List Entry → List Entry
looked f cell asked found own = if at_most f asked found then Join cell asked found found ∷ Read cell found ∷ own else Read cell found ∷ own

abbrev pub own_is : View → List Entry → View
own_is v own = record v { own = own }

-- the word that a step finds codes a content that is at least what the seat had seen there
pub record Finds (f : Facts) (longs : List ℕ) (ceilings : List Content) (i : ℕ) (v : View) (word : ℕ) : Type 0 where
  pub is_word : IsWord f longs (word_ceiling ceilings i) word
  pub seen_before : AtMost f (seen f (i - 1) v.own) (content longs word)

-- a load notes a read
pub record Reads (f : Facts) (longs : List ℕ) (ceilings : List Content) (s : Step ℕ) (m : Me ℕ View) (word : ℕ) (w : Me ℕ View) : Type 0 where
  pub finds : Finds f longs ceilings s.word m.0 word
  pub after : w ≡ (noted m.0 (Read (s.word - 1) (content longs word)), m.1)

-- a load notes a read, and the join that it decides
pub record Looks (f : Facts) (longs : List ℕ) (ceilings : List Content) (asked : Content) (s : Step ℕ) (m : Me ℕ View) (word : ℕ) (w : Me ℕ View) : Type 0 where
  pub finds : Finds f longs ceilings s.word m.0 word
  pub after : w ≡ (own_is m.0 (looked f (s.word - 1) asked (content longs word) m.0.own), m.1)

-- an exchange that wins notes the join, and one that loses what a load does
abbrev pub exchanged : Facts → List ℕ → Content → Step ℕ → ℕ → List Entry → List Entry
exchanged f longs asked s word own = if nat_eq word s.first then Join (s.word - 1) asked (content longs s.first) (content longs s.second) ∷ own else looked f (s.word - 1) asked (content longs word) own

pub record Exchanges (f : Facts) (longs : List ℕ) (ceilings : List Content) (asked : Content) (s : Step ℕ) (m : Me ℕ View) (word : ℕ) (w : Me ℕ View) : Type 0 where
  pub finds : Finds f longs ceilings s.word m.0 word
  pub after : w ≡ (own_is m.0 (exchanged f longs asked s word m.0.own), m.1)

-- the view of the first seat at the start, and of a seat that was joined into another
abbrev pub first_view : View
first_view = view false 1 0 [] []

abbrev pub spent_view : View
spent_view = view true 0 0 [] []

-- a seat is split: the old one counts it, and the new one has as its number the count before, and an empty record
abbrev pub counted : View → View
counted v = record v { count = v.count + 1 }

abbrev pub new_seat : View → View
new_seat v = view false 0 v.count [] []

-- a seat is joined into another: that gains its parts
abbrev pub both : View → View → View
both v w = record v { others = v.others ++ parts w }

-- what cells know of themselves: what they were made with
pub record IsOpened (f : Facts) (longs : List ℕ) (ceilings : List Content) (f' : Facts) (longs' : List ℕ) (sizes key : Sizes) (words slots : ℕ) : Type 0 where
  pub facts_are : f' ≡ f
  pub longs_are : longs' ≡ longs
  pub key_is : key ≡ sizes
  pub words_are : words ≡ suc sizes.cells
  pub fits : suc sizes.cells < 2 ^ 64
  pub no_slots : slots ≡ 0
  pub some_seats : 1 ≤ sizes.seats
  pub ceilings_belong : (cell : ℕ) → Belongs f (at ceilings cell)

-- a seat in the hands of a thread: it holds no slot, is not spent, took in no other, and its contents belong
pub record IsOwnSeat (f : Facts) (longs : List ℕ) (v : View) (slots : List (ℕ × ℕ)) : Type 0 where
  pub holds_none : slots ≡ []
  pub live : v.spent ≡ false
  pub no_others : v.others ≡ []
  pub belongs : RecordBelongs f longs v.own

-- what a step found at a cell: it belongs, is at most the ceiling and at least what the seat had seen there; the seat has
-- seen it now, and all in its record belongs, as it did before
pub record IsFound (f : Facts) (longs : List ℕ) (ceiling : Content) (cell : ℕ) (old new : List Entry) (found : Content) : Type 0 where
  pub belongs : BelongsTo f longs found
  pub capped : AtMost f found ceiling
  pub seen_before : AtMost f (seen f cell old) found
  pub sees : AtMost f found (seen f cell new)
  pub all_belonged : RecordBelongs f longs old
  pub all_belong : RecordBelongs f longs new
