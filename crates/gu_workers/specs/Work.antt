-- What a record shows of links. The entries of a record are the newest first: what stands in front of an entry came
-- after it.
use Rattle.std.specs.Prelude.{ℕ, ◌≡◌, ◌≢◌, ◌%◌, Some, List, ◌∷◌, ◌++◌, All, Contains, slice_get}
use Rattle.gu_contents.specs.declared.content.Content.{Content}
use Rattle.gu_contents.specs.declared.facts.Facts.{Facts}
use Rattle.gu_contents.specs.Join.{join}
use Rattle.gu_cells.specs.declared.record.Entry.{Entry}
use Rattle.gu_cells.specs.declared.record.Entry.TheVariants.{Read, Join}
use Rattle.gu_links.specs.declared.link.Link.{Link}
use Rattle.gu_links.specs.declared.link.Link.TheVariants.{Root}
use Rattle.gu_links.specs.Gives.{Contents, Asked, gives, reads}
use Rattle.gu_links.specs.Solutions.{IsReader}

-- some cells were read, and each had the content that X says
pub record WereRead (entries : List Entry) (cells : List ℕ) (x : Contents) : Type 0 where
  pub shown : All (λ c. Contains entries (Read c (x c))) cells

-- a join that was asked for was made: it left in the cell what it found there, joined with the content
pub record WasJoined (f : Facts) (entries : List Entry) (asked : Asked) : Type 0 where
  pub before : Content
  pub after : Content
  pub made : Contains entries (Join asked.0 asked.1 before after)
  pub after_is : after ≡ join f before asked.1

-- a link is served: all cells on which it rests were read, and all that it asks for on the contents that they had was
-- joined
pub record IsServed (f : Facts) (links : List Link) (entries : List Entry) (link : Link) : Type 0 where
  pub contents : Contents
  pub were_read : WereRead entries (reads f links link contents) contents
  pub joined : All (WasJoined f entries) (gives f links link contents)

-- a join is what some link asks for, on contents that were read before
pub record IsAskedFor (f : Facts) (links : List Link) (entries : List Entry) (asked : Asked) : Type 0 where
  pub link : Link
  pub listed : Contains links link
  pub contents : Contents
  pub were_read : WereRead entries (reads f links link contents) contents
  pub given : Contains (gives f links link contents) asked

-- The share of a worker are the root links whose number, divided by the number of workers, leaves the worker's index. All
-- that they give was joined
pub record RootsJoined (f : Facts) (links : List Link) (index of : ℕ) (entries : List Entry) : Type 0 where
  pub roots : (number : ℕ) (give : Content) (to : ℕ) → slice_get links number ≡ Some (Root give to) → number % of ≡ index → WasJoined f entries (to, give)

-- after each join that raised a cell, every reader of that cell is served, by what came after
pub record Follows (f : Facts) (links : List Link) (entries : List Entry) : Type 0 where
  pub readers : (newer older : List Entry) (cell : ℕ) (asked before after : Content) → entries ≡ newer ++ Join cell asked before after ∷ older → before ≢ after
      → (link : Link) → Contains links link → IsReader f links cell link → IsServed f links newer link

-- a join leaves what it found, joined with what was asked
abbrev pub LeavesJoin : Facts → Entry → Type 0
LeavesJoin f (Read cell content) = Unit {0}
LeavesJoin f (Join cell asked before after) = after ≡ join f before asked

-- every join is one that some link asks for, on contents that were read before, and leaves what it found joined with what
-- was asked
pub record AsksGiven (f : Facts) (links : List Link) (entries : List Entry) : Type 0 where
  pub asks : (newer older : List Entry) (cell : ℕ) (asked before after : Content) → entries ≡ newer ++ Join cell asked before after ∷ older → IsAskedFor f links older (cell, asked)
  pub joins : All (LeavesJoin f) entries

-- what the worker with an index, one of so many, did in a whole run
pub record IsWork (f : Facts) (links : List Link) (index of : ℕ) (entries : List Entry) : Type 0 where
  pub roots : RootsJoined f links index of entries
  pub follows : Follows f links entries
  pub asks : AsksGiven f links entries
