-- Contents on their way to the least solution, and what one step does.
use Rattle.std.specs.Prelude.{ℕ, zero, suc, ◌≡◌, ◌+◌, ◌-◌, ◌*◌, ◌<◌, ◌⊎◌, List, length, All, Some, Contains, slice_get}
use Rattle.gu_contents.specs.declared.content.Content.{Content}
use Rattle.gu_contents.specs.declared.facts.Facts.{Facts}
use Rattle.gu_contents.specs.Rank.{rank}
use Rattle.gu_links.specs.declared.link.Link.{Link}
use Rattle.gu_links.specs.Gives.{Contents, Asked, gives}
use Rattle.gu_links.specs.Solutions.{at, AllBelong, IsBelow, IsMet, IsOf, IsUnderAll, Solves}

-- one content of the system for each cell, and at most every solution
pub record IsOnTheWay (f : Facts) (longs : List ℕ) (count : ℕ) (links : List Link) (contents : List Content) : Type 0 where
  pub long : length contents ≡ count
  pub are_of : All (IsOf f longs) contents
  pub below : IsUnderAll f links (at contents)

-- a join is one of the system, and every solution meets it
pub record IsDue (f : Facts) (longs : List ℕ) (count : ℕ) (links : List Link) (asked : Asked) : Type 0 where
  pub cell : asked.0 < count
  pub content : IsOf f longs asked.1
  pub met : (y : Contents) → AllBelong f y → Solves f links y → IsMet f y asked

-- the contents X rise to Y, where some joins are met, and each link asks for the same as before, or waits
pub record Rises (f : Facts) (links : List Link) (waiting : List ℕ) (asked : List Asked) (x y : Contents) : Type 0 where
  pub up : IsBelow f x y
  pub met : All (IsMet f y) asked
  pub same : (k : ℕ) (link : Link) → slice_get links k ≡ Some link → (gives f links link y ≡ gives f links link x) ⊎ Contains waiting k

-- how far the first cells, so many, may still rise
unfoldable pub room : ℕ → Contents → ℕ
room zero x = 0
room (suc n) x = (70 - rank (x n)) + room n x

-- the most steps that are still to be taken, with so many links left
abbrev pub weight : ℕ → ℕ → Contents → ℕ → ℕ
weight cells links x left = room cells x * (links + 1) + left
