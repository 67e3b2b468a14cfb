-- What holds of all systems of links.
use Rattle.std.specs.Prelude.{ℕ, ◌<◌, ◌≡◌, ◌↔◌, Contains, List, [], ◌∷◌, length, All, nat_eq, if◌then◌else◌}
use Rattle.gu_contents.specs.declared.content.Content.{Content}
use Rattle.gu_contents.specs.declared.content.Content.TheVariants.{Empty}
use Rattle.gu_contents.specs.declared.facts.Facts.{Facts}
use Rattle.gu_links.specs.declared.link.Link.{Link}
use Rattle.gu_links.specs.Gives.{Contents, Asked, gives, reads, IsRoot}
use Rattle.gu_links.specs.Solutions.{at, AllBelong, IsBelow, IsOpen, IsClosed, Solves, IsUnderAll, Least, IsOf, IsMet, IsSystem}
use Rattle.gu_links.specs.Known.{Item, Has, cells_of}
use Rattle.gu_links.specs.States.{CoreState}

-- contents agree on some cells
pub record Agree (cells : List ℕ) (x y : Contents) : Type 0 where
  pub at : All (λ c. x c ≡ y c) cells

-- contents that agree on the cells on which a link rests have the same such cells, and the link asks for the same
pub record IsSameOn (f : Facts) (links : List Link) (link : Link) (x y : Contents) : Type 0 where
  pub reads_are : reads f links link x ≡ reads f links link y
  pub gives_are : gives f links link x ≡ gives f links link y

abbrev pub LinksAreLocal : Type 0
LinksAreLocal = (f : Facts) (links : List Link) (link : Link) (x y : Contents) → Agree (reads f links link x) x y → IsSameOn f links link x y

-- what is known, with nothing in all other cells
unfoldable pub shown : List Item → Contents
shown [] c = Empty
shown (item ∷ known) c = if nat_eq item.0 c then item.1 else shown known c

-- all cells are known on which a link rests on what is known
pub record Suffices (f : Facts) (links : List Link) (link : Link) (known : List Item) : Type 0 where
  pub read : All (Contains (cells_of known)) (reads f links link (shown known))

-- What is known of all cells on which a link rests on what is known tells of all contents that have it: on which cells the
-- link rests, and what it asks for
abbrev pub KnownIsEnough : Type 0
KnownIsEnough = (f : Facts) (links : List Link) (link : Link) (known : List Item) (x : Contents) → Has known x → Suffices f links link known → IsSameOn f links link (shown known) x

-- a link that is no root asks for nothing, or for nothing to be joined, where there is nothing in each cell on which it
-- rests
abbrev pub LinksOfNothing : Type 0
LinksOfNothing = (f : Facts) (links : List Link) (link : Link) (x : Contents) → (IsRoot link → ⊥) → All (λ c. x c ≡ Empty) (reads f links link x) → All (λ (asked : Asked). asked.1 ≡ Empty) (gives f links link x)

-- a join is one of a system: its cell is one of its cells, and its content is of the system
pub record IsProper (f : Facts) (longs : List ℕ) (count : ℕ) (asked : Asked) : Type 0 where
  pub cell : asked.0 < count
  pub content : IsOf f longs asked.1

-- where all contents are of the system, all that its links ask for is
abbrev pub AskedIsProper : Type 0
AskedIsProper = (f : Facts) (longs : List ℕ) (count : ℕ) (links : List Link) → IsSystem f longs count links → (link : Link) → Contains links link → (x : Contents) → ((c : ℕ) → IsOf f longs (x c)) → All (IsProper f longs count) (gives f links link x)

-- where cells have at most what a solution has, the solution meets all that the links ask for
abbrev pub SolutionsMeet : Type 0
SolutionsMeet = (f : Facts) (longs : List ℕ) (count : ℕ) (links : List Link) → IsSystem f longs count links → (link : Link) → Contains links link → (x y : Contents) → AllBelong f x → AllBelong f y → IsBelow f x y → Solves f links y → All (IsMet f y) (gives f links link x)

-- a system has a least solution, as a list with one content for each cell, all of them of the system
pub record SomeLeast (f : Facts) (longs : List ℕ) (count : ℕ) (links : List Link) : Type 0 where
  pub contents : List Content
  pub long : length contents ≡ count
  pub is_of : All (IsOf f longs) contents
  pub least : Least f links (at contents)

abbrev pub LeastExists : Type 0
LeastExists = (f : Facts) (longs : List ℕ) (count : ℕ) (links : List Link) → IsSystem f longs count links → SomeLeast f longs count links

-- and no other one
abbrev pub LeastIsOne : Type 0
LeastIsOne = (f : Facts) (links : List Link) (x y : Contents) → Least f links x → Least f links y → (c : ℕ) → x c ≡ y c

-- a link is closed exactly where it is not open
abbrev pub ClosedIsNotOpen : Type 0
ClosedIsNotOpen = (f : Facts) (links : List Link) (link : Link) (x : Contents) → IsClosed f links link x ↔ (IsOpen f links link x → ⊥)

-- after each list of events the state is at most every solution; where no link is open it is the least
abbrev pub CoreStatesStayBelow : Type 0
CoreStatesStayBelow = (f : Facts) (longs : List ℕ) (count : ℕ) (links : List Link) → IsSystem f longs count links → (x : Contents) → CoreState f links x → IsUnderAll f links x

abbrev pub SolvedCoreStateIsLeast : Type 0
SolvedCoreStateIsLeast = (f : Facts) (longs : List ℕ) (count : ℕ) (links : List Link) → IsSystem f longs count links → (x : Contents) → CoreState f links x → Solves f links x → Least f links x
