-- What is known of the cells on which a link rests.
use Rattle.std.specs.Prelude.{ℕ, ◌≡◌, List, map, All, Contains, not, filter, take, length, slice_index_or, ◌++◌}
use Rattle.gu_contents.specs.declared.content.Content.{Content}
use Rattle.gu_contents.specs.declared.facts.Facts.{Facts}
use Rattle.gu_links.specs.declared.link.Link.{Link}
use Rattle.gu_links.specs.declared.link.Link.TheVariants.{Callable}
use Rattle.gu_links.specs.Gives.{Contents, reads}
use Rattle.gu_links.specs.Solutions.{IsOf}
use Rattle.gu_links.specs.Kept.{has, fixed_once, fixed_reads, further_reads}

-- a cell, and what is known of it
abbrev pub Item : Type 0
Item = ℕ × Content

-- contents have what is known of some cells
pub record Has (known : List Item) (x : Contents) : Type 0 where
  pub at : All (λ (k : Item). x k.0 ≡ k.1) known

-- the cells of which something is known
abbrev pub cells_of : List Item → List ℕ
cells_of known = map (λ (k : Item). k.0) known

-- the link with a number
abbrev pub link_at : List Link → ℕ → Link
link_at links k = slice_index_or links k (Callable 0)

-- the cells on which a link rests, each once, in the order in which they are asked for
unfoldable pub asked_for : Facts → List Link → Link → Contents → List ℕ
asked_for f links link x = fixed_once link ++ filter (λ c. not (has (fixed_reads link) c)) (further_reads f links link x)

-- what is known is what was asked for so far, in order, and each content is one of the system
pub record IsKnown (f : Facts) (longs : List ℕ) (links : List Link) (link : Link) (known : List Item) : Type 0 where
  pub contents : Contents
  pub has : Has known contents
  pub are_of : All (λ (k : Item). IsOf f longs k.1) known
  pub in_order : (x : Contents) → Has known x → cells_of known ≡ take (length known) (asked_for f links link x)

-- all cells on which a link rests are known, whatever the others have
pub record IsEnough (f : Facts) (links : List Link) (link : Link) (known : List Item) : Type 0 where
  pub all : (x : Contents) → Has known x → All (Contains (cells_of known)) (reads f links link x)
