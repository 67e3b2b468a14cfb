-- The tables of a system. No public contract speaks of them.
use Rattle.std.specs.Prelude.{ℕ, ◌+◌, ◌≡◌, ◌<◌, true, false, length, Some, slice_get, slice_index, slice_index_or, List, flat_map, replicate}
use Rattle.std.specs.List.{list_any}
use Rattle.gu_types.specs.Depth.{types_of}
use Rattle.gu_rec.specs.Keys.{run}
use Rattle.gu_contents.specs.declared.facts.Facts.{Facts}
use Rattle.gu_links.specs.declared.link.Link.{Link}
use Rattle.gu_links.specs.declared.index.Cells.{Cells}
use Rattle.gu_links.specs.declared.index.Below.{Below}
use Rattle.gu_links.specs.declared.index.Index.{Index}
use Rattle.gu_contents.specs.Belongs.{IsFunc}
use Rattle.gu_links.specs.declared.reach.Reach.{Reach}
use Rattle.gu_links.specs.declared.reach.Callees.{Callees}
use Rattle.gu_links.specs.declared.reach.Callees.TheVariants.{Nobody, One, Under}
use Rattle.gu_links.specs.Cells.{slots_before, before_func, own_cells, params_of, results_of, slots_of, is_least}
use Rattle.gu_links.specs.Over.{names}
use Rattle.gu_links.specs.Kept.{types_below, functions_below, fixed_once}
use Rattle.gu_links.specs.Known.{link_at}

-- the numbers below another, each as often as a count says
abbrev pub owned : (ℕ → ℕ) → ℕ → List ℕ
owned count n = flat_map (λ k. replicate (count k) k) (run 0 n)

-- how many cells a function has
abbrev pub own_places : Facts → ℕ → ℕ
own_places f g = params_of f g + results_of f g

-- the cells of slots, parameters and results begin where they do, and each has its owner
pub record CellsAre (f : Facts) (cells : Cells) : Type 0 where
  pub slots_long : length cells.slots.items ≡ length (types_of f.types)
  pub slots_are : (ty : ℕ) → ty < length (types_of f.types) → slice_index cells.slots.items ty ≡ slots_before f ty
  pub params_long : length cells.params.items ≡ length f.funcs
  pub params_are : (g : ℕ) → g < length f.funcs → slice_index cells.params.items g ≡ before_func f g
  pub results_long : length cells.results.items ≡ length f.funcs
  pub results_are : (g : ℕ) → g < length f.funcs → slice_index cells.results.items g ≡ before_func f g + params_of f g
  pub owners_long : length cells.owners.items ≡ own_cells f
  pub slots_end : cells.slot_cells ≡ slots_before f (length (types_of f.types))
  pub types_own : (ty slot : ℕ) → ty < length (types_of f.types) → is_least f.types ty ≡ true → slot < slots_of f.types ty → slice_index cells.owners.items (slots_before f ty + slot) ≡ ty
  pub functions_own : (g j : ℕ) → g < length f.funcs → j < params_of f g + results_of f g → slice_index cells.owners.items (before_func f g + j) ≡ g

-- at the least index of each type stand the types and the functions that are at or below it
pub record BelowAre (f : Facts) (links : List Link) (below : Below) : Type 0 where
  pub types_are : (h : ℕ) → h < length (types_of f.types) → is_least f.types h ≡ true → slice_get below.types.items h ≡ Some (types_below f h)
  pub functions_are : (h : ℕ) → h < length (types_of f.types) → is_least f.types h ≡ true → slice_get below.functions.items h ≡ Some (functions_below f links h)
  pub callable_long : length below.callable.items ≡ length f.funcs
  pub callable_are : (g : ℕ) → g < length f.funcs → slice_index_or below.callable.items g false ≡ list_any (names g) links

-- the tables are those of the links
pub record IsIndexed (f : Facts) (links : List Link) (index : Index) : Type 0 where
  pub cells : CellsAre f index.cells
  pub below : BelowAre f links index.below
  pub fixed : (k : ℕ) → k < length links → slice_get index.fixed.items k ≡ Some (fixed_once (link_at links k))

-- the head of a reach is a type of the facts, by its least index
pub record IsHead (f : Facts) (reach : Reach) : Type 0 where
  pub in_range : reach.head < length (types_of f.types)
  pub least : is_least f.types reach.head ≡ true

-- callees are one function of the facts, or stand in a reach
abbrev pub AreCallees : Facts → Callees → Type 0
AreCallees f Nobody = Unit {0}
AreCallees f (One g) = IsFunc f g
AreCallees f (Under reach) = IsHead f reach
