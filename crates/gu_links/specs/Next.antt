-- Which cell a link reads next. No public contract speaks of it.
use Rattle.std.specs.Prelude.{ℕ, ◌<◌, ◌≡◌, true, Bool, not, ◌&&◌, List, [], ◌∷◌, Option, Some, None, length, map, flat_map, slice_index, nat_lt, if◌then◌else◌}
use Rattle.std.specs.List.{filter}
use Rattle.gu_types.specs.Depth.{types_of}
use Rattle.gu_contents.specs.declared.facts.Facts.{Facts}
use Rattle.gu_links.specs.Cells.{is_least, slot_cell, out_cell, out_cells, results_of}
use Rattle.gu_links.specs.Over.{has_slot}
use Rattle.gu_links.specs.Kept.{has, in_reach}
use Rattle.gu_links.specs.declared.reach.Reach.{Reach}

-- the first number of a list that passes a test
abbrev pub first_of : (ℕ → Bool) → List ℕ → Option ℕ
first_of p [] = None
first_of p (x ∷ xs) = if p x then Some x else first_of p xs

-- whether a cell stands at a first one or behind it, and is none of some others
abbrev pub is_rest : List ℕ → ℕ → ℕ → Bool
is_rest fixed first c = not (nat_lt c first) && not (has fixed c)

-- the first cell of a slot, of some types in a reach, that passes a test
abbrev pub first_slot : Facts → Reach → ℕ → (ℕ → Bool) → List ℕ → Option ℕ
first_slot f reach slot p types = first_of p (map (λ t. slot_cell f t slot) (filter (λ t. has_slot f slot t && in_reach f (Some reach) t) types))

-- the first cell of a result, of some functions in a reach, that passes a test
abbrev pub first_result : Facts → Reach → (ℕ → Bool) → List ℕ → Option ℕ
first_result f reach p functions = first_of p (flat_map (out_cells f) (filter (λ g. in_reach f (Some reach) (slice_index f.funcs g)) functions))

-- the slots of the types below an index have only cells before one
abbrev pub SlotsBefore : Facts → ℕ → ℕ → Type 0
SlotsBefore f cell n = (t slot : ℕ) → t < n → t < length (types_of f.types) → is_least f.types t ≡ true → has_slot f slot t ≡ true → slot_cell f t slot < cell

-- the results of the functions below an index have only cells before one
abbrev pub ResultsBefore : Facts → ℕ → ℕ → Type 0
ResultsBefore f cell n = (g place : ℕ) → g < n → g < length f.funcs → place < results_of f g → out_cell f g place < cell
