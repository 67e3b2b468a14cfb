-- Items that are listed at the types at or above theirs. No public contract speaks of it.
use Rattle.std.specs.Prelude.{ℕ, Bool, List, map, filter, length, slice_index, slice_index_or, false}
use Rattle.gu_types.specs.Depth.{types_of}
use Rattle.gu_rec.specs.Keys.{run}
use Rattle.gu_contents.specs.declared.facts.Facts.{Facts}
use Rattle.gu_links.specs.declared.grouped.Typed.{Typed}
use Rattle.gu_links.specs.Cells.{is_least}
use Rattle.gu_links.specs.Kept.{is_below}

-- a type by itself
abbrev pub itself : ℕ → Typed
itself ty = record { item = ty; ty = ty }

-- the least index of each type
abbrev pub least_types : Facts → List Typed
least_types f = map itself (filter (is_least f.types) (run 0 (length (types_of f.types))))

-- a function with its type
abbrev pub of_type : List ℕ → ℕ → Typed
of_type funcs g = record { item = g; ty = slice_index funcs g }

-- the functions that are marked
abbrev pub callable_functions : List ℕ → List Bool → List Typed
callable_functions funcs callable = map (of_type funcs) (filter (λ g. slice_index_or callable g false) (run 0 (length funcs)))

-- the items whose type is at or below another
abbrev pub listed : Facts → ℕ → List Typed → List ℕ
listed f h items = map (λ (entry : Typed). entry.item) (filter (λ (entry : Typed). is_below f.types h entry.ty) items)
