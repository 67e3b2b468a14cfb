-- Where the links are listed that read a cell. No public contract speaks of it.
use Rattle.std.specs.Prelude.{ℕ, ◌≡◌, ◌<◌, true, ◌||◌, List, [], Option, Some, None, All, Contains, length, nat_eq, nat_le, nat_lt, slice_index, slice_index_or, if◌then◌else◌}
use Rattle.gu_types.specs.Depth.{types_of, depth}
use Rattle.gu_contents.specs.declared.facts.Facts.{Facts}
use Rattle.gu_contents.specs.Contents.{least_of}
use Rattle.gu_links.specs.declared.link.Link.{Link}
use Rattle.gu_links.specs.declared.link.Link.TheVariants as L
use Rattle.gu_links.specs.declared.index.Cells.{Cells}
use Rattle.gu_links.specs.declared.readers.Place.{Place}
use Rattle.gu_links.specs.declared.readers.Place.TheVariants as P
use Rattle.gu_links.specs.declared.readers.Readers.{Readers}
use Rattle.gu_links.specs.Cells.{slot_cell, slots_of}
use Rattle.gu_links.specs.Solutions.{IsType}
use Rattle.gu_links.specs.Kept.{has, fixed_reads}
use Rattle.gu_links.specs.Known.{link_at}

-- the links that are listed at a place
abbrev pub listed_at : Readers → Place → List ℕ
listed_at readers (P.Cell c) = slice_index_or readers.at_cells.items c []
listed_at readers (P.Type ty) = slice_index_or readers.at_types.items ty []

-- a place is one of so many cells, or a type
abbrev pub IsPlace : Facts → ℕ → Place → Type 0
IsPlace f count (P.Cell c) = c < count
IsPlace f count (P.Type ty) = ty < length (types_of f.types)

-- a place has a list
abbrev pub IsListAt : Readers → Place → Type 0
IsListAt readers (P.Cell c) = c < length readers.at_cells.items
IsListAt readers (P.Type ty) = ty < length readers.at_types.items

-- the place of the cell of a slot of a type, and that of a type
abbrev pub slot_place : Facts → ℕ → ℕ → Place
slot_place f ty slot = P.Cell (slot_cell f ty slot)

abbrev pub type_place : Facts → ℕ → Place
type_place f ty = P.Type (least_of f.types ty)

-- the function that has a cell for one of its results, by the tables: the one that has the cell, if the cell stands
-- behind those of its parameters
abbrev pub result_of : Cells → ℕ → ℕ → Option ℕ
result_of cells g c = if nat_lt c (slice_index cells.results.items g) then None else Some g

abbrev pub result_owner : Cells → ℕ → Option ℕ
result_owner cells c = if nat_lt c cells.slot_cells || nat_le (length cells.owners.items) c then None else result_of cells (slice_index cells.owners.items c) c

-- where links are listed that read the results of a function of a type whatever the cells have
abbrev pub result_place : Facts → ℕ → ℕ → Place
result_place f c ty = if nat_eq (depth (types_of f.types) ty) 63 then P.Type (least_of f.types ty) else P.Cell c

-- where links are listed that read a cell whatever the cells have
abbrev pub owner_place : Facts → ℕ → Option ℕ → Place
owner_place f c None = P.Cell c
owner_place f c (Some g) = result_place f c (slice_index f.funcs g)

abbrev pub fixed_place : Facts → Cells → ℕ → Place
fixed_place f cells c = owner_place f c (result_owner cells c)

-- where a link is listed that reads the slots or results of the types at or below one
abbrev pub below_place : Facts → Link → Option Place
below_place f (L.SlotGet object ty slot storage signed to) = Some (slot_place f ty slot)
below_place f (L.SlotCopy target to_ty source from_ty) = Some (slot_place f from_ty 0)
below_place f (L.CallBy callee ty operands results) = Some (type_place f ty)
below_place f link = None

-- the type below which a link reads is one of the facts, and has the slot that the link reads
abbrev pub IsBelowType : Facts → Link → Type 0
IsBelowType f (L.SlotGet object ty slot storage signed to) = IsType f ty × (slot < slots_of f.types ty)
IsBelowType f (L.SlotCopy target to_ty source from_ty) = IsType f from_ty × (0 < slots_of f.types from_ty)
IsBelowType f (L.CallBy callee ty operands results) = IsType f ty
IsBelowType f link = Unit {0}

-- a link can be listed: the cells on which it rests whatever they have are among the first, so many
pub record CanBeListed (f : Facts) (count : ℕ) (link : Link) : Type 0 where
  pub fixed : All (λ c. c < count) (fixed_reads link)
  pub below : IsBelowType f link

-- there is a list for each place
pub record HasLists (f : Facts) (count : ℕ) (readers : Readers) : Type 0 where
  pub cells : length readers.at_cells.items ≡ count
  pub types : length readers.at_types.items ≡ length (types_of f.types)

-- some links have been listed further, by a number
pub record Adds (number : ℕ) (old new : Readers) : Type 0 where
  pub cells : length new.at_cells.items ≡ length old.at_cells.items
  pub types : length new.at_types.items ≡ length old.at_types.items
  pub kept : (place : Place) (k : ℕ) → has (listed_at old place) k ≡ true → has (listed_at new place) k ≡ true
  pub below : (n : ℕ) → number < n → ((place : Place) → All (λ k. k < n) (listed_at old place)) → (place : Place) → All (λ k. k < n) (listed_at new place)

-- a link, by its number, is listed at its places
pub record IsListedAt (f : Facts) (cells : Cells) (readers : Readers) (link : Link) (k : ℕ) : Type 0 where
  pub fixed : (c : ℕ) → Contains (fixed_reads link) c → has (listed_at readers (fixed_place f cells c)) k ≡ true
  pub below : (place : Place) → below_place f link ≡ Some place → has (listed_at readers place) k ≡ true

-- the links are listed, each at its places, and nothing else is
pub record AreListed (f : Facts) (count : ℕ) (links : List Link) (cells : Cells) (readers : Readers) : Type 0 where
  pub lists : HasLists f count readers
  pub at : (k : ℕ) → k < length links → IsListedAt f cells readers (link_at links k) k
  pub only : (place : Place) → All (λ k. k < length links) (listed_at readers place)
