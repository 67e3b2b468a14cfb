-- By which of 64 ways a link reads a cell.
use Rattle.std.specs.Prelude.{ℕ, ◌+◌, ◌<◌, ◌≤◌, ◌≡◌, ◌⊎◌, true, List, Some, Contains, length, nat_eq, slice_index, if◌then◌else◌}
use Rattle.std.specs.List.{list_any}
use Rattle.gu_types.specs.declared.types.HeapType.TheVariants as H
use Rattle.gu_types.specs.Depth.{types_of, depth}
use Rattle.gu_rec.specs.Sub.{distance}
use Rattle.gu_contents.specs.declared.facts.Facts.{Facts}
use Rattle.gu_links.specs.declared.link.Link.{Link}
use Rattle.gu_links.specs.declared.link.Link.TheVariants as L
use Rattle.gu_links.specs.Cells.{is_least, slot_cell, out_cell, results_of}
use Rattle.gu_links.specs.Over.{has_slot, names}
use Rattle.gu_links.specs.Kept.{fixed_reads}
use Rattle.gu_links.specs.Solutions.{IsReader}

-- a link that goes over the types at or below one reads the slot of a type that stands so many supertypes below
pub record ReadsSlot (f : Facts) (ty slot cell up : ℕ) : Type 0 where
  pub of : ℕ
  pub in_range : of < length (types_of f.types)
  pub least : is_least f.types of ≡ true
  pub has : has_slot f slot of ≡ true
  pub far : distance f.types (H.Idx ty) (H.Idx of) ≡ Some up
  pub cell_is : cell ≡ slot_cell f of slot

-- the way by which a link reads the results of a function whose type stands so many supertypes below the link's. One way
-- more, since the first is for those links that read the result of this function alone; but none is left for the type
-- that has 63 supertypes above it
abbrev pub result_way : Facts → ℕ → ℕ → ℕ
result_way f g far = if nat_eq (depth (types_of f.types) (slice_index f.funcs g)) 63 then far else far + 1

pub record ReadsResult (f : Facts) (links : List Link) (ty cell up : ℕ) : Type 0 where
  pub of : ℕ
  pub place : ℕ
  pub far : ℕ
  pub in_range : of < length f.funcs
  pub named : list_any (names of) links ≡ true
  pub has : place < results_of f of
  pub far_is : distance f.types (H.Idx ty) (H.Idx (slice_index f.funcs of)) ≡ Some far
  pub cell_is : cell ≡ out_cell f of place
  pub way : up ≡ result_way f of far

-- by way of the types at or below the one that stands in the link
abbrev pub ReadsBelow : Facts → List Link → ℕ → ℕ → Link → Type 0
ReadsBelow f links cell up (L.SlotGet object ty slot storage signed to) = ReadsSlot f ty slot cell up
ReadsBelow f links cell up (L.SlotCopy target to_ty source from_ty) = ReadsSlot f from_ty 0 cell up
ReadsBelow f links cell up (L.CallBy callee ty operands results) = ReadsResult f links ty cell up
ReadsBelow f links cell up link = ⊥

-- A link reads a cell by way of a number: by way of 0 where it reads the cell by its number, whatever the cells have, and
-- by the way that is told above where it reads it as a slot or a result of the types at or below one, which may be 0 too
abbrev pub IsReadBy : Facts → List Link → ℕ → ℕ → Link → Type 0
IsReadBy f links cell up link = ((up ≡ 0) × Contains (fixed_reads link) cell) ⊎ ReadsBelow f links cell up link

-- a link that reads a cell by one of the 64 ways
pub record IsFound (f : Facts) (links : List Link) (cell : ℕ) (link : Link) : Type 0 where
  pub up : ℕ
  pub most : up ≤ 63
  pub way : IsReadBy f links cell up link

-- each link that reads a cell on some contents is found
abbrev pub ReadersAreFound : Type 0
ReadersAreFound = (f : Facts) (links : List Link) (cell : ℕ) (link : Link) → IsReader f links cell link → IsFound f links cell link
