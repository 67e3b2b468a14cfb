-- What a system keeps besides its links, as lists in order. Of these the public contracts speak of the cells that a link
-- reads whatever cells have, `fixed_reads` and `fixed_once`, and of those that it reads besides, `further_reads`.
use Rattle.std.specs.Prelude.{ℕ, Bool, false, ◌&&◌, List, [], ◌∷◌, ◌++◌, Option, Some, None, map, flat_map, filter, length, is_some, nat_eq, slice_index, if◌then◌else◌}
use Rattle.std.specs.List.{list_any}
use Rattle.gu_types.specs.declared.types.HeapType.TheVariants as H
use Rattle.gu_types.specs.declared.types.TypeList.{TypeList}
use Rattle.gu_types.specs.Depth.{types_of}
use Rattle.gu_rec.specs.Keys.{run}
use Rattle.gu_rec.specs.Sub.{distance}
use Rattle.gu_contents.specs.declared.facts.Facts.{Facts}
use Rattle.gu_contents.specs.Order.{reaches}
use Rattle.gu_links.specs.declared.link.Link.{Link}
use Rattle.gu_links.specs.declared.link.Link.TheVariants as L
use Rattle.gu_contents.specs.declared.content.Core.{Core}
use Rattle.gu_contents.specs.declared.content.Core.TheVariants.{Func, Cone}
use Rattle.gu_contents.specs.declared.content.Content.{Content}
use Rattle.gu_contents.specs.declared.content.Content.TheVariants.{Ref}
use Rattle.gu_contents.specs.Contents.{cone_of}
use Rattle.gu_links.specs.declared.reach.Reach.{Reach}
use Rattle.gu_links.specs.declared.reach.Callees.{Callees}
use Rattle.gu_links.specs.declared.reach.Callees.TheVariants.{Nobody, One, Under}
use Rattle.gu_links.specs.Cells.{slot_cell, out_cells, is_least}
use Rattle.gu_links.specs.Over.{over, callees, has_slot, names}
use Rattle.gu_links.specs.Gives.{Contents}

-- whether a cell is in a list
abbrev pub has : List ℕ → ℕ → Bool
has cells c = list_any (λ d. nat_eq d c) cells

-- a list with those of another at its end that were not there before
abbrev pub once_onto : List ℕ → List ℕ → List ℕ
once_onto seen [] = seen
once_onto seen (c ∷ cells) = once_onto (if has seen c then seen else seen ++ c ∷ []) cells

-- the cells on which a link rests whatever they have
abbrev pub fixed_reads : Link → List ℕ
fixed_reads (L.Root give to) = []
fixed_reads (L.Copy from to) = from ∷ []
fixed_reads (L.NonNull from to) = from ∷ []
fixed_reads (L.Filter from by to) = from ∷ []
fixed_reads (L.Minus from by to) = from ∷ []
fixed_reads (L.Test from by to) = from ∷ []
fixed_reads (L.IsNull from to) = from ∷ []
fixed_reads (L.Equal left right to) = left ∷ right ∷ []
fixed_reads (L.Pack storage from to) = from ∷ []
fixed_reads (L.SlotGet object ty slot storage signed to) = object ∷ []
fixed_reads (L.SlotSet object ty slot storage from) = object ∷ from ∷ []
fixed_reads (L.SlotFill object ty slot give) = object ∷ []
fixed_reads (L.SlotCopy target to_ty source from_ty) = target ∷ source ∷ []
fixed_reads (L.CallBy callee ty operands results) = callee ∷ operands
fixed_reads (L.Internalise from to) = from ∷ []
fixed_reads (L.Externalise from to) = from ∷ []
fixed_reads (L.Callable function) = []

-- the same, each once
unfoldable pub fixed_once : Link → List ℕ
fixed_once link = once_onto [] (fixed_reads link)

-- the cells on which it rests besides, where the cells have X
abbrev pub further_reads : Facts → List Link → Link → Contents → List ℕ
further_reads f links (L.SlotGet object ty slot storage signed to) x = map (λ s. slot_cell f s slot) (over f (x object) ty slot)
further_reads f links (L.SlotCopy target to_ty source from_ty) x = map (λ s. slot_cell f s 0) (over f (x source) from_ty 0)
further_reads f links (L.CallBy callee ty operands results) x = flat_map (out_cells f) (callees f links (x callee) ty)
further_reads f links _ x = []

-- whether the type with an index is at or below another
abbrev pub is_below : TypeList → ℕ → ℕ → Bool
is_below list h s = is_some (distance list (H.Idx h) (H.Idx s))

-- whether the type with an index is in a reach
abbrev pub in_reach : Facts → Option Reach → ℕ → Bool
in_reach f None s = false
in_reach f (Some reach) s = reaches (distance f.types (H.Idx reach.head) (H.Idx s)) 0 reach.depth

-- the types of a reach that have a slot, each by its least index
abbrev pub over_reach : Facts → Option Reach → ℕ → List ℕ
over_reach f reach slot = filter (λ s. has_slot f slot s && (is_least f.types s && in_reach f reach s)) (run 0 (length (types_of f.types)))

-- the types at or below another, each by its least index
abbrev pub types_below : Facts → ℕ → List ℕ
types_below f h = filter (λ s. is_least f.types s && is_below f.types h s) (run 0 (length (types_of f.types)))

-- the types among which those of a reach are: its head alone where the reach is not deeper, else all at or below it
abbrev pub candidates : Facts → Reach → List ℕ
candidates f reach = if nat_eq reach.depth 0 then reach.head ∷ [] else types_below f reach.head

-- the functions that can be called by reference and whose type is at or below another
abbrev pub functions_below : Facts → List Link → ℕ → List ℕ
functions_below f links h = filter (λ g. list_any (names g) links && is_below f.types h (slice_index f.funcs g)) (run 0 (length f.funcs))

-- the cone of types that a core is, if it is one
abbrev pub reach_in : Core → Option Reach
reach_in (Cone (H.Idx head) depth) = Some (record { head = head; depth = depth })
reach_in _ = None

-- the types that a content covers that is filtered to references to a type
abbrev pub reach_within : Facts → Content → Option Reach
reach_within f (Ref n c) = reach_in (cone_of f c)
reach_within f _ = None

-- the functions of types that stand in a reach, if there is one
abbrev pub under : Option Reach → Callees
under None = Nobody
under (Some reach) = Under reach

-- the functions that a content covers that is filtered to references to a type
abbrev pub callees_within : Facts → Content → Callees
callees_within f (Ref n (Func g)) = One g
callees_within f (Ref n c) = under (reach_in (cone_of f c))
callees_within f _ = Nobody

-- the functions among them that can be called by reference
abbrev pub callable : Facts → List Link → Callees → List ℕ
callable f links Nobody = []
callable f links (One g) = if list_any (names g) links then g ∷ [] else []
callable f links (Under reach) = filter (λ g. list_any (names g) links && in_reach f (Some reach) (slice_index f.funcs g)) (run 0 (length f.funcs))
