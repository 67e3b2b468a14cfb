-- What a link asks for, and on which cells it rests. X says what each cell has.
use Rattle.std.specs.Prelude.{ℕ, true, false, List, [], ◌∷◌, ◌++◌, map, zip, flat_map, fold}
use Rattle.gu_types.specs.declared.types.Abs.TheVariants as A
use Rattle.gu_types.specs.declared.types.HeapType.TheVariants as H
use Rattle.gu_contents.specs.declared.content.Core.{Core}
use Rattle.gu_contents.specs.declared.content.Core.TheVariants.{Bottom, Cone}
use Rattle.gu_contents.specs.declared.content.Content.{Content}
use Rattle.gu_contents.specs.declared.content.Content.TheVariants.{Empty, Ref}
use Rattle.gu_contents.specs.declared.facts.Facts.{Facts}
use Rattle.gu_contents.specs.Contents.{refs}
use Rattle.gu_contents.specs.Join.{join}
use Rattle.gu_contents.specs.Whole.{whole}
use Rattle.gu_contents.specs.Meets.{filter, minus, test, is_null, equal, has_null}
use Rattle.gu_contents.specs.Numbers.{pack, extend}
use Rattle.gu_links.specs.declared.link.Link.{Link}
use Rattle.gu_links.specs.declared.link.Link.TheVariants as L
use Rattle.gu_links.specs.Cells.{slot_cell, param_cells, out_cells}
use Rattle.gu_links.specs.Over.{over, callees}

-- what each cell has
abbrev pub Contents : Type 0
Contents = ℕ → Content

-- a join that is asked for: a cell, and the content that is to be joined into it
abbrev pub Asked : Type 0
Asked = ℕ × Content

-- a content without null
unfoldable pub non_null : Content → Content
non_null (Ref n c) = refs false c
non_null a = a

-- what a conversion between internal and external references makes of a content: nothing of nothing, null of null, and
-- of all else a core, with null where it is there
abbrev pub converted : Core → Content → Content
converted core Empty = Empty
converted core (Ref true Bottom) = Ref true Bottom
converted core a = Ref (has_null a) core

-- what becomes of external references that are made internal
unfoldable pub internalised : Facts → Content → Content
internalised f a = converted (whole f (H.Abs A.Any)) a

-- what becomes of internal references that are made external
unfoldable pub externalised : Content → Content
externalised a = converted (Cone (H.Abs A.Extern) 0) a

-- what a slot of the type with an index has
abbrev pub slot_of : Facts → Contents → ℕ → ℕ → Content
slot_of f x slot ty = x (slot_cell f ty slot)

-- all elements of the arrays of some types, joined
abbrev pub joined : Facts → Contents → List ℕ → Content
joined f x types = fold (join f) Empty (map (slot_of f x 0) types)

-- a content for the cell of a slot of each of some types
abbrev pub into_slots : Facts → ℕ → Content → List ℕ → List Asked
into_slots f slot a types = map (λ ty. (slot_cell f ty slot, a)) types

-- a call of a function: the operands flow into its parameters, one by one, and its results into the result cells
abbrev pub call : Facts → List ℕ → List ℕ → Contents → ℕ → List Asked
call f operands results x g = zip (param_cells f g) (map x operands) ++ zip results (map x (out_cells f g))

-- the joins that a link asks for, where the cells have X. Callees are those that the links name
unfoldable pub gives : Facts → List Link → Link → Contents → List Asked
gives f links (L.Root give to) x = (to, give) ∷ []
gives f links (L.Copy from to) x = (to, x from) ∷ []
gives f links (L.NonNull from to) x = (to, non_null (x from)) ∷ []
gives f links (L.Filter from by to) x = (to, filter f (x from) by) ∷ []
gives f links (L.Minus from by to) x = (to, minus f (x from) by) ∷ []
gives f links (L.Test from by to) x = (to, test f (x from) by) ∷ []
gives f links (L.IsNull from to) x = (to, is_null (x from)) ∷ []
gives f links (L.Equal left right to) x = (to, equal f (x left) (x right)) ∷ []
gives f links (L.Pack storage from to) x = (to, pack storage (x from)) ∷ []
gives f links (L.SlotGet object ty slot storage signed to) x = map (λ s. (to, extend storage signed (slot_of f x slot s))) (over f (x object) ty slot)
gives f links (L.SlotSet object ty slot storage from) x = into_slots f slot (pack storage (x from)) (over f (x object) ty slot)
gives f links (L.SlotFill object ty slot give) x = into_slots f slot give (over f (x object) ty slot)
gives f links (L.SlotCopy target to_ty source from_ty) x = into_slots f 0 (joined f x (over f (x source) from_ty 0)) (over f (x target) to_ty 0)
gives f links (L.CallBy callee ty operands results) x = flat_map (call f operands results x) (callees f links (x callee) ty)
gives f links (L.Internalise from to) x = (to, internalised f (x from)) ∷ []
gives f links (L.Externalise from to) x = (to, externalised (x from)) ∷ []
gives f links (L.Callable function) x = []

-- The cells on which a link rests, where the cells have X: what it reads them for, and in which order and how often, does
-- not count
unfoldable pub reads : Facts → List Link → Link → Contents → List ℕ
reads f links (L.Root give to) x = []
reads f links (L.Copy from to) x = from ∷ []
reads f links (L.NonNull from to) x = from ∷ []
reads f links (L.Filter from by to) x = from ∷ []
reads f links (L.Minus from by to) x = from ∷ []
reads f links (L.Test from by to) x = from ∷ []
reads f links (L.IsNull from to) x = from ∷ []
reads f links (L.Equal left right to) x = left ∷ right ∷ []
reads f links (L.Pack storage from to) x = from ∷ []
reads f links (L.SlotGet object ty slot storage signed to) x = object ∷ map (λ s. slot_cell f s slot) (over f (x object) ty slot)
reads f links (L.SlotSet object ty slot storage from) x = object ∷ from ∷ []
reads f links (L.SlotFill object ty slot give) x = object ∷ []
reads f links (L.SlotCopy target to_ty source from_ty) x = target ∷ source ∷ map (λ s. slot_cell f s 0) (over f (x source) from_ty 0)
reads f links (L.CallBy callee ty operands results) x = callee ∷ operands ++ flat_map (out_cells f) (callees f links (x callee) ty)
reads f links (L.Internalise from to) x = from ∷ []
reads f links (L.Externalise from to) x = from ∷ []
reads f links (L.Callable function) x = []

-- a root link, which rests on no cell
abbrev pub IsRoot : Link → Type 0
IsRoot (L.Root give to) = Unit {0}
IsRoot _ = ⊥
