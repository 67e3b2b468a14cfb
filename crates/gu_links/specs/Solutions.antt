-- The contents that links ask for at least, and the least of them.
use Rattle.std.specs.Prelude.{ℕ, ◌<◌, ◌≤◌, List, length, All, Contains, slice_index_or}
use Rattle.gu_types.specs.Depth.{types_of}
use Rattle.gu_rec.specs.Sub.{IsHeapOf}
use Rattle.gu_contents.specs.declared.content.Content.{Content}
use Rattle.gu_contents.specs.declared.content.Content.TheVariants.{Empty}
use Rattle.gu_contents.specs.declared.facts.Facts.{Facts}
use Rattle.gu_contents.specs.Order.{AtMost}
use Rattle.gu_contents.specs.Belongs.{Belongs, IsListed, IsFunc}
use Rattle.gu_links.specs.declared.link.Link.{Link}
use Rattle.gu_links.specs.declared.link.Link.TheVariants as L
use Rattle.gu_links.specs.Cells.{own_cells, slots_of}
use Rattle.gu_links.specs.Gives.{Contents, Asked, gives, reads}

-- what the cells of a list have, and nothing behind them
abbrev pub at : List Content → Contents
at xs c = slice_index_or xs c Empty

-- all contents belong to the facts
pub record AllBelong (f : Facts) (x : Contents) : Type 0 where
  pub at : (c : ℕ) → Belongs f (x c)

-- each cell has at most what it has in others
pub record IsBelow (f : Facts) (x y : Contents) : Type 0 where
  pub at : (c : ℕ) → AtMost f (x c) (y c)

-- a join that is asked for changes nothing: the cell has at least the content
abbrev pub IsMet : Facts → Contents → Asked → Type 0
IsMet f x asked = AtMost f asked.1 (x asked.0)

-- a link is open where some join that it asks for is not met
pub record IsOpen (f : Facts) (links : List Link) (link : Link) (x : Contents) : Type 0 where
  pub asked : Asked
  pub given : Contains (gives f links link x) asked
  pub unmet : IsMet f x asked → ⊥

-- a link is closed where all that it asks for is met
pub record IsClosed (f : Facts) (links : List Link) (link : Link) (x : Contents) : Type 0 where
  pub met : All (IsMet f x) (gives f links link x)

-- contents solve a system where each of its links is closed
pub record Solves (f : Facts) (links : List Link) (x : Contents) : Type 0 where
  pub closed : All (λ link. IsClosed f links link x) links

-- contents are at most every solution
pub record IsUnderAll (f : Facts) (links : List Link) (x : Contents) : Type 0 where
  pub at_most : (y : Contents) → AllBelong f y → Solves f links y → IsBelow f x y

-- the least solution
pub record Least (f : Facts) (links : List Link) (x : Contents) : Type 0 where
  pub belong : AllBelong f x
  pub solves : Solves f links x
  pub least : IsUnderAll f links x

-- a link reads a cell, where the cells have some contents
pub record IsReader (f : Facts) (links : List Link) (cell : ℕ) (link : Link) : Type 0 where
  pub contents : Contents
  pub belong : AllBelong f contents
  pub read : Contains (reads f links link contents) cell

-- a content belongs to the facts, and its 64-bit literals are in the list
pub record IsOf (f : Facts) (longs : List ℕ) (a : Content) : Type 0 where
  pub belongs : Belongs f a
  pub listed : IsListed longs a

-- the index of a type of the facts
abbrev pub IsType : Facts → ℕ → Type 0
IsType f ty = ty < length (types_of f.types)

-- all cells are among the first, so many
abbrev pub AllCells : ℕ → List ℕ → Type 0
AllCells count cells = All (λ c. c < count) cells

-- A link fits a system of so many cells: its cells are among them, its types and functions are in the facts, and its
-- contents belong to them and to the list of 64-bit literals. A slot that it reads is one of its type's
abbrev pub Fits : Facts → List ℕ → ℕ → Link → Type 0
Fits f longs count (L.Root give to) = IsOf f longs give × (to < count)
Fits f longs count (L.Copy from to) = (from < count) × (to < count)
Fits f longs count (L.NonNull from to) = (from < count) × (to < count)
Fits f longs count (L.Filter from by to) = (from < count) × (to < count) × IsHeapOf f.types by.heap
Fits f longs count (L.Minus from by to) = (from < count) × (to < count) × IsHeapOf f.types by.heap
Fits f longs count (L.Test from by to) = (from < count) × (to < count) × IsHeapOf f.types by.heap
Fits f longs count (L.IsNull from to) = (from < count) × (to < count)
Fits f longs count (L.Equal left right to) = (left < count) × (right < count) × (to < count)
Fits f longs count (L.Pack storage from to) = (from < count) × (to < count)
Fits f longs count (L.SlotGet object ty slot storage signed to) = (object < count) × (to < count) × IsType f ty × (slot < slots_of f.types ty)
Fits f longs count (L.SlotSet object ty slot storage from) = (object < count) × (from < count) × IsType f ty
Fits f longs count (L.SlotFill object ty slot give) = (object < count) × IsOf f longs give × IsType f ty
Fits f longs count (L.SlotCopy target to_ty source from_ty) = (target < count) × (source < count) × IsType f to_ty × IsType f from_ty × (0 < slots_of f.types from_ty)
Fits f longs count (L.CallBy callee ty operands results) = (callee < count) × IsType f ty × AllCells count operands × AllCells count results
Fits f longs count (L.Internalise from to) = (from < count) × (to < count)
Fits f longs count (L.Externalise from to) = (from < count) × (to < count)
Fits f longs count (L.Callable function) = IsFunc f function

-- links make a system of so many cells over the facts and a list of 64-bit literals: there are the cells of all slots,
-- parameters and results, and all links fit
pub record IsSystem (f : Facts) (longs : List ℕ) (count : ℕ) (links : List Link) : Type 0 where
  pub room : own_cells f ≤ count
  pub fit : All (Fits f longs count) links
