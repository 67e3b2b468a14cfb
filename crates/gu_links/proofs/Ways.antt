-- By which ways links read cells, and that the links listed by these are the readers.
use Rattle.std.proofs.Common.{◌≡◌, ℕ, ◌<◌, ◌≤◌, true, Option, Some, List, [], ◌∷◌, length, get_or, refl, subst, ⊎_elim, arith}
use Rattle.std.specs.Prelude.{All, Contains}
use Rattle.std.proofs.lemmas.List.Elements.{All-nil, All-cons, All-head, All-tail, All-contains}
use Rattle.std.specs.List.{list_any}
use Rattle.std.proofs.lemmas.Bool.{eqb-true}
use Rattle.gu_rec.proofs.Order.{either}
use Rattle.gu_contents.specs.declared.facts.Facts.{Facts}
use Rattle.gu_contents.specs.Belongs.{IsFunc}
use Rattle.gu_links.specs.declared.link.Link.{Link}
use Rattle.gu_links.specs.declared.link.Link.TheVariants as L
use Rattle.gu_links.specs.declared.index.Cells.{Cells}
use Rattle.gu_links.specs.declared.readers.Place.{Place}
use Rattle.gu_links.specs.declared.readers.Readers.{Readers}
use Rattle.gu_links.specs.Cells.{own_cells, slots_of}
use Rattle.gu_links.specs.Solutions.{Fits, IsSystem, IsReader}
use Rattle.gu_links.specs.Over.{names}
use Rattle.gu_links.specs.Kept.{has, fixed_reads}
use Rattle.gu_links.specs.Known.{link_at}
use Rattle.gu_links.specs.Ways.{ReadsSlot, ReadsResult, ReadsBelow, IsReadBy}
use Rattle.gu_links.specs.Listed.{listed_at, fixed_place, slot_place, type_place, CanBeListed, IsListedAt, AreListed}
use Rattle.gu_links.proofs.Within.{slot_within, out_within}
use Rattle.gu_links.proofs.Finding.{readers_are_found}

one_below : (count a : ℕ) → a < count → All (λ c. c < count) (a ∷ [])
one_below count a lt = All-cons (λ c. c < count) a [] lt (All-nil (λ c. c < count))

two_below : (count a b : ℕ) → a < count → b < count → All (λ c. c < count) (a ∷ b ∷ [])
two_below count a b lt h = All-cons (λ c. c < count) a (b ∷ []) lt (one_below count b h)

-- a link that fits a system can be listed
fits_listed : (f : Facts) (longs : List ℕ) (count : ℕ) (link : Link) → Fits f longs count link → CanBeListed f count link
fits_listed f longs count (L.Root give to) h = record { fixed = All-nil (λ c. c < count); below = tt }
fits_listed f longs count (L.Copy from to) h = record { fixed = one_below count from h.0; below = tt }
fits_listed f longs count (L.NonNull from to) h = record { fixed = one_below count from h.0; below = tt }
fits_listed f longs count (L.Filter from by to) h = record { fixed = one_below count from h.0; below = tt }
fits_listed f longs count (L.Minus from by to) h = record { fixed = one_below count from h.0; below = tt }
fits_listed f longs count (L.Test from by to) h = record { fixed = one_below count from h.0; below = tt }
fits_listed f longs count (L.IsNull from to) h = record { fixed = one_below count from h.0; below = tt }
fits_listed f longs count (L.Equal left right to) h = record { fixed = two_below count left right h.0 h.1; below = tt }
fits_listed f longs count (L.Pack storage from to) h = record { fixed = one_below count from h.0; below = tt }
fits_listed f longs count (L.SlotGet object ty slot storage signed to) h = record { fixed = one_below count object h.0; below = (h.2, h.3) }
fits_listed f longs count (L.SlotSet object ty slot storage from) h = record { fixed = two_below count object from h.0 h.1; below = tt }
fits_listed f longs count (L.SlotFill object ty slot give) h = record { fixed = one_below count object h.0; below = tt }
fits_listed f longs count (L.SlotCopy target to_ty source from_ty) h = record { fixed = two_below count target source h.0 h.1; below = (h.3, h.4) }
fits_listed f longs count (L.CallBy callee ty operands results) h = record { fixed = All-cons (λ c. c < count) callee operands h.0 h.2; below = h.1 }
fits_listed f longs count (L.Internalise from to) h = record { fixed = one_below count from h.0; below = tt }
fits_listed f longs count (L.Externalise from to) h = record { fixed = one_below count from h.0; below = tt }
fits_listed f longs count (L.Callable function) h = record { fixed = All-nil (λ c. c < count); below = tt }

pub can_be_listed : (f : Facts) (longs : List ℕ) (count : ℕ) (links : List Link) → IsSystem f longs count links → All (CanBeListed f count) links
can_be_listed f longs count links system = λ k d lt. fits_listed f longs count (get_or links k d) (system.fit k d lt)

-- only cells of the system are read
below_low : (f : Facts) (links : List Link) (cell up count : ℕ) → own_cells f ≤ count → (link : Link) → ReadsBelow f links cell up link → cell < count
below_low f links cell up count room (L.SlotGet object ty slot storage signed to) r =
    let w = slot_within f r.of slot r.in_range r.least r.has in let i = r.cell_is in omega arith
below_low f links cell up count room (L.SlotCopy target to_ty source from_ty) r =
    let w = slot_within f r.of 0 r.in_range r.least r.has in let i = r.cell_is in omega arith
below_low f links cell up count room (L.CallBy callee ty operands results) r =
    let w = out_within f r.of r.place r.in_range r.has in let i = r.cell_is in omega arith
below_low f links cell up count room _ r = absurd r

-- a place at which a link is listed
pub record Found (readers : Readers) (o : Option Place) (k : ℕ) : Type 0 where
  pub place : Place
  pub is : o ≡ Some place
  pub has : has (listed_at readers place) k ≡ true

module _ (f : Facts) (longs : List ℕ) (count : ℕ) (links : List Link) (system : IsSystem f longs count links) (cells : Cells) (readers : Readers) (listed : AreListed f count links cells readers) (cell up : ℕ) where
  pub read_low : (k : ℕ) → k < length links → IsReadBy f links cell up (link_at links k) → cell < count
  read_low k lt r = ⊎_elim
      (λ (w : (up ≡ 0) × Contains (fixed_reads (link_at links k)) cell). All-contains (λ c. c < count) (fixed_reads (link_at links k)) cell (can_be_listed f longs count links system k (L.Callable 0) lt).fixed w.1)
      (λ (w : ReadsBelow f links cell up (link_at links k)). below_low f links cell up count system.room (link_at links k) w)
      r

  module _ (o : Option Place) (fixed : up ≡ 0 → o ≡ Some (fixed_place f cells cell))
      (slots : (ty slot : ℕ) → slot < slots_of f.types ty → ReadsSlot f ty slot cell up → o ≡ Some (slot_place f ty slot))
      (results : (links : List Link) (ty : ℕ) → ReadsResult f links ty cell up → o ≡ Some (type_place f ty)) where
    found_below : (k : ℕ) (link : Link) → CanBeListed f count link → IsListedAt f cells readers link k → ReadsBelow f links cell up link → Found readers o k
    found_below k (L.SlotGet object ty slot storage signed to) can at r = record { place = slot_place f ty slot; is = slots ty slot can.below.1 r; has = at.below (slot_place f ty slot) refl }
    found_below k (L.SlotCopy target to_ty source from_ty) can at r = record { place = slot_place f from_ty 0; is = slots from_ty 0 can.below.1 r; has = at.below (slot_place f from_ty 0) refl }
    found_below k (L.CallBy callee ty operands results') can at r = record { place = type_place f ty; is = results links ty r; has = at.below (type_place f ty) refl }
    found_below k _ can at r = absurd r

    -- a link that reads a cell by way of a number is listed at the place that has the number
    pub found_at : (k : ℕ) → k < length links → IsReadBy f links cell up (link_at links k) → Found readers o k
    found_at k lt r = ⊎_elim
        (λ (w : (up ≡ 0) × Contains (fixed_reads (link_at links k)) cell). record { place = fixed_place f cells cell; is = fixed w.0; has = (listed.at k lt).fixed cell w.1 })
        (λ (w : ReadsBelow f links cell up (link_at links k)). found_below k (link_at links k) (can_be_listed f longs count links system k (L.Callable 0) lt) (listed.at k lt) w)
        r

-- a function that is named by links that fit is one of the facts
named_by : (f : Facts) (longs : List ℕ) (count g : ℕ) (link : Link) → Fits f longs count link → names g link ≡ true → IsFunc f g
named_by f longs count g (L.Callable h) fit e = subst (IsFunc f) (eqb-true h g e) fit
named_by f longs count g _ fit e = absurd cc

named_in : (f : Facts) (longs : List ℕ) (count g : ℕ) (links : List Link) → All (Fits f longs count) links → list_any (names g) links ≡ true → IsFunc f g
named_in f longs count g [] fit e = absurd cc
named_in f longs count g (link ∷ links) fit e = ⊎_elim
    (λ (here : names g link ≡ true). named_by f longs count g link (All-head (Fits f longs count) link links fit) here)
    (λ (there : list_any (names g) links ≡ true). named_in f longs count g links (All-tail (Fits f longs count) link links fit) there)
    (either (names g link) (list_any (names g) links) e)

pub named_fits : (f : Facts) (longs : List ℕ) (count : ℕ) (links : List Link) → IsSystem f longs count links → (g : ℕ) → list_any (names g) links ≡ true → IsFunc f g
named_fits f longs count links system g e = named_in f longs count g links system.fit e

-- each link of a system that reads a cell reads it by one of the 64 ways
pub every_reader : (f : Facts) (longs : List ℕ) (count : ℕ) (links : List Link) → IsSystem f longs count links → (cell : ℕ) (link : Link) → Contains links link → IsReader f links cell link → (up : ℕ) × (up ≤ 63) × IsReadBy f links cell up link
every_reader f longs count links system cell link listed reader = let found = readers_are_found f links cell link reader in (found.up, found.most, found.way)
