-- How the height of a heap type is found. No public contract speaks of it.
use Rattle.std.specs.Prelude.{ℕ, ◌<◌, ◌≤◌, ◌≡◌, ◌≢◌, ◌⊎◌, List, length, slice_index, Some, unwrap_or}
use Rattle.gu_types.specs.declared.types.Abs.{Abs}
use Rattle.gu_types.specs.declared.types.Abs.TheVariants as A
use Rattle.gu_types.specs.declared.types.HeapType.{HeapType}
use Rattle.gu_types.specs.declared.types.HeapType.TheVariants as H
use Rattle.gu_types.specs.declared.types.TypeList.{TypeList}
use Rattle.gu_types.specs.Depth.{types_of, parent}
use Rattle.gu_rec.specs.declared.height.Tops.{Tops}
use Rattle.gu_rec.specs.declared.place.Seat.{Seat}
use Rattle.gu_rec.specs.declared.types.Entry.{Entry}
use Rattle.gu_rec.specs.Sub.{distance, height}
use Rattle.gu_rec.specs.Table.{IsTable, PlacesAre}

-- how far the abstract heap types reach down below a heap type
abbrev pub abs_height : HeapType → ℕ
abs_height (H.Abs A.Any) = 2
abs_height (H.Abs A.Eq) = 1
abs_height above = 0

-- how far a heap type stands above another, 0 where it does not
abbrev pub far : TypeList → HeapType → HeapType → ℕ
far list above below = unwrap_or (distance list above below) 0

-- the greatest distance from a heap type down to an abstract one or one of the first types, so many
pub record HeightTo (list : TypeList) (above : HeapType) (count most : ℕ) : Type 0 where
  pub start : abs_height above ≤ most
  pub each : (i : ℕ) → i < count → far list above (H.Idx i) ≤ most
  pub met : (most ≡ abs_height above) ⊎ ((i : ℕ) × (i < length (types_of list)) × (far list above (H.Idx i) ≡ most))

-- a number of a list is raised to another, where it is less
pub record Raise (heights new : List ℕ) (own steps : ℕ) : Type 0 where
  pub long : length new ≡ length heights
  pub more : slice_index heights own ≤ slice_index new own
  pub enough : steps ≤ slice_index new own
  pub one_of : (slice_index new own ≡ slice_index heights own) ⊎ (slice_index new own ≡ steps)
  pub others : (j : ℕ) → j ≢ own → slice_index new j ≡ slice_index heights j

-- at the least index of each type the distance down to some type. From an index on, where a least index of a type stands,
-- it is less than that of the supertype
pub record HeightsFrom (list : TypeList) (least heights : List ℕ) (from : ℕ) : Type 0 where
  pub long : length heights ≡ length least
  pub rise : (k p : ℕ) → from ≤ k → k < length (types_of list) → slice_index least k ≡ k → parent (types_of list) k ≡ Some p → slice_index heights k < slice_index heights (slice_index least p)
  pub met : (t : ℕ) → t < length (types_of list) → (i : ℕ) × (i < length (types_of list)) × (distance list (H.Idx t) (H.Idx i) ≡ Some (slice_index heights (slice_index least t)))

-- at the least index of each type its height
pub record HeightsAre (list : TypeList) (least heights : List ℕ) : Type 0 where
  pub long : length heights ≡ length least
  pub at : (t : ℕ) → t < length (types_of list) → slice_index heights (slice_index least t) ≡ height list (H.Idx t)

-- the height that is kept of an abstract heap type
abbrev pub top_height : Tops → Abs → ℕ
top_height tops A.Any = tops.any
top_height tops A.Eq = tops.eq
top_height tops A.I31 = tops.i31
top_height tops A.AnyStruct = tops.structs
top_height tops A.AnyArray = tops.arrays
top_height tops A.AnyFunc = tops.funcs
top_height tops A.Extern = tops.externs
top_height tops A.Exn = tops.exns
top_height tops kind = 0

-- the heights of the abstract heap types that are no bottoms
pub record TopsAre (list : TypeList) (tops : Tops) : Type 0 where
  pub any_is : tops.any ≡ height list (H.Abs A.Any)
  pub eq_is : tops.eq ≡ height list (H.Abs A.Eq)
  pub i31_is : tops.i31 ≡ height list (H.Abs A.I31)
  pub structs_is : tops.structs ≡ height list (H.Abs A.AnyStruct)
  pub arrays_is : tops.arrays ≡ height list (H.Abs A.AnyArray)
  pub funcs_is : tops.funcs ≡ height list (H.Abs A.AnyFunc)
  pub externs_is : tops.externs ≡ height list (H.Abs A.Extern)
  pub exns_is : tops.exns ≡ height list (H.Abs A.Exn)

-- what a `Types` keeps, as a whole
pub record IsKept (list : TypeList) (least : List ℕ) (entries : List Entry) (places : List Seat) (heights : List ℕ) (tops : Tops) : Type 0 where
  pub table : IsTable list least entries
  pub places_are : PlacesAre list places
  pub heights_are : HeightsAre list least heights
  pub tops_are : TopsAre list tops
