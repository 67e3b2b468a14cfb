-- What a `Types` keeps beside the list of types that it stands for. No public contract speaks of it.
use Rattle.std.specs.Prelude.{ℕ, zero, suc, ◌^◌, ◌<◌, ◌≤◌, ◌≡◌, List, length, slice_get, Option, Some, None, option_map, if◌then◌else◌, Bool, [], ◌∷◌}
use Rattle.gu_types.specs.declared.types.Abs.{Abs}
use Rattle.gu_types.specs.declared.types.Abs.TheVariants as A
use Rattle.gu_types.specs.declared.types.HeapType.{HeapType}
use Rattle.gu_types.specs.declared.types.HeapType.TheVariants as H
use Rattle.gu_types.specs.declared.types.SubType.{SubType}
use Rattle.gu_types.specs.declared.types.TypeList.{TypeList}
use Rattle.gu_types.specs.Depth.{types_of, parent, depth}
use Rattle.gu_rec.specs.declared.types.Entry.{Entry}
use Rattle.gu_rec.specs.declared.place.Seat.{Seat}
use Rattle.gu_rec.specs.Sub.{kind_of, IsSub, IsLeastIndex, StandsAt}
use Rattle.gu_rec.specs.Keys.{LeastIndices}
use Rattle.gu_rec.specs.Validity.{IndicesHold}

-- the first place at which a test passes, one element at a time
abbrev pub place : {X : Type 0} → (X → Bool) → List X → Option ℕ
place p [] = None
place p (x ∷ xs) = if p x then Some 0 else option_map suc (place p xs)

abbrev pub kind_at : Option SubType → Abs
kind_at None = A.Any
kind_at (Some ty) = kind_of ty.comp

abbrev pub next_kind : (ℕ → Abs) → Abs → Option ℕ → Abs
next_kind kind root None = root
next_kind kind root (Some super) = kind super

-- the abstract heap type above the last of the supertypes above a type, of which at most so many are taken
abbrev pub root_within : ℕ → List SubType → ℕ → Abs
root_within zero types i = kind_at (slice_get types i)
root_within (suc most) types i = next_kind (root_within most types) (kind_at (slice_get types i)) (parent types i)

unfoldable pub root_kind : List SubType → ℕ → Abs
root_kind types i = root_within i types i

-- what is kept of a type
pub record EntryIs (types : List SubType) (i : ℕ) (entry : Entry) : Type 0 where
  pub parent_is : entry.parent ≡ parent types i
  pub kind_is : entry.kind ≡ root_kind types i
  pub depth_is : entry.depth ≡ depth types i

-- what is kept of each of the types
pub record EntriesAre (types : List SubType) (entries : List Entry) : Type 0 where
  pub long : length entries ≡ length types
  pub at : (i : ℕ) (entry : Entry) → slice_get entries i ≡ Some entry → EntryIs types i entry

-- where each of the first types stands, so many
pub record PlacesTo (list : TypeList) (count : ℕ) (places : List Seat) : Type 0 where
  pub long : length places ≡ count
  pub at : (i : ℕ) (seat : Seat) → slice_get places i ≡ Some seat → StandsAt list i seat.group seat.position

-- where each of the types stands
abbrev pub PlacesAre : TypeList → List Seat → Type 0
PlacesAre list places = PlacesTo list (length (types_of list)) places

-- what the answers on subtyping rest on
pub record IsTable (list : TypeList) (least : List ℕ) (entries : List Entry) : Type 0 where
  pub hold : IndicesHold list
  pub few : length (types_of list) < 2 ^ 32
  pub shallow : (i : ℕ) → depth (types_of list) i ≤ 63
  pub least_are : LeastIndices list least
  pub entries_are : EntriesAre (types_of list) entries

-- what is kept of the first types, so many
pub record SoFar (types : List SubType) (count : ℕ) (entries : List Entry) : Type 0 where
  pub long : length entries ≡ count
  pub at : (i : ℕ) (entry : Entry) → slice_get entries i ≡ Some entry → EntryIs types i entry

-- what is kept of a type, from what is kept of its declared supertype
abbrev pub EntryFrom : SubType → List Entry → Option ℕ → Entry → Type 0
EntryFrom ty entries None entry = entry ≡ record { parent = None; kind = kind_of ty.comp; depth = 0 }
EntryFrom ty entries (Some super) entry = (upper : Entry) × (slice_get entries super ≡ Some upper) × (entry ≡ record { parent = Some super; kind = upper.kind; depth = suc upper.depth })

-- the abstract heap type directly above another in its tree, bottoms left out
abbrev pub above_abs : Abs → Option Abs
above_abs A.Eq = Some A.Any
above_abs A.I31 = Some A.Eq
above_abs A.AnyStruct = Some A.Eq
above_abs A.AnyArray = Some A.Eq
above_abs kind = None

abbrev pub above_type : Abs → Option ℕ → HeapType
above_type kind None = H.Abs kind
above_type kind (Some super) = H.Idx super

-- what stands directly above a heap type on its line
abbrev pub next_above : TypeList → HeapType → Option HeapType
next_above list (H.Abs kind) = option_map H.Abs (above_abs kind)
next_above list (H.Idx i) = Some (above_type (root_kind (types_of list) i) (parent (types_of list) i))

-- a heap type by the least index of its type
pub record IsNamed (list : TypeList) (heap named : HeapType) : Type 0 where
  pub up : IsSub list heap named
  pub down : IsSub list named heap
  pub least_index : IsLeastIndex list named
