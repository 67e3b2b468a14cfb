-- Equality of types by closed recursion groups (core specification 3.0, 3.1.2 Defined Types, rolling and unrolling).
use Rattle.std.specs.Prelude.{ℕ, zero, suc, ◌-◌, ◌≡◌, List, [], ◌∷◌, ◌++◌, length, Option, Some, None, slice_get}
use Rattle.gu_types.specs.declared.types.SubType.{SubType}
use Rattle.gu_types.specs.declared.types.RecGroup.{RecGroup}
use Rattle.gu_types.specs.declared.types.TypeList.{TypeList}
use Rattle.gu_rec.specs.Names.{names, blank}

mutual
  -- a closed recursion group: the list of its types, each as what is left of it beside its indices, and what its
  -- indices refer to
  pub data ClosedGroup : Type 0 where
    done : ClosedGroup
    entry : SubType → References → ClosedGroup → ClosedGroup

  -- what the indices in a type refer to, in order: a position in the type's own group, or a closed type, which is a
  -- position in another closed group
  pub data References : Type 0 where
    none : References
    inside : ℕ → References → References
    outside : ClosedGroup → ℕ → References → References

-- a closed type: a position in a closed group
pub record Closed : Type 0 where
  pub group : ClosedGroup
  pub position : ℕ

-- What an index refers to behind so many earlier types, which are closed: one of them, or a position in the group that
-- begins there. (An index past the group's end is such a position too, at which no type stands; it occurs in no valid
-- module.)
abbrev pub close_name : Option Closed → ℕ → References → References
close_name None position rest = inside position rest
close_name (Some outer) position rest = outside outer.group outer.position rest

abbrev pub close_names : List Closed → List ℕ → References
close_names earlier [] = none
close_names earlier (index ∷ rest) = close_name (slice_get earlier index) (index - length earlier) (close_names earlier rest)

-- a group behind earlier types, closed
abbrev pub close_group : List Closed → List SubType → ClosedGroup
close_group earlier [] = done
close_group earlier (ty ∷ types) = entry (blank ty) (close_names earlier (names ty)) (close_group earlier types)

-- so many positions of a closed group, one after another
abbrev pub positions : ClosedGroup → ℕ → ℕ → List Closed
positions group first zero = []
positions group first (suc count) = record { group = group; position = first } ∷ positions group (suc first) count

-- the types of a group behind earlier types, closed
abbrev pub close_types : List Closed → List SubType → List Closed
close_types earlier types = positions (close_group earlier types) zero (length types)

-- earlier types and those of the groups behind them, closed
abbrev pub close_on : List Closed → List RecGroup → List Closed
close_on earlier [] = earlier
close_on earlier (group ∷ groups) = close_on (earlier ++ close_types earlier group.types) groups

-- the types of a module, closed, in the order of their indices
unfoldable pub closed_types : TypeList → List Closed
closed_types list = close_on [] list.groups

-- the type with an index, closed. Where no type has the index there is none
unfoldable pub closed_type : TypeList → ℕ → Option Closed
closed_type list index = slice_get (closed_types list) index

-- Two indices, perhaps of two modules, denote one type: their closed groups are equal lists, and their positions there
-- are equal. An index that no type has is the same as every other such index, and as no type.
unfoldable pub SameType : TypeList → ℕ → TypeList → ℕ → Type 0
SameType one i other j = closed_type one i ≡ closed_type other j
