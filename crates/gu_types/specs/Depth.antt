-- The types of a module in order, and how many supertypes stand above one of them (core specification 3.0, 2.3 Types,
-- recursive types).
use Rattle.std.specs.Prelude.{ℕ, zero, suc, List, [], ◌∷◌, ◌++◌, Option, Some, None, slice_get, nat_lt, if◌then◌else◌}
use Rattle.gu_types.specs.declared.types.SubType.{SubType}
use Rattle.gu_types.specs.declared.types.RecGroup.{RecGroup}
use Rattle.gu_types.specs.declared.types.TypeList.{TypeList}

-- the types of groups, in order
abbrev pub types_in : List RecGroup → List SubType
types_in [] = []
types_in (group ∷ groups) = group.types ++ types_in groups

-- the types of a module, in order: a type index counts them
abbrev pub types_of : TypeList → List SubType
types_of list = types_in list.groups

abbrev pub first_of : List ℕ → Option ℕ
first_of [] = None
first_of (super ∷ supers) = Some super

-- the first supertype that a type declares, if any
abbrev pub first_super : Option SubType → Option ℕ
first_super None = None
first_super (Some ty) = first_of ty.supers

-- the first declared supertype of the type with an index, where it has a smaller index
abbrev pub smaller : ℕ → Option ℕ → Option ℕ
smaller i None = None
smaller i (Some super) = if nat_lt super i then Some super else None

abbrev pub parent : List SubType → ℕ → Option ℕ
parent types i = smaller i (first_super (slice_get types i))

-- one more than what there is, if anything is
abbrev pub one_above : (ℕ → ℕ) → Option ℕ → ℕ
one_above count None = 0
one_above count (Some super) = suc (count super)

-- how many supertypes stand above a type one after another, of at most so many that are counted
abbrev pub depth_within : (most : ℕ) → List SubType → ℕ → ℕ
depth_within zero types i = 0
depth_within (suc most) types i = one_above (depth_within most types) (parent types i)

-- the depth of a type: 0 where it declares no supertype of a smaller index, else one more than that supertype's. As
-- many are counted as its index says, since each has a smaller index
abbrev pub depth : List SubType → ℕ → ℕ
depth types i = depth_within i types i
