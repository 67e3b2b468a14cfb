-- What the code keeps of the types of a module. No public contract speaks of it.
use Rattle.std.specs.Prelude.{ℕ, zero, suc, ◌+◌, ◌-◌, ◌*◌, ◌/◌, ◌<◌, ◌≤◌, ◌^◌, ◌≡◌, ◌⊎◌, List, [], ◌∷◌, ◌++◌, map, take, length, slice_get, slice_index, nat_lt, if◌then◌else◌, Option, Some, true, false, MatchOption}
use Rattle.gu_types.specs.declared.types.SubType.{SubType}
use Rattle.gu_types.specs.declared.types.RecGroup.{RecGroup}
use Rattle.gu_types.specs.declared.types.TypeList.{TypeList}
use Rattle.gu_types.specs.Depth.{types_of}
use Rattle.gu_rec.specs.declared.distinct.Distinct.{Distinct}
use Rattle.gu_rec.specs.Closed.{SameType}
use Rattle.gu_rec.specs.Names.{rename}
use Rattle.gu_rec.specs.Hashes.{hash_of}
use Rattle.gu_rec.specs.Validity.{indices_hold}

-- the number that stands for an index in a group of so many types: past the group's positions the number of the earlier
-- type, else the position in the group
abbrev pub number_of : List ℕ → ℕ → ℕ → ℕ
number_of numbers count index = if nat_lt index (length numbers) then count + slice_index numbers index else index - length numbers

-- the numbers and the positions are small enough to stand in one word
abbrev pub NumbersFit : List ℕ → ℕ → Type 0
NumbersFit numbers count = (k : ℕ) → k < length numbers → slice_index numbers k + count < 2 ^ 32

-- so many numbers from one on
abbrev pub run : ℕ → ℕ → List ℕ
run first zero = []
run first (suc count) = first ∷ run (suc first) count

-- a group behind types that have numbers, with a number in the place of each index in it
abbrev pub key : List ℕ → List SubType → List SubType
key numbers types = map (rename (number_of numbers (length types))) types

-- the types of the group at a place
abbrev pub types_at : List RecGroup → ℕ → List SubType
types_at [] i = []
types_at (group ∷ groups) zero = group.types
types_at (group ∷ groups) (suc i) = types_at groups i

-- the key of a distinct group
abbrev pub key_at : List RecGroup → List ℕ → Distinct → List SubType
key_at groups numbers entry = key (take entry.start numbers) (types_at groups entry.group)

-- the bucket of a hash below 2 ^ 32, of so many: each has its share of the hashes, in order
abbrev pub bucket_of : ℕ → ℕ → ℕ
bucket_of buckets hash = hash * buckets / 2 ^ 32

-- among the distinct groups before an end, how many there are up to the last one in a bucket
pub record IsLast (distinct : List Distinct) (buckets bucket end last : ℕ) : Type 0 where
  pub before : last ≤ end
  pub there : (m : ℕ) (entry : Distinct) → last ≡ suc m → slice_get distinct m ≡ Some entry → bucket_of buckets entry.hash ≡ bucket
  pub none_between : (m : ℕ) (entry : Distinct) → last ≤ m → m < end → slice_get distinct m ≡ Some entry → bucket_of buckets entry.hash ≡ bucket → ⊥

-- a distinct group stands in the list, behind types that have numbers, and leads to the last one before it in its bucket
pub record Linked (groups : List RecGroup) (numbers : List ℕ) (distinct : List Distinct) (buckets m : ℕ) (entry : Distinct) : Type 0 where
  pub at : entry.group < length groups
  pub start : entry.start ≤ length numbers
  pub hashed : entry.hash ≡ hash_of (key_at groups numbers entry)
  pub last : IsLast distinct buckets (bucket_of buckets entry.hash) m entry.before

-- each bucket leads to all distinct groups in it
pub record Chains (groups : List RecGroup) (numbers : List ℕ) (distinct : List Distinct) (lasts : List ℕ) : Type 0 where
  pub some : 0 < length lasts
  pub few : length lasts < 2 ^ 32
  pub linked : (m : ℕ) (entry : Distinct) → slice_get distinct m ≡ Some entry → Linked groups numbers distinct (length lasts) m entry
  pub last : (bucket : ℕ) → bucket < length lasts → IsLast distinct (length lasts) bucket (length distinct) (slice_index lasts bucket)

-- no distinct group has a key
abbrev pub IsAbsent : List RecGroup → List ℕ → List Distinct → List SubType → Type 0
IsAbsent groups numbers distinct types = (m : ℕ) (entry : Distinct) → slice_get distinct m ≡ Some entry → key_at groups numbers entry ≡ types → ⊥

-- a distinct group that begins at an index has a key
pub record IsFoundAt (groups : List RecGroup) (numbers : List ℕ) (distinct : List Distinct) (types : List SubType) (first : ℕ) : Type 0 where
  pub number : ℕ
  pub entry : Distinct
  pub found : slice_get distinct number ≡ Some entry
  pub same : key_at groups numbers entry ≡ types
  pub first_is : first ≡ entry.start

-- a group has a new key, and goes last with the index at which it begins
pub record IsAdded (groups : List RecGroup) (numbers : List ℕ) (old : List Distinct) (group first : ℕ) (new : List Distinct) : Type 0 where
  pub fresh : IsAbsent groups numbers old (key numbers (types_at groups group))
  pub entry : Distinct
  pub grown : new ≡ old ++ entry ∷ []
  pub group_is : entry.group ≡ group
  pub start_is : entry.start ≡ length numbers
  pub first_is : first ≡ length numbers

-- the index at which the first group begins that has the key of the group at a place
abbrev pub FirstIs : List RecGroup → List ℕ → List Distinct → ℕ → ℕ → List Distinct → Type 0
FirstIs groups numbers old group first new = (IsFoundAt groups numbers old (key numbers (types_at groups group)) first × (new ≡ old)) ⊎ IsAdded groups numbers old group first new

-- the least index of each type
pub record LeastIndices (list : TypeList) (numbers : List ℕ) : Type 0 where
  pub long : length numbers ≡ length (types_of list)
  pub same : (i : ℕ) → i < length numbers → SameType list i list (slice_index numbers i)
  pub least : (i j : ℕ) → i < length numbers → SameType list i list j → slice_index numbers i ≤ j

-- among types from an index on, in a group with an end, the first whose indices do not hold, or none
abbrev pub FirstBad : List SubType → ℕ → ℕ → Option ℕ → Type 0
FirstBad types start end found =
    MatchOption found
    ((k : ℕ) → k < length types → indices_hold end (start + k) (slice_get types k) ≡ true)
    (λ ty. (k : ℕ) × (k < length types) × (ty ≡ start + k) × (indices_hold end (start + k) (slice_get types k) ≡ false) × ((j : ℕ) → j < k → indices_hold end (start + j) (slice_get types j) ≡ true))
