-- What a source gives and what a sink takes: bytes in order, moved a piece at a time, and a count of
-- faults. The bytes are `None` where an object does not tell them, and then nothing is said of them.
use Rattle.std.specs.Prelude.{◌≡◌, ℕ, ◌+◌, ◌-◌, ◌^◌, ◌<◌, ◌≤◌, min, List, [], ◌++◌, length, take, drop, Option, Some, None}

-- the next number of a count, which stays at the last number of 64 bits
abbrev pub next_count : ℕ → ℕ
next_count n = min (n + 1) (2 ^ 64 - 1)

-- a count rose by at least one since `before`, or it stands at its last number
abbrev pub Rose : ℕ → ℕ → Type 0
Rose before now = next_count before ≤ now

-- these bytes were taken from the front of what was left, and `after` is left now
abbrev pub Taken : Option (List ℕ) → Option (List ℕ) → List ℕ → Type 0
Taken None after bytes = after ≡ None
Taken (Some xs) after bytes = (ys : List ℕ) × (after ≡ Some ys) × (xs ≡ bytes ++ ys)

-- at most this many bytes were taken from the front of what was left
abbrev pub TakenAtMost : Option (List ℕ) → Option (List ℕ) → ℕ → Type 0
TakenAtMost before after most = (bytes : List ℕ) × (length bytes ≤ most) × Taken before after bytes

-- n bytes moved from the front of what was left into the front of the piece
abbrev pub Moved : Option (List ℕ) → Option (List ℕ) → List ℕ → ℕ → Type 0
Moved None after piece n = after ≡ None
Moved (Some xs) after piece n = (n ≤ length xs) × (after ≡ Some (drop n xs)) × (take n piece ≡ take n xs)

-- nothing is left
abbrev pub IsEnd : Option (List ℕ) → Type 0
IsEnd None = Unit {0}
IsEnd (Some xs) = xs ≡ []

-- these bytes were put behind what was held
abbrev pub Appended : Option (List ℕ) → Option (List ℕ) → List ℕ → Type 0
Appended None after bytes = after ≡ None
Appended (Some xs) after bytes = after ≡ Some (xs ++ bytes)

-- the first n bytes of the piece were put behind what was held
abbrev pub Added : Option (List ℕ) → Option (List ℕ) → List ℕ → ℕ → Type 0
Added before after piece n = Appended before after (take n piece)

-- a beginning of these bytes, and not all of them, was put behind what was held
abbrev pub PrefixAdded : Option (List ℕ) → Option (List ℕ) → List ℕ → Type 0
PrefixAdded before after bytes = (n : ℕ) × (n < length bytes) × Added before after bytes n
