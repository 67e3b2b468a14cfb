-- Room for a size that is put before its content once that is written.
use Rattle.std.specs.Prelude.{ℕ, ◌+◌, ◌<◌, ◌≡◌, ◌⊎◌, List, ◌∷◌, ◌++◌, length, take, drop}
use Rattle.gu_syntax.specs.Encoding.{sized}

-- room of so many bytes is left behind what was there, and a content that would end past 2 ^ 28 bytes behind the room would so behind its size too
pub record LeavesRoom (old new : List ℕ) (room : ℕ) : Type 0 where
  pub gap : List ℕ
  pub behind : new ≡ old ++ gap
  pub wide : length gap ≡ room
  pub exact : (content : List ℕ) → 268435456 < length new + length content → 268435456 < length old + length (sized content)

-- a byte is put over the first one of the room at a place, or before what stands there where there is no room, and so much room is left
abbrev pub PutsByte : (old new : List ℕ) (place room byte left : ℕ) → Type 0
PutsByte old new place room byte left =
    ((room ≡ left + 1) × (new ≡ take place old ++ byte ∷ drop (place + 1) old))
    ⊎ ((room ≡ 0) × (left ≡ 0) × (new ≡ take place old ++ byte ∷ drop place old))
