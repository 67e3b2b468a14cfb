-- Why a text is refused: what the grammar, read from the left, asks at a place where that does not stand (core
-- specification 3.0, chapter 5 Binary Format).
use Rattle.std.specs.Prelude.{ℕ, ◌+◌, ◌≡◌, ◌≢◌, List, [], ◌∷◌, length, drop, nat_eq, nat_lt, if◌then◌else◌, Option, Some, None, Bool, true, false}
use Rattle.gu_bytes.specs.Reading.{unsigned_at}
use Rattle.gu_syntax.specs.Reading.{Item, LimitsFlag, TypeStart, Opcode, FlatOpcode, stops, module_at}

-- whether a number lies in one of these ranges, both ends included
abbrev pub lies_in : List (ℕ × ℕ) → ℕ → Bool
lies_in [] n = false
lies_in (range ∷ ranges) n = if nat_lt n range.0 then lies_in ranges n else (if nat_lt range.1 n then lies_in ranges n else true)

-- codes of the standard's instructions on floating point, on vectors and with bits of both
abbrev pub left_out : List (ℕ × ℕ)
left_out = (0x2A, 0x2B) ∷ (0x38, 0x39) ∷ (0x43, 0x44) ∷ (0x5B, 0x66) ∷ (0x8B, 0xA6) ∷ (0xA8, 0xAB) ∷ (0xAE, 0xBF) ∷ (0xFD, 0xFD) ∷ []

-- a code that ranges have
abbrev pub named : List (ℕ × ℕ) → ℕ → Option ℕ
named ranges code = if lies_in ranges code then Some code else None

-- the saturating conversions behind FC
abbrev pub conversion : Option (ℕ × List ℕ) → Option ℕ
conversion None = None
conversion (Some x) = if nat_lt x.0 8 then Some (0xFC00 + x.0) else None

abbrev pub instruction_outside : ℕ → List ℕ → Option ℕ
instruction_outside code rest = if nat_eq code 0xFC then conversion (unsigned_at 32 rest) else named left_out code

-- the code of the standard that is left out of the profile, where this item is asked and the text goes on like this:
-- types of floating point and of vectors, limits of 64 bits, and instructions
abbrev pub outside : Item → List ℕ → Option ℕ
outside TypeStart (code ∷ rest) = named ((0x7B, 0x7D) ∷ []) code
outside LimitsFlag (code ∷ rest) = named ((0x04, 0x05) ∷ []) code
outside Opcode (code ∷ rest) = instruction_outside code rest
outside _ _ = None

-- all that is asked before this place stands, and at this place an item is asked that does not; no expression has more
-- than 1,000 blocks open
pub record Due (text : List ℕ) (place : ℕ) (item : Item) : Type 0 where
  pub left : ℕ
  pub here : place + left ≡ length text
  pub stopped : module_at 1000 text ≡ stops (record { item = item; left = left })

-- what is asked there is missing, and no code of the standard stands in its place
pub record IsMalformed (text : List ℕ) (place : ℕ) : Type 0 where
  pub item : Item
  pub due : Due text place item
  pub shallow : item ≢ FlatOpcode
  pub unnamed : outside item (drop place text) ≡ None

-- a code of the standard stands there that is left out of the profile
pub record IsOutside (text : List ℕ) (place code : ℕ) : Type 0 where
  pub item : Item
  pub due : Due text place item
  pub named : outside item (drop place text) ≡ Some code

-- a block is opened there where 1,000 are open
abbrev pub NestsTooDeep : List ℕ → ℕ → Type 0
NestsTooDeep text place = Due text place FlatOpcode
