-- Codes of instructions by what they do (core specification 3.0, 5.4 Instructions).
use Rattle.std.specs.Prelude.{ℕ, ◌≢◌, List, [], ◌∷◌}

-- a code is none of these
abbrev pub Lacks : List ℕ → ℕ → Type 0
Lacks [] code = Unit {0}
Lacks (other ∷ others) code = (code ≢ other) × Lacks others code

-- what opens, parts or ends a block
abbrev pub block_codes : List ℕ
block_codes = 0x02 ∷ 0x03 ∷ 0x04 ∷ 0x05 ∷ 0x0B ∷ 0x1F ∷ []

-- variables, entries of tables, the sizes of memories, and constants
abbrev pub variable_codes : List ℕ
variable_codes = 0x20 ∷ 0x21 ∷ 0x22 ∷ 0x23 ∷ 0x24 ∷ 0x25 ∷ 0x26 ∷ 0x3F ∷ 0x40 ∷ 0x41 ∷ 0x42 ∷ []

-- control instructions that hold no code
abbrev pub control_codes : List ℕ
control_codes = 0x00 ∷ 0x01 ∷ 0x08 ∷ 0x0A ∷ 0x0C ∷ 0x0D ∷ 0x0E ∷ 0x0F ∷ 0x10 ∷ 0x11 ∷ 0x12 ∷ 0x13 ∷ 0x14 ∷ 0x15 ∷ []

-- parametric instructions, and references
abbrev pub reference_codes : List ℕ
reference_codes = 0x1A ∷ 0x1B ∷ 0x1C ∷ 0xD0 ∷ 0xD1 ∷ 0xD2 ∷ 0xD3 ∷ 0xD4 ∷ 0xD5 ∷ 0xD6 ∷ []

-- loads
abbrev pub load_codes : List ℕ
load_codes = 0x28 ∷ 0x29 ∷ 0x2C ∷ 0x2D ∷ 0x2E ∷ 0x2F ∷ 0x30 ∷ 0x31 ∷ 0x32 ∷ 0x33 ∷ 0x34 ∷ 0x35 ∷ []

-- stores
abbrev pub store_codes : List ℕ
store_codes = 0x36 ∷ 0x37 ∷ 0x3A ∷ 0x3B ∷ 0x3C ∷ 0x3D ∷ 0x3E ∷ []

-- the prefixes of instructions that a number follows
abbrev pub prefix_codes : List ℕ
prefix_codes = 0xFB ∷ 0xFC ∷ []

-- behind FB: structures
abbrev pub structure_codes : List ℕ
structure_codes = 0 ∷ 1 ∷ 2 ∷ 3 ∷ 4 ∷ 5 ∷ []

-- behind FB: arrays
abbrev pub array_codes : List ℕ
array_codes = 6 ∷ 7 ∷ 8 ∷ 9 ∷ 10 ∷ 11 ∷ 12 ∷ 13 ∷ 14 ∷ 15 ∷ 16 ∷ 17 ∷ 18 ∷ 19 ∷ []

-- behind FB: casts, external and unboxed references
abbrev pub cast_codes : List ℕ
cast_codes = 20 ∷ 21 ∷ 22 ∷ 23 ∷ 24 ∷ 25 ∷ 26 ∷ 27 ∷ 28 ∷ 29 ∷ 30 ∷ []

-- behind FC: memories, tables and segments
abbrev pub bulk_codes : List ℕ
bulk_codes = 8 ∷ 9 ∷ 10 ∷ 11 ∷ 12 ∷ 13 ∷ 14 ∷ 15 ∷ 16 ∷ 17 ∷ []
