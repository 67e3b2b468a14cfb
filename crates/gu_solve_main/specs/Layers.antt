-- How deep the classes are.
use Rattle.std.specs.Prelude.{ℕ, zero, suc, ◌+◌, ◌<◌, ◌%◌, ◌≡◌, Some}
use Rattle.gu_types.specs.declared.types.SubType.{SubType}
use Rattle.gu_types.specs.Depth.{first_of}

-- the first class is in layer 0, and those behind it in the layers 1 to 63, and again from 1 on
abbrev pub layer : ℕ → ℕ
layer zero = 0
layer (suc index) = index % 63 + 1

-- a class is in a higher layer than its supertype
abbrev pub IsHigher : ℕ → SubType → Type 0
IsHigher index ty = (above : ℕ) → first_of ty.supers ≡ Some above → layer above < layer index
