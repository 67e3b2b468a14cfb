-- What becomes of a content where its values are stored in a packed field and read from one.
use Rattle.std.specs.Prelude.{ℕ, ◌+◌, ◌-◌, ◌^◌, ◌%◌, Bool, true, false, nat_lt, if◌then◌else◌}
use Rattle.gu_types.specs.declared.types.Storage.{Storage}
use Rattle.gu_types.specs.declared.types.Storage.TheVariants as S
use Rattle.gu_contents.specs.declared.content.Content.{Content}
use Rattle.gu_contents.specs.declared.content.Content.TheVariants.{I32, NumGlobal, Many}

-- the low bits of a number, so many
abbrev pub low : ℕ → ℕ → ℕ
low bits v = v % 2 ^ bits

-- a number of so many bits and one more, as an i32 with the same value: the one more is its sign
abbrev pub signed : ℕ → ℕ → ℕ
signed bits v = if nat_lt v (2 ^ bits) then v else v + (2 ^ 32 - (2 ^ bits + 2 ^ bits))

-- what is stored of a content: its low bits
abbrev pub pack_to : ℕ → Content → Content
pack_to bits (I32 v) = I32 (low bits v)
pack_to bits (NumGlobal g) = Many
pack_to bits a = a

unfoldable pub pack : Storage → Content → Content
pack S.I8 a = pack_to 8 a
pack S.I16 a = pack_to 16 a
pack (S.Val ty) a = a

-- an i32 by its low 8 or 16 bits, with the sign of these or without one
abbrev pub extend_literal : Storage → Bool → ℕ → ℕ
extend_literal S.I8 true v = signed 7 (low 8 v)
extend_literal S.I8 false v = low 8 v
extend_literal S.I16 true v = signed 15 (low 16 v)
extend_literal S.I16 false v = low 16 v
extend_literal (S.Val ty) sign v = v

-- what is read of a content that is stored
unfoldable pub extend : Storage → Bool → Content → Content
extend s sign (I32 v) = I32 (extend_literal s sign v)
extend s sign a = a
