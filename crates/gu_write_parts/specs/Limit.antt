-- When a text is not written for its length.
use Rattle.std.specs.Prelude.{ℕ, ◌+◌, ◌<◌, ◌≡◌, List, length}
use Rattle.gu_write_parts.specs.declared.error.WriteErr.{WriteErr}
use Rattle.gu_write_parts.specs.declared.error.WriteErr.TheVariants.{TooLong}

-- an error that names the limit comes only for a text of more than 2 ^ 28 bytes
abbrev pub BlamesLength : (text : List ℕ) → WriteErr → Type 0
BlamesLength text error = error ≡ TooLong → 268435456 < length text

-- an error that names the limit comes only where the text, behind what is already there, ends past 2 ^ 28 bytes
abbrev pub BlamesEnd : (old text : List ℕ) → WriteErr → Type 0
BlamesEnd old text error = error ≡ TooLong → 268435456 < length old + length text
