-- What the reader of modules answers (core specification 3.0, 5.5 Modules).
use Rattle.std.specs.Prelude.{ℕ, ◌≡◌, ◌≤◌, ◌<◌, List, length, Some, None}
use Rattle.gu_syntax.specs.declared.module.Module.{Module}
use Rattle.gu_syntax.specs.Module.{Spells}
use Rattle.gu_syntax.specs.Shape.{IsShaped}
use Rattle.gu_syntax.specs.Nesting.{IsShallow}
use Rattle.gu_syntax.specs.Due.{IsMalformed, IsOutside, NestsTooDeep}
use Rattle.gu_read_parts.specs.declared.answer.ReadErr.{ReadErr}
use Rattle.gu_read_parts.specs.declared.answer.ReadErr.TheVariants as E
use Rattle.gu_read_parts.specs.declared.answer.Which.{Which}
use Rattle.gu_read_parts.specs.declared.answer.Which.TheVariants as W
use Rattle.gu_read.specs.Limits.{exceeded}

-- the greatest number of bytes that are read
abbrev pub most_bytes : ℕ
most_bytes = 16777216

-- a module that the tree can hold and that exceeds no limit: at most 1,000 blocks are open at once in a body or a constant
-- expression, and each count is small enough
pub record IsWithin (m : Module) : Type 0 where
  pub shaped : IsShaped m
  pub shallow : IsShallow 1000 m
  pub counted : exceeded m ≡ None

-- the bytes are few enough, spell the module, and it is within the limits
pub record Reads (text : List ℕ) (m : Module) : Type 0 where
  pub short : length text ≤ most_bytes
  pub spelled : Spells text m
  pub within : IsWithin m

-- the bytes spell a module that nests at most 1,000 deep, and this is the first limit that it exceeds
pub record Exceeds (text : List ℕ) (which : Which) (at : ℕ) : Type 0 where
  pub «module» : Module
  pub spelled : Spells text «module»
  pub shallow : IsShallow 1000 «module»
  pub first : exceeded «module» ≡ Some (which, at)

-- the limit is exceeded, and what is answered with it says where
abbrev pub IsLimit : List ℕ → Which → ℕ → Type 0
IsLimit text W.Size at = (most_bytes < length text) × (at ≡ most_bytes)
IsLimit text W.Nesting at = (length text ≤ most_bytes) × NestsTooDeep text at
IsLimit text W.Output at = ⊥
IsLimit text which at = (length text ≤ most_bytes) × Exceeds text which at

-- why nothing is read. Of want of memory nothing is said
abbrev pub Refused : List ℕ → ReadErr → Type 0
Refused text (E.Malformed place) = (length text ≤ most_bytes) × IsMalformed text place
Refused text (E.OutOfProfile place code) = (length text ≤ most_bytes) × IsOutside text place code
Refused text (E.Limit which at) = IsLimit text which at
Refused text E.NoMemory = Unit {0}
