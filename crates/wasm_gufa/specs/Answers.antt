-- What the answers of the program say of the bytes that it read and of what it put.
use Rattle.std.specs.Prelude.{ℕ, ◌≡◌, ◌<◌, ◌≤◌, ◌⊎◌, List, length, Option, Some, None}
use Rattle.gu_outside.specs.Outside.{Appended, PrefixAdded}
use Rattle.gu_syntax.specs.declared.module.Module.{Module}
use Rattle.gu_syntax.specs.Module.{Spells}
use Rattle.gu_syntax.specs.Encoding.{encoding}
use Rattle.gu_syntax.specs.Nesting.{IsShallow}
use Rattle.gu_syntax.specs.Due as due
use Rattle.gu_read_parts.specs.declared.answer.Which.{Which}
use Rattle.gu_read_parts.specs.declared.answer.Which.TheVariants as W
use Rattle.gu_read.specs.ReadsModule.{Reads, Exceeds, most_bytes}
use Rattle.gu_model.specs.declared.part.Part.{Part}
use Rattle.gu_model.specs.Valid.{Valid}
use Rattle.gu_model.specs.ValidFailure.{IsFirstFailure}
use Rattle.gu_model.specs.Cut.{cut_module}
use Rattle.gu_model.specs.Same.{Same, SameSteps}
use Rattle.gu_report.specs.declared.status.Status.{Status}
use Rattle.gu_report.specs.declared.status.Status.TheVariants as S

-- the most bytes that are written
abbrev pub most_written : ℕ
most_written = 268435456

-- the bytes spell a module within the limits, and it is valid
pub record Accepts (bytes : List ℕ) (m : Module) : Type 0 where
  pub read : Reads bytes m
  pub valid : Valid m

-- the bytes spell a valid module within the limits, and what was put behind what the sink held is the least text of
-- that module without dead tails. That text spells that module and no other, the module is valid, and no embedder can
-- tell it from the module that was read, in as many steps
pub record Optimises (bytes : List ℕ) (before after : Option (List ℕ)) : Type 0 where
  pub m : Module
  pub accepted : Accepts bytes m
  pub written : Appended before after (encoding (cut_module m))
  pub short : length (encoding (cut_module m)) ≤ most_written
  pub text_spells : Spells (encoding (cut_module m)) (cut_module m)
  pub text_spells_only : (n : Module) → Spells (encoding (cut_module m)) n → n ≡ cut_module m
  pub stays_valid : Valid (cut_module m)
  pub same_steps : SameSteps m (cut_module m)
  pub same : Same m (cut_module m)

-- the bytes spell a valid module within the limits, and a beginning of the least text of that module without dead
-- tails was put behind what the sink held
pub record BreaksOff (bytes : List ℕ) (before after : Option (List ℕ)) : Type 0 where
  pub m : Module
  pub accepted : Accepts bytes m
  pub written : PrefixAdded before after (encoding (cut_module m))

-- there is a module: the one that the bytes spell, which is valid and within the limits, without dead tails
abbrev pub Keeps : (bytes : List ℕ) → (kept : Option Module) → Type 0
Keeps bytes None = ⊥
Keeps bytes (Some kept) = (m : Module) × Accepts bytes m × (kept ≡ cut_module m)

-- the bytes spell no module of the profile: read from the left, what the grammar asks at this place does not stand
-- there, and no code of the standard that is left out of the profile stands in its place
pub record IsMalformed (bytes : List ℕ) (at : ℕ) : Type 0 where
  pub short : length bytes ≤ most_bytes
  pub due : due.IsMalformed bytes at
  pub unspelled : (m : Module) → Spells bytes m → ⊥

-- the same, and this code of the standard stands in its place
pub record IsOutside (bytes : List ℕ) (at code : ℕ) : Type 0 where
  pub short : length bytes ≤ most_bytes
  pub due : due.IsOutside bytes at code
  pub unspelled : (m : Module) → Spells bytes m → ⊥

-- the bytes spell a module within the limits, and this is its first part that fails
pub record IsInvalid (bytes : List ℕ) (part : Part) : Type 0 where
  pub m : Module
  pub read : Reads bytes m
  pub first : IsFirstFailure m part

-- the bytes spell no module in which at most 1,000 blocks are open at once: read from the left, a block is opened at
-- this place where 1,000 are open
pub record IsTooDeep (bytes : List ℕ) (at : ℕ) : Type 0 where
  pub short : length bytes ≤ most_bytes
  pub due : due.NestsTooDeep bytes at
  pub unspelled : (m : Module) → Spells bytes m → IsShallow 1000 m → ⊥

-- the bytes spell a valid module within the limits whose least text, without dead tails, is too long
pub record IsTooLong (bytes : List ℕ) : Type 0 where
  pub m : Module
  pub accepted : Accepts bytes m
  pub long : most_written < length (encoding (cut_module m))

-- a limit is exceeded, and what it is told by: the number of bytes that are allowed, the place of a block, or a count or
-- an index of the module
abbrev pub IsLimit : List ℕ → Which → ℕ → Type 0
IsLimit bytes W.Size at = (most_bytes < length bytes) × (at ≡ most_bytes)
IsLimit bytes W.Nesting at = IsTooDeep bytes at
IsLimit bytes W.Output at = IsTooLong bytes × (at ≡ most_written)
IsLimit bytes which at = (length bytes ≤ most_bytes) × Exceeds bytes which at

-- the bytes ask for this answer, where there is no word and nothing outside fails
abbrev pub AsksFor : List ℕ → Status → Type 0
AsksFor bytes S.Done = (m : Module) × Accepts bytes m × (length (encoding (cut_module m)) ≤ most_written)
AsksFor bytes (S.Malformed at) = IsMalformed bytes at
AsksFor bytes (S.OutOfProfile at code) = IsOutside bytes at code
AsksFor bytes (S.Invalid part) = IsInvalid bytes part
AsksFor bytes (S.Limit which at) = IsLimit bytes which at
AsksFor bytes _ = ⊥

-- whatever answer the bytes ask for comes, unless memory was refused
abbrev pub IsDue : List ℕ → Status → Type 0
IsDue bytes status = (want : Status) → AsksFor bytes want → (status ≡ want) ⊎ (status ≡ S.NoMemory)

-- facts for one status
abbrev pub IfMalformed : Status → (ℕ → Type 0) → Type 0
IfMalformed (S.Malformed at) P = P at
IfMalformed _ P = Unit {0}

abbrev pub IfOutOfProfile : Status → (ℕ → ℕ → Type 0) → Type 0
IfOutOfProfile (S.OutOfProfile at code) P = P at code
IfOutOfProfile _ P = Unit {0}

abbrev pub IfInvalid : Status → (Part → Type 0) → Type 0
IfInvalid (S.Invalid part) P = P part
IfInvalid _ P = Unit {0}

abbrev pub IfLimit : Status → (Which → ℕ → Type 0) → Type 0
IfLimit (S.Limit which at) P = P which at
IfLimit _ P = Unit {0}
