-- What the steps of the work give for the bytes of a module.
use Rattle.std.specs.Prelude.{ℕ, ◌≡◌, ◌≤◌, List, length}
use Rattle.gu_types.specs.declared.types.TypeList.{TypeList}
use Rattle.gu_syntax.specs.Encoding.{encoding}
use Rattle.gu_syntax.specs.declared.module.Module.{Module}
use Rattle.gu_model.specs.Valid.{Valid}
use Rattle.gu_rec.specs.Cause.{IsCause}
use Rattle.gu_valid.specs.Check as valid
use Rattle.gu_write_parts.specs.Limit.{BlamesLength}
use Rattle.gu_read.specs.ReadsModule.{Reads, Refused}
use Rattle.gu_steps_main.specs.declared.steps.Found.{Found}
use Rattle.gu_steps_main.specs.declared.steps.Found.TheVariants as F
use Rattle.gu_steps_main.specs.declared.work.Step.{Step}
use Rattle.gu_steps_main.specs.declared.work.Step.TheVariants as S
use Rattle.gu_steps_main.specs.declared.error.StepErr.{StepErr}
use Rattle.gu_steps_main.specs.declared.error.StepErr.TheVariants.{Read, Check, Write, Types}

-- the bytes spell a module within the limits, and this holds of it
pub record ReadsSome (bytes : List ℕ) (P : Module → Type 0) : Type 0 where
  pub «module» : Module
  pub reads : Reads bytes «module»
  pub holds : P «module»

-- the text is the least spelling of the module that the bytes spell
abbrev pub Copies : (bytes text : List ℕ) → Type 0
Copies bytes text = ReadsSome bytes (λ m. text ≡ encoding m)

-- what is found for the bytes is what the step asks for
abbrev pub Finds : Step → List ℕ → Found → Type 0
Finds (S.Read times) bytes (F.Module funcs groups) = ReadsSome bytes (λ m. (funcs ≡ length m.funcs) × (groups ≡ length m.types.groups))
Finds (S.Check times) bytes F.Valid = ReadsSome bytes Valid
Finds (S.Write times) bytes (F.Length count) = ReadsSome bytes (λ m. count ≡ length (encoding m))
Finds (S.Types times) bytes (F.Below count) = count ≤ times
Finds S.Copy bytes (F.Copy text) = Copies bytes text.items
Finds step bytes found = ⊥

-- why a step was not done: the bytes are refused, or what comes after them is
abbrev pub Refuses : List ℕ → StepErr → Type 0
Refuses bytes (Read error) = Refused bytes error
Refuses bytes (Check error) = ReadsSome bytes (valid.Refuses error)
Refuses bytes (Write error) = ReadsSome bytes (λ m. BlamesLength (encoding m) error)
Refuses bytes (Types error) = ReadsSome bytes (λ m. IsCause m.types error)
