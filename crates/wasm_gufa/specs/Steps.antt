-- What the steps of the program answer.
use Rattle.std.specs.Prelude.{ℕ, ◌≡◌, ◌≤◌, List, length, Option, Result, Ok, Err}
use Rattle.gu_syntax.specs.declared.module.Module.{Module}
use Rattle.gu_syntax.specs.Encoding.{encoding}
use Rattle.gu_model.specs.Cut.{cut_module}
use Rattle.gu_report.specs.declared.status.Status.{Status}
use Rattle.gu_report.specs.declared.status.Status.TheVariants as S
use Rattle.wasm_gufa.specs.Answers.{most_written, Accepts, Optimises, BreaksOff, AsksFor}

-- a refusal is what the bytes ask for, or memory was refused
abbrev pub Blames : List ℕ → Status → Type 0
Blames bytes S.Done = ⊥
Blames bytes S.NoMemory = Unit {0}
Blames bytes status = AsksFor bytes status

-- the text is the least text, without dead tails, of the valid module within the limits that the bytes spell
pub record Makes (bytes text : List ℕ) : Type 0 where
  pub m : Module
  pub accepted : Accepts bytes m
  pub made : text ≡ encoding (cut_module m)
  pub short : length text ≤ most_written

-- a refusal that comes while the input is read, or because of what was read
abbrev pub IsEarly : Status → Type 0
IsEarly S.Done = ⊥
IsEarly S.Usage = ⊥
IsEarly S.WriteFault = ⊥
IsEarly _ = Unit {0}

-- a refusal that comes while a module is written and put
abbrev pub IsLate : Status → Type 0
IsLate S.WriteFault = Unit {0}
IsLate S.NoMemory = Unit {0}
IsLate (S.Limit _ _) = Unit {0}
IsLate _ = ⊥

-- the status of a run
abbrev pub of_run : Result (Unit {0}) Status → Status
of_run (Ok x) = S.Done
of_run (Err status) = status

-- what a status says of the bytes of the source and of what was put
abbrev pub Says : Status → (bytes : List ℕ) → (before after : Option (List ℕ)) → Type 0
Says S.Done bytes before after = Optimises bytes before after
Says S.WriteFault bytes before after = BreaksOff bytes before after
Says S.Usage bytes before after = Unit {0}
Says S.ReadFault bytes before after = Unit {0}
Says S.NoMemory bytes before after = Unit {0}
Says status bytes before after = AsksFor bytes status
