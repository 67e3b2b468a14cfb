-- What holds of runs and traces, of every module.
use Rattle.std.specs.Prelude.{ℕ, ◌≤◌, ◌≡◌, ◌≢◌}
use Rattle.gu_syntax.specs.declared.module.Module.{Module}
use Rattle.gu_model.specs.Script.{Script, Begins}
use Rattle.gu_model.specs.State.{wrong}
use Rattle.gu_model.specs.Control.{Level}
use Rattle.gu_model.specs.Play.{played_over, played, trace}
use Rattle.gu_model.specs.Valid.{Valid}
use Rattle.gu_model.specs.Cut.{cut_module}
use Rattle.gu_model.specs.Same.{Same, SameSteps}

-- more steps show what fewer steps show, and perhaps more
abbrev pub TracesGrow : Type 0
TracesGrow = (m : Module) (script : Script) (fewer more : ℕ) → fewer ≤ more → Begins (trace m script fewer) (trace m script more)

-- the level below as many levels as there are steps is never asked: whatever stands there, the outcome is the same
abbrev pub LevelsSuffice : Type 0
LevelsSuffice = (low : Level) (m : Module) (script : Script) (steps : ℕ) → played_over low m script steps ≡ played m script steps

-- a module is the same as itself; sameness goes both ways, and from one to the next
pub record IsEquivalence (R : Module → Module → Type 0) : Type 0 where
  pub reflexive : (m : Module) → R m m
  pub symmetric : (m n : Module) → R m n → R n m
  pub transitive : (m n o : Module) → R m n → R n o → R m o

abbrev pub SameStepsIsSame : Type 0
SameStepsIsSame = (m n : Module) → SameSteps m n → Same m n

-- no run of a valid module lacks an operand, a local or what an index names, or has one of another kind than an
-- instruction needs (appendix, Soundness)
abbrev pub NeverWrong : Type 0
NeverWrong = (m : Module) (script : Script) (steps : ℕ) → Valid m → (played m script steps).how ≢ wrong

-- what follows an unconditional branch shows nothing
abbrev pub CutIsSame : Type 0
CutIsSame = (m : Module) → SameSteps m (cut_module m)

-- a valid module stays valid without it
abbrev pub CutIsValid : Type 0
CutIsValid = (m : Module) → Valid m → Valid (cut_module m)
