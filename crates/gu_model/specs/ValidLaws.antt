-- What holds of validity.
use Rattle.std.specs.Prelude.{◌≡◌}
use Rattle.gu_syntax.specs.declared.module.Module.{Module}
use Rattle.gu_model.specs.declared.part.Part.{Part}
use Rattle.gu_model.specs.Valid.{Valid}
use Rattle.gu_model.specs.ValidFailure.{IsFirstFailure}

-- a module has one first part that fails at most
abbrev pub FailureIsOne : Type 0
FailureIsOne = (m : Module) (p q : Part) → IsFirstFailure m p → IsFirstFailure m q → p ≡ q

-- and none where it is valid
abbrev pub ValidHasNone : Type 0
ValidHasNone = (m : Module) (p : Part) → Valid m → IsFirstFailure m p → ⊥
