-- What holds of a module that is known to be valid.
use Rattle.std.specs.Prelude.{ℕ, ◌≤◌}
use Rattle.gu_types.specs.Depth.{types_of, depth}
use Rattle.gu_syntax.specs.declared.module.Module.{Module}
use Rattle.gu_model.specs.Valid.{Valid}

-- it is valid (core specification 3.0, 3.5 Modules), and no type has more than 63 supertypes above it
pub record IsValidModule (m : Module) : Type 0 where
  pub valid : Valid m
  pub shallow : (i : ℕ) → depth (types_of m.types) i ≤ 63
