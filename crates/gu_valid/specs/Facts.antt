-- What is known of a module while its parts are checked.
use Rattle.std.specs.Prelude.{Bool, not, ◌&&◌, ◌≡◌, ◌<◌, ◌^◌, map}
use Rattle.std.specs.List.{list_any}
use Rattle.gu_types.specs.Depth.{types_of}
use Rattle.gu_syntax.specs.declared.module.Module.{Module}
use Rattle.gu_model.specs.Valid.{imported_globals}
use Rattle.gu_model.specs.ValidContext.{body_of, constants, context, needs_count_body}
use Rattle.gu_valid_code.specs.Env.{context_of}
use Rattle.gu_valid.specs.declared.facts.Facts.{Facts}
use Rattle.gu_valid.specs.Check.{IsCounted}

-- what is at hand is that of the module
pub record IsFacts (f : Facts) : Type 0 where
  pub small : IsCounted f.module.now
  pub kinds : map (λ ty. ty.now) f.kinds.items ≡ types_of f.module.now.types
  pub imported : f.imported_globals ≡ imported_globals f.module.now
  pub few : f.imported_globals < 2 ^ 31
  pub constants_need : f.constants_need ≡ list_any needs_count_body (constants f.module.now)
  pub context : context_of f.env ≡ context f.module.now

-- a body needs the number of data segments, which is not said before the code
abbrev pub bodies_lack_count : Module → Bool
bodies_lack_count m = not m.has_count && list_any needs_count_body (map body_of m.funcs)
