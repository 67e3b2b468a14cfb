use Rattle.std.proofs.Common.{◌≡◌, ◌++◌, drop, map}
use Rattle.gu_model.specs.Typing.{spread}
use Rattle.gu_model.specs.TypingContext.{has_default}
use Rattle.gu_valid_code.proofs.locals.set_defaults.Given as goal

abbrev pub invariant-loop-run : goal.invariant-loop-run
invariant-loop-run l = l.set.items ++ map has_default (spread (drop l.run-index l.runs)) ≡ l.initial.set.items ++ map has_default (spread l.runs)
