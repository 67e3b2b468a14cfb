use Rattle.std.proofs.Common.{◌≡◌, ◌++◌, drop}
use Rattle.gu_model.specs.Typing.{spread}
use Rattle.gu_valid_code.proofs.locals.declare.Given as goal

abbrev pub invariant-loop-run : goal.invariant-loop-run
invariant-loop-run l = l.types.items ++ spread (drop l.run-index l.runs) ≡ l.initial.types.items ++ spread l.runs
