use Rattle.std.proofs.Common.{◌≡◌, drop}
use Rattle.std.specs.List.{list_all}
use Rattle.gu_model.specs.Typing.{valid_run}
use Rattle.gu_valid_code.specs.Env.{context_of}
use Rattle.gu_valid_code.proofs.locals.are_valid.Given as goal

abbrev pub invariant-loop-run : goal.invariant-loop-run
invariant-loop-run l = list_all (valid_run (context_of l.env)) (drop l.run-index l.runs) ≡ list_all (valid_run (context_of l.env)) l.runs
