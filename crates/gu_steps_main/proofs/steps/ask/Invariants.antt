use Rattle.std.proofs.Common.{◌≤◌}
use Rattle.gu_steps_main.proofs.steps.ask.Given as goal

abbrev pub invariant-queries : goal.invariant-queries
invariant-queries l = l.below ≤ l.counter
