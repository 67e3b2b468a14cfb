use Rattle.std.proofs.Common.{◌≡◌, ◌++◌}
use Rattle.gu_rec.specs.Keys.{run}
use Rattle.gu_rec.proofs.key.push_run.Given as goal

abbrev pub invariant-loop-k : goal.invariant-loop-k
invariant-loop-k l = l.numbers.items ≡ l.fn.numbers.items ++ run l.first l.k
