use Rattle.std.proofs.Common.{◌≡◌, ◌≤◌, take}
use Rattle.std.specs.Prelude.{sum_by}
use Rattle.gu_read.proofs.weighed.locals_up_to.Given as goal

abbrev pub invariant-runs : goal.invariant-runs
invariant-runs l = record {
  counted : l.count ≡ sum_by (λ run. run.0) (take l.run-index l.runs);
  few : l.count ≤ 50000;
}
