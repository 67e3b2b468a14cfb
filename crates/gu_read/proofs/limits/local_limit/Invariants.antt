use Rattle.std.proofs.Common.{◌≡◌, ◌≤◌, ◌*◌, take, map}
use Rattle.std.specs.Prelude.{sum_by}
use Rattle.gu_read.specs.Limits.{locals_of}
use Rattle.gu_read.specs.Rows.{capped}
use Rattle.gu_read.proofs.limits.local_limit.Given as goal

abbrev pub invariant-funcs : goal.invariant-funcs
invariant-funcs l = record {
  counts : l.counts.items ≡ map (λ f. capped (locals_of f)) (take l.func-index l.funcs);
  total : l.total ≡ sum_by (λ f. capped (locals_of f)) (take l.func-index l.funcs);
  few : l.total ≤ 50001 * l.func-index;
}
