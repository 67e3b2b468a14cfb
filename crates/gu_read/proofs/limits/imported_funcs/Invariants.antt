use Rattle.std.proofs.Common.{◌≡◌, ◌≤◌, take}
use Rattle.std.specs.Prelude.{count_by}
use Rattle.gu_read.specs.Limits.{is_func}
use Rattle.gu_read.proofs.limits.imported_funcs.Given as goal

abbrev pub invariant-imports : goal.invariant-imports
invariant-imports l = record {
  counted : l.count ≡ count_by (λ i. is_func i.desc) (take l.import-index l.imports);
  few : l.count ≤ l.import-index;
}
