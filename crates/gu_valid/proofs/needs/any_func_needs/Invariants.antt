use Rattle.std.proofs.Common.{◌≡◌, map, drop}
use Rattle.std.specs.List.{list_any}
use Rattle.gu_model.specs.ValidContext.{body_of, needs_count_body}
use Rattle.gu_valid.proofs.needs.any_func_needs.Given as goal

abbrev pub invariant-loop-func : goal.invariant-loop-func
invariant-loop-func l = list_any needs_count_body (map body_of (drop l.func-index l.funcs)) ≡ list_any needs_count_body (map body_of l.funcs)
