use Rattle.std.proofs.Common.{◌≡◌, drop}
use Rattle.std.specs.List.{list_all}
use Rattle.gu_model.specs.Valid.{is_function}
use Rattle.gu_valid.proofs.facts.Facts.are_functions.Given as goal

abbrev pub invariant-loop-func : goal.invariant-loop-func
invariant-loop-func l = list_all (is_function l.self.module.now) (drop l.func-index l.funcs) ≡ list_all (is_function l.self.module.now) l.funcs
