use Rattle.std.proofs.Common.{◌≡◌, ◌++◌, drop, map, true}
use Rattle.gu_valid_code.proofs.locals.set_params.Given as goal

abbrev pub invariant-loop-param : goal.invariant-loop-param
invariant-loop-param l = l.set.items ++ map (λ p. true) (drop l._param-index l.params) ≡ l.initial.set.items ++ map (λ p. true) l.params
