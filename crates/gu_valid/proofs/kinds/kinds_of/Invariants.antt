use Rattle.std.proofs.Common.{◌≡◌, ◌++◌, map, drop}
use Rattle.gu_types.specs.Depth.{types_in}
use Rattle.gu_valid.proofs.kinds.kinds_of.Given as goal

abbrev pub invariant-loop-group : goal.invariant-loop-group
invariant-loop-group l = map (λ ty. ty.now) l.kinds.items ++ types_in (drop l.group-index l.groups) ≡ types_in l.groups
