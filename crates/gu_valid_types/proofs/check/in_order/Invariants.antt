use Rattle.std.proofs.Common.{◌≡◌, ◌++◌, map, take}
use Rattle.gu_types.specs.Depth.{types_in}
use Rattle.gu_valid_types.proofs.check.in_order.Given as goal

abbrev pub invariant-loop-group : goal.invariant-loop-group
invariant-loop-group l = map (λ ty. ty.now) l.flat.items ≡ types_in (take l.group-index l.groups)

abbrev pub invariant-loop-ty : goal.invariant-loop-ty
invariant-loop-ty l = map (λ ty. ty.now) l.flat.items ≡ types_in (take l.group-index l.groups) ++ take l.ty-index l.types
