use Rattle.std.proofs.Common.{◌≡◌, ◌++◌, map, drop}
use Rattle.gu_valid.proofs.kinds.push_kinds.Given as goal

abbrev pub invariant-loop-ty : goal.invariant-loop-ty
invariant-loop-ty l =
    map (λ ty. ty.now) l.kinds.items ++ drop l.ty-index l.group ≡ map (λ ty. ty.now) l.initial.kinds.items ++ l.group
