use Rattle.std.proofs.Common.{◌≡◌, ◌++◌, map, drop}
use Rattle.gu_valid.proofs.constants.push_bodies.Given as goal

abbrev pub invariant-loop-body : goal.invariant-loop-body
invariant-loop-body l =
    map (λ b. b.now) l.found.items ++ drop l.body-index l.bodies ≡ map (λ b. b.now) l.initial.found.items ++ l.bodies
