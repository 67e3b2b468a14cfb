use Rattle.std.proofs.Common.{◌≡◌, map, drop}
use Rattle.gu_model.specs.ValidContext.{marked, named_by_bodies}
use Rattle.gu_valid.proofs.declared.mark_bodies.Given as goal

abbrev pub invariant-loop-body : goal.invariant-loop-body
invariant-loop-body l = marked (named_by_bodies (map (λ b. b.now) (drop l.body-index l.bodies))) l.flags ≡ marked (named_by_bodies (map (λ b. b.now) l.bodies)) l.initial.flags
