use Rattle.std.proofs.Common.{◌≡◌, map, drop}
use Rattle.std.specs.List.{list_any}
use Rattle.gu_model.specs.ValidContext.{needs_count_body}
use Rattle.gu_valid.proofs.needs.any_needs.Given as goal

abbrev pub invariant-loop-body : goal.invariant-loop-body
invariant-loop-body l = list_any needs_count_body (map (λ b. b.now) (drop l.body-index l.bodies)) ≡ list_any needs_count_body (map (λ b. b.now) l.bodies)
