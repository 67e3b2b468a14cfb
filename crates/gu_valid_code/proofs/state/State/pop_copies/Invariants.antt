use Rattle.std.proofs.Common.{◌≡◌, replicate}
use Rattle.gu_model.specs.TypingShape.{pops_down}
use Rattle.gu_valid_code.proofs.state.State.pop_copies.Given as goal

abbrev pub invariant-copies : goal.invariant-copies
invariant-copies l = pops_down l.env.types.now (replicate l.left l.want) l.self ≡ pops_down l.env.types.now (replicate l.count l.want) l.initial.self

abbrev pub decreases-copies : goal.decreases-copies
decreases-copies l = l.left
