use Rattle.std.proofs.Common.{◌≡◌, length}
use Rattle.gu_model.specs.TypingShape.{pops}
use Rattle.gu_valid_code.proofs.state.State.pop_each.Given as goal

abbrev pub invariant-wants : goal.invariant-wants
invariant-wants l = pops l.env.types.now l.left l.self ≡ pops l.env.types.now l.wants l.initial.self

abbrev pub decreases-wants : goal.decreases-wants
decreases-wants l = length l.left
