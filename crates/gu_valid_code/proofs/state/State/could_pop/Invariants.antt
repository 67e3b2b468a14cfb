use Rattle.std.proofs.Common.{◌≡◌, length, is_some, map, reverse}
use Rattle.gu_model.specs.TypingShape.{pops}
use Rattle.gu_valid_code.specs.State.{kind_of}
use Rattle.gu_valid_code.proofs.state.State.could_pop.Given as goal

abbrev pub invariant-wants : goal.invariant-wants
invariant-wants l =
    is_some (pops l.env.types.now l.left (record l.self { types = map kind_of (reverse l.operands) })) ≡ is_some (pops l.env.types.now l.wants l.self)

abbrev pub decreases-wants : goal.decreases-wants
decreases-wants l = length l.left
