use Rattle.std.proofs.Common.{◌≡◌, length}
use Rattle.gu_model.specs.TypingContext.{matches}
use Rattle.gu_valid_code.proofs.control.matches.Given as goal

abbrev pub invariant-pairs : goal.invariant-pairs
invariant-pairs l = matches l.env.types.now l.left l.wants ≡ matches l.env.types.now l.below l.above

abbrev pub decreases-pairs : goal.decreases-pairs
decreases-pairs l = length l.left
