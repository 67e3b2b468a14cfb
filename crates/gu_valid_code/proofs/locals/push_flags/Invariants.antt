use Rattle.std.proofs.Common.{◌≡◌, ◌++◌, replicate}
use Rattle.gu_valid_code.proofs.locals.push_flags.Given as goal

abbrev pub invariant-copies : goal.invariant-copies
invariant-copies l = l.flags.items ++ replicate l.left l.flag ≡ l.initial.flags.items ++ replicate l.count l.flag

abbrev pub decreases-copies : goal.decreases-copies
decreases-copies l = l.left
