use Rattle.std.proofs.Common.{◌≡◌, ◌++◌, replicate}
use Rattle.gu_valid_code.proofs.locals.push_types.Given as goal

abbrev pub invariant-copies : goal.invariant-copies
invariant-copies l = l.types.items ++ replicate l.left l.ty ≡ l.initial.types.items ++ replicate l.count l.ty

abbrev pub decreases-copies : goal.decreases-copies
decreases-copies l = l.left
