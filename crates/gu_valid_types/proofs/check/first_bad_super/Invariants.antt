use Rattle.std.proofs.Common.{◌≡◌, ℕ, ◌<◌, true}
use Rattle.gu_rec.specs.Validity.{supers_hold_at}
use Rattle.gu_valid_types.proofs.check.first_bad_super.Given as goal

abbrev pub invariant-loop-i : goal.invariant-loop-i
invariant-loop-i l = (j : ℕ) → j < l.i → supers_hold_at l.types j ≡ true
