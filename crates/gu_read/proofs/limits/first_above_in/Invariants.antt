use Rattle.std.proofs.Common.{◌≡◌, ◌<◌, ℕ, nat_lt, false}
use Rattle.std.proofs.Common.{get_or}
use Rattle.gu_read.proofs.limits.first_above_in.Given as goal

abbrev pub invariant-numbers : goal.invariant-numbers
invariant-numbers l = (k : ℕ) → k < l.index → nat_lt l.most (get_or l.numbers k 0) ≡ false
