-- Powers of two, and how seven bits less change them.
use Rattle.std.proofs.Common.{ℕ, ◌+◌, ◌-◌, ◌*◌, ◌^◌, ◌<◌, ◌≤◌, ◌≡◌, ap, ◌∙◌, arith, mul_comm}
use Rattle.std.proofs.Math.Pow.{pow_mono}
use Rattle.std.proofs.lemmas.Nat.{pow-add}

seven : (n : ℕ) → 2 ^ (n + 7) ≡ 128 * 2 ^ n
seven n = pow-add 2 n 7 ∙ mul_comm (2 ^ n) (2 ^ 7)

pub seven_more : (bits : ℕ) → 7 < bits → 2 ^ bits ≡ 128 * 2 ^ (bits - 7)
seven_more bits h = ap (λ n. 2 ^ n) (let e : bits ≡ bits - 7 + 7 = omega (arith, h) in e) ∙ seven (bits - 7)

pub seven_signed : (bits : ℕ) → 7 < bits → 2 ^ (bits - 1) ≡ 128 * 2 ^ (bits - 7 - 1)
seven_signed bits h = ap (λ n. 2 ^ n) (let e : bits - 1 ≡ bits - 7 - 1 + 7 = omega (arith, h) in e) ∙ seven (bits - 7 - 1)

pub below_64 : (bits : ℕ) → bits ≤ 64 → 2 ^ bits ≤ 2 ^ 64
below_64 bits h = pow_mono h

pub below_63 : (bits : ℕ) → bits ≤ 64 → 2 ^ (bits - 1) ≤ 2 ^ 63
below_63 bits h = pow_mono (let e : bits - 1 ≤ 63 = omega (arith, h) in e)

pub at_least_7 : (bits : ℕ) → 7 ≤ bits → 128 ≤ 2 ^ bits
at_least_7 bits h = pow_mono h

pub at_least_6 : (bits : ℕ) → 7 ≤ bits → 64 ≤ 2 ^ (bits - 1)
at_least_6 bits h = pow_mono (let e : 6 ≤ bits - 1 = omega (arith, h) in e)

pub at_most_7 : (bits : ℕ) → bits ≤ 7 → 2 ^ bits ≤ 128
at_most_7 bits h = pow_mono h

pub at_most_6 : (bits : ℕ) → bits ≤ 7 → 2 ^ (bits - 1) ≤ 64
at_most_6 bits h = pow_mono (let e : bits - 1 ≤ 6 = omega (arith, h) in e)

pub ruleset powers = (seven_more, below_64, at_least_7)

pub ruleset signed_powers = (at_least_6, at_least_7)
