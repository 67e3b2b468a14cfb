use Rattle.std.proofs.Common.{arith}
use Rattle.gu_read.proofs.Counting.{above_found, above_none}
use Rattle.gu_read.proofs.limits.first_above_in.Goals as goal

pub returns-then-most-numbers : goal.returns-then-most-numbers
returns-then-most-numbers c = above_found c.args.most c.args.numbers.now c.numbers.index c.numbers-test.true c.numbers.invariant c.if-most-numbers.true

pub returns : goal.returns
returns c = above_none c.args.most c.args.numbers.now (λ k below. c.numbers.invariant k (omega (arith, below, c.numbers-test.false)))
