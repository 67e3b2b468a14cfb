use Rattle.std.proofs.lemmas.Int.{quot-rem, rem_below}
use Rattle.gu_num.proofs.laws.quotients_and_remainders.Goals as goal

pub returns : goal.returns
returns c = λ z d above. (quot-rem z d, rem_below z d above)
