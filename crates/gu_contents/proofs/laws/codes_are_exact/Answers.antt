use Rattle.gu_contents.proofs.Coded.{codes_exact}
use Rattle.gu_contents.proofs.laws.codes_are_exact.Goals as goal

pub returns : goal.returns
returns c = codes_exact
