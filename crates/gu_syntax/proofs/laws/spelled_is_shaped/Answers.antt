use Rattle.gu_syntax.proofs.Shaped.{spelled_shaped}
use Rattle.gu_syntax.proofs.laws.spelled_is_shaped.Goals as goal

pub returns : goal.returns
returns c = spelled_shaped
