use Rattle.gu_contents.proofs.Heights.{least_exact}
use Rattle.gu_contents.proofs.Common.{common_exact}
use Rattle.gu_contents.proofs.laws.names_are_exact.Goals as goal

pub returns-clause-least : goal.returns-clause-least
returns-clause-least c = least_exact

pub returns-clause-common : goal.returns-clause-common
returns-clause-common c = common_exact
