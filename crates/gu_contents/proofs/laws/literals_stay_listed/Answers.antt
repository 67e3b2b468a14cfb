use Rattle.gu_contents.proofs.Listed.{answers_listed}
use Rattle.gu_contents.proofs.laws.literals_stay_listed.Goals as goal

pub returns : goal.returns
returns c = answers_listed
