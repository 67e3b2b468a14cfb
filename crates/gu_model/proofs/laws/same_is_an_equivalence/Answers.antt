use Rattle.gu_model.proofs.Sames.{same_is_an_equivalence, same_steps_is_an_equivalence, same_steps_is_same}
use Rattle.gu_model.proofs.laws.same_is_an_equivalence.Goals as goal

pub returns-clause-same : goal.returns-clause-same
returns-clause-same c = same_is_an_equivalence

pub returns-clause-same_steps : goal.returns-clause-same_steps
returns-clause-same_steps c = same_steps_is_an_equivalence

pub returns-clause-stronger : goal.returns-clause-stronger
returns-clause-stronger c = same_steps_is_same
