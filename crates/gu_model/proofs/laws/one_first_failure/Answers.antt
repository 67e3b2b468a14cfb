use Rattle.gu_model.proofs.Failures.{failure_is_one, valid_has_none}
use Rattle.gu_model.proofs.laws.one_first_failure.Goals as goal

pub returns-clause-one : goal.returns-clause-one
returns-clause-one c = failure_is_one

pub returns-clause-none : goal.returns-clause-none
returns-clause-none c = valid_has_none
