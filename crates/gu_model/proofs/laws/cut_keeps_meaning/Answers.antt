use Rattle.gu_model.proofs.Cuts.{cut_is_same}
use Rattle.gu_model.proofs.CutValid.{cut_is_valid}
use Rattle.gu_model.proofs.laws.cut_keeps_meaning.Goals as goal

pub returns-clause-same : goal.returns-clause-same
returns-clause-same c = cut_is_same

pub returns-clause-valid : goal.returns-clause-valid
returns-clause-valid c = cut_is_valid
