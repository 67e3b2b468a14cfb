use Rattle.gu_model.proofs.More.{traces_grow, levels_suffice}
use Rattle.gu_model.proofs.laws.traces_grow.Goals as goal

pub returns-clause-grow : goal.returns-clause-grow
returns-clause-grow c = traces_grow

pub returns-clause-levels : goal.returns-clause-levels
returns-clause-levels c = levels_suffice
