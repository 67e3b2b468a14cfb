use Rattle.std.proofs.Common.{sym, subst}
use Rattle.gu_model.specs.Valid.{Valid}
use Rattle.gu_model.proofs.CutValid.{cut_is_valid}
use Rattle.gu_body.proofs.cut.cut_module.Goals as goal

pub new-requires-clause-valid : goal.new-requires-clause-valid
new-requires-clause-valid c = subst Valid (sym c.cut_bodies.ensures) (cut_is_valid _ c.into_module-module.ensures.valid)
