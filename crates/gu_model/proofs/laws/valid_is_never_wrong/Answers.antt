use Rattle.gu_model.proofs.Parts.{never_wrong}
use Rattle.gu_model.proofs.laws.valid_is_never_wrong.Goals as goal

pub returns : goal.returns
returns c = λ m script steps valid. never_wrong m valid script steps
