use Rattle.gu_rec.proofs.Same.{same_type_decides}
use Rattle.gu_rec.proofs.Decided.{is_sub_decides}
use Rattle.gu_rec.proofs.laws.decisions_are_exact.Goals as goal

pub returns : goal.returns
returns c = record { same = same_type_decides; sub = is_sub_decides }
