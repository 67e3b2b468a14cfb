use Rattle.gu_syntax.proofs.Alone.{groups_again, groups_taken, groups_refused, groups_inside}
use Rattle.gu_syntax.proofs.laws.type_sections_are_read.Goals as goal

pub returns : goal.returns
returns c = record { again = groups_again; taken = groups_taken; refused = groups_refused; inside = groups_inside }
