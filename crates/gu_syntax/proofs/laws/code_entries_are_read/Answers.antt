use Rattle.gu_syntax.proofs.Alone.{entry_again, entry_shallow, entry_taken, entry_refused, entry_inside}
use Rattle.gu_syntax.proofs.Nested.{entry_nests}
use Rattle.gu_syntax.proofs.laws.code_entries_are_read.Goals as goal

pub returns : goal.returns
returns c = record { again = entry_again; shallow = entry_shallow; taken = entry_taken; nests = entry_nests; refused = entry_refused; inside = entry_inside }
