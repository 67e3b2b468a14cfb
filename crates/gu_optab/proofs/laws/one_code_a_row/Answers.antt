use Rattle.gu_optab.proofs.Rows.{distinct, of_rows}
use Rattle.gu_optab.proofs.laws.one_code_a_row.Goals as goal

pub returns : goal.returns
returns c = record { distinct = distinct; of_rows = of_rows }
