use Rattle.std.proofs.Common.{refl}
use Rattle.gu_optab.specs.declared.table.TheConstants.{ROWS}
use Rattle.gu_optab.specs.declared.table.Row.{Row}
use Rattle.gu_optab.specs.declared.op.NumType.TheVariants.{I32}
use Rattle.gu_optab.specs.Operators.{row}
use Rattle.gu_optab.proofs.Rows.{row_at-rows}
use Rattle.gu_optab.proofs.table.row_of.Goals as goal

-- reads past the end, of which there are none
past : Row
past = record { code = 0; operand_count = 0; operand_type = I32; result_type = I32 }

pub returns : goal.returns
unfolding past
returns c = row_at-rows (λ (r : Row). row r.code r.operand_count r.operand_type r.result_type) ROWS c.args.op.row c.from.result past refl c.from.ensures c.requires
