use Rattle.std.proofs.Common.{sym, arith}
use Rattle.gu_optab.proofs.Rows.{widenings, extensions, before_tests, before_arithmetic, before_widenings, before_extensions, behind_extensions}
use Rattle.gu_optab.proofs.table.row_with.Goals as goal

pub returns-in-172-to-173 : goal.returns-in-172-to-173
returns-in-172-to-173 c = sym (widenings c.args.code (omega arith) (omega arith))

pub returns-in-192-to-196 : goal.returns-in-192-to-196
returns-in-192-to-196 c = sym (extensions c.args.code (omega arith) (omega arith))

pub returns-in_default : goal.returns-in_default
returns-in_default c = sym (before_tests c.args.code (omega arith))

pub returns-in_default-2 : goal.returns-in_default-2
returns-in_default-2 c = sym (before_arithmetic c.args.code (omega arith) (omega arith))

pub returns-in_default-3 : goal.returns-in_default-3
returns-in_default-3 c = sym (before_widenings c.args.code (omega arith) (omega arith) (omega arith))

pub returns-in_default-4 : goal.returns-in_default-4
returns-in_default-4 c = sym (before_extensions c.args.code (omega arith) (omega arith))

pub returns-in_default-5 : goal.returns-in_default-5
returns-in_default-5 c = sym (behind_extensions c.args.code (omega arith) (omega arith))
