use Rattle.std.proofs.Common.{rules}
use Rattle.gu_optab.proofs.Rows.{found, missing}
use Rattle.gu_optab.proofs.table.op_of.Goals as goal

pub returns-clause-found : goal.returns-clause-found
returns-clause-found c = found c.args.code _ (search rules)

pub returns-clause-none : goal.returns-clause-none
returns-clause-none c = missing c.args.code _ (search rules)
