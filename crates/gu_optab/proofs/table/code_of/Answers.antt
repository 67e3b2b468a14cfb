use Rattle.std.proofs.Common.{sym, subst, ◌≡◌, Some}
use Rattle.gu_optab.specs.Operators.{operator_with}
use Rattle.gu_optab.proofs.Rows.{distinct}
use Rattle.gu_optab.proofs.table.code_of.Goals as goal

pub returns-clause-back : goal.returns-clause-back
returns-clause-back c = subst (λ o. operator_with o.code ≡ Some c.args.op) (sym c.row_of.ensures) (distinct c.args.op c.requires.row)
