use Rattle.gu_model.specs.Valid.{EachBelow, TableHolds}
use Rattle.gu_valid.proofs.facts.Facts.first_table.Given as goal

abbrev pub invariant-loop-number : goal.invariant-loop-number
invariant-loop-number l = EachBelow l.number (TableHolds l.self.module.now)
