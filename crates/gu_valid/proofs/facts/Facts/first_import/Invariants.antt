use Rattle.gu_model.specs.Valid.{EachBelow, ImportHolds}
use Rattle.gu_valid.proofs.facts.Facts.first_import.Given as goal

abbrev pub invariant-loop-number : goal.invariant-loop-number
invariant-loop-number l = EachBelow l.number (ImportHolds l.self.module.now)
