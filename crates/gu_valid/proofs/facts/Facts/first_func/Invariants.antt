use Rattle.gu_model.specs.Valid.{EachBelow, FuncHolds}
use Rattle.gu_valid.proofs.facts.Facts.first_func.Given as goal

abbrev pub invariant-loop-number : goal.invariant-loop-number
invariant-loop-number l = EachBelow l.number (FuncHolds l.self.module.now)
