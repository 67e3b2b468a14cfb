use Rattle.gu_model.specs.Valid.{EachBelow, ElementHolds}
use Rattle.gu_valid.proofs.facts.Facts.first_element.Given as goal

abbrev pub invariant-loop-number : goal.invariant-loop-number
invariant-loop-number l = EachBelow l.number (ElementHolds l.self.module.now)
