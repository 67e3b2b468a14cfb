use Rattle.gu_model.specs.Valid.{EachBelow, DataHolds}
use Rattle.gu_valid.proofs.facts.Facts.first_seg.Given as goal

abbrev pub invariant-loop-number : goal.invariant-loop-number
invariant-loop-number l = EachBelow l.number (DataHolds l.self.module.now)
