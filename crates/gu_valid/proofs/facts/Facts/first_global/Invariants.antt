use Rattle.gu_model.specs.Valid.{EachBelow, GlobalHolds}
use Rattle.gu_valid.proofs.facts.Facts.first_global.Given as goal

abbrev pub invariant-loop-number : goal.invariant-loop-number
invariant-loop-number l = EachBelow l.number (GlobalHolds l.self.module.now)
