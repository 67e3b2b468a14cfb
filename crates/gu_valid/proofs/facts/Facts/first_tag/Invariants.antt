use Rattle.gu_model.specs.Valid.{EachBelow, TagHolds}
use Rattle.gu_valid.proofs.facts.Facts.first_tag.Given as goal

abbrev pub invariant-loop-number : goal.invariant-loop-number
invariant-loop-number l = EachBelow l.number (TagHolds l.self.module.now)
