use Rattle.gu_model.specs.Valid.{EachBelow, MemoryHolds}
use Rattle.gu_valid.proofs.facts.Facts.first_memory.Given as goal

abbrev pub invariant-loop-number : goal.invariant-loop-number
invariant-loop-number l = EachBelow l.number (MemoryHolds l.self.module.now)
