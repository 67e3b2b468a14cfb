use Rattle.std.proofs.Common.{◌≡◌, drop}
use Rattle.gu_model.specs.Valid.{EachBelow, CodeHolds}
use Rattle.gu_valid.specs.Facts.{bodies_lack_count}
use Rattle.gu_valid.proofs.Lacks.{any_lacks}
use Rattle.gu_valid.proofs.facts.Facts.first_code.Given as goal

abbrev pub invariant-loop-number : goal.invariant-loop-number
invariant-loop-number l = record {
  lack : any_lacks l.self.module.now.has_count (drop l.number l.self.module.now.funcs) ≡ bodies_lack_count l.self.module.now;
  holds : EachBelow l.number (CodeHolds l.self.module.now);
}
