use Rattle.std.proofs.Common.{take}
use Rattle.gu_model.specs.Valid.{EachBelow, ExportHolds}
use Rattle.gu_valid.proofs.Names.{HasNames}
use Rattle.gu_valid.proofs.facts.Facts.first_export.Given as goal

abbrev pub invariant-loop-number : goal.invariant-loop-number
invariant-loop-number l = record {
  hold : EachBelow l.number (ExportHolds l.self.module.now);
  named : HasNames (take l.number l.self.module.now.exports) l.names;
}
