use Rattle.std.proofs.Common.{◌≤◌, length}
use Rattle.gu_syntax.specs.Reading.{customs_at}
use Rattle.gu_read.proofs.Passed.{Customs}
use Rattle.gu_read.proofs.sections.pass_customs.Given as goal

abbrev pub invariant-customs : goal.invariant-customs
invariant-customs l = record {
  customs : Customs (customs_at l.bytes) l.rest;
  inside : length l.rest ≤ length l.bytes;
}

abbrev pub decreases-customs : goal.decreases-customs
decreases-customs l = length l.rest
