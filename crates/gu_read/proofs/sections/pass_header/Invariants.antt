use Rattle.std.proofs.Common.{◌≡◌, ◌≤◌, length, drop}
use Rattle.gu_syntax.specs.Module.{header}
use Rattle.gu_syntax.specs.Reading.{HeaderByte, fixed_at}
use Rattle.gu_read.proofs.Passed.{Passes}
use Rattle.gu_read.proofs.sections.pass_header.Given as goal

abbrev pub invariant-header : goal.invariant-header
invariant-header l = record {
  items : l.byte-items ≡ header;
  passes : Passes HeaderByte (fixed_at HeaderByte header l.fn.bytes) (drop l.byte-index header) l.rest;
  inside : length l.rest ≤ length l.fn.bytes;
}
