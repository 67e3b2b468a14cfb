use Rattle.std.proofs.Common.{◌≤◌, length, drop}
use Rattle.gu_syntax.specs.Reading.{entries_at}
use Rattle.gu_read.proofs.Runs.{Runs}
use Rattle.gu_read.proofs.funcs.read_run.Given as goal

abbrev pub invariant-entries : goal.invariant-entries
invariant-entries l = record {
  runs : Runs (entries_at 1000 l.tys l.fn.bytes) l.funcs (drop l.ty-index l.tys) l.rest;
  inside : length l.rest ≤ length l.fn.bytes;
}
