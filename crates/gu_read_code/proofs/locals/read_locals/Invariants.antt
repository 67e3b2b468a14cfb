use Rattle.std.proofs.Common.{◌≤◌, length}
use Rattle.gu_syntax.specs.Reading.{vector_at, run_at}
use Rattle.gu_read_code.proofs.Running.{ReadsRuns}
use Rattle.gu_read_code.proofs.locals.read_locals.Given as goal

abbrev pub invariant-runs : goal.invariant-runs
invariant-runs l = record {
  reads : ReadsRuns l.count (vector_at run_at l.fn.bytes) l.merged l.counted l.counter l.rest;
  inside : length l.rest ≤ length l.fn.bytes;
}
