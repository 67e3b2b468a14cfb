use Rattle.std.proofs.Common.{◌≤◌, length, take}
use Rattle.gu_read.specs.Shares.{EndsAt, IsBehind}
use Rattle.gu_read.proofs.shares.pass_batch.Given as goal

abbrev pub invariant-entries : goal.invariant-entries
invariant-entries l = record {
  ends : EndsAt (take l.index l.tys) l.fn.bytes l.rest;
  behind : IsBehind l.rest l.fn.bytes;
  inside : length l.rest ≤ length l.fn.bytes;
}
