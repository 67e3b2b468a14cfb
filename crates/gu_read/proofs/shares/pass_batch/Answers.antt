use Rattle.std.proofs.Common.{arith, refl, []}
use Rattle.gu_read.proofs.Ends.{batch_begins, batch_on, batch_fails, content_behind, behind_on}
use Rattle.gu_read.proofs.shares.pass_batch.Goals as goal

pub entries-init : goal.entries-init
entries-init c = record { ends = batch_begins c.args.tys.now c.args.bytes.now; behind = ([], refl); inside = omega arith }

pub returns-in_default-clause-ends : goal.returns-in_default-clause-ends
returns-in_default-clause-ends c = batch_fails c.args.tys.now c.entries.index c.in_default.field-0 c.args.bytes.now c.entries.rest.now c.entries.rest.now c.entries-test.true c.in_default.ensures.memory c.in_default.ensures.value c.entries.invariant.ends

pub returns-in_default-clause-inside : goal.returns-in_default-clause-inside
returns-in_default-clause-inside c = c.entries.invariant.inside

pub returns-then-bytes-rest-ge-BATCH-clause-ends : goal.returns-then-bytes-rest-ge-BATCH-clause-ends
returns-then-bytes-rest-ge-BATCH-clause-ends c = batch_on c.args.tys.now c.entries.index c.args.bytes.now c.entries.rest.now c.in-Ok.field-0-0.now c.in-Ok.behind.now c.entries-test.true c.in-Ok.ensures.value c.entries.invariant.ends

pub entries-preserved : goal.entries-preserved
entries-preserved c = record {
  ends = batch_on c.args.tys.now c.entries.index c.args.bytes.now c.entries.rest.now c.in-Ok.field-0-0.now c.in-Ok.behind.now c.entries-test.true c.in-Ok.ensures.value c.entries.invariant.ends;
  behind = behind_on c.args.bytes.now c.entries.rest.now c.in-Ok.behind.now c.entries.invariant.behind (content_behind c.entries.rest.now c.in-Ok.field-0-0.now c.in-Ok.behind.now c.in-Ok.ensures.value);
  inside = omega (arith, c.in-Ok.ensures.inside);
}

pub returns-in_default-clause-behind : goal.returns-in_default-clause-behind
returns-in_default-clause-behind c = c.entries.invariant.behind

pub returns-then-bytes-rest-ge-BATCH-clause-behind : goal.returns-then-bytes-rest-ge-BATCH-clause-behind
returns-then-bytes-rest-ge-BATCH-clause-behind c = behind_on c.args.bytes.now c.entries.rest.now c.in-Ok.behind.now c.entries.invariant.behind (content_behind c.entries.rest.now c.in-Ok.field-0-0.now c.in-Ok.behind.now c.in-Ok.ensures.value)

pub returns-clause-behind : goal.returns-clause-behind
returns-clause-behind c = c.entries.invariant.behind
