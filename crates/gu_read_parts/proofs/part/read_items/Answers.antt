use Rattle.std.proofs.Common.{arith}
use Rattle.gu_syntax.specs.Reading.{items_at}
use Rattle.gu_read_parts.proofs.Vectors.{items_begin, goes_on}
use Rattle.gu_read_parts.proofs.part.read_items.Goals as goal

pub items-init : goal.items-init
items-init g c = record { reads = rw c.in_ok-items.ensures (items_begin g.P.Part.at c.args.count c.args.bytes.now); inside = omega arith }

pub items-preserved : goal.items-preserved
items-preserved g c = record {
  reads = rw c.in_ok-push.ensures.ok (goes_on g.P.Part.at c.args.count (items_at g.P.Part.at c.args.count c.args.bytes.now) c.items.items c.in_ok-item.item c.items.counter c.items.rest.now c.in_ok-item.behind.now c.items-test.true c.in_ok-item.ensures.value c.items.invariant.reads);
  inside = omega (arith, c.in_ok-item.ensures.inside);
}
