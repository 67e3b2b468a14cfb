use Rattle.std.proofs.Common.{arith, rules, ◌<◌, ◌+◌, length}
use Rattle.std.proofs.lemmas.Grind.{common_steps}
use Rattle.gu_syntax.specs.Encoding.{encode_vector}
use Rattle.gu_write_parts.proofs.Lengths.{item_past, items_past}
use Rattle.gu_write_parts.proofs.put.put_vector.Goals as goal

pub returns-in_err-put-clause-too_long : goal.returns-in_err-put-clause-too_long
returns-in_err-put-clause-too_long g c =
    let text = encode_vector g.F.Form.text c.args.items.now in
    let step : 268435456 < length c.items.out.items + length (g.F.Form.text c.item-item.result) → 268435456 < length c.args.out.now.items + length text = rw c.item-item.is (item_past 268435456 g.F.Form.text c.args.items.now c.items.item-index c.item-item.result c.args.out.now.items text c.items.out.items (omega arith) c.items.invariant) in
    first_of (grind (arith, common_steps), search rules)

pub returns-then-len-gt-LIMIT-clause-too_long : goal.returns-then-len-gt-LIMIT-clause-too_long
returns-then-len-gt-LIMIT-clause-too_long g c e = items_past 268435456 g.F.Form.text c.args.items.now c.items.item-index c.item-item.result c.item-item.result c.args.out.now.items _ c.items.out.items c.put.new.out.items (omega arith) c.item-item.is c.items.invariant c.in_ok-put.ensures.ok (first_of (omega arith, grind (arith, common_steps), search rules))
