use Rattle.std.proofs.Common.{arith, rules, ◌<◌, ◌+◌, length}
use Rattle.std.proofs.lemmas.Grind.{common_steps}
use Rattle.gu_syntax.specs.Encoding.{encode_items, encode_func}
use Rattle.gu_write_parts.proofs.Lengths.{item_past, items_past}
use Rattle.gu_write_code.proofs.entry.write_entries.Goals as goal

pub returns-in_err-put_in_place-clause-too_long : goal.returns-in_err-put_in_place-clause-too_long
returns-in_err-put_in_place-clause-too_long c =
    let text = encode_items encode_func c.args.funcs.now in
    let step : 268435456 < length c.funcs.out.items + length (encode_func c.func-item.result) → 268435456 < length c.args.out.now.items + length text = rw c.func-item.is (item_past 268435456 encode_func c.args.funcs.now c.funcs.func-index c.func-item.result c.args.out.now.items text c.funcs.out.items (omega arith) c.funcs.invariant) in
    first_of (grind (arith, common_steps), search rules)

pub returns-then-len-gt-LIMIT-clause-too_long : goal.returns-then-len-gt-LIMIT-clause-too_long
returns-then-len-gt-LIMIT-clause-too_long c e = items_past 268435456 encode_func c.args.funcs.now c.funcs.func-index c.func-item.result c.func-item.result c.args.out.now.items _ c.funcs.out.items c.put_in_place.new.out.items (omega arith) c.func-item.is c.funcs.invariant c.in_ok-put_in_place.ensures.ok (first_of (omega arith, grind (arith, common_steps), search rules))
