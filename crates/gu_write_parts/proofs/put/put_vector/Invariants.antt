use Rattle.std.proofs.Common.{◌≡◌, ◌++◌, drop}
use Rattle.gu_syntax.specs.Encoding.{encode_items, encode_vector}
use Rattle.gu_write_parts.proofs.put.put_vector.Given as goal

abbrev pub invariant-items : goal.invariant-items
invariant-items g l = l.out.items ++ encode_items g.F.Form.text (drop l.item-index l.items) ≡ l.fn.out.items ++ encode_vector g.F.Form.text l.items
