use Rattle.std.proofs.Common.{◌≡◌, ◌++◌, drop}
use Rattle.gu_syntax.specs.Encoding.{encode_items, encode_func}
use Rattle.gu_write_code.proofs.entry.write_entries.Given as goal

abbrev pub invariant-funcs : goal.invariant-funcs
invariant-funcs l = l.out.items ++ encode_items encode_func (drop l.func-index l.funcs) ≡ l.fn.out.items ++ encode_items encode_func l.fn.funcs
