use Rattle.std.proofs.Common.{arith, rules, ◌<◌, ◌+◌, length}
use Rattle.std.proofs.lemmas.Grind.{common_steps}
use Rattle.gu_syntax.specs.Encoding.{encode_func}
use Rattle.gu_write_code.specs.Layouts.{entry_content}
use Rattle.gu_write_code.proofs.Entries.{content_past}
use Rattle.gu_write_code.proofs.entry.put_in_place.Goals as goal

pub returns-in_err-put_content-clause-too_long : goal.returns-in_err-put_content-clause-too_long
returns-in_err-put_content-clause-too_long c =
    let content = entry_content c.args.f.now in
    let step : 268435456 < length c.put_byte.new.out.items + length content → 268435456 < length c.args.out.now.items + length (encode_func c.args.f.now) = content_past 268435456 content c.args.out.now.items c.put_byte.new.out.items 0 c.in_ok-put_byte.ensures in
    first_of (grind (arith, common_steps), search rules)
