use Rattle.std.proofs.Common.{arith, rules}
use Rattle.std.proofs.lemmas.Grind.{common_steps}
use Rattle.gu_bytes.specs.Reads.{GrowsByFront}
use Rattle.gu_syntax.specs.Encoding.{sized}
use Rattle.gu_write_code.proofs.Entries.{front_of_sized}
use Rattle.gu_write_code.proofs.entry.append_sized.Goals as goal

pub returns-in_err-put_u32-clause-partly : goal.returns-in_err-put_u32-clause-partly
returns-in_err-put_u32-clause-partly c =
    let part : GrowsByFront (sized c.args.content.now) c.args.out.now.items c.put_u32.new.out.items = front_of_sized c.args.content.now c.args.out.now.items c.put_u32.new.out.items c.in_err-put_u32.ensures.partly in
    first_of (grind (arith, common_steps), search rules)
