use Rattle.std.proofs.Common.{subst, sym}
use Rattle.gu_syntax.specs.Reading.{Read}
use Rattle.gu_read_parts.specs.Gives.{Gives}
use Rattle.gu_read_code.specs.declared.entries.Entry.{Entry}
use Rattle.gu_read_code.specs.Entries.{inside_at}
use Rattle.gu_read_code.proofs.Sizing.{entry_gives, sized_whole}
use Rattle.gu_read_code.proofs.entries.code_entry_on.Goals as goal

pub returns-clause-value : goal.returns-clause-value
returns-clause-value c =
    let content = c.in_ok-content.content.now in
    let Given : Read Entry → Type 0 = Gives c.close.result in
    let given = c.close.ensures.value (inside_at 1000 content) c.read_inside.ensures.value in
    entry_gives 1000 c.args.bytes.now c.close.result (subst Given (sym (sized_whole (inside_at 1000) c.args.bytes.now content c.in_ok-content.rest.now c.in_ok-content.ensures.value)) given)
