use Rattle.gu_read.proofs.Passed.{custom_passed}
use Rattle.gu_read.proofs.sections.pass_custom.Goals as goal

pub returns-in-Ok-clause-value : goal.returns-in-Ok-clause-value
returns-in-Ok-clause-value c = custom_passed c.args.bytes.now c.in_ok-content.content.now c.in_ok-content.rest.now _ _ c.in_ok-content.ensures.value c.in-Ok.ensures.value
