use Rattle.std.proofs.Common.{refl, ◌∙◌}
use Rattle.gu_write.proofs.Examples.{shaped_zero}
use Rattle.gu_write.proofs.tests.zero.Goals as goal

pub returns : goal.returns
returns c = shaped_zero _ refl c.new-locals.ensures (c.body-body.ensures ∙ c.in_ok-code.ensures)
