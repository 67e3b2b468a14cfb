use Rattle.gu_write_code.proofs.Examples.{shaped_nop}
use Rattle.gu_write_code.proofs.tests.an_else_is_written.Goals as goal

pub choice-requires : goal.choice-requires
choice-requires g c = shaped_nop c.in_ok-one.field-0 c.in_ok-one.ensures
