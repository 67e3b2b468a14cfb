use Rattle.gu_num.proofs.Fits.{one_never_traps}
use Rattle.gu_num.proofs.laws.one_operand_never_traps.Goals as goal

pub returns : goal.returns
returns c = one_never_traps
