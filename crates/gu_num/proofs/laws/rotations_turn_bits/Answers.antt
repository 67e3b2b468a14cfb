use Rattle.gu_num.proofs.Turns.{rotations}
use Rattle.gu_num.proofs.laws.rotations_turn_bits.Goals as goal

pub returns : goal.returns
returns c = rotations
