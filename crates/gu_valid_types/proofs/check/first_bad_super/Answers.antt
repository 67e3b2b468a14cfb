use Rattle.gu_valid_types.proofs.Supers.{all_hold}
use Rattle.gu_valid_types.proofs.check.first_bad_super.Goals as goal

pub returns : goal.returns
returns c = all_hold c.args.types.now c.args.flat.now c.loop-i.i c.requires.hold c.requires.flat_is c.loop-i-test.false c.loop-i.invariant
