use Rattle.std.proofs.lemmas.Bool.{ltb-true}
use Rattle.gu_solve_main.proofs.systems.fits.Goals as goal

pub returns-then-is_given : goal.returns-then-is_given
returns-then-is_given c = λ e longs. rw c.in-Root.is (c.is_given.ensures c.if-is_given.true longs, ltb-true c.in-Root.to c.args.cells e)
