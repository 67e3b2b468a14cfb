use Rattle.gu_solve_main.proofs.Layered.{AreHigher}
use Rattle.gu_solve_main.proofs.classes.are_layered.Given as goal

abbrev pub invariant-classes : goal.invariant-classes
invariant-classes l = AreHigher l.classes l.index
