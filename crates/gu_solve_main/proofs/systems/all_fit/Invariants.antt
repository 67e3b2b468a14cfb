use Rattle.gu_solve_main.proofs.Fitting.{FirstFit}
use Rattle.gu_solve_main.proofs.systems.all_fit.Given as goal

abbrev pub invariant-links : goal.invariant-links
invariant-links l = FirstFit l.facts l.cells l.links l.link-index
