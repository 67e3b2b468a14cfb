use Rattle.gu_links.proofs.Climbing.{least_contents}
use Rattle.gu_fixpoint.proofs.solving.solve.Given as goal

abbrev pub ghosts-together : goal.ghosts-together
ghosts-together g a = record { facts = a.s.now.facts.now; longs = a.s.now.longs; ceilings = least_contents a.s.now.facts.now a.s.now.cells a.s.now.links }
