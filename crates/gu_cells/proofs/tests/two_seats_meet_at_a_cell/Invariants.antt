use Rattle.std.proofs.Common.{[], ◌∷◌}
use Rattle.gu_contents.specs.declared.content.Content.TheVariants.{Top}
use Rattle.gu_cells.proofs.tests.two_seats_meet_at_a_cell.Given as goal

-- the facts and the literals are those of the call, and the one ceiling is all values
abbrev pub ghosts-open_meet_close : goal.ghosts-open_meet_close
ghosts-open_meet_close g a = record { facts = a.facts.now; longs = a.longs.now; ceilings = Top ∷ [] }
