use Rattle.std.proofs.Common.{◌≡◌, ◌++◌, map, take}
use Rattle.std.specs.Prelude.{zip}
use Rattle.gu_links.specs.Cells.{out_cells}
use Rattle.gu_links.specs.Gives.{Contents}
use Rattle.gu_links.specs.Known.{Has}
use Rattle.gu_links.proofs.call.give_back.Given as goal

abbrev pub invariant-results : goal.invariant-results
invariant-results l = (x : Contents) → Has l.known x → l.asked ≡ l.initial.asked ++ zip (take l.place l.results) (map x (out_cells l.s.facts.now l.function))
