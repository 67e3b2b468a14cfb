use Rattle.std.proofs.Common.{◌≡◌, ◌++◌, map, take}
use Rattle.std.specs.Prelude.{zip}
use Rattle.gu_links.specs.Cells.{param_cells}
use Rattle.gu_links.specs.Gives.{Contents}
use Rattle.gu_links.specs.Known.{Has}
use Rattle.gu_links.proofs.call.pass.Given as goal

abbrev pub invariant-operands : goal.invariant-operands
invariant-operands l = (x : Contents) → Has l.known x → l.asked ≡ l.initial.asked ++ zip (param_cells l.s.facts.now l.function) (map x (take l.place l.operands))
