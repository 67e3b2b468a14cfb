use Rattle.std.proofs.Common.{◌≡◌, ◌++◌}
use Rattle.std.specs.Prelude.{replicate}
use Rattle.gu_links.proofs.index.own.Given as goal

abbrev pub invariant-cells : goal.invariant-cells
invariant-cells l = l.owners.items ≡ l.initial.owners.items ++ replicate l.counter l.owner
