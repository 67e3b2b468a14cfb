use Rattle.std.proofs.Common.{◌≡◌, [], ◌∷◌, take}
use Rattle.gu_links.specs.Kept.{once_onto}
use Rattle.gu_links.proofs.fixed.with.Given as goal

abbrev pub invariant-cells : goal.invariant-cells
invariant-cells l = l.cells ≡ once_onto (l.first ∷ []) (take l.cell-index l.others)
