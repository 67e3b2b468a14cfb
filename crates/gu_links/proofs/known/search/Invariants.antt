use Rattle.std.proofs.Common.{◌≡◌, take}
use Rattle.std.specs.Prelude.{All}
use Rattle.gu_links.specs.Known.{Item}
use Rattle.gu_links.proofs.known.search.Given as goal

abbrev pub invariant-cells : goal.invariant-cells
invariant-cells l = All (λ (k : Item). k.0 ≡ l.cell → ⊥) (take l.other-index l.known)
