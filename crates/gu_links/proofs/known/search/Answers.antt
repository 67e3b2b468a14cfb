use Rattle.std.proofs.Common.{◌≡◌, List, subst}
use Rattle.std.specs.Prelude.{All}
use Rattle.std.proofs.lemmas.List.{take_all}
use Rattle.gu_links.specs.Known.{Item}
use Rattle.gu_links.proofs.Once.{absent}
use Rattle.gu_links.proofs.known.search.Goals as goal

pub returns-clause-value : goal.returns-clause-value
returns-clause-value c x h there =
    absurd (absent c.args.known.now c.args.cell
    (subst (λ (ks : List Item). All (λ (k : Item). k.0 ≡ c.args.cell → ⊥) ks) (take_all c.cells.other-index c.args.known.now c.cells-test.false) c.cells.invariant) there)
