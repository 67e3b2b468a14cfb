-- A cell whose ceiling is all values.
use Rattle.std.proofs.Common.{◌≡◌, List, [], ◌∷◌, sym, subst}
use Rattle.gu_contents.specs.declared.content.Content.{Content}
use Rattle.gu_contents.specs.declared.content.Content.TheVariants.{Top}
use Rattle.gu_contents.specs.declared.facts.Facts.{Facts}
use Rattle.gu_contents.specs.Order.{AtMost}
use Rattle.gu_cells.specs.Record.{at}
use Rattle.gu_contents.proofs.OrderLaw.{is_order}

pub below_top : (f : Facts) (ceilings : List Content) (a : Content) → ceilings ≡ Top ∷ [] → AtMost f a (at ceilings 0)
below_top f ceilings a is = subst (λ (cs : List Content). AtMost f a (at cs 0)) (sym is) ((is_order f).greatest a)
