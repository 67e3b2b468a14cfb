use Rattle.std.proofs.Common.{ℕ, Option, subst}
use Rattle.std.specs.Prelude.{All, Contains}
use Rattle.gu_links.specs.declared.reach.Reach.{Reach}
use Rattle.gu_links.specs.Cells.{slot_cell}
use Rattle.gu_links.specs.Known.{cells_of}
use Rattle.gu_links.specs.Kept.{over_reach}
use Rattle.gu_links.proofs.slots.from_slots.Goals as goal

pub from_reach-requires-clause-known : goal.from_reach-requires-clause-known
from_reach-requires-clause-known c =
    subst (λ (o : Option Reach). All (λ (t : ℕ). Contains (cells_of c.args.known.now) (slot_cell c.args.s.now.facts.now t c.args.get.slot)) (over_reach c.args.s.now.facts.now o c.args.get.slot)) c.in-Some.is c.requires.known
