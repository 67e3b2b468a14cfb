use Rattle.std.proofs.Common.{ℕ, Option, subst}
use Rattle.std.specs.Prelude.{All, Contains}
use Rattle.gu_links.specs.declared.reach.Reach.{Reach}
use Rattle.gu_links.specs.Cells.{slot_cell}
use Rattle.gu_links.specs.Known.{cells_of}
use Rattle.gu_links.specs.Kept.{over_reach}
use Rattle.gu_links.proofs.slots.joined.Goals as goal

pub joined_reach-requires-clause-known : goal.joined_reach-requires-clause-known
joined_reach-requires-clause-known c =
    subst (λ (o : Option Reach). All (λ (t : ℕ). Contains (cells_of c.args.known.now) (slot_cell c.args.s.now.facts.now t 0)) (over_reach c.args.s.now.facts.now o 0)) c.in-Some.is c.requires.known
