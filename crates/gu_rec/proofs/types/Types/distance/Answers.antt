use Rattle.std.proofs.Common.{sym, ◌∙◌}
use Rattle.gu_rec.proofs.Queries.{distance_is}
use Rattle.gu_rec.proofs.types.Types.distance.Goals as goal

pub returns : goal.returns
returns c = c.edges.ensures ∙ sym (distance_is c.args.self.now c.args.above c.args.below)
