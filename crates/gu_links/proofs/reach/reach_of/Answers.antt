use Rattle.gu_links.proofs.Reaching.{filtered_core}
use Rattle.gu_links.proofs.reach.reach_of.Goals as goal

pub cone_reach-requires : goal.cone_reach-requires
cone_reach-requires c = filtered_core c.args.f.now c.args.a c.args.ty c.requires.ty c.requires.content c.filter.result c.filter.ensures _ c.in-Ref.core c.in-Ref.is
