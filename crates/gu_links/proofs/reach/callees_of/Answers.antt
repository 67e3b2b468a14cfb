use Rattle.std.proofs.Common.{subst}
use Rattle.gu_contents.specs.declared.content.Core.{Core}
use Rattle.gu_contents.specs.Belongs.{CoreBelongs}
use Rattle.gu_links.proofs.Reaching.{filtered_core}
use Rattle.gu_links.proofs.reach.callees_of.Goals as goal

pub cone_reach-requires : goal.cone_reach-requires
cone_reach-requires c = filtered_core c.args.f.now c.args.a c.args.ty c.requires.ty c.requires.content c.filter.result c.filter.ensures _ c.in-Ref.core c.in-Ref.is

pub returns-in-Ref-default-Func-clause-range : goal.returns-in-Ref-default-Func-clause-range
returns-in-Ref-default-Func-clause-range c =
    subst (λ (core : Core). CoreBelongs c.args.f.now core) c.in-Ref-default-Func.field-1-is
    (filtered_core c.args.f.now c.args.a c.args.ty c.requires.ty c.requires.content c.filter.result c.filter.ensures _ c.in-Ref-default-Func.field-1 c.in-Ref-default-Func.is)
