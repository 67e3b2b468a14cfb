use Rattle.gu_types.specs.declared.types.HeapType.TheVariants as H
use Rattle.gu_contents.specs.Belongs.{IsCone}
use Rattle.gu_links.proofs.Tables.{head_is_least, cone_as}
use Rattle.gu_links.proofs.reach.cone_reach.Goals as goal

pub returns-in-Cone-Idx-default-clause-head : goal.returns-in-Cone-Idx-default-clause-head
returns-in-Cone-Idx-default-clause-head c =
    let is : IsCone c.args.f.now (H.Idx c.in-Cone-Idx-default.head) c.in-Cone-Idx-default.depth =
    cone_as c.args.f.now c.cone_of.result c.in-Cone-Idx-default.field-0 c.in-Cone-Idx-default.head c.in-Cone-Idx-default.depth c.in-Cone-Idx-default.is c.in-Cone-Idx-default.field-0-is c.cone_of.ensures.belongs in
    record { in_range = is.is_heap; least = head_is_least c.args.f.now c.in-Cone-Idx-default.head c.in-Cone-Idx-default.depth is }
