use Rattle.std.proofs.Common.{◌∙◌}
use Rattle.gu_links.proofs.Firsts.{candidates_rise, own_part, slot_next, no_slot}
use Rattle.gu_links.proofs.next.slot_after.Goals as goal

pub place_of-from-requires : goal.place_of-from-requires
place_of-from-requires c =
    candidates_rise c.args.s.now.facts.now c.args.reach c.types-types.result.now c.types-types.ensures

pub slot_in-requires-clause-types : goal.slot_in-requires-clause-types
slot_in-requires-clause-types c k d lt =
    let own = own_part c.args.s.now.facts.now c.args.reach c.requires c.args.slot c.args.rest.fixed.now c.args.rest.first c.types-types.result.now c.place_of-from.result c.types-types.ensures in
    (own k d lt).0

pub slot_in-requires-clause-least : goal.slot_in-requires-clause-least
slot_in-requires-clause-least c k d lt =
    let own = own_part c.args.s.now.facts.now c.args.reach c.requires c.args.slot c.args.rest.fixed.now c.args.rest.first c.types-types.result.now c.place_of-from.result c.types-types.ensures in
    (own k d lt).1

pub returns-in-None : goal.returns-in-None
returns-in-None c = no_slot c.args.s.now.facts.now c.args.reach c.requires c.args.slot c.args.rest.fixed.now c.args.rest.first c.in-None.ensures

pub returns-in-Some : goal.returns-in-Some
returns-in-Some c =
    c.slot_in.ensures
    ∙ slot_next c.args.s.now.facts.now c.args.reach c.requires c.args.slot c.args.rest.fixed.now c.args.rest.first c.types-types.result.now c.place_of-from.result c.in-Some.ty c.types-types.ensures c.in-Some.ensures c.place_of-from.ensures.less
