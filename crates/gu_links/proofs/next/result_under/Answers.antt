use Rattle.std.proofs.Common.{◌∙◌, ◌&&◌, length}
use Rattle.std.specs.Prelude.{slice_index}
use Rattle.std.specs.List.{list_any}
use Rattle.gu_links.specs.Over.{names}
use Rattle.gu_links.specs.Kept.{is_below}
use Rattle.gu_links.proofs.Firsts.{kept_rises, functions_part, result_at, no_result_under}
use Rattle.gu_links.proofs.Regained.{is_named}
use Rattle.gu_links.proofs.next.result_under.Goals as goal

pub place_of-from-requires : goal.place_of-from-requires
place_of-from-requires c =
    let f = c.args.s.now.facts.now in
    kept_rises (λ g. list_any (names g) c.args.s.now.links && is_below f.types c.args.reach.head (slice_index f.funcs g)) c.functions-functions.result.now (length f.funcs) c.functions-functions.ensures

pub result_in-requires-clause-functions : goal.result_in-requires-clause-functions
result_in-requires-clause-functions c =
    functions_part c.args.s.now.facts.now c.args.s.now.links (is_named c.args.s.now) c.args.reach c.args.rest.fixed.now c.args.rest.first c.functions-functions.result.now c.place_of-from.result c.functions-functions.ensures

pub returns-in-None : goal.returns-in-None
returns-in-None c = no_result_under c.args.s.now.facts.now c.args.s.now.links (is_named c.args.s.now) c.args.reach c.args.rest.fixed.now c.args.rest.first c.in-None.ensures

pub returns-in-Some : goal.returns-in-Some
returns-in-Some c =
    c.result_in.ensures
    ∙ result_at c.args.s.now.facts.now c.args.s.now.links (is_named c.args.s.now) c.args.reach c.args.rest.fixed.now c.args.rest.first c.functions-functions.result.now c.place_of-from.result c.in-Some.function c.functions-functions.ensures c.in-Some.ensures c.place_of-from.ensures.less
