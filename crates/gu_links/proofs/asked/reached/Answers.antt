use Rattle.std.proofs.Common.{ap, sym, ◌∙◌}
use Rattle.gu_contents.specs.declared.content.Content.{Content}
use Rattle.gu_links.specs.Over.{over}
use Rattle.gu_links.specs.Kept.{over_reach}
use Rattle.gu_links.proofs.Reaching.{over_is}
use Rattle.gu_links.proofs.asked.reached.Goals as goal

pub reach_of-requires-clause-content : goal.reach_of-requires-clause-content
reach_of-requires-clause-content c = c.content_at.ensures.belongs c.args.s.now.facts.now c.requires.belong

pub returns-clause-over : goal.returns-clause-over
returns-clause-over c x h slot =
    let f = c.args.s.now.facts.now in
    ap (λ (a : Content). over f a c.args.ty slot) (sym (c.content_at.ensures.value x h c.requires.object))
    ∙ over_is f c.args.ty c.content_at.result slot (c.content_at.ensures.belongs f c.requires.belong)
    ∙ ap (λ o. over_reach f o slot) (sym c.reach_of.ensures.value)
