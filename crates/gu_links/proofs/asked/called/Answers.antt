use Rattle.std.proofs.Common.{ap, sym, ◌∙◌}
use Rattle.gu_contents.specs.declared.content.Content.{Content}
use Rattle.gu_links.specs.Over.{callees}
use Rattle.gu_links.specs.Kept.{callable}
use Rattle.gu_links.proofs.Reaching.{callees_are}
use Rattle.gu_links.proofs.asked.called.Goals as goal

pub callees_of-requires-clause-content : goal.callees_of-requires-clause-content
callees_of-requires-clause-content c = c.content_at.ensures.belongs c.args.s.now.facts.now c.requires.belong

pub returns-clause-callees : goal.returns-clause-callees
returns-clause-callees c x h =
    let f = c.args.s.now.facts.now in
    ap (λ (a : Content). callees f c.args.s.now.links a c.args.ty) (sym (c.content_at.ensures.value x h c.requires.callee))
    ∙ callees_are f c.args.ty c.args.s.now.links c.content_at.result c.requires.ty (c.content_at.ensures.belongs f c.requires.belong)
    ∙ ap (callable f c.args.s.now.links) (sym c.callees_of.ensures.value)
