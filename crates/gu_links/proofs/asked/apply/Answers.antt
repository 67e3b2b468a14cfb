use Rattle.std.proofs.Common.{◌≡◌, subst}
use Rattle.gu_links.specs.declared.link.Link.{Link}
use Rattle.gu_links.specs.declared.link.Link.TheVariants.{Callable}
use Rattle.gu_links.specs.Applied.{IsReady}
use Rattle.gu_links.specs.Known.{link_at}
use Rattle.gu_links.proofs.Applying.{is_ready}
use Rattle.gu_links.proofs.Onward.{link_read}
use Rattle.gu_links.proofs.Regained.{is_system}
use Rattle.gu_links.proofs.asked.apply.Goals as goal

pub apply_to-requires : goal.apply_to-requires
apply_to-requires c =
    let s = c.args.s.now in
    let e : link_at s.links c.args.link ≡ c.index-links-link.result = link_read s.links c.as_slice-links.result.now c.args.link c.index-links-link.result c.requires.link c.as_slice-links.ensures c.index-links-link.is in
    subst (λ (l : Link). IsReady s.facts.now s.longs s.cells s.links l c.args.known.now) e
    (is_ready s.facts.now s.longs s.cells s.links (link_at s.links c.args.link) c.args.known.now ((is_system s).fit c.args.link (Callable 0) c.requires.link) c.requires.known c.requires.enough)
