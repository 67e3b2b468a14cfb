use Rattle.std.proofs.Common.{◌∙◌, ap, subst}
use Rattle.std.proofs.lemmas.Option.{get_or_from_slice_get}
use Rattle.gu_links.specs.declared.link.Link.{Link}
use Rattle.gu_links.specs.declared.link.Link.TheVariants.{Callable}
use Rattle.gu_links.specs.Solutions.{Fits}
use Rattle.gu_links.specs.Kept.{fixed_once}
use Rattle.gu_links.specs.Known.{IsKnown, link_at}
use Rattle.gu_links.proofs.Onward.{link_read, next_for, is_read, is_new, is_below, is_onward, is_enough, is_end}
use Rattle.gu_links.proofs.Regained.{is_system}
use Rattle.gu_links.proofs.system.System.next_read.Goals as goal

pub next_asked-requires-clause-fits : goal.next_asked-requires-clause-fits
next_asked-requires-clause-fits c =
    let s = c.args.self.now in
    let e = link_read s.links c.as_slice.result.now c.args.link c.index-as_slice-link.result c.requires.link c.as_slice.ensures c.index-as_slice-link.is in
    subst (λ (l : Link). Fits s.facts.now s.longs s.cells l) e ((is_system s).fit c.args.link (Callable 0) c.requires.link)

pub next_asked-requires-clause-fixed : goal.next_asked-requires-clause-fixed
next_asked-requires-clause-fixed c =
    let s = c.args.self.now in
    let e = link_read s.links c.as_slice.result.now c.args.link c.index-as_slice-link.result c.requires.link c.as_slice.ensures c.index-as_slice-link.is in
    c.as_slice-fixed.ensures
    ∙ c.index.ensures
    ∙ get_or_from_slice_get s.index.fixed.items c.args.link (fixed_once (link_at s.links c.args.link)) c.index.result.now (s.indexed.fixed c.args.link c.requires.link)
    ∙ ap fixed_once e

pub next_asked-requires-clause-known : goal.next_asked-requires-clause-known
next_asked-requires-clause-known c =
    let s = c.args.self.now in
    let e = link_read s.links c.as_slice.result.now c.args.link c.index-as_slice-link.result c.requires.link c.as_slice.ensures c.index-as_slice-link.is in
    subst (λ (l : Link). IsKnown s.facts.now s.longs s.links l c.args.known.now) e c.requires.known

pub returns-clause-read : goal.returns-clause-read
returns-clause-read c =
    let s = c.args.self.now in
    let e = link_read s.links c.as_slice.result.now c.args.link c.index-as_slice-link.result c.requires.link c.as_slice.ensures c.index-as_slice-link.is in
    is_read s.facts.now s.longs s.links (link_at s.links c.args.link) c.args.known.now c.requires.known c.next_asked.result
    (next_for s.facts.now s.links c.args.known.now (link_at s.links c.args.link) c.index-as_slice-link.result c.next_asked.result e c.next_asked.ensures)

pub returns-clause-new : goal.returns-clause-new
returns-clause-new c =
    let s = c.args.self.now in
    let e = link_read s.links c.as_slice.result.now c.args.link c.index-as_slice-link.result c.requires.link c.as_slice.ensures c.index-as_slice-link.is in
    is_new s.facts.now s.longs s.links (link_at s.links c.args.link) c.args.known.now c.requires.known c.next_asked.result
    (next_for s.facts.now s.links c.args.known.now (link_at s.links c.args.link) c.index-as_slice-link.result c.next_asked.result e c.next_asked.ensures)

pub returns-clause-below : goal.returns-clause-below
returns-clause-below c =
    let s = c.args.self.now in
    let e = link_read s.links c.as_slice.result.now c.args.link c.index-as_slice-link.result c.requires.link c.as_slice.ensures c.index-as_slice-link.is in
    is_below s.facts.now s.longs s.links (link_at s.links c.args.link) c.args.known.now c.requires.known s.cells (is_system s).room ((is_system s).fit c.args.link (Callable 0) c.requires.link) c.next_asked.result
    (next_for s.facts.now s.links c.args.known.now (link_at s.links c.args.link) c.index-as_slice-link.result c.next_asked.result e c.next_asked.ensures)

pub returns-clause-onward : goal.returns-clause-onward
returns-clause-onward c =
    let s = c.args.self.now in
    let e = link_read s.links c.as_slice.result.now c.args.link c.index-as_slice-link.result c.requires.link c.as_slice.ensures c.index-as_slice-link.is in
    is_onward s.facts.now s.longs s.links (link_at s.links c.args.link) c.args.known.now c.requires.known c.next_asked.result
    (next_for s.facts.now s.links c.args.known.now (link_at s.links c.args.link) c.index-as_slice-link.result c.next_asked.result e c.next_asked.ensures)

pub returns-clause-enough : goal.returns-clause-enough
returns-clause-enough c =
    let s = c.args.self.now in
    let e = link_read s.links c.as_slice.result.now c.args.link c.index-as_slice-link.result c.requires.link c.as_slice.ensures c.index-as_slice-link.is in
    is_enough s.facts.now s.longs s.links (link_at s.links c.args.link) c.args.known.now c.requires.known c.next_asked.result
    (next_for s.facts.now s.links c.args.known.now (link_at s.links c.args.link) c.index-as_slice-link.result c.next_asked.result e c.next_asked.ensures)

pub returns-clause-more : goal.returns-clause-more
returns-clause-more c =
    let s = c.args.self.now in
    let e = link_read s.links c.as_slice.result.now c.args.link c.index-as_slice-link.result c.requires.link c.as_slice.ensures c.index-as_slice-link.is in
    is_end s.facts.now s.longs s.links (link_at s.links c.args.link) c.args.known.now c.requires.known c.next_asked.result
    (next_for s.facts.now s.links c.args.known.now (link_at s.links c.args.link) c.index-as_slice-link.result c.next_asked.result e c.next_asked.ensures)
