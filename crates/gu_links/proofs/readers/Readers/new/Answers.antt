use Rattle.std.proofs.Common.{◌≡◌, ◌<◌, ℕ, List, true, length, sym, ◌∙◌, subst, rules}
use Rattle.std.specs.Prelude.{All, IfSome}
use Rattle.std.proofs.lemmas.List.{get_or_default}
use Rattle.std.proofs.lemmas.Option.{slice_get_within, get_or_from_slice_get}
use Rattle.gu_links.specs.declared.link.Link.{Link}
use Rattle.gu_links.specs.declared.link.Link.TheVariants.{Callable}
use Rattle.gu_links.specs.Kept.{has, fixed_once}
use Rattle.gu_links.specs.Known.{link_at}
use Rattle.gu_links.specs.Listed.{listed_at, below_place}
use Rattle.gu_links.proofs.Adding.{adds_lists, all_once, listed_next}
use Rattle.gu_links.proofs.readers.Readers.new.Goals as goal

pub index-requires : goal.index-requires
index-requires c =
    let fixed = c.args.index.now.fixed.items in
    let n : ℕ = c.links.number in
    let h : n < length fixed = slice_get_within fixed n (fixed_once (link_at c.args.links.now n)) (c.requires.indexed.fixed n c.links-test.true) in search (rules, h)

pub list_fixed-requires-clause-fixed : goal.list_fixed-requires-clause-fixed
list_fixed-requires-clause-fixed c =
    let n : ℕ = c.links.number in
    let link : Link = link_at c.args.links.now n in
    let is : c.as_slice-fixed.result.now ≡ fixed_once link =
    c.as_slice-fixed.ensures ∙ c.index.ensures ∙ get_or_from_slice_get c.args.index.now.fixed.items n (fixed_once link) c.index.result.now (c.requires.indexed.fixed n c.links-test.true) in
    subst (λ (count : ℕ). All (λ d. d < count) c.as_slice-fixed.result.now) (sym c.links.invariant.lists.cells)
    (subst (λ (ds : List ℕ). All (λ d. d < c.args.cells) ds) (sym is) (all_once c.args.cells link (c.requires.links n (Callable 0) c.links-test.true).fixed))

pub links-preserved : goal.links-preserved
links-preserved c =
    let f = c.args.f.now in
    let cells = c.args.index.now.cells in
    let links : List Link = c.args.links.now in
    let n : ℕ = c.links.number in
    let lt : n < length links = c.links-test.true in
    let first = c.in_ok-list_fixed.ensures.adds in
    let second = c.in_ok-list_below.ensures.adds in
    let is : c.as_slice-fixed.result.now ≡ fixed_once (link_at links n) =
    c.as_slice-fixed.ensures ∙ c.index.ensures ∙ get_or_from_slice_get c.args.index.now.fixed.items n (fixed_once (link_at links n)) c.index.result.now (c.requires.indexed.fixed n lt) in
    let same : c.index-links-number.result ≡ link_at links n = c.index-links-number.is ∙ get_or_default links n c.index-links-number.result (Callable 0) lt in
    record {
      lists = adds_lists f n c.args.cells c.list_fixed.new.self c.list_below.new.self second (adds_lists f n c.args.cells c.links.readers c.list_fixed.new.self first c.links.invariant.lists);
      at = listed_next f cells links n c.links.readers c.list_fixed.new.self c.list_below.new.self c.as_slice-fixed.result.now c.links.invariant.at first second is c.in_ok-list_fixed.ensures.listed
          (subst (λ (link : Link). IfSome (below_place f link) (λ place. has (listed_at c.list_below.new.self place) n ≡ true)) same c.in_ok-list_below.ensures.listed);
      only = second.below (length links) lt (first.below (length links) lt c.links.invariant.only);
    }
