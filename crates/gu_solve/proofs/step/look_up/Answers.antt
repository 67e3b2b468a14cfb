use Rattle.std.proofs.Common.{◌≡◌, ◌∷◌, ◌++◌, [], List, length, subst, sym, Contains, arith, ◌<◌}
use Rattle.std.proofs.lemmas.List.Elements.{All-nil}
use Rattle.gu_contents.specs.declared.content.Content.{Content}
use Rattle.gu_contents.specs.declared.content.Content.TheVariants.{Empty}
use Rattle.gu_links.specs.Known.{Item, link_at, cells_of, Has, IsKnown}
use Rattle.gu_links.specs.Solutions.{at, IsOf}
use Rattle.gu_links.proofs.Knowing.{nothing_known}
use Rattle.gu_worklist.proofs.Unread.{others_known}
use Rattle.gu_solve.proofs.Rising.{any_default, known_more}
use Rattle.gu_solve.proofs.step.look_up.Goals as goal

pub reads-init : goal.reads-init
reads-init c = let e = sym c.new-known.ensures.items in let x = at c.args.contents.now in let link = link_at c.args.s.now.links c.args.link in record {
  has = subst (λ (known : List Item). Has known x) e (record { at = All-nil (λ (k : Item). x k.0 ≡ k.1) });
  known = subst (IsKnown c.args.s.now.facts.now c.args.s.now.longs c.args.s.now.links link) e (nothing_known c.args.s.now.facts.now c.args.s.now.longs c.args.s.now.links link);
}

pub reads-smaller : goal.reads-smaller
reads-smaller c = others_known c.args.s.now.cells c.reads.known.items c.push.new.self.items c.in-Some.cell _ c.in_ok-push.ensures.items c.in-Some.ensures.below
    (λ at. c.in-Some.ensures.new (subst (λ (known : List Item). Contains (cells_of known) c.in-Some.cell) (sym c.as_slice.ensures.value) at))

pub reads-preserved : goal.reads-preserved
reads-preserved c =
    let s = c.args.s.now in
    let inv = c.reads.invariant in
    let cell = c.in-Some.cell in
    let xs = c.args.contents.now in
    let link = link_at s.links c.args.link in
    let short : cell < length xs = (let lt = c.in-Some.ensures.below in let long = c.requires.contents.long in omega arith) in
    let more = known_more s.facts.now s.longs s.links link xs c.reads.known.items c.push.new.self.items cell _ c.requires.contents.are_of (any_default xs cell _ Empty short) c.in_ok-push.ensures.items inv.has
    (subst (λ (ks : List Item). (b : Content) → IsOf s.facts.now s.longs b → IsKnown s.facts.now s.longs s.links link (ks ++ (cell, b) ∷ [])) c.as_slice.ensures.value c.in-Some.ensures.onward) in
    record { has = more.0; known = more.1 }
