use Rattle.std.proofs.Common.{rules, List, inr, sym, subst}
use Rattle.std.proofs.lemmas.Option.{slice_get_within}
use Rattle.gu_contents.specs.declared.content.Content.{Content}
use Rattle.gu_links.specs.Solutions.{at, Least}
use Rattle.gu_solve.proofs.Closing.{closed_is_least}
use Rattle.gu_solve.specs.Steps.{IsOnTheWay}
use Rattle.gu_solve.proofs.Rising.{belong_at, given_belong, served}
use Rattle.gu_links.proofs.Regained.{is_system}
use Rattle.gu_solve.proofs.close_from.Goals as goal

pub left-init : goal.left-init
left-init c = let s = c.args.s.now in record {
  contents = subst (IsOnTheWay s.facts.now s.longs s.cells s.links) (sym c.into_vec-contents.ensures) (record { long = c.requires.length; are_of = c.requires.are_of; below = c.requires.below });
  left = search rules;
  closed = record { at = λ k link found. inr (c.in_ok-left.ensures.all k (let lt = slice_get_within s.links k link found in search (rules, lt))) };
}

pub left-preserved : goal.left-preserved
left-preserved c =
    let inv = c.left.invariant in
    let h = c.in_ok-step.ensures in
    let s = c.args.s.now in
    let f = s.facts.now in
    let xs = c.left.contents.items in
    let zs = c.step.new.contents.items in record {
      contents = h.contents;
      left = h.left;
      closed = served f s.links c.in-Some.link c.left.left.waiting c.take.new.self.waiting c.step.new.left.waiting (at xs) (at zs) (belong_at f s.longs xs inv.contents.are_of) (belong_at f s.longs zs h.contents.are_of)
          (given_belong f s.longs s.cells s.links xs inv.contents (is_system c.args.s.now)) c.in-Some.ensures.taken h.keeps h.rises inv.closed;
    }

pub returns-clause-least : goal.returns-clause-least
returns-clause-least c =
    let inv = c.left.invariant in
    let s = c.args.s.now in
    let xs = c.left.contents.items in
    subst (λ (ys : List Content). Least s.facts.now s.links (at ys)) (sym c.from_vec.ensures)
    (closed_is_least s.facts.now s.links c.left.left.waiting (at xs) (belong_at s.facts.now s.longs xs inv.contents.are_of) (search rules) inv.closed inv.contents.below)
