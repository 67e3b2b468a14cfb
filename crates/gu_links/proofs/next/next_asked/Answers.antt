use Rattle.std.proofs.Common.{◌∙◌, ℕ, ◌+◌, ◌-◌, ◌<◌, ◌^◌, length, get_or, ap, arith, rules}
use Rattle.gu_contents.specs.declared.content.Content.TheVariants.{Empty}
use Rattle.gu_links.specs.Kept.{further_reads}
use Rattle.gu_links.specs.Known.{Item}
use Rattle.gu_links.specs.Next.{first_of, is_rest}
use Rattle.gu_links.proofs.Onward.{fixed_next, fixed_known, known_below, other_first, other_next}
use Rattle.gu_links.proofs.Regained.{is_system}
use Rattle.gu_links.proofs.next.next_asked.Goals as goal
use Rattle.gu_links.proofs.next.next_asked.Goals.{then-known-fixed-2, else-known-fixed-2}

pub returns-then-known-fixed : goal.returns-then-known-fixed
returns-then-known-fixed c x h =
    fixed_next c.args.s.now.facts.now c.args.s.now.longs c.args.s.now.links c.args.link.now c.args.known.now c.requires.known c.args.fixed.now 0 c.requires.fixed c.if-known-fixed.true x

pub overflow_add-first : goal.overflow_add-first
overflow_add-first c =
    let none : Item = (0, Empty) in
    let b = known_below c.args.s.now.facts.now c.args.s.now.longs c.args.s.now.links c.args.link.now c.args.known.now c.requires.known c.args.s.now.cells (is_system c.args.s.now).room c.requires.fits (length c.args.known.now - 1) none (let l = c.if-known-fixed-2.true in omega arith) in
    let h : (get_or c.args.known.now (length c.args.known.now - 1) none).0 + 1 < 2 ^ 64 = omega arith in
    search (rules, h)

pub further_next-requires-clause-fixed : goal.further_next-requires-clause-fixed
further_next-requires-clause-fixed c =
    fixed_known c.args.s.now.facts.now c.args.s.now.longs c.args.s.now.links c.args.link.now c.args.known.now c.requires.known c.args.fixed.now c.requires.fixed c.if-known-fixed.false

pub returns : goal.returns
returns c x h =
    let f = c.args.s.now.facts.now in
    let none : Item = (0, Empty) in
    let with_first = λ (first : ℕ). first_of (is_rest c.args.fixed.now first) (further_reads f c.args.s.now.links c.args.link.now x) in
    c.further_next.ensures x h
    ∙ elim c.if-known-fixed-2.branch [
      | then-known-fixed-2 w ↦ ap with_first w.first-is ∙ other_next f c.args.s.now.longs c.args.s.now.links c.args.link.now c.args.known.now c.requires.known c.args.fixed.now c.requires.fixed x h none w.if-known-fixed-2.true
      | else-known-fixed-2 w ↦ ap with_first w.first-is ∙ other_first f c.args.s.now.longs c.args.s.now.links c.args.link.now c.args.known.now c.requires.known c.args.fixed.now c.requires.fixed x h (let more = c.if-known-fixed.false in let l = w.if-known-fixed-2.false in omega arith)
    ]
