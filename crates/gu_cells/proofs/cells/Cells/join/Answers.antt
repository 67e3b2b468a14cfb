use Rattle.std.proofs.Common.{rules, true, false, List, ◌≡◌, ◌≢◌, ◌∷◌, ◌∙◌, ap, sym, subst}
use Rattle.gu_contents.specs.declared.content.Content.{Content}
use Rattle.gu_contents.specs.declared.facts.Facts.{Facts}
use Rattle.gu_contents.specs.Order.{AtMost, at_most}
use Rattle.gu_contents.specs.Join as joins
use Rattle.gu_cells.specs.declared.record.Entry.{Entry}
use Rattle.gu_cells.specs.Record.{at, seen, BelongsTo}
use Rattle.gu_cells.specs.Rule.{looked}
use Rattle.gu_cells.proofs.Lattice.{the_laws, join_belongs, seen_belongs, join_absorbs}
use Rattle.gu_cells.proofs.Tries.{look_decides, look_reads, exchange_appends, after_capped, after_differs, found_more, found_less}
use Rattle.gu_cells.proofs.cells.Cells.join.Goals as goal

pub returns-then-le-clause-record : goal.returns-then-le-clause-record
returns-then-le-clause-record g c =
    let n = g.N.Ceilings in
    let i = c.tries.invariant in
    let is : at_most n.facts c.args.c c.tries.before ≡ true = ap (λ (f : Facts). at_most f c.args.c c.tries.before) (sym c.self.invariant.facts_are) ∙ (sym c.le.ensures.value ∙ c.if-le.true) in
    look_decides n.facts c.args.cell c.args.c c.tries.before i.noted.0 c.args.seat.now.entries c.tries.seat.entries i.noted.1 is

pub returns-then-le-clause-after : goal.returns-then-le-clause-after
returns-then-le-clause-after g c =
    let n = g.N.Ceilings in
    let is : at_most n.facts c.args.c c.tries.before ≡ true = ap (λ (f : Facts). at_most f c.args.c c.tries.before) (sym c.self.invariant.facts_are) ∙ (sym c.le.ensures.value ∙ c.if-le.true) in
    sym (join_absorbs (the_laws n.facts n.longs) c.tries.before c.args.c c.tries.invariant.belongs.0 c.requires.belongs.0 (record { holds = is }))

pub exchange-requires-clause-after : goal.exchange-requires-clause-after
exchange-requires-clause-after g c =
    let n = g.N.Ceilings in
    let laws = the_laws n.facts n.longs in
    let i = c.tries.invariant in
    let is : joins.join n.facts c.tries.before c.args.c ≡ c.join-after.result = ap (λ (f : Facts). joins.join f c.tries.before c.args.c) (sym c.self.invariant.facts_are) ∙ sym c.join-after.ensures in (
      subst (BelongsTo n.facts n.longs) is (join_belongs laws c.tries.before c.args.c i.belongs c.requires.belongs),
      subst (λ (x : Content). AtMost n.facts x (at n.ceilings c.args.cell)) is (after_capped laws c.tries.before c.args.c (at n.ceilings c.args.cell) i.belongs c.requires.belongs i.capped c.requires.ceiling (c.self.invariant.ceilings_belong c.args.cell)),
    )

pub exchange-requires-clause-up : goal.exchange-requires-clause-up
exchange-requires-clause-up g c =
    let n = g.N.Ceilings in
    let laws = the_laws n.facts n.longs in
    let i = c.tries.invariant in
    let is : joins.join n.facts c.tries.before c.args.c ≡ c.join-after.result = ap (λ (f : Facts). joins.join f c.tries.before c.args.c) (sym c.self.invariant.facts_are) ∙ sym c.join-after.ensures in
    let not : at_most n.facts c.args.c c.tries.before ≡ false = ap (λ (f : Facts). at_most f c.args.c c.tries.before) (sym c.self.invariant.facts_are) ∙ (sym c.le.ensures.value ∙ c.if-le.false) in (
      subst (λ (x : Content). AtMost n.facts c.tries.before x) is (laws.joins.first c.tries.before c.args.c i.belongs.0 c.requires.belongs.0),
      subst (λ (x : Content). c.tries.before ≢ x) is (after_differs laws c.tries.before c.args.c i.belongs c.requires.belongs not),
    )

pub returns-in_default-clause-record : goal.returns-in_default-clause-record
returns-in_default-clause-record g c =
    let n = g.N.Ceilings in
    let i = c.tries.invariant in
    let not : at_most n.facts c.args.c c.tries.before ≡ false = ap (λ (f : Facts). at_most f c.args.c c.tries.before) (sym c.self.invariant.facts_are) ∙ (sym c.le.ensures.value ∙ c.if-le.false) in
    exchange_appends c.args.cell c.args.c c.tries.before c.join-after.result (c.tries.before ∷ i.noted.0) c.args.seat.now.entries c.tries.seat.entries c.exchange.new.seat.entries
    (look_reads n.facts c.args.cell c.args.c c.tries.before i.noted.0 c.args.seat.now.entries c.tries.seat.entries i.noted.1 not) c.in_default.ensures.won.0

pub returns-in_default-clause-raised : goal.returns-in_default-clause-raised
returns-in_default-clause-raised g c =
    let n = g.N.Ceilings in
    let is : joins.join n.facts c.tries.before c.args.c ≡ c.join-after.result = ap (λ (f : Facts). joins.join f c.tries.before c.args.c) (sym c.self.invariant.facts_are) ∙ sym c.join-after.ensures in
    let not : at_most n.facts c.args.c c.tries.before ≡ false = ap (λ (f : Facts). at_most f c.args.c c.tries.before) (sym c.self.invariant.facts_are) ∙ (sym c.le.ensures.value ∙ c.if-le.false) in
    subst (λ (x : Content). c.tries.before ≢ x) is (after_differs (the_laws n.facts n.longs) c.tries.before c.args.c c.tries.invariant.belongs c.requires.belongs not)

pub returns-in_default-clause-ceiling : goal.returns-in_default-clause-ceiling
returns-in_default-clause-ceiling g c =
    let n = g.N.Ceilings in
    let i = c.tries.invariant in
    let is : joins.join n.facts c.tries.before c.args.c ≡ c.join-after.result = ap (λ (f : Facts). joins.join f c.tries.before c.args.c) (sym c.self.invariant.facts_are) ∙ sym c.join-after.ensures in
    subst (λ (x : Content). AtMost n.facts x (at n.ceilings c.args.cell)) is (after_capped (the_laws n.facts n.longs) c.tries.before c.args.c (at n.ceilings c.args.cell) i.belongs c.requires.belongs i.capped c.requires.ceiling (c.self.invariant.ceilings_belong c.args.cell))

pub tries-smaller : goal.tries-smaller
tries-smaller g c =
    let n = g.N.Ceilings in
    let laws = the_laws n.facts n.longs in
    let i = c.tries.invariant in
    let h = c.in-Some.ensures.found in
    found_less laws c.tries.before c.in-Some.found i.belongs h.belongs (found_more laws c.args.cell c.tries.before c.in-Some.found (at n.ceilings c.args.cell) c.tries.seat.entries c.exchange.new.seat.entries i.belongs i.sees h) c.in-Some.ensures.lost.0

pub tries-preserved : goal.tries-preserved
tries-preserved g c =
    let n = g.N.Ceilings in
    let laws = the_laws n.facts n.longs in
    let i = c.tries.invariant in
    let h = c.in-Some.ensures.found in
    let not : at_most n.facts c.args.c c.tries.before ≡ false = ap (λ (f : Facts). at_most f c.args.c c.tries.before) (sym c.self.invariant.facts_are) ∙ (sym c.le.ensures.value ∙ c.if-le.false) in
    let reads = look_reads n.facts c.args.cell c.args.c c.tries.before i.noted.0 c.args.seat.now.entries c.tries.seat.entries i.noted.1 not in
    let up = found_more laws c.args.cell c.tries.before c.in-Some.found (at n.ceilings c.args.cell) c.tries.seat.entries c.exchange.new.seat.entries i.belongs i.sees h in
    record {
      same = search rules;
      belongs = h.belongs;
      capped = h.capped;
      seen_first = laws.order.transitive (seen n.facts c.args.cell c.args.seat.now.entries) c.tries.before c.in-Some.found (seen_belongs laws c.args.cell c.args.seat.now.entries i.first_belong).0 i.belongs.0 h.belongs.0 i.seen_first up;
      sees = h.sees;
      first_belong = i.first_belong;
      all_belong = h.all_belong;
      noted = (c.tries.before ∷ i.noted.0, c.in-Some.ensures.lost.1 ∙ ap (λ (es : List Entry). looked n.facts c.args.cell c.args.c c.in-Some.found es) reads);
    }
