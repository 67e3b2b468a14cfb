use Rattle.std.proofs.Common.{rules, arith, ap, ◌∙◌}
use Rattle.std.specs.Slots.{slots_items}
use Rattle.gu_cells.specs.declared.sizes.Sizes.{Sizes}
use Rattle.gu_cells.specs.Rule.{records, parts}
use Rattle.gu_cells.specs.Views.{CellsView}
use Rattle.gu_cells.proofs.Lattice.{the_laws}
use Rattle.gu_cells.proofs.Closing.{Closes, closes}
use Rattle.gu_cells.proofs.cells.Cells.close.Goals as goal

pub returns : goal.returns
returns g c =
    let n = g.N.Ceilings in
    let first = c.gather-first.ensures in
    let seats = ap (λ (z : Sizes). z.seats) c.self.invariant.key_is ∙ ap (λ (v : CellsView). v.seats) c.self.view_is in
    let closed : Closes n.facts n.longs n.ceilings c.from_vec.result (records (parts c.of-of.result.value.me.0)) =
    closes (the_laws n.facts n.longs) n.ceilings c.self.inside.table.shared.key c.gather-first.result.id c.gather-first.result.me.0 (slots_items c.close_with-closed.result.words) (slots_items c.close_with-closed.result.slots)
    c.from_vec.result (records (parts c.of-of.result.value.me.0)) c.close_with-closed.ensures.values.2 first.seat.1 first.seat.2 (λ k lt. first.whole k (omega (arith, lt, seats))) (search rules) (search rules) (search rules) cc in
    record {
      refused = tt;
      length = search rules;
      track = search rules;
      belong = closed.belong;
      ceilings = closed.capped;
      seen = closed.covered;
      settled = closed.settled;
      all = closed.records_belong;
    }
