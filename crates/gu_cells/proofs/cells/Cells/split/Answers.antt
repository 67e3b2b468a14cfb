use Rattle.std.proofs.Common.{arith, ◌∙◌, ap, sym}
use Rattle.gu_cells.specs.declared.sizes.Sizes.{Sizes}
use Rattle.gu_cells.specs.Views.{CellsView}
use Rattle.gu_cells.proofs.Lattice.{the_laws}
use Rattle.gu_cells.proofs.Splits.{split_allowed}
use Rattle.gu_cells.proofs.cells.Cells.split.Goals as goal

pub split_seat-requires : goal.split_seat-requires
split_seat-requires g c =
    let n = g.N.Ceilings in
    let seats = ap (λ (v : CellsView). v.seats) c.self.view_is in
    let key = ap (λ (z : Sizes). z.seats) c.self.invariant.key_is in (
      c.requires.seat ∙ sym (ap (λ (v : CellsView). v.id) c.self.view_is),
      omega (arith, c.self.invariant.words_are),
      split_allowed (the_laws n.facts n.longs) n.ceilings c.self.inside.table.shared.key _ c.args.first.now.me.0 c.requires.live c.requires.first (omega (arith, c.requires.room, seats, key)),
    )
