use Rattle.std.proofs.Common.{arith, ◌∙◌, ◌+◌, ap, sym}
use Rattle.gu_cells.specs.Views.{CellsView, SeatView}
use Rattle.gu_cells.proofs.Lattice.{the_laws}
use Rattle.gu_cells.proofs.Steps.{read_allowed}
use Rattle.gu_cells.proofs.cells.Cells.read.Goals as goal

pub load-word-requires : goal.load-word-requires
load-word-requires g c =
    let n = g.N.Ceilings in
    let cells = ap (λ (v : CellsView). v.cells) c.self.view_is in (
      ap (λ (v : SeatView). v.of) c.seat.view_is ∙ c.requires.seat ∙ sym (ap (λ (v : CellsView). v.id) c.self.view_is),
      omega arith,
      read_allowed (the_laws n.facts n.longs) n.ceilings c.self.inside.table.shared.key _ _ (c.args.cell + 1) c.seat.inside.seat.me (omega arith) c.seat.invariant.live,
    )
