use Rattle.std.proofs.Common.{arith, ℕ, List, ◌∙◌, ◌+◌, ap, sym, subst}
use Rattle.gu_contents.specs.declared.content.Content.{Content}
use Rattle.gu_cells.specs.Record.{BelongsTo}
use Rattle.gu_cells.specs.Views.{CellsView, SeatView}
use Rattle.gu_cells.proofs.Lattice.{the_laws}
use Rattle.gu_contents.specs.Codes.{content}
use Rattle.gu_cells.proofs.Found.{look_finds}
use Rattle.gu_cells.proofs.Steps.{look_allowed}
use Rattle.gu_cells.proofs.cells.Cells.look.Goals as goal

pub load-word-requires : goal.load-word-requires
load-word-requires g c =
    let n = g.N.Ceilings in
    let cells = ap (λ (v : CellsView). v.cells) c.self.view_is in
    let belongs : BelongsTo n.facts n.longs g.A.Asked.asked = subst (λ (a : Content). BelongsTo n.facts n.longs a) c.requires.asked c.requires.belongs in (
      ap (λ (v : SeatView). v.of) c.seat.view_is ∙ c.requires.seat ∙ sym (ap (λ (v : CellsView). v.id) c.self.view_is),
      omega arith,
      look_allowed (the_laws n.facts n.longs) n.ceilings c.self.inside.table.shared.key _ _ (c.args.cell + 1) g.A.Asked.asked c.seat.inside.seat.me (omega arith) c.seat.invariant.live belongs,
    )

pub returns-clause-found : goal.returns-clause-found
returns-clause-found g c =
    let n = g.N.Ceilings in
    let was = sym (ap (λ (v : SeatView). v.entries) c.seat.view_is) in
    look_finds (the_laws n.facts n.longs) n.ceilings c.self.inside.table.shared.table_id.slots c.args.cell c.load-word.result g.A.Asked.asked c.args.asked c.content_of.result c.seat.inside.seat.me c.load-word.new.seat.me c.args.seat.now.entries
    c.load-word.ensures.2 was (c.content_of.ensures ∙ ap (λ (l : List ℕ). content l c.load-word.result) c.self.invariant.longs_are) c.requires.asked c.requires.belongs c.seat.invariant.belongs
