use Rattle.std.proofs.Common.{arith, ℕ, List, ◌∙◌, ◌+◌, ap, sym, subst}
use Rattle.gu_contents.specs.Codes.{content}
use Rattle.gu_cells.specs.declared.sizes.Sizes.{Sizes}
use Rattle.gu_cells.specs.Record.{RecordBelongs}
use Rattle.gu_cells.specs.Views.{CellsView, SeatView}
use Rattle.gu_cells.proofs.Lattice.{the_laws}
use Rattle.gu_cells.proofs.Found.{IsCodeOf, exchange_asks, won_notes, lost_finds, own_code}
use Rattle.gu_cells.proofs.Steps.{exchange_allowed}
use Rattle.gu_cells.proofs.cells.Cells.exchange.Goals as goal
use Rattle.gu_cells.proofs.cells.Cells.exchange.Goals.{then-found-old, else-found-old}

pub code_of-old-requires-clause-shallow : goal.code_of-old-requires-clause-shallow
code_of-old-requires-clause-shallow g c = (the_laws g.N.Ceilings.facts g.N.Ceilings.longs).answers.shallow c.args.before c.requires.before.0

pub code_of-new-requires-clause-shallow : goal.code_of-new-requires-clause-shallow
code_of-new-requires-clause-shallow g c = (the_laws g.N.Ceilings.facts g.N.Ceilings.longs).answers.shallow c.args.after c.requires.after.0.0

pub compare_exchange-found-requires : goal.compare_exchange-found-requires
compare_exchange-found-requires g c =
    let n = g.N.Ceilings in
    let laws = the_laws n.facts n.longs in
    let cells = ap (λ (v : CellsView). v.cells) c.self.view_is in
    let key = ap (λ (z : Sizes). z.cells) c.self.invariant.key_is in
    let same = c.self.invariant.longs_are in
    let old : IsCodeOf n.facts n.longs c.args.before c.code_of-old.result = own_code n.facts n.longs c.self.inside.longs.now c.args.before c.code_of-old.result same c.requires.before c.code_of-old.ensures.value c.code_of-old.ensures.back in
    let new : IsCodeOf n.facts n.longs c.args.after c.code_of-new.result = own_code n.facts n.longs c.self.inside.longs.now c.args.after c.code_of-new.result same c.requires.after.0 c.code_of-new.ensures.value c.code_of-new.ensures.back in (
      ap (λ (v : SeatView). v.of) c.seat.view_is ∙ c.requires.seat ∙ sym (ap (λ (v : CellsView). v.id) c.self.view_is),
      omega arith,
      exchange_allowed laws n.ceilings c.self.inside.table.shared.key _ _ (c.args.cell + 1) c.code_of-old.result c.code_of-new.result g.A.Asked.asked c.seat.inside.seat.me c.seat.invariant.live
          (exchange_asks laws n.ceilings c.self.inside.table.shared.key c.args.cell c.code_of-old.result c.code_of-new.result c.args.asked g.A.Asked.asked c.args.before c.args.after (omega arith) c.requires.asked c.requires.belongs old new c.requires.after.1 c.requires.up.0 c.requires.up.1),
    )

pub returns-clause-won : goal.returns-clause-won
returns-clause-won g c = elim c.if-found-old.branch [
  | then-found-old w ↦ rw w.result-is (
      let n = g.N.Ceilings in
      let laws = the_laws n.facts n.longs in
      let was = sym (ap (λ (v : SeatView). v.entries) c.seat.view_is) in
      let same = c.self.invariant.longs_are in
      let old : IsCodeOf n.facts n.longs c.args.before c.code_of-old.result = own_code n.facts n.longs c.self.inside.longs.now c.args.before c.code_of-old.result same c.requires.before c.code_of-old.ensures.value c.code_of-old.ensures.back in
      let new : IsCodeOf n.facts n.longs c.args.after c.code_of-new.result = own_code n.facts n.longs c.self.inside.longs.now c.args.after c.code_of-new.result same c.requires.after.0 c.code_of-new.ensures.value c.code_of-new.ensures.back in
      let noted = won_notes laws n.ceilings c.self.inside.table.shared.table_id.slots c.args.cell c.compare_exchange-found.result c.code_of-old.result c.code_of-new.result g.A.Asked.asked c.args.asked c.args.before c.args.after c.seat.inside.seat.me c.compare_exchange-found.new.seat.me c.args.seat.now.entries
      c.compare_exchange-found.ensures.2 was w.if-found-old.true c.requires.asked old new in
      (noted, subst (RecordBelongs n.facts n.longs) (sym noted) ((c.requires.belongs, c.requires.before, c.requires.after.0), subst (RecordBelongs n.facts n.longs) (sym was) c.seat.invariant.belongs)))
  | else-found-old w ↦ rw w.result-is tt
]

pub returns-clause-found : goal.returns-clause-found
returns-clause-found g c = elim c.if-found-old.branch [
  | then-found-old w ↦ rw w.result-is tt
  | else-found-old w ↦ rw w.result-is (
      let n = g.N.Ceilings in
      let was = sym (ap (λ (v : SeatView). v.entries) c.seat.view_is) in
      lost_finds (the_laws n.facts n.longs) n.ceilings c.self.inside.table.shared.table_id.slots c.args.cell c.compare_exchange-found.result c.code_of-old.result c.code_of-new.result g.A.Asked.asked c.args.asked w.content_of.result c.seat.inside.seat.me c.compare_exchange-found.new.seat.me c.args.seat.now.entries
      c.compare_exchange-found.ensures.2 was (w.content_of.ensures ∙ ap (λ (l : List ℕ). content l c.compare_exchange-found.result) c.self.invariant.longs_are) w.if-found-old.false c.requires.asked c.requires.belongs c.seat.invariant.belongs)
]
