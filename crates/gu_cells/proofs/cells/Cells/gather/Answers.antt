use Rattle.std.proofs.Common.{arith, ap, sym, ◌≡◌, ◌∙◌, ◌++◌, ℕ, List, length, map}
use Rattle.atomic_table.specs.Table.{Me}
use Rattle.gu_cells.specs.declared.record.View.{View}
use Rattle.gu_cells.specs.Rule.{parts, records, both}
use Rattle.gu_cells.specs.Views.{CellsView, SeatView}
use Rattle.gu_cells.proofs.Lattice.{the_laws}
use Rattle.gu_cells.proofs.Seats.{part_of, count_is, Shows, gathered, none_left, all_gathered, first_of_left, rest_of_left, own_records, all_carried}
use Rattle.gu_cells.proofs.Splits.{merge_allowed}
use Rattle.gu_cells.proofs.cells.Cells.gather.Goals as goal

pub remove-requires : goal.remove-requires
remove-requires g c =
    let count : length c.args.seats ≡ c.args.self.now.seats = count_is c.args.seats 0 c.args.self.now.seats c.requires.numbers in
    let seats = ap (λ (v : CellsView). v.seats) c.self.view_is in
    let items = ap (λ (xs : List SeatView). length xs) c.into_vec-seats.ensures in
    omega (arith, c.self.invariant.some_seats, c.into_vec-seats.result.ok)

pub join_seat-requires : goal.join_seat-requires
join_seat-requires g c =
    let n = g.N.Ceilings in
    let i = c.others.invariant in
    let table = c.self.inside.table.shared.table_id in (
      i.table,
      ap (λ (s : SeatView). s.of) c.other.view_is ∙ first_of_left (λ (s : SeatView). s.of ≡ table) c.others.other-iterator.rest.items c.next.new.self.rest.items c.in-Some.other c.in-Some.ensures.steps.0 i.of,
      c.other.invariant.holds_none,
      omega (arith, c.self.invariant.words_are),
      merge_allowed (the_laws n.facts n.longs) n.ceilings c.self.inside.table.shared.key _ c.others.first.me.0 _ c.other.inside.seat.me.0 i.live i.number c.other.invariant.live,
    )

pub others-preserved : goal.others-preserved
others-preserved g c =
    let i = c.others.invariant in
    let steps = c.in-Some.ensures.steps.0 in
    let table = c.self.inside.table.shared.table_id in
    let joined = c.join_seat.ensures in
    let v = c.others.first.me.0 in
    let w = c.other.inside.seat.me.0 in
    let shows : Shows w c.in-Some.other = record { no_others = c.other.invariant.no_others; number_is = ap (λ (s : SeatView). s.number) c.other.view_is; own_is = ap (λ (s : SeatView). s.entries) c.other.view_is } in
    let now : c.join_seat.new.seat.me.0 ≡ both v w = ap (λ (m : Me ℕ View). m.0) joined.2 in
    record {
      table = joined.0 ∙ i.table;
      live = ap (λ (x : View). x.spent) now ∙ i.live;
      empty = ap (λ (m : Me ℕ View). m.1) joined.2 ∙ i.empty;
      number = ap (λ (x : View). x.number) now ∙ i.number;
      all = ap (λ (x : View). parts x ++ map part_of c.next.new.self.rest.items) now ∙ gathered v w c.in-Some.other c.others.other-iterator.rest.items c.next.new.self.rest.items (map part_of c.args.seats) steps shows i.all;
      of = rest_of_left (λ (s : SeatView). s.of ≡ table) c.others.other-iterator.rest.items c.next.new.self.rest.items c.in-Some.other steps i.of;
    }

pub returns-clause-records : goal.returns-clause-records
returns-clause-records g c =
    ap records (all_gathered c.others.first.me.0 c.others.other-iterator.rest.items c.args.seats (none_left c.others.other-iterator.rest.items (sym c.others.other-iterator.rest.ok.0 ∙ c.in-None.ensures.steps.0)) c.others.invariant.all) ∙ own_records c.args.seats

pub returns-clause-whole : goal.returns-clause-whole
returns-clause-whole g c =
    all_carried (parts c.others.first.me.0) c.args.seats c.args.self.now.seats (all_gathered c.others.first.me.0 c.others.other-iterator.rest.items c.args.seats (none_left c.others.other-iterator.rest.items (sym c.others.other-iterator.rest.ok.0 ∙ c.in-None.ensures.steps.0)) c.others.invariant.all) c.requires.numbers
