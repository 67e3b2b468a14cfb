use Rattle.std.proofs.Common.{arith, ℕ, ◌≡◌, ◌∙◌, ap, []}
use Rattle.atomic_table.specs.Table.{Me}
use Rattle.gu_cells.specs.declared.record.View.{View}
use Rattle.gu_cells.specs.Rule.{counted}
use Rattle.gu_cells.specs.Views.{SeatView}
use Rattle.gu_cells.proofs.Seats.{numbers_more, numbers_first, all_more}
use Rattle.gu_cells.proofs.cells.Cells.open.Goals as goal

pub others-preserved : goal.others-preserved
others-preserved g c =
    let i = c.others.invariant in
    let split = c.split-seat.ensures in
    let count = ap (λ (m : Me ℕ View). m.0.count) i.first in record {
      first = split.old.1 ∙ ap (λ (m : Me ℕ View). (counted m.0, m.1)) i.first;
      table = split.old.0 ∙ i.table;
      count = i.count;
      seats = i.seats;
      numbers = numbers_more c.others.list.items c.push.new.self.items c.of.result c.others.counter c.in_ok-push.ensures.items i.numbers (omega arith)
          (ap (λ (s : SeatView). s.number) c.of.ensures ∙ (ap (λ (m : Me ℕ View). m.0.number) split.new.1 ∙ count));
      records = all_more (λ (s : SeatView). s.entries ≡ []) c.others.list.items c.push.new.self.items c.of.result c.in_ok-push.ensures.items i.records
          (ap (λ (s : SeatView). s.entries) c.of.ensures ∙ ap (λ (m : Me ℕ View). m.0.own) split.new.1);
      of = all_more (λ (s : SeatView). s.of ≡ c.opened.inside.table.shared.table_id) c.others.list.items c.push.new.self.items c.of.result c.in_ok-push.ensures.items i.of
          (ap (λ (s : SeatView). s.of) c.of.ensures ∙ (split.new.0 ∙ i.table));
    }

pub returns-clause-numbers : goal.returns-clause-numbers
returns-clause-numbers g c =
    numbers_first c.others.list.items c.from_vec.result c.of-2.result c.others.counter c.args.seats (c.from_vec.ensures ∙ c.in_ok-insert.ensures.items) c.others.invariant.numbers (omega arith) (omega arith)
    (ap (λ (s : SeatView). s.number) c.of-2.ensures ∙ ap (λ (m : Me ℕ View). m.0.number) c.others.invariant.first)
