use Rattle.std.proofs.Common.{◌≡◌, ◌-◌, [], map, All, false}
use Rattle.std.specs.List.{range_with_len}
use Rattle.gu_cells.specs.Rule.{view}
use Rattle.gu_cells.specs.Views.{SeatView}
use Rattle.gu_cells.proofs.cells.Cells.open.Given as goal

-- the first seat counts all seats so far; the list has the others, in order, with empty records
abbrev pub invariant-others : goal.invariant-others
invariant-others g l = record {
  first : l.first.me ≡ (view false l.counter 0 [] [], []);
  table : l.first.table_id ≡ l.opened-inside.table.shared.table_id;
  count : l.opened-inside.sizes.cells ≡ l.cells;
  seats : l.opened-inside.sizes.seats ≡ l.seats;
  numbers : map (λ (s : SeatView). s.number) l.list.items ≡ range_with_len 1 (l.counter - 1);
  records : All (λ (s : SeatView). s.entries ≡ []) l.list.items;
  of : All (λ (s : SeatView). s.of ≡ l.opened-inside.table.shared.table_id) l.list.items;
}
