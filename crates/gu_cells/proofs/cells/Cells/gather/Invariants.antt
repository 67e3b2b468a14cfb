use Rattle.std.proofs.Common.{◌≡◌, ◌++◌, [], map, All, false}
use Rattle.gu_cells.specs.Rule.{parts}
use Rattle.gu_cells.specs.Views.{SeatView}
use Rattle.gu_cells.proofs.Seats.{part_of}
use Rattle.gu_cells.proofs.cells.Cells.gather.Given as goal

-- the parts of the first seat, and those of the seats that are left, are the parts of all seats
abbrev pub invariant-others : goal.invariant-others
invariant-others g l = record {
  table : l.first.table_id ≡ l.table.table_id;
  live : l.first.me.0.spent ≡ false;
  empty : l.first.me.1 ≡ [];
  number : l.first.me.0.number ≡ 0;
  all : parts l.first.me.0 ++ map part_of l.other-iterator.rest.items ≡ map part_of l.fn.seats;
  of : All (λ (s : SeatView). s.of ≡ l.table.table_id) l.other-iterator.rest.items;
}
