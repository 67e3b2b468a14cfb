-- The cells and the seats as contracts see them.
use Rattle.std.specs.Prelude.{ℕ, ◌≡◌, List}
use Rattle.atomic_table.specs.Seated.{TableId}
use Rattle.gu_cells.specs.declared.record.Entry.{Entry}

-- which cells they are, how many, and how many seats were made with them
pub record CellsView : Type 0 where
  pub id : TableId
  pub cells : ℕ
  pub seats : ℕ

abbrev pub cells_view : TableId → ℕ → ℕ → CellsView
cells_view id cells seats = record { id = id; cells = cells; seats = seats }

-- which cells a seat belongs to, its number, and its record
pub record SeatView : Type 0 where
  pub of : TableId
  pub number : ℕ
  pub entries : List Entry

abbrev pub seat_view : TableId → ℕ → List Entry → SeatView
seat_view id number entries = record { of = id; number = number; entries = entries }

-- nothing of a seat changes but its record
abbrev pub IsSameSeat : SeatView → SeatView → Type 0
IsSameSeat old new = new ≡ record old { entries = new.entries }
