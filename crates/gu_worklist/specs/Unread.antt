-- Cells that are not read yet.
use Rattle.std.specs.Prelude.{ℕ, zero, suc, ◌+◌, Bool, List, nat_eq, if◌then◌else◌}
use Rattle.std.specs.List.{list_any}

-- whether a cell is one of a list of cells
abbrev pub is_among : List ℕ → ℕ → Bool
is_among cells cell = list_any (nat_eq cell) cells

-- how many of the first cells, so many, are none of a list
abbrev pub others : ℕ → List ℕ → ℕ
others zero cells = 0
others (suc cell) cells = (if is_among cells cell then 0 else 1) + others cell cells
