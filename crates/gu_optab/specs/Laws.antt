-- What holds of the table of operators.
use Rattle.std.specs.Prelude.{ℕ, ◌<◌, ◌≡◌, Some}
use Rattle.gu_optab.specs.declared.op.NumOp.{NumOp}
use Rattle.gu_optab.specs.Operators.{row_at, operator_with}

-- no two rows have the same code
abbrev pub CodesAreDistinct : Type 0
CodesAreDistinct = (op : NumOp) → op.row < 66 → operator_with (row_at op.row).code ≡ Some op

-- a code belongs to the row that has it
abbrev pub CodesAreOfRows : Type 0
CodesAreOfRows = (code : ℕ) (op : NumOp) → operator_with code ≡ Some op → (op.row < 66) × ((row_at op.row).code ≡ code)
