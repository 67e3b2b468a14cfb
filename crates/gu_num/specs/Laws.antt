-- What holds of the operators.
use Rattle.std.specs.Prelude.{ℕ, ◌+◌, ◌%◌, ◌^◌, ◌<◌, ◌≡◌, [], ◌∷◌, IfSome, Some, ℤ, ◌+ℤ◌, ◌*ℤ◌, int_div, int_rem, unsigned_abs}
use Rattle.std.specs.Int.{bit_at, rotate_left, rotate_right}
use Rattle.gu_optab.specs.declared.op.NumOp.{NumOp}
use Rattle.gu_optab.specs.declared.op.NumType.{NumType}
use Rattle.gu_optab.specs.Operators.{row_at}
use Rattle.gu_num.specs.Numeric.{bits, numeric, width_of}

-- a number of a type
abbrev pub Holds : NumType → ℕ → Type 0
Holds type n = n < 2 ^ bits (width_of type)

-- an operator on a number of its operand's type gives one of its result's type
abbrev pub OneFits : Type 0
OneFits = (op : NumOp) (a : ℕ) → op.row < 66 → Holds (row_at op.row).operand_type a → IfSome (numeric op (a ∷ [])) (Holds (row_at op.row).result_type)

-- so does an operator on two numbers, where it does not trap
abbrev pub TwoFit : Type 0
TwoFit = (op : NumOp) (a b : ℕ) → op.row < 66 → Holds (row_at op.row).operand_type a → Holds (row_at op.row).operand_type b → IfSome (numeric op (a ∷ b ∷ [])) (Holds (row_at op.row).result_type)

-- an operator that takes one operand never traps
abbrev pub OneNeverTraps : Type 0
OneNeverTraps = (op : NumOp) (a : ℕ) → op.row < 66 → (row_at op.row).operand_count ≡ 1 → (c : ℕ) × (numeric op (a ∷ []) ≡ Some c)

-- signed division: divisor times quotient and remainder make the dividend, and the remainder is smaller than the
-- divisor
abbrev pub Division : Type 0
Division = (z d : ℤ) → 0 < unsigned_abs d → (int_div z d *ℤ d +ℤ int_rem z d ≡ z) × (unsigned_abs (int_rem z d) < unsigned_abs d)

-- a rotation turns the bits: by k to the left, bit i comes to place i + k, counted around the width; to the right,
-- place i gets bit i + k
abbrev pub Rotations : Type 0
Rotations = (type : NumType) (a k i : ℕ) → Holds type a → i < bits (width_of type) → (bit_at (rotate_left (width_of type) a k) ((i + k % bits (width_of type)) % bits (width_of type)) ≡ bit_at a i) × (bit_at (rotate_right (width_of type) a k) i ≡ bit_at a ((i + k % bits (width_of type)) % bits (width_of type)))
