-- The 66 integer operators of the profile (core specification 3.0, 2.4, Numeric Instructions; their codes are those
-- of 5.4, Numeric Instructions).
use Rattle.std.specs.Prelude.{ℕ, List, [], ◌∷◌, ◌==◌, Option, option_map, slice_index_or, position}
use Rattle.gu_optab.specs.declared.op.NumOp.{NumOp}
use Rattle.gu_optab.specs.declared.op.NumType.{NumType}
use Rattle.gu_optab.specs.declared.op.NumType.TheVariants.{I32, I64}

-- an operator: the byte that spells it, how many operands it takes, their type and the type of its result
pub record Operator : Type 0 where
  pub code : ℕ
  pub operand_count : ℕ
  pub operand_type : NumType
  pub result_type : NumType

abbrev pub row : ℕ → ℕ → NumType → NumType → Operator
row code count operand result = record { code = code; operand_count = count; operand_type = operand; result_type = result }

-- the table of operators; an operator is named by its row, counted from 0
abbrev pub operators : List Operator
operators =
    row 0x45 1 I32 I32 ∷  -- 0 i32.eqz
    row 0x46 2 I32 I32 ∷  -- 1 i32.eq
    row 0x47 2 I32 I32 ∷  -- 2 i32.ne
    row 0x48 2 I32 I32 ∷  -- 3 i32.lt_s
    row 0x49 2 I32 I32 ∷  -- 4 i32.lt_u
    row 0x4A 2 I32 I32 ∷  -- 5 i32.gt_s
    row 0x4B 2 I32 I32 ∷  -- 6 i32.gt_u
    row 0x4C 2 I32 I32 ∷  -- 7 i32.le_s
    row 0x4D 2 I32 I32 ∷  -- 8 i32.le_u
    row 0x4E 2 I32 I32 ∷  -- 9 i32.ge_s
    row 0x4F 2 I32 I32 ∷  -- 10 i32.ge_u
    row 0x50 1 I64 I32 ∷  -- 11 i64.eqz
    row 0x51 2 I64 I32 ∷  -- 12 i64.eq
    row 0x52 2 I64 I32 ∷  -- 13 i64.ne
    row 0x53 2 I64 I32 ∷  -- 14 i64.lt_s
    row 0x54 2 I64 I32 ∷  -- 15 i64.lt_u
    row 0x55 2 I64 I32 ∷  -- 16 i64.gt_s
    row 0x56 2 I64 I32 ∷  -- 17 i64.gt_u
    row 0x57 2 I64 I32 ∷  -- 18 i64.le_s
    row 0x58 2 I64 I32 ∷  -- 19 i64.le_u
    row 0x59 2 I64 I32 ∷  -- 20 i64.ge_s
    row 0x5A 2 I64 I32 ∷  -- 21 i64.ge_u
    row 0x67 1 I32 I32 ∷  -- 22 i32.clz
    row 0x68 1 I32 I32 ∷  -- 23 i32.ctz
    row 0x69 1 I32 I32 ∷  -- 24 i32.popcnt
    row 0x6A 2 I32 I32 ∷  -- 25 i32.add
    row 0x6B 2 I32 I32 ∷  -- 26 i32.sub
    row 0x6C 2 I32 I32 ∷  -- 27 i32.mul
    row 0x6D 2 I32 I32 ∷  -- 28 i32.div_s
    row 0x6E 2 I32 I32 ∷  -- 29 i32.div_u
    row 0x6F 2 I32 I32 ∷  -- 30 i32.rem_s
    row 0x70 2 I32 I32 ∷  -- 31 i32.rem_u
    row 0x71 2 I32 I32 ∷  -- 32 i32.and
    row 0x72 2 I32 I32 ∷  -- 33 i32.or
    row 0x73 2 I32 I32 ∷  -- 34 i32.xor
    row 0x74 2 I32 I32 ∷  -- 35 i32.shl
    row 0x75 2 I32 I32 ∷  -- 36 i32.shr_s
    row 0x76 2 I32 I32 ∷  -- 37 i32.shr_u
    row 0x77 2 I32 I32 ∷  -- 38 i32.rotl
    row 0x78 2 I32 I32 ∷  -- 39 i32.rotr
    row 0x79 1 I64 I64 ∷  -- 40 i64.clz
    row 0x7A 1 I64 I64 ∷  -- 41 i64.ctz
    row 0x7B 1 I64 I64 ∷  -- 42 i64.popcnt
    row 0x7C 2 I64 I64 ∷  -- 43 i64.add
    row 0x7D 2 I64 I64 ∷  -- 44 i64.sub
    row 0x7E 2 I64 I64 ∷  -- 45 i64.mul
    row 0x7F 2 I64 I64 ∷  -- 46 i64.div_s
    row 0x80 2 I64 I64 ∷  -- 47 i64.div_u
    row 0x81 2 I64 I64 ∷  -- 48 i64.rem_s
    row 0x82 2 I64 I64 ∷  -- 49 i64.rem_u
    row 0x83 2 I64 I64 ∷  -- 50 i64.and
    row 0x84 2 I64 I64 ∷  -- 51 i64.or
    row 0x85 2 I64 I64 ∷  -- 52 i64.xor
    row 0x86 2 I64 I64 ∷  -- 53 i64.shl
    row 0x87 2 I64 I64 ∷  -- 54 i64.shr_s
    row 0x88 2 I64 I64 ∷  -- 55 i64.shr_u
    row 0x89 2 I64 I64 ∷  -- 56 i64.rotl
    row 0x8A 2 I64 I64 ∷  -- 57 i64.rotr
    row 0xA7 1 I64 I32 ∷  -- 58 i32.wrap_i64
    row 0xAC 1 I32 I64 ∷  -- 59 i64.extend_i32_s
    row 0xAD 1 I32 I64 ∷  -- 60 i64.extend_i32_u
    row 0xC0 1 I32 I32 ∷  -- 61 i32.extend8_s
    row 0xC1 1 I32 I32 ∷  -- 62 i32.extend16_s
    row 0xC2 1 I64 I64 ∷  -- 63 i64.extend8_s
    row 0xC3 1 I64 I64 ∷  -- 64 i64.extend16_s
    row 0xC4 1 I64 I64 ∷  -- 65 i64.extend32_s
    []

-- the operator of a row; rows end at 66
abbrev pub row_at : ℕ → Operator
row_at n = slice_index_or operators n (row 0 0 I32 I32)

-- the operator that a byte spells, if it spells one
abbrev pub operator_with : ℕ → Option NumOp
operator_with code = option_map (λ n. record { row = n }) (position (λ o. o.code == code) operators)
