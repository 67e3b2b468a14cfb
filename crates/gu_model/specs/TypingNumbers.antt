-- The rows of numbers and memories (core specification 3.0, 3.4 Instructions, numeric and memory instructions).
use Rattle.std.specs.Prelude.{ℕ, ◌&&◌, List, [], ◌∷◌, Option, Some, replicate, nat_lt, nat_le}
use Rattle.gu_types.specs.declared.types.ValType.{ValType}
use Rattle.gu_types.specs.declared.types.ValType.TheVariants.{I32, I64}
use Rattle.gu_optab.specs.declared.op.NumType.{NumType}
use Rattle.gu_optab.specs.declared.op.NumType.TheVariants as N
use Rattle.gu_optab.specs.Operators.{Operator, row_at}
use Rattle.gu_syntax.specs.declared.instr.Instr.{Instr}
use Rattle.gu_syntax.specs.declared.instr.Instr.TheVariants as I
use Rattle.gu_syntax.specs.declared.instr.MemArg.{MemArg}
use Rattle.gu_model.specs.TypingContext.{Context, given}
use Rattle.gu_model.specs.TypingRows.{Row, goes}
use Rattle.gu_model.specs.TypingTables.{table_row}

abbrev pub number : NumType → ValType
number N.I32 = I32
number N.I64 = I64

-- an integer operator, as its row in the table of operators says
abbrev pub operator : Operator → Row
operator o = goes (replicate o.operand_count (number o.operand_type)) (number o.result_type ∷ [])

-- an operator is one of 66
abbrev pub operator_row : (row : ℕ) → Option Row
operator_row n = given (nat_lt n 66) (Some (operator (row_at n)))

-- an access to a memory, of 2 ^ width bytes: the alignment, as an exponent, is at most the width
abbrev pub access : Context → MemArg → (width : ℕ) → (operands results : List ValType) → Option Row
access C arg width ts us = given (nat_lt arg.memory C.memories && nat_le arg.exponent width) (Some (goes ts us))

abbrev pub load : Context → MemArg → (width : ℕ) → ValType → Option Row
load C arg width t = access C arg width (I32 ∷ []) (t ∷ [])

abbrev pub store : Context → MemArg → (width : ℕ) → ValType → Option Row
store C arg width t = access C arg width (I32 ∷ t ∷ []) []

-- an instruction on a memory
abbrev pub on_memory : Context → (memory : ℕ) → (operands results : List ValType) → Option Row
on_memory C x ts us = given (nat_lt x C.memories) (Some (goes ts us))

abbrev pub memory_row : Context → Instr → Option Row
memory_row C (I.MemorySize x) = on_memory C x [] (I32 ∷ [])
memory_row C (I.MemoryGrow x) = on_memory C x (I32 ∷ []) (I32 ∷ [])
memory_row C (I.MemoryFill x) = on_memory C x (I32 ∷ I32 ∷ I32 ∷ []) []
memory_row C (I.MemoryCopy x y) = given (nat_lt x C.memories && nat_lt y C.memories) (Some (goes (I32 ∷ I32 ∷ I32 ∷ []) []))
memory_row C (I.MemoryInit d x) = given (nat_lt x C.memories && nat_lt d C.segs) (Some (goes (I32 ∷ I32 ∷ I32 ∷ []) []))
memory_row C (I.DataDrop d) = given (nat_lt d C.segs) (Some (goes [] []))
memory_row C i = table_row C i

abbrev pub number_row : Context → Instr → Option Row
number_row C (I.I32Const n) = Some (goes [] (I32 ∷ []))
number_row C (I.I64Const n) = Some (goes [] (I64 ∷ []))
number_row C (I.Num op) = operator_row op.row
number_row C (I.I32Load arg) = load C arg 2 I32
number_row C (I.I64Load arg) = load C arg 3 I64
number_row C (I.I32Load8S arg) = load C arg 0 I32
number_row C (I.I32Load8U arg) = load C arg 0 I32
number_row C (I.I32Load16S arg) = load C arg 1 I32
number_row C (I.I32Load16U arg) = load C arg 1 I32
number_row C (I.I64Load8S arg) = load C arg 0 I64
number_row C (I.I64Load8U arg) = load C arg 0 I64
number_row C (I.I64Load16S arg) = load C arg 1 I64
number_row C (I.I64Load16U arg) = load C arg 1 I64
number_row C (I.I64Load32S arg) = load C arg 2 I64
number_row C (I.I64Load32U arg) = load C arg 2 I64
number_row C (I.I32Store arg) = store C arg 2 I32
number_row C (I.I64Store arg) = store C arg 3 I64
number_row C (I.I32Store8 arg) = store C arg 0 I32
number_row C (I.I32Store16 arg) = store C arg 1 I32
number_row C (I.I64Store8 arg) = store C arg 0 I64
number_row C (I.I64Store16 arg) = store C arg 1 I64
number_row C (I.I64Store32 arg) = store C arg 2 I64
number_row C i = memory_row C i
