-- Numbers and memories: each instruction by its rule (core specification 3.0, 4.6 Instructions, Numeric Instructions and
-- Memory Instructions). Operands stand with the last first.
use Rattle.std.specs.Prelude.{ℕ, zero, suc, ◌+◌, ◌*◌, ◌/◌, ◌%◌, List, [], ◌∷◌, Option, Some, None, slice_get, length, ℤ}
use Rattle.std.specs.Int.{w32, w64, cast_unsigned}
use Rattle.gu_optab.specs.declared.op.NumOp.{NumOp}
use Rattle.gu_optab.specs.declared.op.NumType.{NumType}
use Rattle.gu_optab.specs.declared.op.NumType.TheVariants as N
use Rattle.gu_optab.specs.Operators.{row_at}
use Rattle.gu_num.specs.Numeric.{numeric}
use Rattle.gu_syntax.specs.declared.instr.MemArg.{MemArg}
use Rattle.gu_model.specs.Value.{Value, i32, i64, Store}
use Rattle.gu_model.specs.Did.{Did, goes, fails, Rule, need, within, part, put, with_memory}

-- the number in a value of a number type, and the way back
abbrev pub number_in : NumType → Value → Option ℕ
number_in N.I32 (i32 n) = Some n
number_in N.I64 (i64 n) = Some n
number_in _ _ = None

abbrev pub number : NumType → ℕ → Value
number N.I32 n = i32 n
number N.I64 n = i64 n

-- i32.const and i64.const: the number as an unsigned one
abbrev pub i32_const : ℤ → Rule
i32_const z ls st [] = goes (i32 (cast_unsigned w32 z) ∷ []) ls st
i32_const z ls st _ = fails

abbrev pub i64_const : ℤ → Rule
i64_const z ls st [] = goes (i64 (cast_unsigned w64 z) ∷ []) ls st
i64_const z ls st _ = fails

-- an integer operator on numbers, the first first: it may trap
abbrev pub computed : NumOp → List ℕ → List (Option Value) → Store → Did
computed op ns ls st = within (numeric op ns) (λ n. goes (number (row_at op.row).result_type n ∷ []) ls st)

-- the operators on one number and on two (unop, binop, testop, relop, cvtop)
abbrev pub operator : NumOp → Rule
operator op ls st (v ∷ []) = need (number_in (row_at op.row).operand_type v) (λ a. computed op (a ∷ []) ls st)
operator op ls st (w ∷ v ∷ []) = need (number_in (row_at op.row).operand_type v) (λ a. need (number_in (row_at op.row).operand_type w) (λ b. computed op (a ∷ b ∷ []) ls st))
operator op ls st _ = fails

-- a number from its bytes, the lowest first, and the lowest bytes of a number (4.3 Numerics, Storage)
abbrev pub from_bytes : List ℕ → ℕ
from_bytes [] = 0
from_bytes (b ∷ bs) = b + 256 * from_bytes bs

abbrev pub to_bytes : (count : ℕ) → ℕ → List ℕ
to_bytes zero n = []
to_bytes (suc k) n = n % 256 ∷ to_bytes k (n / 256)

-- a number as it is
abbrev pub as_it_is : ℕ → ℕ
as_it_is n = n

-- the loads: so many bytes, read so, as a number of a type (t.load, t.loadN_sx)
abbrev pub load : NumType → (bytes : ℕ) → (read : ℕ → ℕ) → MemArg → Rule
load t count read arg ls st (i32 n ∷ []) = need (slice_get st.memories arg.memory) (λ bytes. within (part (n + arg.offset) count bytes) (λ bs. goes (number t (read (from_bytes bs)) ∷ []) ls st))
load t count read arg ls st _ = fails

-- the stores: the lowest bytes of a number of a type (t.store, t.storeN)
abbrev pub store : NumType → (bytes : ℕ) → MemArg → Rule
store t count arg ls st (v ∷ i32 n ∷ []) = need (number_in t v) (λ c. need (slice_get st.memories arg.memory) (λ bytes. within (put (n + arg.offset) (to_bytes count c) bytes) (λ new. goes [] ls (with_memory st arg.memory new))))
store t count arg ls st _ = fails

-- the bytes of a page
abbrev pub page : ℕ
page = 65536

-- memory.size, in pages
abbrev pub memory_size : (memory : ℕ) → Rule
memory_size x ls st [] = need (slice_get st.memories x) (λ bytes. goes (i32 (length bytes / page) ∷ []) ls st)
memory_size x ls st _ = fails
