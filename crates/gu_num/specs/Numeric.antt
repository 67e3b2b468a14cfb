-- What the 66 integer operators compute (core specification 3.0, 4.3.2, Integer Operations). An integer of a width w
-- of N = bits w bits is held as a number below 2 ^ N; `cast_signed w` is the standard's signed_N, which reads it as
-- its two's complement, and `cast_unsigned w` is the inverse.
use Rattle.std.specs.Prelude.{ℕ, ◌+◌, ◌-◌, ◌*◌, ◌/◌, ◌%◌, ◌^◌, List, [], ◌∷◌, ◌++◌, Bool, not, ◌&&◌, ◌||◌, ◌==◌, nat_lt, nat_le, if◌then◌else◌, Option, None, Some, bit_and, bit_or, bit_xor, count_ones, int_div, int_rem, int_lt, int_le, slice_index_or}
use Rattle.std.specs.Int.{Width, w8, w16, w32, w64, w128, cast_signed, cast_unsigned, leading_zeros, trailing_zeros, rotate_left, rotate_right, int_shr}
use Rattle.gu_num.specs.declared.kind.Binary.{Binary}
use Rattle.gu_num.specs.declared.kind.Binary.TheVariants.{Add, Sub, Mul, DivS, DivU, RemS, RemU, And, Or, Xor, Shl, ShrS, ShrU, Rotl, Rotr}
use Rattle.gu_num.specs.declared.kind.Kind.{Kind}
use Rattle.gu_num.specs.declared.kind.Kind.TheVariants.{One, Compare, Combine}
use Rattle.gu_num.specs.declared.kind.Relation.{Relation}
use Rattle.gu_num.specs.declared.kind.Relation.TheVariants.{Eq, Ne, LtS, LtU, GtS, GtU, LeS, LeU, GeS, GeU}
use Rattle.gu_num.specs.declared.kind.Unary.{Unary}
use Rattle.gu_num.specs.declared.kind.Unary.TheVariants.{Eqz, Clz, Ctz, Popcnt, Wrap, ExtendU, Extend8S, Extend16S, Extend32S}
use Rattle.gu_optab.specs.declared.op.NumOp.{NumOp}
use Rattle.gu_optab.specs.declared.op.NumType.{NumType}
use Rattle.gu_optab.specs.declared.op.NumType.TheVariants.{I32, I64}
use Rattle.gu_optab.specs.Operators.{row_at}

-- N, how many bits a width has
abbrev pub bits : Width → ℕ
bits w8 = 8
bits w16 = 16
bits w32 = 32
bits w64 = 64
bits w128 = 128

-- the width of a type's numbers
abbrev pub width_of : NumType → Width
width_of I32 = w32
width_of I64 = w64

-- a test's answer as a number (4.3.2: 1 for true and 0 for false)
abbrev pub flag : Bool → ℕ
flag b = if b then 1 else 0

-- the relations: ieq, ine, ilt_s, ilt_u, igt_s, igt_u, ile_s, ile_u, ige_s, ige_u
abbrev pub holds : Relation → Width → ℕ → ℕ → Bool
holds Eq w a b = a == b
holds Ne w a b = not (a == b)
holds LtS w a b = int_lt (cast_signed w a) (cast_signed w b)
holds LtU w a b = nat_lt a b
holds GtS w a b = int_lt (cast_signed w b) (cast_signed w a)
holds GtU w a b = nat_lt b a
holds LeS w a b = int_le (cast_signed w a) (cast_signed w b)
holds LeU w a b = nat_le a b
holds GeS w a b = int_le (cast_signed w b) (cast_signed w a)
holds GeU w a b = nat_le b a

-- the low k bits of a number read as signed, at a width
abbrev pub extend_s : (k to : Width) → ℕ → ℕ
extend_s k to a = cast_unsigned to (cast_signed k (a % 2 ^ bits k))

-- operators on one number: ieqz, iclz, ictz, ipopcnt, wrap, extend_u and the signed extensions
abbrev pub unary : Unary → (from to : Width) → ℕ → ℕ
unary Eqz from to a = flag (a == 0)
unary Clz from to a = leading_zeros from a
unary Ctz from to a = trailing_zeros from a
unary Popcnt from to a = count_ones a
unary Wrap from to a = a % 2 ^ 32
unary ExtendU from to a = a % 2 ^ 32
unary Extend8S from to a = extend_s w8 to a
unary Extend16S from to a = extend_s w16 to a
unary Extend32S from to a = extend_s w32 to a

-- whether a signed quotient has no place in the width: that of -2 ^ (N - 1), the least integer, by -1
abbrev pub is_least_by_minus_one : Width → ℕ → ℕ → Bool
is_least_by_minus_one w a b = (a == 2 ^ (bits w - 1)) && (b == 2 ^ bits w - 1)

-- operators on two numbers: iadd, isub, imul, idiv_s, idiv_u, irem_s, irem_u, iand, ior, ixor, ishl, ishr_s, ishr_u,
-- irotl and irotr; none where the operator traps. Signed quotients are rounded toward zero, and a signed remainder is
-- the dividend less the divisor times that quotient; shifts and turns go by b modulo N, and ishr_s rounds down
abbrev pub binary : Binary → Width → ℕ → ℕ → Option ℕ
binary Add w a b = Some ((a + b) % 2 ^ bits w)
binary Sub w a b = Some ((a + (2 ^ bits w - b)) % 2 ^ bits w)
binary Mul w a b = Some ((a * b) % 2 ^ bits w)
binary DivS w a b = if b == 0 || is_least_by_minus_one w a b then None else Some (cast_unsigned w (int_div (cast_signed w a) (cast_signed w b)))
binary DivU w a b = if b == 0 then None else Some (a / b)
binary RemS w a b = if b == 0 then None else Some (cast_unsigned w (int_rem (cast_signed w a) (cast_signed w b)))
binary RemU w a b = if b == 0 then None else Some (a % b)
binary And w a b = Some (bit_and a b)
binary Or w a b = Some (bit_or a b)
binary Xor w a b = Some (bit_xor a b)
binary Shl w a b = Some ((a * 2 ^ (b % bits w)) % 2 ^ bits w)
binary ShrS w a b = Some (cast_unsigned w (int_shr (cast_signed w a) (b % bits w)))
binary ShrU w a b = Some (a / 2 ^ (b % bits w))
binary Rotl w a b = Some (rotate_left w a (b % bits w))
binary Rotr w a b = Some (rotate_right w a (b % bits w))

-- tests and relations, arithmetic, and conversions, each in the order of the codes
abbrev pub tests : List Kind
tests = One Eqz ∷ Compare Eq ∷ Compare Ne ∷ Compare LtS ∷ Compare LtU ∷ Compare GtS ∷ Compare GtU ∷ Compare LeS ∷ Compare LeU ∷ Compare GeS ∷ Compare GeU ∷ []

abbrev pub arithmetic : List Kind
arithmetic = One Clz ∷ One Ctz ∷ One Popcnt ∷ Combine Add ∷ Combine Sub ∷ Combine Mul ∷ Combine DivS ∷ Combine DivU ∷ Combine RemS ∷ Combine RemU ∷ Combine And ∷ Combine Or ∷ Combine Xor ∷ Combine Shl ∷ Combine ShrS ∷ Combine ShrU ∷ Combine Rotl ∷ Combine Rotr ∷ []

abbrev pub conversions : List Kind
conversions = One Wrap ∷ One Extend32S ∷ One ExtendU ∷ One Extend8S ∷ One Extend16S ∷ One Extend8S ∷ One Extend16S ∷ One Extend32S ∷ []

-- what the operator of a row computes: i32 and i64 tests, i32 and i64 arithmetic, conversions
abbrev pub kind_at : ℕ → Kind
kind_at row = slice_index_or (tests ++ tests ++ arithmetic ++ arithmetic ++ conversions) row (One Eqz)

-- a kind of operator on its operands, from one width to another; none where it traps, and for another number of
-- operands
abbrev pub of_kind : Kind → (from to : Width) → List ℕ → Option ℕ
of_kind (One u) from to (a ∷ []) = Some (unary u from to a)
of_kind (Compare r) from to (a ∷ b ∷ []) = Some (flag (holds r from a b))
of_kind (Combine t) from to (a ∷ b ∷ []) = binary t from a b
of_kind kind from to operands = None

-- an operator on its operands: its result, or none where it traps
abbrev pub numeric : NumOp → List ℕ → Option ℕ
numeric op operands = of_kind (kind_at op.row) (width_of (row_at op.row).operand_type) (width_of (row_at op.row).result_type) operands
