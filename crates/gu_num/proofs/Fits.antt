-- Results are numbers of the width that they are given.
use Rattle.std.proofs.Common.{ℕ, zero, suc, ◌+◌, ◌-◌, ◌*◌, ◌/◌, ◌%◌, ◌^◌, ◌<◌, ◌≤◌, ◌≡◌, ◌≢◌, [], ◌∷◌, Bool, true, false, ◌==◌, ◌||◌, Option, None, Some, IfSome, ℤ, pos, negsuc, neg_ℤ, if◌then◌else◌, refl, sym, ◌∙◌, ap, subst, arith, rules, bit_and, Fits, FitsSigned}
use Rattle.std.specs.Int.{Width, w8, w16, w32, w64, cast_signed, cast_unsigned, rotate_left, rotate_right, int_shr}
use Rattle.std.specs.Prelude.{int_div, int_rem}
use Rattle.std.specs.Int.Signed.{mag, mag_rem, mag_shr}
use Rattle.std.proofs.lemmas.Nat.{or_lt, xor_lt, and_le_l, leading_le, trailing_le, ones-le}
use Rattle.std.proofs.lemmas.Int.{of_z-to_z}
use Rattle.std.proofs.Math.Facts.{sfits_to_z, Fits-of_z}
use Rattle.std.proofs.Math.Nat.{mod-lt, mod-le, div-le_self, div-lt_self}
use Rattle.gu_num.specs.declared.kind.Binary.{Binary}
use Rattle.gu_num.specs.declared.kind.Binary.TheVariants.{Add, Sub, Mul, DivS, DivU, RemS, RemU, And, Or, Xor, Shl, ShrS, ShrU, Rotl, Rotr}
use Rattle.gu_num.specs.declared.kind.Kind.{Kind}
use Rattle.gu_num.specs.declared.kind.Kind.TheVariants.{One, Compare, Combine}
use Rattle.gu_num.specs.declared.kind.Unary.{Unary}
use Rattle.gu_num.specs.declared.kind.Unary.TheVariants.{Eqz, Clz, Ctz, Popcnt, Wrap, ExtendU, Extend8S, Extend16S, Extend32S}
use Rattle.gu_num.specs.Laws.{Holds, OneFits, TwoFit, OneNeverTraps}
use Rattle.gu_num.specs.Numeric.{bits, width_of, flag, holds, unary, binary, is_least_by_minus_one, of_kind, kind_at}
use Rattle.gu_num.proofs.Rows.{operands_of, operands_of-kind_at, combines_i64}
use Rattle.gu_optab.specs.Operators.{row_at}
use Rattle.gu_optab.specs.declared.op.NumType.{NumType}
use Rattle.gu_optab.specs.declared.op.NumType.TheVariants.{I32, I64}

to_fits : (t : NumType) (n : ℕ) → Holds t n → Fits (width_of t) n
to_fits I32 n h = record { fits = h }
to_fits I64 n h = record { fits = h }

from_fits : (t : NumType) (n : ℕ) → Fits (width_of t) n → Holds t n
from_fits I32 n f = f.fits
from_fits I64 n f = f.fits

-- a number below 2 ^ 32 is one of either type
small : (t : NumType) (n : ℕ) → n < 2 ^ 32 → Holds t n
small I32 n h = h
small I64 n h = omega arith

flag_small : (b : Bool) → flag b < 2 ^ 32
flag_small true = omega arith
flag_small false = omega arith

remainder : (t : NumType) (n : ℕ) → Holds t (n % 2 ^ bits (width_of t))
remainder I32 n = mod-lt n (omega arith)
remainder I64 n = mod-lt n (omega arith)

count_small : (t : NumType) (n : ℕ) → n ≤ bits (width_of t) → n < 2 ^ 32
count_small I32 n h = omega arith
count_small I64 n h = omega arith

-- signed numbers
signed_fits : (t : NumType) (n : ℕ) → Holds t n → FitsSigned (width_of t) (cast_signed (width_of t) n)
signed_fits t n h = sfits_to_z (to_fits t n h)

unsigned_fits : (t : NumType) (z : ℤ) → FitsSigned (width_of t) z → Holds t (cast_unsigned (width_of t) z)
unsigned_fits t z f = from_fits t _ (Fits-of_z f)

smaller : (t : NumType) (z y : ℤ) → mag y ≤ mag z → FitsSigned (width_of t) z → FitsSigned (width_of t) y
smaller I32 z y le f = record { sfits = omega (arith, f.sfits) }
smaller I64 z y le f = record { sfits = omega (arith, f.sfits) }

-- an i32's numbers are an i64's
widened : (t : NumType) (z : ℤ) → FitsSigned w32 z → FitsSigned (width_of t) z
widened I32 z f = f
widened I64 z f = record { sfits = omega (arith, f.sfits) }

extended : (t : NumType) (z : ℤ) → FitsSigned w32 z → Holds t (cast_unsigned (width_of t) z)
extended t z f = unsigned_fits t z (widened t z f)

from_8 : (a : ℕ) → FitsSigned w32 (cast_signed w8 (a % 2 ^ 8))
from_8 a =
    let below : a % 2 ^ 8 < 2 ^ 8 = mod-lt a (omega arith) in
    let f : FitsSigned w8 (cast_signed w8 (a % 2 ^ 8)) = sfits_to_z record { fits = below } in
    record { sfits = omega (arith, f.sfits) }

from_16 : (a : ℕ) → FitsSigned w32 (cast_signed w16 (a % 2 ^ 16))
from_16 a =
    let below : a % 2 ^ 16 < 2 ^ 16 = mod-lt a (omega arith) in
    let f : FitsSigned w16 (cast_signed w16 (a % 2 ^ 16)) = sfits_to_z record { fits = below } in
    record { sfits = omega (arith, f.sfits) }

from_32 : (a : ℕ) → FitsSigned w32 (cast_signed w32 (a % 2 ^ 32))
from_32 a =
    let below : a % 2 ^ 32 < 2 ^ 32 = mod-lt a (omega arith) in
    sfits_to_z record { fits = below }

pub unary_fits : (u : Unary) (from to : NumType) (a : ℕ) → Holds from a → Holds to (unary u (width_of from) (width_of to) a)
unary_fits Eqz from to a h = small to _ (flag_small (a == 0))
unary_fits Clz from to a h = small to _ (count_small from _ (leading_le _ a))
unary_fits Ctz from to a h = small to _ (count_small from _ (trailing_le _ a))
unary_fits Popcnt from to a h = small to _ (count_small from _ (ones-le (bits (width_of from)) a h))
unary_fits Wrap from to a h = small to _ (mod-lt a (omega arith))
unary_fits ExtendU from to a h = small to _ (mod-lt a (omega arith))
unary_fits Extend8S from to a h = extended to _ (from_8 a)
unary_fits Extend16S from to a h = extended to _ (from_16 a)
unary_fits Extend32S from to a h = extended to _ (from_32 a)

-- where a test for a trap stands before a number
guarded : (test : Bool) (n : ℕ) (P : ℕ → Type 0) → P n → IfSome (if test then None else Some n) P
guarded true n P p = search rules
guarded false n P p = p

remainder_fits : (t : NumType) (x y : ℕ) → Holds t x → FitsSigned (width_of t) (int_rem (cast_signed (width_of t) x) (cast_signed (width_of t) y))
remainder_fits t x y h =
    let z : ℤ = cast_signed (width_of t) x in
    let d : ℤ = cast_signed (width_of t) y in
    smaller t z (int_rem z d) (mag_rem z d) (signed_fits t x h)

shift_fits : (t : NumType) (x k : ℕ) → Holds t x → FitsSigned (width_of t) (int_shr (cast_signed (width_of t) x) k)
shift_fits t x k h =
    let z : ℤ = cast_signed (width_of t) x in
    smaller t z (int_shr z k) (mag_shr z (2 ^ k)) (signed_fits t x h)

quarter : (t : NumType) (x k : ℕ) → Holds t x → Holds t (x / 2 ^ k)
quarter t x k h = let le : x / 2 ^ k ≤ x = div-le_self x (2 ^ k) in omega arith

left_fits : (t : NumType) (x k : ℕ) → Holds t x → Holds t (rotate_left (width_of t) x k)
left_fits I32 x k h = or_lt 32 _ _ (remainder I32 (x * 2 ^ (k % 32))) (quarter I32 x ((32 - k % 32) % 32) h)
left_fits I64 x k h = or_lt 64 _ _ (remainder I64 (x * 2 ^ (k % 64))) (quarter I64 x ((64 - k % 64) % 64) h)

right_fits : (t : NumType) (x k : ℕ) → Holds t x → Holds t (rotate_right (width_of t) x k)
right_fits I32 x k h = or_lt 32 _ _ (quarter I32 x (k % 32) h) (remainder I32 (x * 2 ^ ((32 - k % 32) % 32)))
right_fits I64 x k h = or_lt 64 _ _ (quarter I64 x (k % 64) h) (remainder I64 (x * 2 ^ ((64 - k % 64) % 64)))

-- the size of a quotient: below h where the dividend's is, but for that of -h by -1
mag_neg : (r n : ℕ) → r ≤ suc n → mag (neg_ℤ (pos r)) ≤ n
mag_neg zero n le = omega arith
mag_neg (suc r) n le = omega arith

mag_quot : (z d : ℤ) (h : ℕ) → mag z < h → (z ≡ negsuc (h - 1) → d ≡ negsuc 0 → ⊥) → mag (int_div z d) < h
mag_quot (pos a) (pos b) h less apart = let le : a / b ≤ a = div-le_self a b in omega arith
mag_quot (pos a) (negsuc b) h less apart =
    let le : a / suc b ≤ a = div-le_self a (suc b) in
    let size : mag (neg_ℤ (pos (a / suc b))) ≤ a = mag_neg (a / suc b) a (omega arith) in
    omega arith
mag_quot (negsuc a) (pos b) h less apart =
    let le : suc a / b ≤ suc a = div-le_self (suc a) b in
    let size : mag (neg_ℤ (pos (suc a / b))) ≤ a = mag_neg (suc a / b) a le in
    omega arith
mag_quot (negsuc a) (negsuc zero) h less apart =
    let le : suc a / 1 ≤ suc a = div-le_self (suc a) 1 in
    let other : a ≢ h - 1 = λ e. apart (ap negsuc e) refl in
    omega arith
mag_quot (negsuc a) (negsuc (suc b)) h less apart =
    let lt : suc a / suc (suc b) < suc a = div-lt_self (omega arith) (omega arith) in
    omega arith

bits_of : (t : NumType) (x : ℕ) (z : ℤ) → Holds t x → cast_signed (width_of t) x ≡ z → x ≡ cast_unsigned (width_of t) z
bits_of I32 x z h e = sym (of_z-to_z w32 x h) ∙ ap (λ y. cast_unsigned w32 y) e
bits_of I64 x z h e = sym (of_z-to_z w64 x h) ∙ ap (λ y. cast_unsigned w64 y) e

quotient_fits : (t : NumType) (x y : ℕ) → Holds t x → Holds t y → (test : Bool) → (y == 0 || is_least_by_minus_one (width_of t) x y) ≡ test → IfSome (if test then None else Some (cast_unsigned (width_of t) (int_div (cast_signed (width_of t) x) (cast_signed (width_of t) y)))) (Holds t)
quotient_fits t x y h k true e = search rules
quotient_fits I32 x y h k false e =
    let apart : cast_signed w32 x ≡ negsuc (2 ^ 31 - 1) → cast_signed w32 y ≡ negsuc 0 → ⊥ = λ p q.
    let least : x ≡ 2 ^ 31 = bits_of I32 x _ h p in
    let minus_one : y ≡ 2 ^ 32 - 1 = bits_of I32 y _ k q in
    let told : (2 ^ 32 - 1 == 0 || is_least_by_minus_one w32 x (2 ^ 32 - 1)) ≡ false = subst (λ v. (v == 0 || is_least_by_minus_one w32 x v) ≡ false) minus_one e in
    let clash : true ≡ false = subst (λ v. (2 ^ 32 - 1 == 0 || is_least_by_minus_one w32 v (2 ^ 32 - 1)) ≡ false) least told in
    cc in
    let f : FitsSigned w32 (cast_signed w32 x) = signed_fits I32 x h in
    unsigned_fits I32 (int_div (cast_signed w32 x) (cast_signed w32 y)) record { sfits = mag_quot (cast_signed w32 x) (cast_signed w32 y) (2 ^ 31) f.sfits apart }
quotient_fits I64 x y h k false e =
    let apart : cast_signed w64 x ≡ negsuc (2 ^ 63 - 1) → cast_signed w64 y ≡ negsuc 0 → ⊥ = λ p q.
    let least : x ≡ 2 ^ 63 = bits_of I64 x _ h p in
    let minus_one : y ≡ 2 ^ 64 - 1 = bits_of I64 y _ k q in
    let told : (2 ^ 64 - 1 == 0 || is_least_by_minus_one w64 x (2 ^ 64 - 1)) ≡ false = subst (λ v. (v == 0 || is_least_by_minus_one w64 x v) ≡ false) minus_one e in
    let clash : true ≡ false = subst (λ v. (2 ^ 64 - 1 == 0 || is_least_by_minus_one w64 v (2 ^ 64 - 1)) ≡ false) least told in
    cc in
    let f : FitsSigned w64 (cast_signed w64 x) = signed_fits I64 x h in
    unsigned_fits I64 (int_div (cast_signed w64 x) (cast_signed w64 y)) record { sfits = mag_quot (cast_signed w64 x) (cast_signed w64 y) (2 ^ 63) f.sfits apart }

pub binary_fits : (b : Binary) (t : NumType) (x y : ℕ) → Holds t x → Holds t y → IfSome (binary b (width_of t) x y) (Holds t)
binary_fits Add t x y h k = remainder t (x + y)
binary_fits Sub t x y h k = remainder t (x + (2 ^ bits (width_of t) - y))
binary_fits Mul t x y h k = remainder t (x * y)
binary_fits DivS t x y h k = quotient_fits t x y h k _ refl
binary_fits DivU t x y h k = guarded (y == 0) (x / y) (Holds t) (let le : x / y ≤ x = div-le_self x y in omega arith)
binary_fits RemS t x y h k = guarded (y == 0) _ (Holds t) (unsigned_fits t _ (remainder_fits t x y h))
binary_fits RemU t x y h k = guarded (y == 0) (x % y) (Holds t) (let le : x % y ≤ x = mod-le x y in omega arith)
binary_fits And t x y h k = let le : bit_and x y ≤ x = and_le_l x y in omega arith
binary_fits Or t x y h k = or_lt (bits (width_of t)) x y h k
binary_fits Xor t x y h k = xor_lt (bits (width_of t)) x y h k
binary_fits Shl t x y h k = remainder t (x * 2 ^ (y % bits (width_of t)))
binary_fits ShrS t x y h k = unsigned_fits t _ (shift_fits t x (y % bits (width_of t)) h)
binary_fits ShrU t x y h k = let le : x / 2 ^ (y % bits (width_of t)) ≤ x = div-le_self _ _ in omega arith
binary_fits Rotl t x y h k = left_fits t x (y % bits (width_of t)) h
binary_fits Rotr t x y h k = right_fits t x (y % bits (width_of t)) h

-- ---- the operators of the table
if_some : (o : Option ℕ) (P Q : ℕ → Type 0) → ((n : ℕ) → P n → Q n) → IfSome o P → IfSome o Q
if_some None P Q all p = search rules
if_some (Some n) P Q all p = all n p

wider : (from to : NumType) → (from ≡ I64 → to ≡ I64) → (n : ℕ) → Holds from n → Holds to n
wider I32 to keeps n h = small to n h
wider I64 to keeps n h = subst (λ t. Holds t n) (sym (keeps refl)) h

one_kind : (k : Kind) (from to : NumType) (a : ℕ) → Holds from a → IfSome (of_kind k (width_of from) (width_of to) (a ∷ [])) (Holds to)
one_kind (One u) from to a h = unary_fits u from to a h
one_kind (Compare r) from to a h = search rules
one_kind (Combine b) from to a h = search rules

two_kind : (k : Kind) (from to : NumType) (x y : ℕ) → ((b : Binary) → k ≡ Combine b → from ≡ I64 → to ≡ I64) → Holds from x → Holds from y → IfSome (of_kind k (width_of from) (width_of to) (x ∷ y ∷ [])) (Holds to)
two_kind (One u) from to x y keeps h k = search rules
two_kind (Compare r) from to x y keeps h k = small to _ (flag_small (holds r (width_of from) x y))
two_kind (Combine b) from to x y keeps h k = if_some _ (Holds from) (Holds to) (wider from to (keeps b refl)) (binary_fits b from x y h k)

pub one_fits : OneFits
one_fits op a below h = one_kind (kind_at op.row) (row_at op.row).operand_type (row_at op.row).result_type a h

pub two_fit : TwoFit
two_fit op x y below h k = two_kind (kind_at op.row) (row_at op.row).operand_type (row_at op.row).result_type x y (λ b e. combines_i64 op.row b below e) h k

answers : (k : Kind) (from to : Width) (a : ℕ) → operands_of k ≡ 1 → (c : ℕ) × (of_kind k from to (a ∷ []) ≡ Some c)
answers (One u) from to a e = (unary u from to a, refl)
answers (Compare r) from to a e = let two : ◌≡◌ {A = ℕ} 2 1 = e in absurd (omega arith)
answers (Combine b) from to a e = let two : ◌≡◌ {A = ℕ} 2 1 = e in absurd (omega arith)

pub one_never_traps : OneNeverTraps
one_never_traps op a below one = answers (kind_at op.row) (width_of (row_at op.row).operand_type) (width_of (row_at op.row).result_type) a (operands_of-kind_at op.row below ∙ one)
