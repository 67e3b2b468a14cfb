-- Room for a size: how it is filled, byte by byte.
use Rattle.std.proofs.Common.{ℕ, zero, suc, ◌+◌, ◌-◌, ◌/◌, ◌%◌, ◌<◌, ◌≤◌, ◌≡◌, ◌⊎◌, inl, inr, List, [], ◌∷◌, ◌++◌, length, take, drop, set, nat_lt, false, arith, sym, ap, ◌∙◌, length-append, append_assoc}
use Rattle.std.proofs.lemmas.Bool.{cases_Bool, cond-true, cond-false}
use Rattle.std.proofs.lemmas.List.{take-append-drop, length-take-le, nil_from_length, take-set, drop-set}
use Rattle.std.proofs.Math.Seq.{take-append_seam, drop-append_seam, drop-append-add}
use Rattle.gu_bytes.specs.Numbers.{shortest, least_unsigned}
use Rattle.gu_bytes.proofs.LeastUnsigned.{least_unsigned-last}
use Rattle.gu_syntax.specs.Encoding.{sized}
use Rattle.gu_syntax.proofs.Least.{count_long}
use Rattle.gu_write_parts.specs.Room.{LeavesRoom, PutsByte}

some_byte : (enough n : ℕ) → 0 < length (shortest enough n)
some_byte zero n = omega arith
some_byte (suc more) n = elim (cases_Bool (nat_lt n 128)) [
  | inl is ↦ (let e = cond-true (nat_lt n 128) (n ∷ []) ((n % 128 + 128) ∷ shortest more (n / 128)) is in omega (arith, ap length e))
  | inr isnt ↦ (let e = cond-false (nat_lt n 128) (n ∷ []) ((n % 128 + 128) ∷ shortest more (n / 128)) isnt in omega (arith, ap length e))
]

-- a number of 128 or more takes a byte more than what is left of it without its last seven bits
byte_more : (enough n least : ℕ) → 128 ≤ n → least ≤ length (shortest enough (n / 128)) → least + 1 ≤ length (shortest (suc enough) n)
byte_more enough n least h so =
    let e : nat_lt n 128 ≡ false = grind (arith, h) in
    omega (arith, so, ap length (cond-false (nat_lt n 128) (n ∷ []) ((n % 128 + 128) ∷ shortest enough (n / 128)) e))

four_bytes : (n : ℕ) → 2097152 ≤ n → 4 ≤ length (least_unsigned n)
unfolding least_unsigned
four_bytes n h = byte_more 8 n 3 (omega (arith, h)) (byte_more 7 (n / 128) 2 (omega (arith, h)) (byte_more 6 (n / 128 / 128) 1 (omega (arith, h)) (omega (arith, some_byte 6 (n / 128 / 128 / 128)))))

-- room of one byte is no more than any size takes
exact_one : (old new gap content : List ℕ) → new ≡ old ++ gap → length gap ≡ 1 → 268435456 < length new + length content → 268435456 < length old + length (sized content)
exact_one old new gap content is one past = omega (arith, past, one, ap length is, length-append old gap, length-append (least_unsigned (length content)) content, count_long (length content))

-- room of four bytes is no more than the size takes of what passes the limit behind half as much
exact_four : (old new gap content : List ℕ) → new ≡ old ++ gap → length gap ≡ 4 → length old ≤ 134217728 → 268435456 < length new + length content → 268435456 < length old + length (sized content)
exact_four old new gap content is four half past =
    let size = four_bytes (length content) (omega (arith, past, four, half, ap length is, length-append old gap)) in
    omega (arith, past, four, size, ap length is, length-append old gap, length-append (least_unsigned (length content)) content)

-- the room behind the first bytes of a text is filled with these bytes of a size, and so much of it is left
pub record Filling (old : List ℕ) (place room : ℕ) (done out : List ℕ) (at left : ℕ) : Type 0 where
  pub gap : List ℕ
  pub whole : out ≡ take place old ++ (done ++ (gap ++ drop (place + room) old))
  pub left_is : length gap ≡ left
  pub at_is : at ≡ length (take place old) + length done

pub filling_begins : (old : List ℕ) (place room : ℕ) → place + room ≤ length old → Filling old place room [] old place room
filling_begins old place room h =
    let front = take place old in
    let rest = drop place old in
    let long : length front ≡ place = length-take-le place old (omega (arith, h)) in
    let both : front ++ rest ≡ old = take-append-drop place old in
    let past : drop (place + room) old ≡ drop room rest = ap (λ n. drop (n + room) old) (sym long) ∙ ap (λ xs. drop (length front + room) xs) (sym both) ∙ drop-append-add front rest room in
    record {
      gap = take room rest;
      whole = sym (ap (λ xs. front ++ (take room rest ++ xs)) past ∙ ap (λ xs. front ++ xs) (take-append-drop room rest) ∙ both);
      left_is = length-take-le room rest (omega (arith, h, long, ap length both, length-append front rest));
      at_is = omega (arith, long);
    }

take_seam : (xs ys out : List ℕ) (n : ℕ) → n ≡ length xs → out ≡ xs ++ ys → take n out ≡ xs
take_seam xs ys out n here is = ap (λ k. take k out) here ∙ ap (λ zs. take (length xs) zs) is ∙ take-append_seam xs ys

drop_seam : (xs ys out : List ℕ) (n : ℕ) → n ≡ length xs → out ≡ xs ++ ys → drop n out ≡ ys
drop_seam xs ys out n here is = ap (λ k. drop k out) here ∙ ap (λ zs. drop (length xs) zs) is ∙ drop-append_seam xs ys

drop_past : (xs ys out : List ℕ) (y n : ℕ) → n ≡ length xs → out ≡ xs ++ y ∷ ys → drop (n + 1) out ≡ ys
drop_past xs ys out y n here is = ap (λ k. drop (k + 1) out) here ∙ ap (λ zs. drop (length xs + 1) zs) is ∙ drop-append-add xs (y ∷ ys) 1

-- bytes, then one more, then the rest
one_more : (front done rest : List ℕ) (byte : ℕ) → (front ++ done) ++ byte ∷ rest ≡ front ++ ((done ++ byte ∷ []) ++ rest)
one_more front done rest byte = append_assoc front done (byte ∷ rest) ∙ ap (λ xs. front ++ xs) (sym (append_assoc done (byte ∷ []) rest))

put_over : (front done gap back out new : List ℕ) (at byte g : ℕ) → out ≡ front ++ (done ++ ((g ∷ gap) ++ back)) → at ≡ length front + length done → new ≡ take at out ++ byte ∷ drop (at + 1) out → new ≡ front ++ ((done ++ byte ∷ []) ++ (gap ++ back))
put_over front done gap back out new at byte g is here put =
    let split : out ≡ (front ++ done) ++ g ∷ (gap ++ back) = is ∙ sym (append_assoc front done (g ∷ (gap ++ back))) in
    let seam : at ≡ length (front ++ done) = here ∙ sym (length-append front done) in
    put ∙ ap (λ xs. xs ++ byte ∷ drop (at + 1) out) (take_seam (front ++ done) (g ∷ (gap ++ back)) out at seam split) ∙ ap (λ xs. (front ++ done) ++ byte ∷ xs) (drop_past (front ++ done) (gap ++ back) out g at seam split) ∙ one_more front done (gap ++ back) byte

put_before : (front done back out new : List ℕ) (at byte : ℕ) → out ≡ front ++ (done ++ back) → at ≡ length front + length done → new ≡ take at out ++ byte ∷ drop at out → new ≡ front ++ ((done ++ byte ∷ []) ++ back)
put_before front done back out new at byte is here put =
    let split : out ≡ (front ++ done) ++ back = is ∙ sym (append_assoc front done back) in
    let seam : at ≡ length (front ++ done) = here ∙ sym (length-append front done) in
    put ∙ ap (λ xs. xs ++ byte ∷ drop at out) (take_seam (front ++ done) back out at seam split) ∙ ap (λ xs. (front ++ done) ++ byte ∷ xs) (drop_seam (front ++ done) back out at seam split) ∙ one_more front done back byte

taken_off : (front done gap back out new : List ℕ) (at g : ℕ) → out ≡ front ++ (done ++ ((g ∷ gap) ++ back)) → at ≡ length front + length done → new ≡ take at out ++ drop (at + 1) out → new ≡ front ++ (done ++ (gap ++ back))
taken_off front done gap back out new at g is here put =
    let split : out ≡ (front ++ done) ++ g ∷ (gap ++ back) = is ∙ sym (append_assoc front done (g ∷ (gap ++ back))) in
    let seam : at ≡ length (front ++ done) = here ∙ sym (length-append front done) in
    put ∙ ap (λ xs. xs ++ drop (at + 1) out) (take_seam (front ++ done) (g ∷ (gap ++ back)) out at seam split) ∙ ap (λ xs. (front ++ done) ++ xs) (drop_past (front ++ done) (gap ++ back) out g at seam split) ∙ append_assoc front done (gap ++ back)

place_more : (front done : List ℕ) (at byte : ℕ) → at ≡ length front + length done → at + 1 ≡ length front + length (done ++ byte ∷ [])
place_more front done at byte here = omega (arith, here, length-append done (byte ∷ []))

fill_gap : (old done out new gap : List ℕ) (place room at left byte more : ℕ) → out ≡ take place old ++ (done ++ (gap ++ drop (place + room) old)) → length gap ≡ left → at ≡ length (take place old) + length done → PutsByte out new at left byte more → Filling old place room (done ++ byte ∷ []) new (at + 1) more
fill_gap old done out new [] place room at left byte more is long here (inl over) = absurd (omega (arith, long, over.0))
fill_gap old done out new (g ∷ gap) place room at left byte more is long here (inl over) = record {
  gap = gap;
  whole = put_over (take place old) done gap (drop (place + room) old) out new at byte g is here over.1;
  left_is = omega (arith, long, over.0);
  at_is = place_more (take place old) done at byte here;
}
fill_gap old done out new [] place room at left byte more is long here (inr none) = record {
  gap = [];
  whole = put_before (take place old) done (drop (place + room) old) out new at byte is here none.2;
  left_is = omega (arith, none.1);
  at_is = place_more (take place old) done at byte here;
}
fill_gap old done out new (g ∷ gap) place room at left byte more is long here (inr none) = absurd (omega (arith, long, none.0))

-- one byte more is put
pub filling_on : (old done out new : List ℕ) (place room at left byte more : ℕ) → Filling old place room done out at left → PutsByte out new at left byte more → Filling old place room (done ++ byte ∷ []) new (at + 1) more
filling_on old done out new place room at left byte more so put = fill_gap old done out new so.gap place room at left byte more so.whole so.left_is so.at_is put

-- the room that is left is inside the text
pub filling_inside : (old done out : List ℕ) (place room at left : ℕ) → Filling old place room done out at left → at + left ≤ length out
filling_inside old done out place room at left so =
    let front = take place old in
    let back = drop (place + room) old in
    omega (arith, so.left_is, so.at_is, ap length so.whole, length-append front (done ++ (so.gap ++ back)), length-append done (so.gap ++ back), length-append so.gap back)

take_gap : (old done out new gap : List ℕ) (place room at left : ℕ) → out ≡ take place old ++ (done ++ (gap ++ drop (place + room) old)) → length gap ≡ left + 1 → at ≡ length (take place old) + length done → new ≡ take at out ++ drop (at + 1) out → Filling old place room done new at left
take_gap old done out new [] place room at left is long here taken = absurd (omega (arith, long))
take_gap old done out new (g ∷ gap) place room at left is long here taken = record {
  gap = gap;
  whole = taken_off (take place old) done gap (drop (place + room) old) out new at g is here taken;
  left_is = omega (arith, long);
  at_is = here;
}

-- a byte of the room that is left is taken off
pub filling_less : (old done out new : List ℕ) (place room at left : ℕ) → Filling old place room done out at (left + 1) → new ≡ take at out ++ drop (at + 1) out → Filling old place room done new at left
filling_less old done out new place room at left so taken = take_gap old done out new so.gap place room at left so.whole so.left_is so.at_is taken

-- how long the text behind the room is
behind_long : (old : List ℕ) (place room : ℕ) → place + room ≤ length old → length old - place - room ≡ length (drop (place + room) old)
behind_long old place room h =
    let front = take place old in
    let start = filling_begins old place room h in
    omega (arith, h, start.left_is, start.at_is, ap length start.whole, length-append front (start.gap ++ drop (place + room) old), length-append start.gap (drop (place + room) old))

-- no room is left
pub filling_ends : (old out : List ℕ) (place room at left size : ℕ) → place + room ≤ length old → size ≡ length old - place - room → left ≡ 0 → Filling old place room (least_unsigned size) out at left → out ≡ take place old ++ sized (drop (place + room) old)
filling_ends old out place room at left size h is none so =
    let front = take place old in
    let back = drop (place + room) old in
    let gone : so.gap ≡ [] = nil_from_length so.gap (so.left_is ∙ none) in
    so.whole ∙ ap (λ xs. front ++ (least_unsigned size ++ (xs ++ back))) gone ∙ ap (λ n. front ++ (least_unsigned n ++ back)) (is ∙ behind_long old place room h)

-- a size of one byte is put over room of one
pub filled_at_once : (old : List ℕ) (place room size : ℕ) → place + room ≤ length old → size ≡ length old - place - room → room ≡ 1 → size < 128 → set old place size ≡ take place old ++ sized (drop (place + room) old)
filled_at_once old place room size h is one low =
    let back = drop (place + room) old in
    let front = take place old in
    let long : size ≡ length back = is ∙ behind_long old place room h in
    let spelled : least_unsigned (length back) ≡ size ∷ [] = ap least_unsigned (sym long) ∙ least_unsigned-last size low in
    sym (take-append-drop place (set old place size))
    ∙ ap (λ xs. xs ++ drop place (set old place size)) (take-set old place size)
    ∙ ap (λ xs. front ++ xs) (drop-set old place size (omega (arith, h, one)))
    ∙ ap (λ r. front ++ size ∷ drop (place + r) old) (sym one)
    ∙ ap (λ xs. front ++ (xs ++ back)) (sym spelled)

-- room of four bytes, or of one
pub leaves : (old new gap : List ℕ) (room : ℕ) → new ≡ old ++ gap → length gap ≡ room → ((room ≡ 4) × (length old ≤ 134217728)) ⊎ (room ≡ 1) → LeavesRoom old new room
leaves old new gap room is long (inl four) = record { gap = gap; behind = is; wide = long; exact = λ content past. exact_four old new gap content is (long ∙ four.0) four.1 past }
leaves old new gap room is long (inr one) = record { gap = gap; behind = is; wide = long; exact = λ content past. exact_one old new gap content is (long ∙ one) past }
