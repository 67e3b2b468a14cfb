-- The digits of a number in base 16, written from the last to the first.
use Rattle.std.proofs.Common.{ℕ, zero, suc, ◌+◌, ◌-◌, ◌*◌, ◌/◌, ◌%◌, ◌<◌, ◌≤◌, ◌≡◌, ◌≢◌, List, [], ◌∷◌, true, false, nat_eq, length, drop, slice_set, arith, sym, ap, ◌∙◌, refl}
use Rattle.std.proofs.lemmas.List.{drop-set, drop_all}
use Rattle.std.proofs.lemmas.Bool.{cond-true, cond-false}
use Rattle.std.specs.Fmt.{digit_glyph, digits_onto, digits}
use Rattle.gu_report.specs.Lines.{hexadecimal}

all_digits : (n : ℕ) → digits_onto 64 16 false n [] ≡ hexadecimal n
unfolding digits
all_digits n = refl

last_digit : (k n : ℕ) (behind : List ℕ) → 0 < k → n / 16 ≡ 0 → digits_onto k 16 false n behind ≡ digit_glyph false (n % 16) ∷ behind
last_digit zero n behind some over = absurd (omega arith)
last_digit (suc k) n behind some over = cond-true _ _ _ (let e : nat_eq (n / 16) 0 ≡ true = grind (arith, over) in e)

next_digit : (k n : ℕ) (behind : List ℕ) → n / 16 ≢ 0 → digits_onto (suc k) 16 false n behind ≡ digits_onto k 16 false (n / 16) (digit_glyph false (n % 16) ∷ behind)
next_digit k n behind more = cond-false _ _ _ (let e : nat_eq (n / 16) 0 ≡ false = grind (arith, more) in e)

-- the numbers of so many digits are below this one
abbrev pub bound : ℕ → ℕ
bound zero = 1
bound (suc digits) = 16 * bound digits

-- the digits of the rest are to be written before those that stand behind the place, where they have room
pub record IsWritten (number rest start : ℕ) (digits : List ℕ) : Type 0 where
  pub some : 0 < start
  pub room : rest < bound start
  pub whole : digits_onto (start + 56) 16 false rest (drop start digits) ≡ hexadecimal number

pub begins : (number : ℕ) (digits : List ℕ) → number < 4294967296 → length digits ≡ 8 → IsWritten number number 8 digits
begins number digits small eight = record {
  some = omega arith;
  room = small;
  whole = ap (digits_onto 64 16 false number) (drop_all 8 digits (omega arith)) ∙ all_digits number;
}

-- the digit that is written at the place before
one_more : (start : ℕ) (digits : List ℕ) (glyph : ℕ) → 0 < start → start ≤ length digits → drop (start - 1) (slice_set digits (start - 1) glyph) ≡ glyph ∷ drop start digits
one_more start digits glyph some fits = drop-set digits (start - 1) glyph (omega arith) ∙ ap (λ k. glyph ∷ drop k digits) (omega arith)

pub ends : (number rest start : ℕ) (digits : List ℕ) → start ≤ length digits → IsWritten number rest start digits → rest / 16 ≡ 0 → drop (start - 1) (slice_set digits (start - 1) (digit_glyph false (rest % 16))) ≡ hexadecimal number
ends number rest start digits fits h over =
    one_more start digits (digit_glyph false (rest % 16)) h.some fits
    ∙ sym (last_digit (start + 56) rest (drop start digits) (omega arith) over)
    ∙ h.whole

fewer : (rest start : ℕ) → 0 < start → rest < bound start → rest / 16 < bound (start - 1)
fewer rest zero some room = absurd (omega arith)
fewer rest (suc k) some room = let e : suc k - 1 ≡ k = omega arith in rw e (omega (arith, room))

more_left : (rest start : ℕ) → rest < bound start → rest ≢ 0 → 0 < start
more_left rest zero room some = absurd (some (omega (arith, room)))
more_left rest (suc k) room some = omega arith

pub goes_on : (number rest start : ℕ) (digits : List ℕ) → start ≤ length digits → IsWritten number rest start digits → rest / 16 ≢ 0 → IsWritten number (rest / 16) (start - 1) (slice_set digits (start - 1) (digit_glyph false (rest % 16)))
goes_on number rest start digits fits h more =
    let room : rest / 16 < bound (start - 1) = fewer rest start h.some h.room in
    record {
      some = more_left (rest / 16) (start - 1) room more;
      room = room;
      whole =
          ap (digits_onto (start - 1 + 56) 16 false (rest / 16)) (one_more start digits (digit_glyph false (rest % 16)) h.some fits)
          ∙ sym (next_digit (start - 1 + 56) rest (drop start digits) more)
          ∙ ap (λ k. digits_onto k 16 false rest (drop start digits)) (let e : suc (start - 1 + 56) ≡ start + 56 = let some = h.some in omega arith in e)
          ∙ h.whole;
    }
