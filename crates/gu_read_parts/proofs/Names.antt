-- Names.
use Rattle.std.proofs.Common.{◌≡◌, ap, ◌∙◌, List, length, ℕ, cond, false, inl, inr}
use Rattle.std.specs.Str.{is_utf8, IsUtf8}
use Rattle.std.proofs.lemmas.Str.{is_utf8-from_IsUtf8, IsUtf8-from_is_utf8}
use Rattle.std.proofs.lemmas.Bool.{cases_Bool}
use Rattle.gu_syntax.specs.Reading.{Read, Bytes, got, refused, ◌>>=◌, utf8_of, bytes_at, name_at}

isnt_utf8 : (front : List ℕ) → (IsUtf8 front → ⊥) → is_utf8 front ≡ false
isnt_utf8 front isnt = elim (cases_Bool (is_utf8 front)) [
  | inl is ↦ absurd (isnt (IsUtf8-from_is_utf8 front is))
  | inr is ↦ is
]

pub name_got : (text front back : List ℕ) → bytes_at text ≡ got front back → IsUtf8 front → name_at text ≡ got front back
name_got text front back e is = ap (λ (r : Read (List ℕ)). r >>= λ name rest. utf8_of (length text) name rest) e ∙ ap (λ b. cond b (got front back) (refused Bytes (length text))) (is_utf8-from_IsUtf8 front is)

pub name_refused : (text front back : List ℕ) → bytes_at text ≡ got front back → (IsUtf8 front → ⊥) → name_at text ≡ refused Bytes (length text)
name_refused text front back e isnt = ap (λ (r : Read (List ℕ)). r >>= λ name rest. utf8_of (length text) name rest) e ∙ ap (λ b. cond b (got front back) (refused Bytes (length text))) (isnt_utf8 front isnt)
