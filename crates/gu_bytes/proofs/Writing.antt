-- A spelling that is written byte by byte.
use Rattle.std.proofs.Common.{ℕ, ◌≡◌, ap, ◌∙◌, sym, List, [], ◌∷◌, ◌++◌, append_assoc, refl, ℤ, pos, negsuc}
use Rattle.std.proofs.lemmas.List.{append-nil}
use Rattle.gu_bytes.specs.Reads.{GrowsByFront}

-- a front of the spelling is appended, and these bytes of it are left
pub record Written (spelling left old new : List ℕ) : Type 0 where
  pub front : List ℕ
  pub whole : spelling ≡ front ++ left
  pub grown : new ≡ old ++ front

pub written_none : (spelling old : List ℕ) → Written spelling spelling old old
written_none spelling old = record { front = []; whole = refl; grown = sym (append-nil old) }

pub written_byte : (spelling left more old new newer : List ℕ) (b : ℕ) → Written spelling left old new → left ≡ b ∷ more → newer ≡ new ++ b ∷ [] → Written spelling more old newer
written_byte spelling left more old new newer b w is pushed = record {
  front = w.front ++ b ∷ [];
  whole = w.whole ∙ ap (λ bs. w.front ++ bs) is ∙ sym (append_assoc w.front (b ∷ []) more);
  grown = pushed ∙ ap (λ bs. bs ++ b ∷ []) w.grown ∙ append_assoc old w.front (b ∷ []);
}

pub written_last : (spelling left old new newer : List ℕ) (b : ℕ) → Written spelling left old new → left ≡ b ∷ [] → newer ≡ new ++ b ∷ [] → newer ≡ old ++ spelling
written_last spelling left old new newer b w is pushed =
    let all = written_byte spelling left [] old new newer b w is pushed in
    all.grown ∙ ap (λ bs. old ++ bs) (sym (all.whole ∙ append-nil all.front))

pub written_partly : (spelling left old new : List ℕ) → Written spelling left old new → GrowsByFront spelling old new
written_partly spelling left old new w = record { front = w.front; behind = left; whole = w.whole; grown = w.grown }

-- how far a number is from 0 or -1, the two that a shift keeps
abbrev pub magnitude : ℤ → ℕ
magnitude (pos n) = n
magnitude (negsuc n) = n
