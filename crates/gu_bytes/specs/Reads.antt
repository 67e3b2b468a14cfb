-- What a cursor passes, and how it stays where it refuses.
use Rattle.std.specs.Prelude.{ℕ, ◌+◌, ◌≡◌, List, ◌++◌, length, ℤ}
use Rattle.gu_bytes.specs.Numbers.{IsUnsigned, IsSigned}
use Rattle.gu_bytes.specs.Place.{Place}
use Rattle.gu_bytes.specs.declared.cursor.Bad.{Bad}

-- the cursor went from the old place to the new one, past these bytes
pub record Passes (front : List ℕ) (old new : Place) : Type 0 where
  pub whole : old.rest ≡ front ++ new.rest
  pub moved : new.at ≡ old.at + length front

-- the cursor passed a spelling of the unsigned integer n
pub record PassesUnsigned (bits n : ℕ) (old new : Place) : Type 0 where
  pub front : List ℕ
  pub spells : IsUnsigned bits front n
  pub passes : Passes front old new

-- the cursor passed a spelling of the signed integer z
pub record PassesSigned (bits : ℕ) (z : ℤ) (old new : Place) : Type 0 where
  pub front : List ℕ
  pub spells : IsSigned bits front z
  pub passes : Passes front old new

-- no front of the text spells an unsigned integer of that many bits
abbrev pub HoldsNoUnsigned : (bits : ℕ) → List ℕ → Type 0
HoldsNoUnsigned bits text = (front rest : List ℕ) (n : ℕ) → text ≡ front ++ rest → IsUnsigned bits front n → ⊥

-- no front of the text spells a signed integer of that many bits
abbrev pub HoldsNoSigned : (bits : ℕ) → List ℕ → Type 0
HoldsNoSigned bits text = (front rest : List ℕ) (z : ℤ) → text ≡ front ++ rest → IsSigned bits front z → ⊥

-- the refusal names the place where the call began, and the cursor is still there
pub record Stays (bad : Bad) (old new : Place) : Type 0 where
  pub at : bad.at ≡ old.at
  pub same : new ≡ old

-- the list grew by a front of the spelling at most
pub record GrowsByFront (spelling old new : List ℕ) : Type 0 where
  pub front : List ℕ
  pub behind : List ℕ
  pub whole : spelling ≡ front ++ behind
  pub grown : new ≡ old ++ front
