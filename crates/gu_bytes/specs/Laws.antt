-- What holds of every spelling of an integer.
use Rattle.std.specs.Prelude.{ℕ, ◌^◌, ◌<◌, ◌≤◌, ◌≡◌, List, ◌++◌, length, Some, ℤ}
use Rattle.std.specs.List.{AllByRecursion}
use Rattle.gu_bytes.specs.Numbers.{IsUnsigned, IsSigned, FitsBits, least_unsigned, least_signed}
use Rattle.gu_bytes.specs.Reading.{unsigned_at, signed_at}

-- a text begins with one unsigned integer at most
abbrev pub OneUnsigned : Type 0
OneUnsigned = (bits : ℕ) (f x g y : List ℕ) (m n : ℕ) → IsUnsigned bits f m → IsUnsigned bits g n → f ++ x ≡ g ++ y → (m ≡ n) × (f ≡ g) × (x ≡ y)

-- a text begins with one signed integer at most
abbrev pub OneSigned : Type 0
OneSigned = (bits : ℕ) (f x g y : List ℕ) (a b : ℤ) → IsSigned bits f a → IsSigned bits g b → f ++ x ≡ g ++ y → (a ≡ b) × (f ≡ g) × (x ≡ y)

-- what is spelled is read, whatever follows it
abbrev pub UnsignedAgain : Type 0
UnsignedAgain = (bits : ℕ) (front rest : List ℕ) (n : ℕ) → IsUnsigned bits front n → unsigned_at bits (front ++ rest) ≡ Some (n, rest)

abbrev pub SignedAgain : Type 0
SignedAgain = (bits : ℕ) (front rest : List ℕ) (z : ℤ) → IsSigned bits front z → signed_at bits (front ++ rest) ≡ Some (z, rest)

-- what is read is spelled
abbrev pub UnsignedTaken : Type 0
UnsignedTaken = (bits : ℕ) (text rest : List ℕ) (n : ℕ) → unsigned_at bits text ≡ Some (n, rest) → (front : List ℕ) × (text ≡ front ++ rest) × IsUnsigned bits front n

abbrev pub SignedTaken : Type 0
SignedTaken = (bits : ℕ) (text rest : List ℕ) (z : ℤ) → signed_at bits text ≡ Some (z, rest) → (front : List ℕ) × (text ≡ front ++ rest) × IsSigned bits front z

-- the least spelling spells its number
abbrev pub LeastUnsignedSpells : Type 0
LeastUnsignedSpells = (bits n : ℕ) → bits ≤ 70 → n < 2 ^ bits → IsUnsigned bits (least_unsigned n) n

abbrev pub LeastSignedSpells : Type 0
LeastSignedSpells = (bits : ℕ) (z : ℤ) → 1 ≤ bits → bits ≤ 70 → FitsBits bits z → IsSigned bits (least_signed z) z

-- no spelling of a number is shorter than the least one
abbrev pub LeastUnsignedIsLeast : Type 0
LeastUnsignedIsLeast = (bits : ℕ) (front : List ℕ) (n : ℕ) → IsUnsigned bits front n → length (least_unsigned n) ≤ length front

abbrev pub LeastSignedIsLeast : Type 0
LeastSignedIsLeast = (bits : ℕ) (front : List ℕ) (z : ℤ) → IsSigned bits front z → length (least_signed z) ≤ length front

-- a spelling of so many bits spells a number of so many bits
abbrev pub UnsignedFits : Type 0
UnsignedFits = (bits : ℕ) (front : List ℕ) (n : ℕ) → IsUnsigned bits front n → n < 2 ^ bits

abbrev pub SignedFits : Type 0
SignedFits = (bits : ℕ) (front : List ℕ) (z : ℤ) → IsSigned bits front z → FitsBits bits z

-- a spelling is made of bytes, and of one at least
abbrev pub UnsignedBytes : Type 0
UnsignedBytes = (bits : ℕ) (front : List ℕ) (n : ℕ) → IsUnsigned bits front n → AllByRecursion (λ b. b < 256) front × (0 < length front)

abbrev pub SignedBytes : Type 0
SignedBytes = (bits : ℕ) (front : List ℕ) (z : ℤ) → IsSigned bits front z → AllByRecursion (λ b. b < 256) front × (0 < length front)
