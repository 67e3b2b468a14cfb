-- Texts that begin with what a relation takes; and comparisons of numbers as equations.
use Rattle.std.proofs.Common.{ℕ, ◌≤◌, ◌<◌, List, ◌++◌, ◌≡◌, ap, length, arith, nat_eq, nat_lt, true, false, length-append}
use Rattle.gu_syntax.specs.Parts.{Parts}

-- the text begins with what P takes
pub record Takes (P : List ℕ → Type 0) (text rest : List ℕ) : Type 0 where
  pub front : List ℕ
  pub whole : text ≡ front ++ rest
  pub spells : P front

pub shorter : (P : List ℕ → Type 0) (text rest : List ℕ) → Takes P text rest → length rest ≤ length text
shorter P text rest t = omega (arith, ap length t.whole, length-append t.front rest)

-- R takes what P takes, followed by what Q takes of it
pub record Splits {X Y : Type 0} (R : Y → List ℕ → Type 0) (P : X → List ℕ → Type 0) (Q : X → Y → List ℕ → Type 0) : Type 0 where
  pub opens : (y : Y) (text : List ℕ) → R y text → (x : X) × Parts (P x) (Q x y) text
  pub closes : (x : X) (y : Y) (text : List ℕ) → Parts (P x) (Q x y) text → R y text

pub is_eq : (a b : ℕ) → nat_eq a b ≡ true → a ≡ b
is_eq a b h = grind (arith, h)

pub eq_is : (a b : ℕ) → a ≡ b → nat_eq a b ≡ true
eq_is a b h = grind (arith, h)

pub is_below : (a b : ℕ) → nat_lt a b ≡ true → a < b
is_below a b h = grind (arith, h)

pub not_below : (a b : ℕ) → nat_lt a b ≡ false → b ≤ a
not_below a b h = grind (arith, h)

pub below_not : (a b : ℕ) → b ≤ a → nat_lt a b ≡ false
below_not a b h = grind (arith, h)
