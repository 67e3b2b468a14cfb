-- Lists of cells in which each stands once.
use Rattle.std.proofs.Common.{◌≡◌, ℕ, cond, List, [], ◌∷◌, ◌++◌, refl}
use Rattle.std.specs.Prelude.{All, Contains}
use Rattle.std.proofs.lemmas.List.Elements.{All-map, All-contains}
use Rattle.gu_links.specs.Known.{Item, cells_of}
use Rattle.gu_links.specs.Kept.{has, once_onto}

pub once_push : (seen xs : List ℕ) (c : ℕ) → once_onto seen (xs ++ c ∷ []) ≡ cond (has (once_onto seen xs) c) (once_onto seen xs) (once_onto seen xs ++ c ∷ [])
once_push seen [] c = refl
once_push seen (x ∷ xs) c = once_push (cond (has seen x) seen (seen ++ x ∷ [])) xs c

-- a cell of which nothing is known
pub absent : (known : List Item) (cell : ℕ) → All (λ (k : Item). k.0 ≡ cell → ⊥) known → Contains (cells_of known) cell → ⊥
absent known cell h there = All-contains (λ (c : ℕ). c ≡ cell → ⊥) (cells_of known) cell (All-map (λ (c : ℕ). c ≡ cell → ⊥) (λ (k : Item). k.0) known h) there refl
