-- The links that are left to serve.
use Rattle.std.specs.Prelude.{ℕ, ◌+◌, ◌<◌, ◌≤◌, ◌≡◌, ◌⊎◌, Bool, true, false, List, [], ◌∷◌, All, Contains, length, slice_index_or, if◌then◌else◌}

-- how many links there are, and which of them are left, the one that is next at the end
pub record Left : Type 0 where
  pub links : ℕ
  pub waiting : List ℕ

abbrev pub left_of : ℕ → List ℕ → Left
left_of links waiting = record { links = links; waiting = waiting }

-- how many of a list of marks are set
abbrev pub marks : List Bool → ℕ
marks [] = 0
marks (mark ∷ rest) = (if mark then 1 else 0) + marks rest

-- each link that is left is one of the links; a link that is marked is left; and no more are left than are marked
pub record IsLeft (waiting : List ℕ) (marked : List Bool) : Type 0 where
  pub below : All (λ k. k < length marked) waiting
  pub are_left : (k : ℕ) → k < length marked → slice_index_or marked k false ≡ true → Contains waiting k
  pub few : length waiting ≤ marks marked

-- all that was left is left
pub record Keeps (old new : List ℕ) : Type 0 where
  pub kept : (k : ℕ) → Contains old k → Contains new k

-- all that is left was left, or is one of some links
pub record AddsOnly (links old new : List ℕ) : Type 0 where
  pub only : (k : ℕ) → Contains new k → Contains old k ⊎ Contains links k

-- of so many links no more are left
pub record IsLeftOf (links : ℕ) (left : Left) : Type 0 where
  pub links_are : left.links ≡ links
  pub few : length left.waiting ≤ links
