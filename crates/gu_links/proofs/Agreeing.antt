-- Contents that agree on cells.
use Rattle.std.proofs.Common.{◌≡◌, ℕ, List, [], ◌∷◌, ◌++◌, map, refl}
use Rattle.std.specs.Prelude.{flat_map}
use Rattle.std.proofs.lemmas.List.Elements.{All-head, All-tail, All-cons, All-nil}
use Rattle.gu_contents.specs.declared.content.Content.{Content}
use Rattle.gu_links.specs.Gives.{Contents}
use Rattle.gu_links.specs.Laws.{Agree}

pub first : (x y : Contents) (c : ℕ) (cs : List ℕ) → Agree (c ∷ cs) x y → x c ≡ y c
first x y c cs h = All-head (λ d. x d ≡ y d) c cs h.at

pub rest : (x y : Contents) (c : ℕ) (cs : List ℕ) → Agree (c ∷ cs) x y → Agree cs x y
rest x y c cs h = record { at = All-tail (λ d. x d ≡ y d) c cs h.at }

pub front : (x y : Contents) (cs ds : List ℕ) → Agree (cs ++ ds) x y → Agree cs x y
front x y [] ds h = record { at = All-nil (λ d. x d ≡ y d) }
front x y (c ∷ cs) ds h = record { at = All-cons (λ d. x d ≡ y d) c cs (first x y c (cs ++ ds) h) (front x y cs ds (rest x y c (cs ++ ds) h)).at }

pub back : (x y : Contents) (cs ds : List ℕ) → Agree (cs ++ ds) x y → Agree ds x y
back x y [] ds h = h
back x y (c ∷ cs) ds h = back x y cs ds (rest x y c (cs ++ ds) h)

-- what is made of the contents of some cells, one by one, is the same
pub map_same : {A B : Type 0} (x y : Contents) (cell : A → ℕ) (make : Content → B) (xs : List A) → Agree (map cell xs) x y → map (λ a. make (x (cell a))) xs ≡ map (λ a. make (y (cell a))) xs
map_same x y cell make [] h = refl
map_same x y cell make (a ∷ xs) h = let e = first x y (cell a) (map cell xs) h in let es = map_same x y cell make xs (rest x y (cell a) (map cell xs) h) in cc

pub cells_same : (x y : Contents) (cs : List ℕ) → Agree cs x y → map x cs ≡ map y cs
cells_same x y [] h = refl
cells_same x y (c ∷ cs) h = let e = first x y c cs h in let es = cells_same x y cs (rest x y c cs h) in cc

-- what is made of some lists of cells is the same, where it is the same for each list
pub flat_same : {A B : Type 0} (x y : Contents) (cells : A → List ℕ) (make : Contents → A → List B) → ((a : A) → Agree (cells a) x y → make x a ≡ make y a) → (xs : List A) → Agree (flat_map cells xs) x y → flat_map (make x) xs ≡ flat_map (make y) xs
flat_same x y cells make same [] h = refl
flat_same x y cells make same (a ∷ xs) h = let e = same a (front x y (cells a) (flat_map cells xs) h) in let es = flat_same x y cells make same xs (back x y (cells a) (flat_map cells xs) h) in cc
