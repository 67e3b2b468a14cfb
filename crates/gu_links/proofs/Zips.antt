-- Pairing with cells that are numbered one after another.
use Rattle.std.proofs.Common.{◌≡◌, ℕ, zero, suc, ◌+◌, ◌<◌, ◌≤◌, List, [], ◌∷◌, ◌++◌, map, length, get_or, take, refl, ap, ap₂, ◌∙◌, arith}
use Rattle.std.specs.Prelude.{zip}
use Rattle.std.proofs.lemmas.List.{take_more, map-append, length-map, length-take-le}
use Rattle.gu_rec.specs.Keys.{run}

zip_none : {A B : Type 0} (xs : List A) → zip {K = A} {X = B} xs [] ≡ []
zip_none [] = refl
zip_none (x ∷ xs) = refl

module _ {A : Type 0} (h : ℕ → ℕ) where
  -- one more on the right
  right_more : (first count : ℕ) (ys : List A) (y : A) → length ys < count → zip (map h (run first count)) (ys ++ y ∷ []) ≡ zip (map h (run first count)) ys ++ (h (first + length ys), y) ∷ []
  right_more first zero ys y lt = absurd (omega arith)
  right_more first (suc count) [] y lt = ap₂ (λ (n : ℕ) (zs : List (ℕ × A)). (h n, y) ∷ zs) (let e : first ≡ first + 0 = omega arith in e) (zip_none (map h (run (suc first) count)))
  right_more first (suc count) (z ∷ ys) y lt =
      ap (λ (zs : List (ℕ × A)). (h first, z) ∷ zs)
      (right_more (suc first) count ys y (omega arith) ∙ ap (λ (n : ℕ). zip (map h (run (suc first) count)) ys ++ (h n, y) ∷ []) (let e : suc first + length ys ≡ first + suc (length ys) = omega arith in e))

  right_full : (first count : ℕ) (ys : List A) (y : A) → count ≤ length ys → zip (map h (run first count)) (ys ++ y ∷ []) ≡ zip (map h (run first count)) ys
  right_full first zero ys y le = refl
  right_full first (suc count) [] y le = absurd (omega arith)
  right_full first (suc count) (z ∷ ys) y le = ap (λ (zs : List (ℕ × A)). (h first, z) ∷ zs) (right_full (suc first) count ys y (omega arith))

module _ {A : Type 0} (x : ℕ → A) (h : ℕ → ℕ) where
  -- one more on the left
  left_more : (xs : List ℕ) (c first count : ℕ) → length xs < count → zip (xs ++ c ∷ []) (map x (map h (run first count))) ≡ zip xs (map x (map h (run first count))) ++ (c, x (h (first + length xs))) ∷ []
  left_more xs c first zero lt = absurd (omega arith)
  left_more [] c first (suc count) lt = ap (λ (n : ℕ). (c, x (h n)) ∷ []) (let e : first ≡ first + 0 = omega arith in e)
  left_more (d ∷ xs) c first (suc count) lt =
      ap (λ (zs : List (ℕ × A)). (d, x (h first)) ∷ zs)
      (left_more xs c (suc first) count (omega arith) ∙ ap (λ (n : ℕ). zip xs (map x (map h (run (suc first) count))) ++ (c, x (h n)) ∷ []) (let e : suc first + length xs ≡ first + suc (length xs) = omega arith in e))

  left_full : (xs : List ℕ) (c first count : ℕ) → count ≤ length xs → zip (xs ++ c ∷ []) (map x (map h (run first count))) ≡ zip xs (map x (map h (run first count)))
  left_full [] c first zero le = refl
  left_full [] c first (suc count) le = absurd (omega arith)
  left_full (d ∷ xs) c first zero le = refl
  left_full (d ∷ xs) c first (suc count) le = ap (λ (zs : List (ℕ × A)). (d, x (h first)) ∷ zs) (left_full xs c (suc first) count (omega arith))

-- the same along two lists
module _ {A : Type 0} (x : ℕ → A) (h : ℕ → ℕ) (count : ℕ) (xs : List ℕ) (i : ℕ) (lt : i < length xs) where
  taken : map x (take (i + 1) xs) ≡ map x (take i xs) ++ x (get_or xs i 0) ∷ []
  taken = ap (map x) (take_more xs i 0 lt) ∙ map-append x (take i xs) (get_or xs i 0 ∷ [])

  long : length (take i xs) ≡ i
  long = length-take-le i xs (omega arith)

  pub passed : i < count → zip (map h (run 0 count)) (map x (take (i + 1) xs)) ≡ zip (map h (run 0 count)) (map x (take i xs)) ++ (h i, x (get_or xs i 0)) ∷ []
  passed c =
      let l : length (map x (take i xs)) ≡ i = length-map (take i xs) x ∙ long in
      ap (zip (map h (run 0 count))) taken ∙ right_more h 0 count (map x (take i xs)) (x (get_or xs i 0)) (omega arith)
      ∙ ap (λ (n : ℕ). zip (map h (run 0 count)) (map x (take i xs)) ++ (h n, x (get_or xs i 0)) ∷ []) (let e : 0 + length (map x (take i xs)) ≡ i = omega arith in e)

  pub all_passed : count ≤ i → zip (map h (run 0 count)) (map x (take (i + 1) xs)) ≡ zip (map h (run 0 count)) (map x (take i xs))
  all_passed c =
      let l : length (map x (take i xs)) ≡ i = length-map (take i xs) x ∙ long in
      ap (zip (map h (run 0 count))) taken ∙ right_full h 0 count (map x (take i xs)) (x (get_or xs i 0)) (omega arith)

  pub given : i < count → zip (take (i + 1) xs) (map x (map h (run 0 count))) ≡ zip (take i xs) (map x (map h (run 0 count))) ++ (get_or xs i 0, x (h i)) ∷ []
  given c =
      let l = long in
      ap (λ (ys : List ℕ). zip ys (map x (map h (run 0 count)))) (take_more xs i 0 lt) ∙ left_more x h (take i xs) (get_or xs i 0) 0 count (omega arith)
      ∙ ap (λ (n : ℕ). zip (take i xs) (map x (map h (run 0 count))) ++ (get_or xs i 0, x (h n)) ∷ []) (let e : 0 + length (take i xs) ≡ i = omega arith in e)

  pub all_given : count ≤ i → zip (take (i + 1) xs) (map x (map h (run 0 count))) ≡ zip (take i xs) (map x (map h (run 0 count)))
  all_given c =
      let l = long in
      ap (λ (ys : List ℕ). zip ys (map x (map h (run 0 count)))) (take_more xs i 0 lt) ∙ left_full x h (take i xs) (get_or xs i 0) 0 count (omega arith)
