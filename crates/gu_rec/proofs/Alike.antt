-- Two lists of one length are compared, and one list is fed to a hasher, item by item.
use Rattle.std.proofs.Common.{◌≡◌, ℕ, suc, ◌+◌, ◌<◌, ◌≤◌, Bool, true, false, ◌&&◌, List, [], ◌∷◌, map, length, get_or, take, drop, refl, ap, sym, ◌∙◌}
use Rattle.std.specs.List.{fold}
use Rattle.std.specs.Cmp.Lexicographic.{pointwise}
use Rattle.std.proofs.lemmas.List.{drop_more, drop_all}
use Rattle.std.proofs.lemmas.List.Sums.{fold_more}
use Rattle.std.proofs.lemmas.List.Folds.{fold-map}

module _ {X Y : Type 0} (test : Y → Y → Bool) (f g : X → Y) where
  pub unlike_long : (xs ys : List X) → (length xs ≡ length ys → ⊥) → false ≡ pointwise test (map f xs) (map g ys)
  unlike_long [] [] h = absurd (h refl)
  unlike_long [] (y ∷ ys) h = refl
  unlike_long (x ∷ xs) [] h = refl
  unlike_long (x ∷ xs) (y ∷ ys) h = unlike_long xs ys (λ e. h (ap suc e)) ∙ rest (test (f x) (g y)) (pointwise test (map f xs) (map g ys)) (sym (unlike_long xs ys (λ e. h (ap suc e))))
    where
      rest : (s t : Bool) → t ≡ false → t ≡ (s && t)
      rest true t e = refl
      rest false t e = e

  -- what is left of the comparison of two lists from a place on
  abbrev pub from : List X → List X → ℕ → Bool
  from xs ys k = pointwise test (map f (drop k xs)) (map g (drop k ys))

  pub from_next : (xs ys : List X) (k : ℕ) (d e : X) → k < length xs → k < length ys → from xs ys k ≡ (test (f (get_or xs k d)) (g (get_or ys k e)) && from xs ys (k + 1))
  from_next xs ys k d e h l = λ i. pointwise test (map f (drop_more xs k d h i)) (map g (drop_more ys k e l i))

  pub from_same : (xs ys : List X) (k : ℕ) (d e : X) → k < length xs → k < length ys → test (f (get_or xs k d)) (g (get_or ys k e)) ≡ true → from xs ys k ≡ from xs ys (k + 1)
  from_same xs ys k d e h l s = from_next xs ys k d e h l ∙ ap (λ b. b && from xs ys (k + 1)) s

  pub from_other : (xs ys : List X) (k : ℕ) (d e : X) → k < length xs → k < length ys → test (f (get_or xs k d)) (g (get_or ys k e)) ≡ false → from xs ys k ≡ false
  from_other xs ys k d e h l s = from_next xs ys k d e h l ∙ ap (λ b. b && from xs ys (k + 1)) s

  pub from_end : (xs ys : List X) (k : ℕ) → length xs ≤ k → length ys ≤ k → from xs ys k ≡ true
  from_end xs ys k h l = λ i. pointwise test (map f (drop_all k xs h i)) (map g (drop_all k ys l i))

pub fold_next : {A B X : Type 0} (step : B → A → B) (f : X → A) (a : B) (xs : List X) (i : ℕ) (d : X) → i < length xs → fold step a (map f (take (i + 1) xs)) ≡ step (fold step a (map f (take i xs))) (f (get_or xs i d))
fold_next step f a xs i d h = fold-map step f a (take (i + 1) xs) ∙ (fold_more (λ b x. step b (f x)) a xs i d h ∙ ap (λ s. step s (f (get_or xs i d))) (sym (fold-map step f a (take i xs))))
