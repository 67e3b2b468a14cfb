-- What holds of each element of a list that is made of some elements of another.
use Rattle.std.proofs.Common.{◌≡◌, ℕ, zero, suc, ◌+◌, ◌<◌, ◌≤◌, Bool, true, false, cond, List, [], ◌∷◌, ◌++◌, map, sym, refl, subst, arith}
use Rattle.std.specs.Prelude.{All, flat_map}
use Rattle.std.specs.List.{filter as keep}
use Rattle.std.proofs.lemmas.List.Elements.{All-head, All-tail, All-cons, All-nil, All-append}
use Rattle.std.proofs.lemmas.List.Concat.{flat_map_single}
use Rattle.gu_rec.specs.Keys.{run}

pub all_front : {A : Type 0} (P : A → Type 0) (xs ys : List A) → All P (xs ++ ys) → All P xs
all_front P [] ys h = All-nil P
all_front P (x ∷ xs) ys h = All-cons P x xs (All-head P x (xs ++ ys) h) (all_front P xs ys (All-tail P x (xs ++ ys) h))

pub all_back : {A : Type 0} (P : A → Type 0) (xs ys : List A) → All P (xs ++ ys) → All P ys
all_back P [] ys h = h
all_back P (x ∷ xs) ys h = all_back P xs ys (All-tail P x (xs ++ ys) h)

-- the numbers of a run lie between its ends
pub run_below : (first count end : ℕ) → first + count ≤ end → All (λ s. s < end) (run first count)
run_below first zero end h = All-nil (λ s. s < end)
run_below first (suc count) end h = All-cons (λ s. s < end) first (run (suc first) count) (omega arith) (run_below (suc first) count end (omega arith))

-- What is made of the kept elements: where the others keep at least as many, and what they make of each makes up for what
-- is made of it here
module _ {A B : Type 0} (R : A → Type 0) (t u : A → Bool) (P Q : B → Type 0) (g h : A → List B) where
  abbrev Steps : Type 0
  Steps = (a : A) → R a → t a ≡ true → (u a ≡ true) × (All Q (h a) → All P (g a))

  fewer : (a : A) (xs : List A) (b : Bool) → All Q (flat_map h (cond b (a ∷ keep u xs) (keep u xs))) → All Q (flat_map h (keep u xs))
  fewer a xs true q = all_back Q (h a) (flat_map h (keep u xs)) q
  fewer a xs false q = q

  step : Steps → (a : A) (xs : List A) → R a → (b : Bool) → t a ≡ b → All Q (flat_map h (keep u (a ∷ xs))) → All P (flat_map g (keep t xs)) → All P (flat_map g (cond b (a ∷ keep t xs) (keep t xs)))
  step steps a xs r true e q rest =
      let s = steps a r e in
      let q' : All Q (h a ++ flat_map h (keep u xs)) = subst (λ (b : Bool). All Q (flat_map h (cond b (a ∷ keep u xs) (keep u xs)))) s.0 q in
      All-append P (g a) (flat_map g (keep t xs)) (s.1 (all_front Q (h a) (flat_map h (keep u xs)) q')) rest
  step steps a xs r false e q rest = rest

  pub all_kept : Steps → (xs : List A) → All R xs → All Q (flat_map h (keep u xs)) → All P (flat_map g (keep t xs))
  all_kept steps [] r q = All-nil P
  all_kept steps (a ∷ xs) r q = step steps a xs (All-head R a xs r) (t a) refl q (all_kept steps xs (All-tail R a xs r) (fewer a xs (u a) q))

-- the same where one is made of each
pub all_map_kept : {A B : Type 0} (R : A → Type 0) (t u : A → Bool) (P Q : B → Type 0) (g h : A → B) → ((a : A) → R a → t a ≡ true → (u a ≡ true) × (Q (h a) → P (g a)))
    → (xs : List A) → All R xs → All Q (map h (keep u xs)) → All P (map g (keep t xs))
all_map_kept {A} {B} R t u P Q g h steps xs r q =
    let q' : All Q (flat_map (λ a. h a ∷ []) (keep u xs)) = subst (λ (ys : List B). All Q ys) (sym (flat_map_single h (keep u xs))) q in
    subst (λ (ys : List B). All P ys) (flat_map_single g (keep t xs))
    (all_kept R t u P Q (λ a. g a ∷ []) (λ a. h a ∷ []) (λ a r e. let s = steps a r e in (s.0, λ p. All-cons P (g a) [] (s.1 (All-head Q (h a) [] p)) (All-nil P))) xs r q')

-- what holds of what is made of each kept element
pub all_map_kept_from : {A B : Type 0} (R : A → Type 0) (t : A → Bool) (P : B → Type 0) (g : A → B) → ((a : A) → R a → t a ≡ true → P (g a)) → (xs : List A) → All R xs → All P (map g (keep t xs))
all_map_kept_from R t P g h xs r = all_map_kept R t t P (λ b. Unit {0}) g g (λ a q e. (e, λ _. h a q e)) xs r (λ k d lt. tt)

pub all_kept_from : {A B : Type 0} (R : A → Type 0) (t : A → Bool) (P : B → Type 0) (g : A → List B) → ((a : A) → R a → t a ≡ true → All P (g a)) → (xs : List A) → All R xs → All P (flat_map g (keep t xs))
all_kept_from R t P g h xs r = all_kept R t t P (λ b. Unit {0}) g g (λ a q e. (e, λ _. h a q e)) xs r (λ k d lt. tt)
