-- Lists in which each number stands once, and lists that rise.
use Rattle.std.proofs.Common.{◌≡◌, ◌∙◌, ℕ, zero, suc, ◌<◌, ◌≤◌, ◌||◌, Bool, true, false, cond, List, [], ◌∷◌, ◌++◌, Some, map, get_or, take, refl, sym, subst, arith}
use Rattle.std.specs.Prelude.{All, Contains, flat_map, nat_eq, slice_get}
use Rattle.std.specs.List.{filter as keep}
use Rattle.std.proofs.lemmas.Bool.{both_ways, cond_both, eq-eqb, ne_eqb, eqb-true, false_from_ne_true, or_from, or_parts}
use Rattle.std.proofs.lemmas.Option.{none-some}
use Rattle.std.proofs.lemmas.List.Elements.{All-head, All-tail, All-cons, All-nil, All-append, All-contains, Contains-get_or}
use Rattle.std.proofs.lemmas.List.Folds.{list_any-append, list_any_at, list_any_none}
use Rattle.std.proofs.lemmas.Map.Keys.{any_passes_from_place}
use Rattle.std.proofs.lemmas.Map.Views.{Contains-from_any}
use Rattle.gu_rec.specs.Keys.{run}
use Rattle.gu_links.specs.Kept.{has, once_onto}
use Rattle.gu_links.proofs.Firsts.{IsRising, has_once}

-- a number that is found in a list stands in it, and the other way round
pub has_from : (xs : List ℕ) (c : ℕ) → Contains xs c → has xs c ≡ true
has_from xs c h = list_any_at (λ d. nat_eq d c) xs h.0 c h.1 (eq-eqb (get_or xs h.0 c) c h.2)

pub from_has : (xs : List ℕ) (c : ℕ) → has xs c ≡ true → Contains xs c
from_has xs c h = Contains-from_any {eq = λ q y. nat_eq y q} (λ q y e. sym (eqb-true y q e)) c xs h

-- each number stands once
abbrev pub IsOnce : List ℕ → Type 0
IsOnce [] = Unit {0}
IsOnce (x ∷ xs) = (has xs x ≡ false) × IsOnce xs

-- a number does not stand before its place
pub before_new : (xs : List ℕ) (n c : ℕ) → IsOnce xs → slice_get xs n ≡ Some c → has (take n xs) c ≡ false
before_new [] n c h e = absurd (none-some c e)
before_new (x ∷ xs) zero c h e = refl
before_new (x ∷ xs) (suc n) c h e =
    or_from (nat_eq x c) (has (take n xs) c)
    (ne_eqb x c (λ same. both_ways (has xs x) h.0 (subst (λ (d : ℕ). has xs d ≡ true) (sym same) (any_passes_from_place (λ d. nat_eq d c) xs n c e (eq-eqb c c refl)))))
    (before_new xs n c h.1 e)

pub once_append : (xs ys : List ℕ) → IsOnce xs → IsOnce ys → All (λ y. has xs y ≡ false) ys → IsOnce (xs ++ ys)
once_append [] ys h k a = k
once_append (x ∷ xs) ys h k a = (
  list_any-append (λ d. nat_eq d x) xs ys
      ∙ or_from (has xs x) (has ys x) h.0
      (false_from_ne_true (has ys x) (λ there. both_ways (nat_eq x x) (or_parts (nat_eq x x) (has xs x) (All-contains (λ y. (nat_eq x y || has xs y) ≡ false) ys x a (from_has ys x there))).0 (eq-eqb x x refl))),
  once_append xs ys h.1 k (λ i d lt. (or_parts (nat_eq x (get_or ys i d)) (has xs (get_or ys i d)) (a i d lt)).1),
)

pub once_is_once : (seen cells : List ℕ) → IsOnce seen → IsOnce (once_onto seen cells)
once_is_once seen [] h = h
once_is_once seen (c ∷ cells) h = once_is_once (cond (has seen c) seen (seen ++ c ∷ [])) cells
    (cond_both (has seen c) seen (seen ++ c ∷ []) (λ (xs : List ℕ). IsOnce xs) (λ e. h)
    (λ e. once_append seen (c ∷ []) h (refl, tt) (All-cons (λ y. has seen y ≡ false) c [] e (All-nil (λ y. has seen y ≡ false)))))

-- what holds of all numbers of a list holds of the same numbers, each once
pub once_all : (P : ℕ → Type 0) (cells : List ℕ) → All P cells → All P (once_onto [] cells)
once_all P cells h k d lt =
    let c : ℕ = get_or (once_onto [] cells) k d in
    All-contains P cells c h (from_has cells c (sym (has_once [] cells c) ∙ has_from (once_onto [] cells) c (Contains-get_or (once_onto [] cells) k d lt)))

pub all_once : (cells : List ℕ) → All (Contains (once_onto [] cells)) cells
all_once cells k d lt =
    let c : ℕ = get_or cells k d in
    from_has (once_onto [] cells) c (has_once [] cells c ∙ has_from cells c (Contains-get_or cells k d lt))

module _ (q : ℕ → Bool) where
  kept_not : (xs : List ℕ) (c : ℕ) → has xs c ≡ false → has (keep q xs) c ≡ false
  kept_not [] c e = e
  kept_not (x ∷ xs) c e =
      let p = or_parts (nat_eq x c) (has xs c) e in
      cond_both (q x) (x ∷ keep q xs) (keep q xs) (λ (ys : List ℕ). has ys c ≡ false) (λ _. or_from (nat_eq x c) (has (keep q xs) c) p.0 (kept_not xs c p.1)) (λ _. kept_not xs c p.1)

  pub kept_once : (xs : List ℕ) → IsOnce xs → IsOnce (keep q xs)
  kept_once [] h = tt
  kept_once (x ∷ xs) h = cond_both (q x) (x ∷ keep q xs) (keep q xs) (λ (ys : List ℕ). IsOnce ys) (λ _. (kept_not xs x h.0, kept_once xs h.1)) (λ _. kept_once xs h.1)

pub rising_once : (xs : List ℕ) → IsRising xs → IsOnce xs
rising_once [] h = tt
rising_once (x ∷ xs) h = (list_any_none (λ d. nat_eq d x) xs (λ k d lt. ne_eqb (get_or xs k d) x (λ e. let l : x < get_or xs k d = h.0 k d lt in omega arith)), rising_once xs h.1)

rising_append : (m : ℕ) (xs ys : List ℕ) → IsRising xs → IsRising ys → All (λ c. c < m) xs → All (λ c. m ≤ c) ys → IsRising (xs ++ ys)
rising_append m [] ys h k below above = k
rising_append m (x ∷ xs) ys h k below above = (
  All-append (λ y. x < y) xs ys h.0 (λ i d lt. let a : m ≤ get_or ys i d = above i d lt in let b = All-head (λ c. c < m) x xs below in omega arith),
  rising_append m xs ys h.1 k (All-tail (λ c. c < m) x xs below) above,
)

-- What is made of the kept numbers of a run rises, where what is made of each does, and stays within bounds that rise
module _ (low : ℕ → ℕ) (h : ℕ → List ℕ) (p : ℕ → Bool) (steps : (s : ℕ) → low s ≤ low (suc s)) (each : (s : ℕ) → p s ≡ true → All (λ c. (low s ≤ c) × (c < low (suc s))) (h s)) (rise : (s : ℕ) → IsRising (h s)) where
  lower : (first : ℕ) (rest : List ℕ) → All (λ c. low (suc first) ≤ c) (flat_map h rest) → All (λ c. low first ≤ c) (flat_map h rest)
  lower first rest a k d lt = let s = steps first in let l : low (suc first) ≤ get_or (flat_map h rest) k d = a k d lt in omega arith

  low_step : (first : ℕ) (rest : List ℕ) (b : Bool) → p first ≡ b → All (λ c. low (suc first) ≤ c) (flat_map h rest) → All (λ c. low first ≤ c) (flat_map h (cond b (first ∷ rest) rest))
  low_step first rest true e a = All-append (λ c. low first ≤ c) (h first) (flat_map h rest) (λ k d lt. (each first e k d lt).0) (lower first rest a)
  low_step first rest false e a = lower first rest a

  kept_low : (first count : ℕ) → All (λ c. low first ≤ c) (flat_map h (keep p (run first count)))
  kept_low first zero = All-nil (λ c. low first ≤ c)
  kept_low first (suc count) = low_step first (keep p (run (suc first) count)) (p first) refl (kept_low (suc first) count)

  rise_step : (first : ℕ) (rest : List ℕ) (b : Bool) → p first ≡ b → All (λ c. low (suc first) ≤ c) (flat_map h rest) → IsRising (flat_map h rest) → IsRising (flat_map h (cond b (first ∷ rest) rest))
  rise_step first rest true e a r = rising_append (low (suc first)) (h first) (flat_map h rest) (rise first) r (λ k d lt. (each first e k d lt).1) a
  rise_step first rest false e a r = r

  pub kept_rise : (first count : ℕ) → IsRising (flat_map h (keep p (run first count)))
  kept_rise first zero = tt
  kept_rise first (suc count) = rise_step first (keep p (run (suc first) count)) (p first) refl (kept_low (suc first) count) (kept_rise (suc first) count)

-- what is made of the numbers of a run rises, where it does from each to the next
module _ (g : ℕ → ℕ) (up : (s : ℕ) → g s < g (suc s)) where
  run_above : (m first count : ℕ) → m < g first → All (λ c. m < c) (map g (run first count))
  run_above m first zero lt = All-nil (λ c. m < c)
  run_above m first (suc count) lt = All-cons (λ c. m < c) (g first) (map g (run (suc first) count)) lt (run_above m (suc first) count (let u = up first in omega arith))

  pub run_rises : (first count : ℕ) → IsRising (map g (run first count))
  run_rises first zero = tt
  run_rises first (suc count) = (run_above (g first) (suc first) count (up first), run_rises (suc first) count)
