-- Numbers of types and functions, against the limits on them.
use Rattle.std.proofs.Common.{ℕ, ◌+◌, ◌≤◌, ◌<◌, ◌≡◌, refl, ap, ◌∙◌, sym, cond, not, if◌then◌else◌, nat_lt, length, get_or, map, arith, List, [], ◌∷◌, Bool, true, false, Some, None}
use Rattle.std.specs.Prelude.{sum_by}
use Rattle.std.specs.List.{prefix_len, position_or_len}
use Rattle.std.proofs.lemmas.List.{length-map}
use Rattle.std.proofs.lemmas.List.Sums.{sum_by-cons, position_or_len_is}
use Rattle.gu_syntax.specs.declared.module.Func.{Func}
use Rattle.gu_read.specs.Limits.{first_above, locals_of}
use Rattle.gu_read.specs.Rows.{capped, weight, weight_in}
use Rattle.gu_read.proofs.Answered.{first_of, within, is_above, none_within, first_within, above_true}

-- the first number above a limit
pub above_found : (most : ℕ) (xs : List ℕ) (i : ℕ) → i < length xs → ((k : ℕ) → k < i → nat_lt most (get_or xs k 0) ≡ false) → most < get_or xs i 0 → Some i ≡ first_above (λ n. n) most xs
above_found most xs i below before above =
    let e : position_or_len (λ n. nat_lt most n) xs ≡ i = position_or_len_is (λ n. nat_lt most n) xs i 0 (omega (arith, below)) before (λ l. above_true most (get_or xs i 0) above) in
    sym (ap (λ n. first_of n (length xs)) e ∙ ap (λ b. if b then Some i else None) (above_true i (length xs) below))

not_self : (n : ℕ) → nat_lt n n ≡ false
not_self n = grind arith

pub above_none : (most : ℕ) (xs : List ℕ) → ((k : ℕ) → k < length xs → nat_lt most (get_or xs k 0) ≡ false) → None ≡ first_above (λ n. n) most xs
above_none most xs before =
    let e : position_or_len (λ n. nat_lt most n) xs ≡ length xs = position_or_len_is (λ n. nat_lt most n) xs (length xs) 0 (omega arith) before (λ l. absurd (omega (arith, l))) in
    sym (ap (λ n. first_of n (length xs)) e ∙ ap (λ b. if b then Some (length xs) else None) (not_self (length xs)))

-- the same of what has the numbers
within_map : {X : Type 0} (f : X → ℕ) (most : ℕ) (xs : List X) → prefix_len (λ n. not (nat_lt most n)) (map f xs) ≡ prefix_len (λ x. not (nat_lt most (f x))) xs
within_map f most [] = refl
within_map f most (x ∷ xs) = ap (λ n. cond (not (nat_lt most (f x))) (1 + n) 0) (within_map f most xs)

pub above_map : {X : Type 0} (f : X → ℕ) (most : ℕ) (xs : List X) → first_above (λ n. n) most (map f xs) ≡ first_above f most xs
above_map f most xs = ap (λ n. first_of n (length (map f xs))) (within_map f most xs) ∙ ap (λ n. first_of (prefix_len (λ x. not (nat_lt most (f x))) xs) n) (length-map xs f)

-- locals that are counted up to the limit
capped_test : (n : ℕ) (b : Bool) → nat_lt 50000 n ≡ b → nat_lt 50000 (if b then 50001 else n) ≡ b
capped_test n true e = refl
capped_test n false e = e

capped_above : (n : ℕ) → nat_lt 50000 (capped n) ≡ nat_lt 50000 n
capped_above n = capped_test n (nat_lt 50000 n) refl

within_capped : (funcs : List Func) → prefix_len (λ f. not (nat_lt 50000 (capped (locals_of f)))) funcs ≡ within funcs
within_capped [] = refl
within_capped (f ∷ fs) = ap (λ b. cond (not b) (1 + prefix_len (λ g. not (nat_lt 50000 (capped (locals_of g)))) fs) 0) (capped_above (locals_of f)) ∙ ap (λ n. cond (not (is_above f)) (1 + n) 0) (within_capped fs)

pub above_capped : (funcs : List Func) → first_above (λ n. n) 50000 (map (λ f. capped (locals_of f)) funcs) ≡ first_above locals_of 50000 funcs
above_capped funcs = above_map (λ f. capped (locals_of f)) 50000 funcs ∙ ap (λ n. first_of n (length funcs)) (within_capped funcs)

capped_same : (n : ℕ) → nat_lt 50000 n ≡ false → capped n ≡ n
capped_same n e = ap (λ b. if b then 50001 else n) e

sum_within : (funcs : List Func) → length funcs ≤ within funcs → sum_by (λ f. capped (locals_of f)) funcs ≡ sum_by locals_of funcs
sum_within [] h = refl
sum_within (f ∷ fs) h =
    let w = first_within f fs h in
    sum_by-cons (λ g. capped (locals_of g)) f fs ∙ ap (λ n. n + sum_by (λ g. capped (locals_of g)) fs) (capped_same (locals_of f) w.0) ∙ ap (λ n. locals_of f + n) (sum_within fs w.1) ∙ sym (sum_by-cons locals_of f fs)

pub sum_capped : (funcs : List Func) → first_above locals_of 50000 funcs ≡ None → sum_by (λ f. capped (locals_of f)) funcs ≡ sum_by locals_of funcs
sum_capped funcs h = sum_within funcs (none_within funcs h)

pub capped_small : (n : ℕ) → capped n ≤ 50001
capped_small n = by_test (nat_lt 50000 n) refl
  where
    by_test : (b : Bool) → nat_lt 50000 n ≡ b → (if b then 50001 else n) ≤ 50001
    by_test true e = omega arith
    by_test false e = grind (arith, e)

pub capped_more : (n : ℕ) → 50000 < n → 50001 ≡ capped n
capped_more n h = sym (ap (λ b. if b then 50001 else n) (above_true 50000 n h))

pub capped_less : (n : ℕ) → n ≤ 50000 → n ≡ capped n
capped_less n h = let e : nat_lt 50000 n ≡ false = grind (arith, h) in sym (capped_same n e)

-- weights: where their sum is small no function has too many locals, and the sum is of the locals
weight_above : (n : ℕ) → nat_lt 50000 n ≡ true → weight n ≡ 4000001
weight_above n e = ap (λ b. if b then 4000001 else n) e

weight_same : (n : ℕ) → nat_lt 50000 n ≡ false → weight n ≡ n
weight_same n e = ap (λ b. if b then 4000001 else n) e

pub capped_weight : (n : ℕ) → capped n ≤ 50000 → capped n ≡ weight n
capped_weight n h = by_test (nat_lt 50000 n) refl
  where
    by_test : (b : Bool) → nat_lt 50000 n ≡ b → capped n ≡ weight n
    by_test true e = absurd (let c : capped n ≡ 50001 = ap (λ b. if b then 50001 else n) e in omega (arith, h, c))
    by_test false e = capped_same n e ∙ sym (weight_same n e)

pub weight_most : (n : ℕ) → 50000 < capped n → 4000001 ≡ weight n
weight_most n h = by_test (nat_lt 50000 n) refl
  where
    by_test : (b : Bool) → nat_lt 50000 n ≡ b → 4000001 ≡ weight n
    by_test true e = sym (weight_above n e)
    by_test false e = absurd (let k : n ≤ 50000 = grind (arith, e) in let c = capped_same n e in omega (arith, h, k, c))

-- weights that are added up as far as one more than all functions may have
pub weights_light : (funcs : List Func) → weight_in funcs ≤ 4000000 → sum_by (λ f. weight (locals_of f)) funcs ≤ 4000000
weights_light funcs h = omega (arith, h)

abbrev IsLight : List Func → Type 0
IsLight funcs = (within funcs ≡ length funcs) × (sum_by (λ f. weight (locals_of f)) funcs ≡ sum_by locals_of funcs)

light_on : (f : Func) (fs : List Func) (b : Bool) → is_above f ≡ b → sum_by (λ g. weight (locals_of g)) (f ∷ fs) ≤ 4000000 → sum_by (λ g. weight (locals_of g)) (f ∷ fs) ≡ weight (locals_of f) + sum_by (λ g. weight (locals_of g)) fs → (sum_by (λ g. weight (locals_of g)) fs ≤ 4000000 → IsLight fs) → IsLight (f ∷ fs)
light_on f fs true e h whole on = let w = weight_above (locals_of f) e in absurd (omega (arith, h, whole, w))
light_on f fs false e h whole on =
    let rest = on (omega (arith, h, whole)) in
    let more : 1 + within fs ≡ length (f ∷ fs) = omega (arith, rest.0) in
    (ap (λ b. cond (not b) (1 + within fs) 0) e ∙ more, whole ∙ ap (λ n. n + sum_by (λ g. weight (locals_of g)) fs) (weight_same (locals_of f) e) ∙ ap (λ n. locals_of f + n) rest.1 ∙ sym (sum_by-cons locals_of f fs))

light : (funcs : List Func) → sum_by (λ f. weight (locals_of f)) funcs ≤ 4000000 → IsLight funcs
light [] h = (refl, refl)
light (f ∷ fs) h = light_on f fs (is_above f) refl h (sum_by-cons (λ g. weight (locals_of g)) f fs) (light fs)

pub light_none : (funcs : List Func) → sum_by (λ f. weight (locals_of f)) funcs ≤ 4000000 → first_above locals_of 50000 funcs ≡ None
light_none funcs h = ap (λ n. first_of n (length funcs)) (light funcs h).0 ∙ ap (λ b. if b then Some (length funcs) else None) (not_self (length funcs))

pub light_sum : (funcs : List Func) → sum_by (λ f. weight (locals_of f)) funcs ≤ 4000000 → sum_by (λ f. weight (locals_of f)) funcs ≡ sum_by locals_of funcs
light_sum funcs h = (light funcs h).1
