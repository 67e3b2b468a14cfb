-- Types that are looked at one by one, for the limits on them.
use Rattle.std.proofs.Common.{ℕ, ◌+◌, ◌<◌, ◌≤◌, ◌≡◌, refl, ap, sym, ◌∙◌, cond, not, if◌then◌else◌, nat_lt, eqb, length, length-append, arith, map, List, [], ◌∷◌, ◌++◌, Bool, true, false, Option, Some, None}
use Rattle.std.specs.List.{prefix_len, range_with_len}
use Rattle.std.proofs.lemmas.Bool.{eqb-true}
use Rattle.std.proofs.lemmas.List.{map-append, length-map}
use Rattle.std.proofs.lemmas.List.Folds.{prefix_len-append}
use Rattle.std.proofs.lemmas.List.Sums.{prefix_len-le-length}
use Rattle.gu_types.specs.declared.types.SubType.{SubType}
use Rattle.gu_types.specs.Depth.{depth}
use Rattle.gu_read.specs.declared.seen.Seen as D
use Rattle.gu_read.specs.Limits.{first_above, params_of, results_of, fields_of, first_deeper}
use Rattle.gu_read.specs.Seen.{or_above, kept_depth, depths_in, Sees, IsDepthBehind}
use Rattle.gu_read.proofs.Answered.{first_of, above_true}
use Rattle.gu_read.proofs.Counting.{above_map}
use Rattle.gu_read.proofs.Depths.{depths_more, depths_length, kept_above}

-- the first above a limit, with one more behind the others
first_some : (k n : ℕ) → k < n → first_of k n ≡ Some k
first_some k n h = ap (λ b. if b then Some k else None) (above_true k n h)

first_none : (k n : ℕ) → n ≤ k → first_of k n ≡ None
first_none k n h = let e : nat_lt k n ≡ false = grind (arith, h) in ap (λ b. if b then Some k else None) e

or_none : (most number at : ℕ) (o : Option ℕ) (b : Bool) → o ≡ None → nat_lt most number ≡ b → or_above most number at o ≡ (if b then Some at else None)
or_none most number at o b e t = ap (or_above most number at) e ∙ ap (λ x. if x then Some at else None) t

not_same : (k n : ℕ) → eqb k n ≡ false → k ≤ n → k < n
not_same k n e h = grind (arith, e, h)

more_numbers : (most number k n k' n' : ℕ) (e b : Bool) → eqb k n ≡ e → nat_lt most number ≡ b → k ≤ n → n' ≡ n + 1 → k' ≡ cond e (n + cond (not b) (1 + 0) 0) k → first_of k' n' ≡ or_above most number n (first_of k n)
more_numbers most number k n k' n' true true e t h long is =
    let all : n ≤ k = let s = eqb-true k n e in omega (arith, s) in
    first_some k' n' (omega (arith, long, is)) ∙ ap (λ x. Some x) (let z : k' ≡ n = omega (arith, is) in z) ∙ sym (or_none most number n (first_of k n) true (first_none k n all) t)
more_numbers most number k n k' n' true false e t h long is =
    let all : n ≤ k = let s = eqb-true k n e in omega (arith, s) in
    first_none k' n' (omega (arith, long, is)) ∙ sym (or_none most number n (first_of k n) false (first_none k n all) t)
more_numbers most number k n k' n' false b e t h long is =
    let less : k < n = not_same k n e h in
    first_some k' n' (omega (arith, long, is, less)) ∙ ap (λ x. Some x) is ∙ sym (ap (or_above most number n) (first_some k n less))

pub above_more : {X : Type 0} (f : X → ℕ) (most : ℕ) (xs : List X) (x : X) → first_above f most (xs ++ x ∷ []) ≡ or_above most (f x) (length xs) (first_above f most xs)
above_more {X = X} f most xs x =
    let p : X → Bool = λ y. not (nat_lt most (f y)) in
    more_numbers most (f x) (prefix_len p xs) (length xs) (prefix_len p (xs ++ x ∷ [])) (length (xs ++ x ∷ [])) (eqb (prefix_len p xs) (length xs)) (nat_lt most (f x)) refl refl (prefix_len-le-length p xs) (omega (arith, length-append xs (x ∷ []))) (prefix_len-append p xs (x ∷ []))

-- the same of numbers that are kept as others are
or_same : (most a b at : ℕ) (o : Option ℕ) → nat_lt most a ≡ nat_lt most b → or_above most a at o ≡ or_above most b at o
or_same most a b at None e = ap (λ t. if t then Some at else None) e
or_same most a b at (Some first) e = refl

deeper_is : (types : List SubType) → first_above (λ n. n) 63 (depths_in types) ≡ first_deeper 63 types
deeper_is types = above_map (depth types) 63 (range_with_len 0 (length types))

deeper_more : (types : List SubType) (ty : SubType) (d : ℕ) (o : Option ℕ) → d ≡ kept_depth (depth (types ++ ty ∷ []) (length types)) → length (depths_in types) ≡ length types → o ≡ first_deeper 63 types → or_above 63 d (length types) o ≡ first_deeper 63 (types ++ ty ∷ [])
deeper_more types ty d o h long e =
    let last : ℕ = depth (types ++ ty ∷ []) (length types) in
    ap (or_above 63 d (length types)) (e ∙ sym (deeper_is types))
    ∙ or_same 63 d last (length types) (first_above (λ n. n) 63 (depths_in types)) (ap (nat_lt 63) h ∙ kept_above last)
    ∙ ap (λ n. or_above 63 last n (first_above (λ n. n) 63 (depths_in types))) (sym long)
    ∙ sym (above_more (λ n. n) 63 (depths_in types) last)
    ∙ ap (first_above (λ n. n) 63) (sym (depths_more types ty))
    ∙ deeper_is (types ++ ty ∷ [])

parts_more : (f : SubType → ℕ) (most : ℕ) (types : List SubType) (ty : SubType) (o new : Option ℕ) (n : ℕ) → n ≡ length types → o ≡ first_above f most types → new ≡ or_above most (f ty) n o → new ≡ first_above f most (types ++ ty ∷ [])
parts_more f most types ty o new n e h is = is ∙ ap (or_above most (f ty) n) h ∙ ap (λ k. or_above most (f ty) k (first_above f most types)) e ∙ sym (above_more f most types ty)

pub or_with : (most a b n k : ℕ) (o new : Option ℕ) → new ≡ or_above most a n o → a ≡ b → n ≡ k → new ≡ or_above most b k o
or_with most a b n k o new h e f = h ∙ ap (λ x. or_above most x n o) e ∙ ap (λ x. or_above most b x o) f

-- one more type
pub record Adds (before : D.Seen) (ty : SubType) (d : ℕ) (after : D.Seen) : Type 0 where
  pub depths : after.depths.items ≡ before.depths.items ++ d ∷ []
  pub params : after.params ≡ or_above 1000 (params_of ty.comp) (length before.depths.items) before.params
  pub results : after.results ≡ or_above 1000 (results_of ty.comp) (length before.depths.items) before.results
  pub fields : after.fields ≡ or_above 10000 (fields_of ty.comp) (length before.depths.items) before.fields
  pub deeper : after.deeper ≡ or_above 63 d (length before.depths.items) before.deeper

pub sees_more : (before after : D.Seen) (types : List SubType) (ty : SubType) (d : ℕ) → IsDepthBehind before.depths.items ty d → Adds before ty d after → Sees before types → Sees after (types ++ ty ∷ [])
sees_more before after types ty d is adds sees =
    let n : ℕ = length before.depths.items in
    let deep : d ≡ kept_depth (depth (types ++ ty ∷ []) (length types)) = is types sees.depths in
    let long : n ≡ length types = depths_length types before.depths.items sees.depths in
    let kept : length (depths_in types) ≡ length types = sym (length-map (depths_in types) kept_depth) ∙ ap length (sym sees.depths) ∙ long in
    record {
      depths = adds.depths ∙ ap (λ l. l ++ d ∷ []) sees.depths ∙ ap (λ x. map kept_depth (depths_in types) ++ x ∷ []) deep ∙ sym (map-append kept_depth (depths_in types) _) ∙ ap (map kept_depth) (sym (depths_more types ty));
      params = parts_more (λ t. params_of t.comp) 1000 types ty before.params after.params n long sees.params adds.params;
      results = parts_more (λ t. results_of t.comp) 1000 types ty before.results after.results n long sees.results adds.results;
      fields = parts_more (λ t. fields_of t.comp) 10000 types ty before.fields after.fields n long sees.fields adds.fields;
      deeper = adds.deeper ∙ ap (λ k. or_above 63 d k before.deeper) long ∙ deeper_more types ty d before.deeper deep kept sees.deeper;
    }
