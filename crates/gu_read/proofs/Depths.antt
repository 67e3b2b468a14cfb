-- The depth of a type, from that of its supertype.
use Rattle.std.proofs.Common.{◌≡◌, ℕ, zero, suc, ◌+◌, [], ◌∷◌, ◌++◌, length, map, min, get_or, ◌<◌, ◌≤◌, Bool, true, false, List, nat_lt, if◌then◌else◌, slice_get, Option, Some, None, refl, ap, sym, ◌∙◌, subst, arith, ltb-true, add-one, length-append}
use Rattle.std.specs.List.{range_with_len}
use Rattle.std.proofs.Math.ListN.{get_or-append}
use Rattle.std.proofs.Math.Seq.{get_or-append_seam}
use Rattle.std.proofs.lemmas.List.{length-map, get_or-map}
use Rattle.std.proofs.lemmas.Option.{slice_get-get_or}
use Rattle.std.proofs.lemmas.List.FromFn.{length-map-range_with_len, get_or-map-range_with_len, map-range_with_len_more}
use Rattle.gu_syntax.proofs.Takes.{below_not}
use Rattle.gu_types.specs.declared.types.SubType.{SubType}
use Rattle.gu_types.specs.Depth.{parent, smaller, first_of, first_super, one_above, depth_within, depth}
use Rattle.gu_read.specs.Seen.{kept_depth, depths_in}

smaller_below : (i : ℕ) (o : Option ℕ) (p : ℕ) → smaller i o ≡ Some p → p < i
smaller_below i None p h = cc
smaller_below i (Some s) p h = by_test (nat_lt s i) refl h
  where
    by_test : (b : Bool) → nat_lt s i ≡ b → (if b then Some s else None) ≡ Some p → p < i
    by_test true e k = let f : s ≡ p = cc in let g = ltb-true s i e in omega arith
    by_test false e k = let f : ◌≡◌ {A = Option ℕ} None (Some p) = k in cc

-- a supertype has a smaller index
pub parent_below : (types : List SubType) (i p : ℕ) → parent types i ≡ Some p → p < i
parent_below types i p h = smaller_below i (first_super (slice_get types i)) p h

same_above : (f g : ℕ → ℕ) (o : Option ℕ) → ((p : ℕ) → o ≡ Some p → f p ≡ g p) → one_above f o ≡ one_above g o
same_above f g None h = refl
same_above f g (Some p) h = ap suc (h p refl)

at_zero : (types : List SubType) (most : ℕ) → depth_within most types 0 ≡ 0
at_zero types zero = refl
at_zero types (suc most) = no_parent (parent types 0) refl
  where
    no_parent : (o : Option ℕ) → parent types 0 ≡ o → one_above (depth_within most types) o ≡ 0
    no_parent None e = refl
    no_parent (Some p) e = absurd (let h = parent_below types 0 p e in omega arith)

-- what is counted does not depend on how many may be counted
enough : (types : List SubType) (m n i : ℕ) → i ≤ m → i ≤ n → depth_within m types i ≡ depth_within n types i
enough types zero n i h k = let e : i ≡ 0 = omega arith in sym (ap (depth_within n types) e ∙ at_zero types n)
enough types (suc m) zero i h k = let e : i ≡ 0 = omega arith in ap (depth_within (suc m) types) e ∙ at_zero types (suc m)
enough types (suc m) (suc n) i h k = same_above (depth_within m types) (depth_within n types) (parent types i) (λ p e. let b = parent_below types i p e in enough types m n p (omega arith) (omega arith))

pub depth_root : (types : List SubType) (i : ℕ) → parent types i ≡ None → depth types i ≡ 0
depth_root types zero e = refl
depth_root types (suc i) e = ap (one_above (depth_within i types)) e

pub depth_step : (types : List SubType) (i p : ℕ) → parent types i ≡ Some p → depth types i ≡ suc (depth types p)
depth_step types zero p e = absurd (let h = parent_below types 0 p e in omega arith)
depth_step types (suc i) p e = ap (one_above (depth_within i types)) e ∙ ap suc (let b = parent_below types (suc i) p e in enough types i p p (omega arith) (omega arith))

-- the supertype of a type, by what is read of it
first_get : (xs : List ℕ) → first_of xs ≡ slice_get xs 0
first_get [] = refl
first_get (x ∷ xs) = refl

pub parent_last : (types : List SubType) (ty : SubType) (supers : List ℕ) (o : Option ℕ) → supers ≡ ty.supers → o ≡ slice_get supers 0 → parent (types ++ ty ∷ []) (length types) ≡ smaller (length types) o
parent_last types ty supers o e h =
    let n : ℕ = length types in
    let within : n < length (types ++ ty ∷ []) = omega (arith, length-append types (ty ∷ [])) in
    ap (λ t. smaller n (first_super t)) (slice_get-get_or (types ++ ty ∷ []) n ty within ∙ ap (λ t. Some t) (get_or-append_seam types ty [] ty))
    ∙ ap (smaller n) (first_get ty.supers ∙ ap (λ s. slice_get s 0) (sym e) ∙ sym h)

-- what stands behind a type does not matter for its depth
parent_before : (types more : List SubType) (i : ℕ) → i < length types → parent (types ++ more) i ≡ parent types i
parent_before [] more i h = absurd (omega (arith, h))
parent_before (ty ∷ types) more i h =
    let within : i < length ((ty ∷ types) ++ more) = omega (arith, length-append (ty ∷ types) more, h) in
    ap (λ t. smaller i (first_super t)) (slice_get-get_or ((ty ∷ types) ++ more) i ty within ∙ ap (λ t. Some t) (get_or-append (ty ∷ types) more ty i h) ∙ sym (slice_get-get_or (ty ∷ types) i ty h))

within_before : (most : ℕ) (types more : List SubType) (i : ℕ) → i < length types → depth_within most (types ++ more) i ≡ depth_within most types i
within_before zero types more i h = refl
within_before (suc most) types more i h =
    ap (one_above (depth_within most (types ++ more))) (parent_before types more i h)
    ∙ same_above (depth_within most (types ++ more)) (depth_within most types) (parent types i) (λ p e. let b = parent_below types i p e in within_before most types more p (omega (arith, b, h)))

pub depth_before : (types more : List SubType) (i : ℕ) → i < length types → depth (types ++ more) i ≡ depth types i
depth_before types more i h = within_before i types more i h

smaller_some : (i above : ℕ) → above < i → smaller i (Some above) ≡ Some above
smaller_some i above h = ap (λ b. if b then Some above else None) (let e : nat_lt above i ≡ true = grind (arith, h) in e)

smaller_none : (i above : ℕ) → i ≤ above → smaller i (Some above) ≡ None
smaller_none i above h = ap (λ b. if b then Some above else None) (below_not above i h)

pub depth_below : (types : List SubType) (i above : ℕ) → parent types i ≡ smaller i (Some above) → above < i → depth types i ≡ suc (depth types above)
depth_below types i above h below = depth_step types i above (h ∙ smaller_some i above below)

pub depth_first : (types : List SubType) (i above : ℕ) → parent types i ≡ smaller i (Some above) → i ≤ above → depth types i ≡ 0
depth_first types i above h past = depth_root types i (h ∙ smaller_none i above past)

-- the depths of types, and of one more
same_numbers : (f g : ℕ → ℕ) (n : ℕ) → ((k : ℕ) → k < n → f k ≡ g k) → map f (range_with_len 0 n) ≡ map g (range_with_len 0 n)
same_numbers f g zero h = refl
same_numbers f g (suc n) h =
    subst (λ m. map f (range_with_len 0 m) ≡ map g (range_with_len 0 m)) (add-one n)
    (map-range_with_len_more f 0 n n (omega arith)
    ∙ ap (λ l. l ++ f n ∷ []) (same_numbers f g n (λ k below. h k (omega (arith, below))))
    ∙ ap (λ x. map g (range_with_len 0 n) ++ x ∷ []) (h n (omega arith))
    ∙ sym (map-range_with_len_more g 0 n n (omega arith)))

pub depths_more : (types : List SubType) (ty : SubType) → depths_in (types ++ ty ∷ []) ≡ depths_in types ++ depth (types ++ ty ∷ []) (length types) ∷ []
depths_more types ty =
    let n : ℕ = length types in
    let f : ℕ → ℕ = depth (types ++ ty ∷ []) in
    let long : length (types ++ ty ∷ []) ≡ n + 1 = omega (arith, length-append types (ty ∷ [])) in
    ap (λ m. map f (range_with_len 0 m)) long
    ∙ map-range_with_len_more f 0 n n (omega arith)
    ∙ ap (λ l. l ++ f n ∷ []) (same_numbers f (depth types) n (λ k below. depth_before types (ty ∷ []) k below))

pub depths_length : (types : List SubType) (depths : List ℕ) → depths ≡ map kept_depth (depths_in types) → length depths ≡ length types
depths_length types depths h = ap length h ∙ length-map (depths_in types) kept_depth ∙ length-map-range_with_len (depth types) 0 (length types)

pub depths_at : (types : List SubType) (depths : List ℕ) (above d : ℕ) → depths ≡ map kept_depth (depths_in types) → above < length types → get_or depths above d ≡ kept_depth (depth types above)
depths_at types depths above d h below =
    let n : ℕ = length types in
    let within : above < length (depths_in types) = omega (arith, length-map-range_with_len (depth types) 0 n, below) in
    ap (λ l. get_or l above d) h
    ∙ get_or-map kept_depth (depths_in types) above 0 d within
    ∙ ap kept_depth (get_or-map-range_with_len (depth types) 0 n above above 0 below (omega arith))

-- depths that are kept
kept_below : (n : ℕ) → n ≤ 64 → n ≡ kept_depth n
kept_below n h = by_test (nat_lt 63 n) refl
  where
    by_test : (b : Bool) → nat_lt 63 n ≡ b → n ≡ (if b then 64 else n)
    by_test true e = let more : 63 < n = ltb-true 63 n e in omega (arith, more, h)
    by_test false e = refl

pub kept_above : (n : ℕ) → nat_lt 63 (kept_depth n) ≡ nat_lt 63 n
kept_above n = by_test (nat_lt 63 n) refl
  where
    by_test : (b : Bool) → nat_lt 63 n ≡ b → nat_lt 63 (if b then 64 else n) ≡ b
    by_test true e = refl
    by_test false e = e

pub kept_more : (n d : ℕ) → d ≡ kept_depth n → min d 63 + 1 ≡ kept_depth (suc n)
kept_more n d h = by_test (nat_lt 63 n) refl
  where
    by_test : (b : Bool) → nat_lt 63 n ≡ b → min d 63 + 1 ≡ kept_depth (suc n)
    by_test true e =
        let more : nat_lt 63 (suc n) ≡ true = grind (arith, e) in
        let full : d ≡ 64 = h ∙ ap (λ b. if b then 64 else n) e in
        let sum : min d 63 + 1 ≡ 64 = omega (arith, full) in
        sum ∙ sym (ap (λ b. if b then 64 else suc n) more)
    by_test false e =
        let same : d ≡ n = h ∙ ap (λ b. if b then 64 else n) e in
        let few : n ≤ 63 = grind (arith, e) in
        let sum : min d 63 + 1 ≡ suc n = omega (arith, same, few) in
        sum ∙ kept_below (suc n) (omega (arith, few))
