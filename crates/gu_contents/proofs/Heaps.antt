-- How far heap types stand apart. The line above a heap type is looked at by what its types are, whatever their indices.
use Rattle.std.proofs.Common.{◌≡◌, ℕ, zero, suc, ◌+◌, ◌-◌, ◌<◌, ◌≤◌, Bool, true, false, List, [], ◌∷◌, map, drop, length, slice_get, if◌then◌else◌, Option, Some, None, option_map, is_some, refl, ap, ap₂, sym, ◌∙◌, inl, inr, arith}
use Rattle.std.proofs.lemmas.Bool.{cases_lt}
use Rattle.std.proofs.lemmas.List.{length-drop, length-map}
use Rattle.std.proofs.lemmas.Option.{slice_get_past}
use Rattle.gu_types.specs.declared.types.Abs.{Abs}
use Rattle.gu_types.specs.declared.types.Abs.TheVariants as A
use Rattle.gu_types.specs.declared.types.HeapType.{HeapType}
use Rattle.gu_types.specs.declared.types.HeapType.TheVariants as H
use Rattle.gu_types.specs.declared.types.SubType.{SubType}
use Rattle.gu_types.specs.declared.types.TypeList.{TypeList}
use Rattle.gu_types.specs.Depth.{types_of, parent, smaller, first_super}
use Rattle.gu_rec.specs.Closed.{Closed, closed_type, SameType}
use Rattle.gu_rec.specs.Tests.{eq_abs, eq_found, same_type}
use Rattle.gu_rec.specs.Sub.{kind_of, abs_line, root_line, line, same_heap, distance, is_sub, top_over, IsLeastIndex}
use Rattle.gu_rec.specs.Table.{place}
use Rattle.gu_rec.specs.Validity.{IndicesHold}
use Rattle.gu_rec.proofs.Same.{Tells, abs_tell, found_tell}
use Rattle.gu_rec.proofs.Lines.{along, line_root, line_step}
use Rattle.gu_rec.proofs.Order.{there, same_root, same_parent}
use Rattle.gu_rec.proofs.Queries.{distance_is, below_is}
use Rattle.gu_rec.proofs.Seats.{same_there, kind_up, kind_is}

-- where the first element stands at which a test passes: at the head of a list, or further on
pub data At {X : Type 0} (p : X → Bool) (x : X) (xs : List X) (m : ℕ) : Type 0 where
  here : p x ≡ true → m ≡ 0 → At p x xs m
  further : (n : ℕ) → p x ≡ false → place p xs ≡ Some n → m ≡ suc n → At p x xs m

pub at : {X : Type 0} (p : X → Bool) (x : X) (xs : List X) (m : ℕ) → place p (x ∷ xs) ≡ Some m → At p x xs m
at p x xs m h = by_test (p x) (place p xs) refl refl h
  where
    by_test : (b : Bool) (o : Option ℕ) → p x ≡ b → place p xs ≡ o → (if b then Some 0 else option_map suc o) ≡ Some m → At p x xs m
    by_test true o e f k = here e (let g : 0 ≡ m = cc in sym g)
    by_test false None e f k = cc
    by_test false (Some n) e f k = further n e f (let g : suc n ≡ m = cc in sym g)

pub place_within : {X : Type 0} (p : X → Bool) (xs : List X) (m : ℕ) → place p xs ≡ Some m → m < length xs
place_within p [] m h = cc
place_within p (x ∷ xs) m h = by_place (λ n k. place_within p xs n k) (at p x xs m h)
  where
    by_place : ((n : ℕ) → place p xs ≡ Some n → n < length xs) → At p x xs m → m < suc (length xs)
    by_place ih (here e f) = omega arith
    by_place ih (further n e k f) = let l = ih n k in omega arith

pub place_drop : {X : Type 0} (p : X → Bool) (xs : List X) (k m : ℕ) → place p xs ≡ Some m → k ≤ m → place p (drop k xs) ≡ Some (m - k)
place_drop p xs zero m h l = h ∙ ap (λ n. Some n) (omega arith)
place_drop p [] (suc k) m h l = cc
place_drop p (x ∷ xs) (suc k) m h l = by_place (λ n e r. place_drop p xs k n e r) (at p x xs m h)
  where
    by_place : ((n : ℕ) → place p xs ≡ Some n → k ≤ n → place p (drop k xs) ≡ Some (n - k)) → At p x xs m → place p (drop k xs) ≡ Some (m - suc k)
    by_place ih (here e f) = absurd (omega arith)
    by_place ih (further n e r f) = ih n r (omega arith) ∙ ap (λ n. Some n) (omega arith)

-- what is found further on is found
pub record Found {X : Type 0} (p : X → Bool) (xs : List X) : Type 0 where
  pub at : ℕ
  pub is : place p xs ≡ Some at

pub place_before : {X : Type 0} (p : X → Bool) (xs : List X) (k m : ℕ) → place p (drop k xs) ≡ Some m → Found p xs
place_before p xs zero m h = record { at = m; is = h }
place_before p [] (suc k) m h = cc
place_before p (x ∷ xs) (suc k) m h = by_test (place_before p xs k m h) (p x) refl
  where
    by_test : Found p xs → (b : Bool) → p x ≡ b → Found p (x ∷ xs)
    by_test f true e = record { at = 0; is = ap (λ b. if b then Some 0 else option_map suc (place p xs)) e }
    by_test f false e = record { at = suc f.at; is = ap (λ b. if b then Some 0 else option_map suc (place p xs)) e ∙ ap (option_map suc) f.is }

-- what a heap type is, whatever its index
pub data Name : Type 0 where
  abstract : Abs → Name
  concrete : Option Closed → Name

pub name : TypeList → HeapType → Name
name list (H.Abs kind) = abstract kind
name list (H.Idx i) = concrete (closed_type list i)

pub alike : Name → Name → Bool
alike (abstract a) (abstract b) = eq_abs a b
alike (concrete c) (concrete d) = eq_found c d
alike _ _ = false

alike_sound : (a b : Name) → alike a b ≡ true → a ≡ b
unfolding alike
alike_sound (abstract a) (abstract b) h = ap abstract (abs_tell.sound a b h)
alike_sound (abstract a) (concrete d) h = cc
alike_sound (concrete c) (abstract b) h = cc
alike_sound (concrete c) (concrete d) h = ap concrete (found_tell.sound c d h)

alike_own : (a : Name) → alike a a ≡ true
unfolding alike
alike_own (abstract a) = abs_tell.own a
alike_own (concrete c) = found_tell.own c

alike_tell : Tells alike
alike_tell = record { sound = alike_sound; own = alike_own }

same_alike : (list : TypeList) (a b : HeapType) → same_heap list a b ≡ alike (name list a) (name list b)
unfolding alike name same_type
same_alike list (H.Abs a) (H.Abs b) = refl
same_alike list (H.Abs a) (H.Idx j) = refl
same_alike list (H.Idx i) (H.Abs b) = refl
same_alike list (H.Idx i) (H.Idx j) = refl

-- what the heap types on a line are
pub names : TypeList → HeapType → List Name
names list a = map (name list) (line list a)

place_named : (list : TypeList) (b : HeapType) (xs : List HeapType) → place (same_heap list b) xs ≡ place (alike (name list b)) (map (name list) xs)
place_named list b [] = refl
place_named list b (x ∷ xs) = ap₂ (λ c o. if c then Some 0 else option_map suc o) (same_alike list b x) (place_named list b xs)

pub distance_named : (list : TypeList) (b a : HeapType) → distance list b a ≡ place (alike (name list b)) (names list a)
unfolding names
distance_named list b a = distance_is list b a ∙ place_named list b (line list a)

no_parent : (list : TypeList) (i : ℕ) → length (types_of list) ≤ i → parent (types_of list) i ≡ None
no_parent list i h = ap (λ o. smaller i (first_super o)) (slice_get_past (types_of list) i h)

out_names : (list : TypeList) (i : ℕ) → length (types_of list) ≤ i → names list (H.Idx i) ≡ name list (H.Idx i) ∷ []
unfolding names
out_names list i h = ap (map (name list)) (line_root list i (no_parent list i h)) ∙ ap (λ o. name list (H.Idx i) ∷ map (name list) (root_line o)) (slice_get_past (types_of list) i h)

root_names : (list : TypeList) (i : ℕ) → parent (types_of list) i ≡ None → names list (H.Idx i) ≡ name list (H.Idx i) ∷ map (name list) (root_line (slice_get (types_of list) i))
unfolding names
root_names list i e = ap (map (name list)) (line_root list i e)

step_names : (list : TypeList) (i p : ℕ) → parent (types_of list) i ≡ Some p → names list (H.Idx i) ≡ name list (H.Idx i) ∷ names list (H.Idx p)
unfolding names
step_names list i p e = ap (map (name list)) (line_step list i p e)

-- what holds of a heap type where it holds of the next one on its line holds of all
module _ (list : TypeList) (P : HeapType → Type 0) (ends : (a : HeapType) → names list a ≡ name list a ∷ [] → P a) (steps : (a next : HeapType) → names list a ≡ name list a ∷ names list next → P next → P a) where
  any_along : P (H.Abs A.Any)
  unfolding names line
  any_along = ends (H.Abs A.Any) refl

  eq_along : P (H.Abs A.Eq)
  unfolding names line
  eq_along = steps (H.Abs A.Eq) (H.Abs A.Any) refl any_along

  abs_along : (k : Abs) → P (H.Abs k)
  unfolding names line
  abs_along A.Any = any_along
  abs_along A.Eq = eq_along
  abs_along A.I31 = steps (H.Abs A.I31) (H.Abs A.Eq) refl eq_along
  abs_along A.AnyStruct = steps (H.Abs A.AnyStruct) (H.Abs A.Eq) refl eq_along
  abs_along A.AnyArray = steps (H.Abs A.AnyArray) (H.Abs A.Eq) refl eq_along
  abs_along A.Bot = ends (H.Abs A.Bot) refl
  abs_along A.AnyFunc = ends (H.Abs A.AnyFunc) refl
  abs_along A.NoFunc = ends (H.Abs A.NoFunc) refl
  abs_along A.Extern = ends (H.Abs A.Extern) refl
  abs_along A.NoExtern = ends (H.Abs A.NoExtern) refl
  abs_along A.Exn = ends (H.Abs A.Exn) refl
  abs_along A.NoExn = ends (H.Abs A.NoExn) refl

  kind_names : (kind : Abs) → map (name list) (map H.Abs (abs_line kind)) ≡ names list (H.Abs kind)
  unfolding names line
  kind_names kind = refl

  idx_along : (i : ℕ) → P (H.Idx i)
  idx_along = along (types_of list) (λ i. P (H.Idx i))
      (λ i e. elim (cases_lt i (length (types_of list))) as (λ _. P (H.Idx i)) [
        | inl h ↦
            let a = there list i h in
            steps (H.Idx i) (H.Abs (kind_of a.type.comp))
            (root_names list i e ∙ (ap (λ o. name list (H.Idx i) ∷ map (name list) (root_line o)) a.found ∙ ap (λ xs. name list (H.Idx i) ∷ xs) (kind_names (kind_of a.type.comp))))
            (abs_along (kind_of a.type.comp))
        | inr h ↦ ends (H.Idx i) (out_names list i h)
      ])
      (λ i p e next. steps (H.Idx i) (H.Idx p) (step_names list i p e) next)

  pub names_along : (a : HeapType) → P a
  names_along (H.Abs k) = abs_along k
  names_along (H.Idx i) = idx_along i

-- how many heap types stand on a line
abbrev pub tall : TypeList → HeapType → ℕ
tall list a = length (names list a)

pub same_name : (list : TypeList) (i j : ℕ) → SameType list i list j → name list (H.Idx i) ≡ name list (H.Idx j)
unfolding SameType name
same_name list i j s = ap concrete s

pub same_back : (list : TypeList) (i j : ℕ) → SameType list i list j → SameType list j list i
unfolding SameType
same_back list i j s = sym s

pub same_self : (list : TypeList) (i : ℕ) → SameType list i list i
unfolding SameType
same_self list i = refl

pub same_through : (list : TypeList) (i j k : ℕ) → SameType list i list j → SameType list j list k → SameType list i list k
unfolding SameType
same_through list i j k s t = s ∙ t

same_roots : (list : TypeList) (i j : ℕ) → i < length (types_of list) → SameType list i list j → root_line (slice_get (types_of list) i) ≡ root_line (slice_get (types_of list) j)
unfolding SameType
same_roots list i j h s =
    let a = there list i h in
    let b = there list j (same_there list i j h s) in
    let k : Some (kind_of a.type.comp) ≡ Some (kind_of b.type.comp) = sym (kind_is list i a.type a.found) ∙ (ap kind_up s ∙ kind_is list j b.type b.found) in
    let l : kind_of a.type.comp ≡ kind_of b.type.comp = cc in
    ap root_line a.found ∙ (ap (λ m. map H.Abs (abs_line m)) l ∙ sym (ap root_line b.found))

both_out : (list : TypeList) (i j : ℕ) → length (types_of list) ≤ i → SameType list i list j → length (types_of list) ≤ j
both_out list i j h s =
    elim (cases_lt j (length (types_of list))) as (λ _. length (types_of list) ≤ j) [
      | inl k ↦ absurd (let l = same_there list j i k (same_back list i j s) in omega arith)
      | inr k ↦ k
    ]

abs_names : (kind : Abs) → length (abs_line kind) ≤ 3
abs_names A.Any = omega arith
abs_names A.Eq = omega arith
abs_names A.I31 = omega arith
abs_names A.AnyStruct = omega arith
abs_names A.AnyArray = omega arith
abs_names A.Bot = omega arith
abs_names A.AnyFunc = omega arith
abs_names A.NoFunc = omega arith
abs_names A.Extern = omega arith
abs_names A.NoExtern = omega arith
abs_names A.Exn = omega arith
abs_names A.NoExn = omega arith

line_long : (list : TypeList) (kind : Abs) → length (map (name list) (map H.Abs (abs_line kind))) ≤ 3
line_long list kind = let l = length-map (map H.Abs (abs_line kind)) (name list) in let m = length-map (abs_line kind) H.Abs in let n = abs_names kind in omega arith

pub abs_tall : (list : TypeList) (kind : Abs) → tall list (H.Abs kind) ≤ 3
unfolding names line
abs_tall list kind = line_long list kind

roots_long : (list : TypeList) (o : Option SubType) → length (map (name list) (root_line o)) ≤ 3
roots_long list None = omega arith
roots_long list (Some ty) = line_long list (kind_of ty.comp)

pub root_tall : (list : TypeList) (i : ℕ) → parent (types_of list) i ≡ None → tall list (H.Idx i) ≤ 4
root_tall list i e = let l = ap length (root_names list i e) in let m = roots_long list (slice_get (types_of list) i) in omega arith

pub step_tall : (list : TypeList) (i p : ℕ) → parent (types_of list) i ≡ Some p → tall list (H.Idx i) ≡ suc (tall list (H.Idx p))
step_tall list i p e = ap length (step_names list i p e)

pub some_tall : (list : TypeList) (a : HeapType) → 1 ≤ tall list a
some_tall list = names_along list (λ a. 1 ≤ tall list a)
    (λ a e. let l = ap length e in omega arith)
    (λ a next e h. let l = ap length e in omega arith)

module _ (list : TypeList) (hold : IndicesHold list) where
  SameNames : ℕ → Type 0
  SameNames i = (j : ℕ) → SameType list i list j → names list (H.Idx i) ≡ names list (H.Idx j)

  root_same : (i : ℕ) → parent (types_of list) i ≡ None → SameNames i
  unfolding SameNames
  root_same i e j s =
      elim (cases_lt i (length (types_of list))) as (λ _. names list (H.Idx i) ≡ names list (H.Idx j)) [
        | inl h ↦ root_names list i e ∙ (ap₂ (λ x xs. x ∷ map (name list) xs) (same_name list i j s) (same_roots list i j h s) ∙ sym (root_names list j (same_root list hold i j h s e)))
        | inr h ↦ out_names list i h ∙ (ap (λ x. x ∷ []) (same_name list i j s) ∙ sym (out_names list j (both_out list i j h s)))
      ]

  step_same : (i p : ℕ) → parent (types_of list) i ≡ Some p → SameNames p → SameNames i
  unfolding SameNames
  step_same i p e next j s =
      elim (cases_lt i (length (types_of list))) as (λ _. names list (H.Idx i) ≡ names list (H.Idx j)) [
        | inl h ↦
            let q = same_parent list hold i j p h s e in
            step_names list i p e ∙ (ap₂ (λ x xs. x ∷ xs) (same_name list i j s) (next q.other q.same) ∙ sym (step_names list j q.other q.is))
        | inr h ↦ let z : None ≡ Some p = sym (no_parent list i h) ∙ e in cc
      ]

  -- the same types have the same lines
  pub same_idx_names : (i j : ℕ) → SameType list i list j → names list (H.Idx i) ≡ names list (H.Idx j)
  unfolding SameNames
  same_idx_names = along (types_of list) SameNames root_same step_same

  pub same_names : (b a : HeapType) → name list b ≡ name list a → names list b ≡ names list a
  unfolding name SameType
  same_names (H.Abs k) (H.Abs l) e = let f : k ≡ l = cc in ap (λ m. names list (H.Abs m)) f
  same_names (H.Abs k) (H.Idx j) e = cc
  same_names (H.Idx i) (H.Abs l) e = cc
  same_names (H.Idx i) (H.Idx j) e = let f : closed_type list i ≡ closed_type list j = cc in same_idx_names i j f

  -- behind the place of a heap type on a line stands its own line
  Suffix : HeapType → Type 0
  Suffix a = (b : HeapType) (k : ℕ) → place (alike (name list b)) (names list a) ≡ Some k → drop k (names list a) ≡ names list b

  suffix_at : (a b : HeapType) (xs : List Name) (k : ℕ) → names list a ≡ name list a ∷ xs → ((n : ℕ) → place (alike (name list b)) xs ≡ Some n → drop n xs ≡ names list b) → At (alike (name list b)) (name list a) xs k → drop k (names list a) ≡ names list b
  suffix_at a b xs k e rest (here t z) = ap (λ n. drop n (names list a)) z ∙ sym (same_names b a (alike_sound (name list b) (name list a) t))
  suffix_at a b xs k e rest (further n t r z) = ap₂ drop z e ∙ rest n r

  suffix : (a : HeapType) → Suffix a
  unfolding Suffix
  suffix = names_along list Suffix
      (λ a e b k h. suffix_at a b [] k e (λ n r. cc) (at (alike (name list b)) (name list a) [] k (ap (place (alike (name list b))) (sym e) ∙ h)))
      (λ a next e ih b k h. suffix_at a b (names list next) k e (λ n r. ih b n r) (at (alike (name list b)) (name list a) (names list next) k (ap (place (alike (name list b))) (sym e) ∙ h)))

  found_at : (b a : HeapType) (k : ℕ) → distance list b a ≡ Some k → place (alike (name list b)) (names list a) ≡ Some k
  found_at b a k h = sym (distance_named list b a) ∙ h

  -- the distance is that between the heights at which two lines end
  pub distance_tall : (b a : HeapType) (k : ℕ) → distance list b a ≡ Some k → k + tall list b ≡ tall list a
  unfolding Suffix
  distance_tall b a k h =
      let w = place_within (alike (name list b)) (names list a) k (found_at b a k h) in
      let l : length (drop k (names list a)) ≡ tall list b = ap length (suffix a b k (found_at b a k h)) in
      let m = length-drop k (names list a) in
      omega arith

  pub distance_self : (a : HeapType) → distance list a a ≡ Some 0
  distance_self a = distance_named list a a ∙ names_along list (λ a. place (alike (name list a)) (names list a) ≡ Some 0)
      (λ a e. ap (place (alike (name list a))) e ∙ ap (λ c. if c then Some 0 else None) (alike_own (name list a)))
      (λ a next e ih. ap (place (alike (name list a))) e ∙ ap (λ c. if c then Some 0 else option_map suc (place (alike (name list a)) (names list next))) (alike_own (name list a)))
      a

  -- distances add up
  pub distance_adds : (a b c : HeapType) (j k : ℕ) → distance list b a ≡ Some j → distance list c b ≡ Some k → distance list c a ≡ Some (j + k)
  unfolding Suffix
  distance_adds a b c j k h g =
      let s = suffix a b j (found_at b a j h) in
      let f = place_before (alike (name list c)) (names list a) j k (ap (place (alike (name list c))) s ∙ found_at c b k g) in
      let d : distance list c a ≡ Some f.at = distance_named list c a ∙ f.is in
      let x = distance_tall b a j h in
      let y = distance_tall c b k g in
      let z = distance_tall c a f.at d in
      d ∙ ap (λ n. Some n) (omega arith)

  -- of two heap types above one, that which is no nearer is above the other
  pub distance_between : (a b c : HeapType) (j m : ℕ) → distance list b a ≡ Some j → distance list c a ≡ Some m → j ≤ m → distance list c b ≡ Some (m - j)
  unfolding Suffix
  distance_between a b c j m h g l =
      distance_named list c b ∙ (ap (place (alike (name list c))) (sym (suffix a b j (found_at b a j h))) ∙ place_drop (alike (name list c)) (names list a) j m (found_at c a m g) l)

  -- two heap types above one another are the same
  pub distance_back : (a b : HeapType) (j k : ℕ) → distance list b a ≡ Some j → distance list a b ≡ Some k → (j ≡ 0) × (k ≡ 0)
  distance_back a b j k h g =
      let x = distance_tall b a j h in
      let y = distance_tall a b k g in
      (omega arith, omega arith)

  zero_at : (a b : HeapType) (xs : List Name) → At (alike (name list b)) (name list a) xs 0 → name list b ≡ name list a
  zero_at a b xs (here t z) = alike_sound (name list b) (name list a) t
  zero_at a b xs (further n t r z) = absurd (omega arith)

  pub distance_zero : (a b : HeapType) → distance list b a ≡ Some 0 → name list b ≡ name list a
  distance_zero a b h = names_along list (λ a. place (alike (name list b)) (names list a) ≡ Some 0 → name list b ≡ name list a)
      (λ a e g. zero_at a b [] (at (alike (name list b)) (name list a) [] 0 (ap (place (alike (name list b))) (sym e) ∙ g)))
      (λ a next e ih g. zero_at a b (names list next) (at (alike (name list b)) (name list a) (names list next) 0 (ap (place (alike (name list b))) (sym e) ∙ g)))
      a (found_at b a 0 h)

  -- heap types that are the same have the same distances
  pub above_named : (b c a : HeapType) → name list b ≡ name list c → distance list b a ≡ distance list c a
  above_named b c a e = distance_named list b a ∙ (ap (λ n. place (alike n) (names list a)) e ∙ sym (distance_named list c a))

  pub below_named : (b a c : HeapType) → name list a ≡ name list c → distance list b a ≡ distance list b c
  below_named b a c e = distance_named list b a ∙ (ap (place (alike (name list b))) (same_names a c e) ∙ sym (distance_named list b c))

  -- heap types that are the same and stand at their least indices are one
  pub one_index : (b a : HeapType) → IsLeastIndex list b → IsLeastIndex list a → name list b ≡ name list a → b ≡ a
  unfolding name SameType
  one_index (H.Abs k) (H.Abs l) p q e = let f : k ≡ l = cc in ap H.Abs f
  one_index (H.Abs k) (H.Idx j) p q e = cc
  one_index (H.Idx i) (H.Abs l) p q e = cc
  one_index (H.Idx i) (H.Idx j) p q e =
      let f : closed_type list i ≡ closed_type list j = cc in
      let x = p j f in
      let y = q i (sym f) in
      ap H.Idx (omega arith)

  -- a heap type that is no bottom is a subtype of those that have a distance to it
  pub sub_distance : (a b : HeapType) → top_over a ≡ None → is_sub list a b ≡ is_some (distance list b a)
  sub_distance a b e = below_is list a b e ∙ ap is_some (sym (distance_is list b a))
