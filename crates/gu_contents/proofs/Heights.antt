-- The greatest distance from a heap type down, and the least index of a type.
use Rattle.std.proofs.Common.{◌≡◌, ℕ, zero, suc, ◌+◌, ◌<◌, ◌≤◌, ◌⊎◌, Bool, true, false, cond, List, [], ◌∷◌, ◌++◌, map, fold, max, length, Option, Some, None, unwrap_or, find, refl, ap, sym, ◌∙◌, subst, inl, inr, arith, true≢false}
use Rattle.std.proofs.lemmas.Bool.{cases_lt}
use Rattle.gu_types.specs.declared.types.Abs.{Abs}
use Rattle.gu_types.specs.declared.types.Abs.TheVariants as A
use Rattle.gu_types.specs.declared.types.HeapType.{HeapType}
use Rattle.gu_types.specs.declared.types.HeapType.TheVariants as H
use Rattle.gu_types.specs.declared.types.TypeList.{TypeList}
use Rattle.gu_types.specs.Depth.{types_of, depth, parent}
use Rattle.gu_rec.specs.Closed.{SameType}
use Rattle.gu_rec.specs.Keys.{run}
use Rattle.gu_rec.specs.Tests.{same_type}
use Rattle.gu_rec.specs.Sub.{indices, heaps, distance, height, IsHeapOf, IsNoBottom, IsLeastIndex}
use Rattle.gu_rec.specs.Validity.{IndicesHold}
use Rattle.gu_rec.proofs.Same.{same_type_decides}
use Rattle.gu_rec.proofs.Lines.{along, depth_root, depth_step}
use Rattle.gu_contents.specs.Contents.{least_of, least_index}
use Rattle.gu_contents.specs.Laws.{LeastIsExact}
use Rattle.gu_contents.proofs.Heaps.{name, tall, root_tall, step_tall, abs_tall, some_tall, same_name, same_through, same_self, above_named, distance_tall, distance_adds}

-- x is an element of a list
abbrev pub In : {X : Type 0} → X → List X → Type 0
In x [] = ⊥
In x (y ∷ xs) = (x ≡ y) ⊎ In x xs

in_left : {X : Type 0} (x : X) (xs ys : List X) → In x xs → In x (xs ++ ys)
in_left x [] ys h = absurd h
in_left x (y ∷ xs) ys (inl e) = inl e
in_left x (y ∷ xs) ys (inr h) = inr (in_left x xs ys h)

in_right : {X : Type 0} (x : X) (xs ys : List X) → In x ys → In x (xs ++ ys)
in_right x [] ys h = h
in_right x (y ∷ xs) ys h = inr (in_right x xs ys h)

in_either : {X : Type 0} (x : X) (xs ys : List X) → In x (xs ++ ys) → In x xs ⊎ In x ys
in_either x [] ys h = inr h
in_either x (y ∷ xs) ys (inl e) = inl (inl e)
in_either x (y ∷ xs) ys (inr h) = elim (in_either x xs ys h) as (λ _. In x (y ∷ xs) ⊎ In x ys) [ inl k ↦ inl (inr k) | inr k ↦ inr k ]

max_starts : (xs : List ℕ) (a : ℕ) → a ≤ fold max a xs
max_starts [] a = omega arith
max_starts (x ∷ xs) a = let l = max_starts xs (max a x) in omega arith

module _ {X : Type 0} (f : X → ℕ) where
  max_has : (xs : List X) (a : ℕ) (x : X) → In x xs → f x ≤ fold max a (map f xs)
  max_has [] a x h = absurd h
  max_has (y ∷ xs) a x (inl e) = let l = max_starts (map f xs) (max a (f y)) in let g : f x ≡ f y = ap f e in omega arith
  max_has (y ∷ xs) a x (inr h) = max_has xs (max a (f y)) x h

  -- the greatest is the one to begin with, or that of some element
  data Met (xs : List X) (a m : ℕ) : Type 0 where
    begun : m ≡ a → Met xs a m
    given : (x : X) → In x xs → m ≡ f x → Met xs a m

  later : (y : X) (xs : List X) (a m : ℕ) → Met xs (max a (f y)) m → Met (y ∷ xs) a m
  later y xs a m (begun e) = elim (cases_lt a (f y)) as (λ _. Met (y ∷ xs) a m) [ inl l ↦ given y (inl refl) (omega arith) | inr l ↦ begun (omega arith) ]
  later y xs a m (given x h e) = given x (inr h) e

  max_met : (xs : List X) (a : ℕ) → Met xs a (fold max a (map f xs))
  max_met [] a = begun refl
  max_met (y ∷ xs) a = later y xs a (fold max (max a (f y)) (map f xs)) (max_met xs (max a (f y)))

in_indices : (low count i : ℕ) → low ≤ i → i < low + count → In (H.Idx i) (indices low count)
in_indices low zero i p q = absurd (omega arith)
in_indices low (suc count) i p q =
    elim (cases_lt low i) as (λ _. In (H.Idx i) (indices low (suc count))) [
      | inl l ↦ inr (in_indices (suc low) count i (omega arith) (omega arith))
      | inr l ↦ let e : i ≡ low = omega arith in inl (ap H.Idx e)
    ]

abbrev kinds : List HeapType
kinds = map H.Abs (A.Any ∷ A.Eq ∷ A.I31 ∷ A.AnyStruct ∷ A.AnyArray ∷ A.AnyFunc ∷ A.Extern ∷ A.Exn ∷ [])

in_kinds : (k : Abs) → IsNoBottom (H.Abs k) → In (H.Abs k) kinds
in_kinds A.Any e = inl refl
in_kinds A.Eq e = inr (inl refl)
in_kinds A.I31 e = inr (inr (inl refl))
in_kinds A.AnyStruct e = inr (inr (inr (inl refl)))
in_kinds A.AnyArray e = inr (inr (inr (inr (inl refl))))
in_kinds A.AnyFunc e = inr (inr (inr (inr (inr (inl refl)))))
in_kinds A.Extern e = inr (inr (inr (inr (inr (inr (inl refl))))))
in_kinds A.Exn e = inr (inr (inr (inr (inr (inr (inr (inl refl)))))))
in_kinds A.Bot e = cc
in_kinds A.NoFunc e = cc
in_kinds A.NoExtern e = cc
in_kinds A.NoExn e = cc

-- every heap type that is no bottom is among those over which the height goes
in_heaps : (list : TypeList) (a : HeapType) → IsHeapOf list a → IsNoBottom a → In a (heaps list)
in_heaps list (H.Abs k) h e = in_left (H.Abs k) kinds (indices 0 (length (types_of list))) (in_kinds k e)
in_heaps list (H.Idx i) h e = in_right (H.Idx i) kinds (indices 0 (length (types_of list))) (in_indices 0 (length (types_of list)) i (omega arith) (omega arith))

-- a heap type of the module that is no bottom
pub record IsHead (list : TypeList) (a : HeapType) : Type 0 where
  pub is_heap : IsHeapOf list a
  pub no_bottom : IsNoBottom a

indices_are : (list : TypeList) (low count : ℕ) → low + count ≤ length (types_of list) → (a : HeapType) → In a (indices low count) → IsHead list a
indices_are list low zero l a h = absurd h
indices_are list low (suc count) l a (inl e) = subst (IsHead list) (sym e) (record { is_heap = omega arith; no_bottom = refl })
indices_are list low (suc count) l a (inr h) = indices_are list (suc low) count (omega arith) a h

head_at : (list : TypeList) (k : Abs) (a : HeapType) → IsNoBottom (H.Abs k) → a ≡ H.Abs k → IsHead list a
head_at list k a n e = subst (IsHead list) (sym e) (record { is_heap = tt; no_bottom = n })

kinds_are : (list : TypeList) (a : HeapType) → In a kinds → IsHead list a
kinds_are list a (inl e) = head_at list A.Any a refl e
kinds_are list a (inr (inl e)) = head_at list A.Eq a refl e
kinds_are list a (inr (inr (inl e))) = head_at list A.I31 a refl e
kinds_are list a (inr (inr (inr (inl e)))) = head_at list A.AnyStruct a refl e
kinds_are list a (inr (inr (inr (inr (inl e))))) = head_at list A.AnyArray a refl e
kinds_are list a (inr (inr (inr (inr (inr (inl e)))))) = head_at list A.AnyFunc a refl e
kinds_are list a (inr (inr (inr (inr (inr (inr (inl e))))))) = head_at list A.Extern a refl e
kinds_are list a (inr (inr (inr (inr (inr (inr (inr (inl e)))))))) = head_at list A.Exn a refl e
kinds_are list a (inr (inr (inr (inr (inr (inr (inr (inr h)))))))) = absurd h

heaps_are : (list : TypeList) (a : HeapType) → In a (heaps list) → IsHead list a
heaps_are list a h = elim (in_either a kinds (indices 0 (length (types_of list))) h) as (λ _. IsHead list a) [ inl k ↦ kinds_are list a k | inr k ↦ indices_are list 0 (length (types_of list)) (omega arith) a k ]

-- how far one heap type stands above another, 0 where it does not
abbrev far : TypeList → HeapType → HeapType → ℕ
far list above below = unwrap_or (distance list above below) 0

height_from : (list : TypeList) (a : HeapType) → height list a ≡ fold max 0 (map (far list a) (heaps list))
unfolding height
height_from list a = refl

pub height_has : (list : TypeList) (b a : HeapType) (k : ℕ) → IsHead list a → distance list b a ≡ Some k → k ≤ height list b
height_has list b a k h e =
    let l = max_has (far list b) (heaps list) 0 a (in_heaps list a h.is_heap h.no_bottom) in
    let f : far list b a ≡ k = ap (λ o. unwrap_or o 0) e in
    let g = height_from list b in
    omega arith

-- a heap type is as high as the farthest below it is far
pub data Farthest (list : TypeList) (b : HeapType) : Type 0 where
  flat : height list b ≡ 0 → Farthest list b
  far_below : (a : HeapType) → IsHead list a → distance list b a ≡ Some (height list b) → Farthest list b

farthest_at : (list : TypeList) (b a : HeapType) (o : Option ℕ) → IsHead list a → distance list b a ≡ o → height list b ≡ unwrap_or o 0 → Farthest list b
farthest_at list b a None h e f = flat f
farthest_at list b a (Some k) h e f = far_below a h (e ∙ ap (λ n. Some n) (sym f))

farthest_of : (list : TypeList) (b : HeapType) → Met (far list b) (heaps list) 0 (fold max 0 (map (far list b) (heaps list))) → Farthest list b
farthest_of list b (begun e) = flat (height_from list b ∙ e)
farthest_of list b (given a h e) = farthest_at list b a (distance list b a) (heaps_are list a h) refl (height_from list b ∙ e)

pub farthest : (list : TypeList) (b : HeapType) → Farthest list b
farthest list b = farthest_of list b (max_met (far list b) (heaps list) 0)

-- the height of a heap type with its distance to another is at most the height of that
pub height_adds : (list : TypeList) → IndicesHold list → (b a : HeapType) (k : ℕ) → IsHead list a → distance list b a ≡ Some k → k + height list a ≤ height list b
height_adds list hold b a k h e = by_farthest (farthest list a)
  where
    by_farthest : Farthest list a → k + height list a ≤ height list b
    by_farthest (flat z) = let l = height_has list b a k h e in omega arith
    by_farthest (far_below x i d) = let l = height_has list b x (height list a + k) i (distance_adds list hold x a b (height list a) k d e) in omega arith

-- heap types that are the same are as high
pub height_named : (list : TypeList) → IndicesHold list → (b c : HeapType) → name list b ≡ name list c → height list b ≡ height list c
unfolding height
height_named list hold b c e = λ t. fold max 0 (map (λ below. unwrap_or (above_named list hold b c below e t) 0) (heaps list))

roots_tall : (list : TypeList) (i : ℕ) → parent (types_of list) i ≡ None → tall list (H.Idx i) ≤ depth (types_of list) i + 4
roots_tall list i e = let d = depth_root (types_of list) i e in let l = root_tall list i e in omega arith

-- a line is as long as a type is deep, with the type itself and at most three abstract heap types
idx_tall : (list : TypeList) (i : ℕ) → tall list (H.Idx i) ≤ depth (types_of list) i + 4
idx_tall list = along (types_of list) (λ i. tall list (H.Idx i) ≤ depth (types_of list) i + 4)
    (roots_tall list)
    (λ i p e h. let d = depth_step (types_of list) i p e in let l = step_tall list i p e in omega arith)

tall_few : (list : TypeList) → ((i : ℕ) → depth (types_of list) i ≤ 63) → (a : HeapType) → tall list a ≤ 67
tall_few list shallow (H.Abs k) = let l = abs_tall list k in omega arith
tall_few list shallow (H.Idx i) = let l = idx_tall list i in let s = shallow i in omega arith

-- where no type is deeper than 63, no distance and no height is greater than 66
pub distance_few : (list : TypeList) → IndicesHold list → ((i : ℕ) → depth (types_of list) i ≤ 63) → (b a : HeapType) (k : ℕ) → distance list b a ≡ Some k → k ≤ 66
distance_few list hold shallow b a k e =
    let l = tall_few list shallow a in
    let m = some_tall list b in
    let d = distance_tall list hold b a k e in
    omega arith

pub height_few : (list : TypeList) → IndicesHold list → ((i : ℕ) → depth (types_of list) i ≤ 63) → (a : HeapType) → height list a ≤ 66
height_few list hold shallow a = by_farthest (farthest list a)
  where
    by_farthest : Farthest list a → height list a ≤ 66
    by_farthest (flat z) = omega arith
    by_farthest (far_below x i d) = distance_few list hold shallow a x (height list a) d

-- the first of so many numbers at which a test passes
record First (p : ℕ → Bool) (low : ℕ) (found : Option ℕ) : Type 0 where
  at : ℕ
  is : found ≡ Some at
  passes : p at ≡ true
  none : (k : ℕ) → low ≤ k → k < at → p k ≡ false

first_in : (p : ℕ → Bool) (low count i : ℕ) → low ≤ i → i < low + count → p i ≡ true → First p low (find p (run low count))
first_in p low zero i l h t = absurd (omega arith)
first_in p low (suc count) i l h t = by_test (p low) refl (λ m. first_in p (suc low) count i m (omega arith) t)
  where
    by_test : (b : Bool) → p low ≡ b → (suc low ≤ i → First p (suc low) (find p (run (suc low) count))) → First p low (find p (run low (suc count)))
    by_test true e ih = record { at = low; is = ap (λ b. cond b (Some low) (find p (run (suc low) count))) e; passes = e; none = λ k m n. absurd (omega arith) }
    by_test false e ih =
        let no : low ≡ i → ⊥ = λ q. true≢false (sym (ap p q ∙ t) ∙ e) in
        let f = ih (omega arith) in
        record {
          at = f.at;
          is = ap (λ b. cond b (Some low) (find p (run (suc low) count))) e ∙ f.is;
          passes = f.passes;
          none = λ k m n. elim (cases_lt low k) as (λ _. p k ≡ false) [ inl q ↦ f.none k (omega arith) n | inr q ↦ let r : k ≡ low = omega arith in ap p r ∙ e ];
        }

own_type : (list : TypeList) (i : ℕ) → same_type list i list i ≡ true
unfolding SameType
own_type list i = (same_type_decides list list i i).1 refl

first_type : (list : TypeList) (i : ℕ) → First (same_type list i list) 0 (find (same_type list i list) (run 0 (suc i)))
first_type list i = first_in (same_type list i list) 0 (suc i) i (omega arith) (omega arith) (own_type list i)

pub least_same : (list : TypeList) (i : ℕ) → SameType list i list (least_of list i)
unfolding least_of
least_same list i = let f = first_type list i in subst (SameType list i list) (sym (ap (λ o. unwrap_or o i) f.is)) ((same_type_decides list list i f.at).0 f.passes)

pub least_least : (list : TypeList) (i j : ℕ) → SameType list i list j → least_of list i ≤ j
unfolding least_of
least_least list i j s =
    let f = first_type list i in
    let e : unwrap_or (find (same_type list i list) (run 0 (suc i))) i ≡ f.at = ap (λ o. unwrap_or o i) f.is in
    elim (cases_lt j f.at) as (λ _. unwrap_or (find (same_type list i list) (run 0 (suc i))) i ≤ j) [
      | inl l ↦ absurd (true≢false (sym ((same_type_decides list list i j).1 s) ∙ f.none j (omega arith) l))
      | inr l ↦ omega arith
    ]

pub least_exact : (list : TypeList) → LeastIsExact list
least_exact list = record { same = least_same list; least = least_least list }

-- an index that is the least of those of its type is the one
pub least_is : (list : TypeList) (i r : ℕ) → SameType list i list r → ((j : ℕ) → SameType list i list j → r ≤ j) → r ≡ least_of list i
least_is list i r s below = let l = below (least_of list i) (least_same list i) in let m = least_least list i r s in omega arith

pub least_name : (list : TypeList) (a : HeapType) → name list (least_index list a) ≡ name list a
least_name list (H.Abs k) = refl
least_name list (H.Idx i) = sym (same_name list i (least_of list i) (least_same list i))

pub least_heap : (list : TypeList) (a : HeapType) → IsLeastIndex list (least_index list a)
least_heap list (H.Abs k) = tt
least_heap list (H.Idx i) = λ j s. least_least list i j (same_through list i (least_of list i) j (least_same list i) s)

pub least_in_range : (list : TypeList) (a : HeapType) → IsHeapOf list a → IsHeapOf list (least_index list a)
least_in_range list (H.Abs k) h = tt
least_in_range list (H.Idx i) h = let l = least_least list i i (same_self list i) in omega arith

pub least_no_bottom : (list : TypeList) (a : HeapType) → IsNoBottom a → IsNoBottom (least_index list a)
least_no_bottom list (H.Abs k) h = h
least_no_bottom list (H.Idx i) h = refl

-- a heap type at its least index is the one by which it is named
pub least_own : (list : TypeList) (a : HeapType) → IsLeastIndex list a → least_index list a ≡ a
least_own list (H.Abs k) h = refl
least_own list (H.Idx i) h = let l = h (least_of list i) (least_same list i) in let m = least_least list i i (same_self list i) in ap H.Idx (omega arith)
