-- The first numbers of lists that pass a test.
use Rattle.std.proofs.Common.{◌≡◌, ◌∙◌, ℕ, zero, suc, ◌+◌, ◌<◌, ◌≤◌, ◌-◌, ◌&&◌, ◌||◌, Bool, true, false, cond, List, [], ◌∷◌, ◌++◌, Option, Some, None, map, length, get_or, take, drop, refl, sym, ap, subst, arith}
use Rattle.std.specs.Prelude.{All, flat_map, nat_eq, nat_lt, not, slice_index, slice_get}
use Rattle.std.specs.List.{filter as keep}
use Rattle.std.proofs.lemmas.Bool.{cond_both, lt-ltb, le-ltb, and_parts, eqb-true}
use Rattle.std.proofs.lemmas.List.{at_drop_more, at_drop_all, take_rest}
use Rattle.std.proofs.lemmas.List.Elements.{All-head, All-tail, All-cons, All-nil, All-map}
use Rattle.std.specs.List.Sorted.{IsNonDecreasingBy}
use Rattle.gu_types.specs.Depth.{types_of}
use Rattle.gu_rec.specs.Keys.{run}
use Rattle.gu_contents.specs.declared.facts.Facts.{Facts}
use Rattle.gu_links.specs.declared.reach.Reach.{Reach}
use Rattle.gu_links.specs.Cells.{slot_cell, out_cell, out_cells, is_least, results_of}
use Rattle.gu_links.specs.Over.{has_slot, names}
use Rattle.gu_links.specs.Kept.{has, once_onto, is_below, in_reach, over_reach, candidates, types_below, functions_below, callable}
use Rattle.std.specs.List.{list_any}
use Rattle.gu_contents.specs.Belongs.{IsFunc}
use Rattle.gu_links.specs.declared.link.Link.{Link}
use Rattle.gu_links.specs.declared.reach.Callees.TheVariants.{Under}
use Rattle.gu_links.proofs.Lists.{run_below}
use Rattle.gu_links.proofs.Reaching.{and_false}
use Rattle.gu_links.proofs.Walks.{append_nil, types_done, all_types_in, functions_done, all_functions_in}
use Rattle.gu_links.specs.Index.{IsHead}
use Rattle.gu_links.specs.Next.{first_of, is_rest, first_slot, first_result, SlotsBefore, ResultsBefore}

module _ (p : ℕ → Bool) where
  none_step : (b : Bool) (x : ℕ) (o r z : Option ℕ) → cond b (Some x) o ≡ None → (o ≡ None → r ≡ z) → cond b (Some x) r ≡ z
  none_step true x o r z e h = absurd cc
  none_step false x o r z e h = h e

  some_step : (b : Bool) (x c : ℕ) (o r : Option ℕ) → cond b (Some x) o ≡ Some c → (o ≡ Some c → r ≡ Some c) → cond b (Some x) r ≡ Some c
  some_step true x c o r e h = e
  some_step false x c o r e h = h e

  -- where nothing passes in a list, the first that passes in it and another stands in the other
  pub first_none : (xs ys : List ℕ) → first_of p xs ≡ None → first_of p (xs ++ ys) ≡ first_of p ys
  first_none [] ys e = refl
  first_none (x ∷ xs) ys e = none_step (p x) x (first_of p xs) (first_of p (xs ++ ys)) (first_of p ys) e (λ h. first_none xs ys h)

  pub first_some : (xs ys : List ℕ) (c : ℕ) → first_of p xs ≡ Some c → first_of p (xs ++ ys) ≡ Some c
  first_some [] ys c e = absurd cc
  first_some (x ∷ xs) ys c e = some_step (p x) x c (first_of p xs) (first_of p (xs ++ ys)) e (λ h. first_some xs ys c h)

  module _ (g : ℕ → ℕ) (x : ℕ) (zs : List ℕ) where
    one_none : (b : Bool) → first_of p (map g (cond b (x ∷ []) [])) ≡ None → first_of p (map g (cond b (x ∷ zs) zs)) ≡ first_of p (map g zs)
    one_none true e = first_none (g x ∷ []) (map g zs) e
    one_none false e = refl

    one_some : (b : Bool) (c : ℕ) → first_of p (map g (cond b (x ∷ []) [])) ≡ Some c → first_of p (map g (cond b (x ∷ zs) zs)) ≡ Some c
    one_some true c e = first_some (g x ∷ []) (map g zs) c e
    one_some false c e = absurd cc

    one_past : (b : Bool) → (b ≡ true → p (g x) ≡ false) → first_of p (map g (cond b (x ∷ zs) zs)) ≡ first_of p (map g zs)
    one_past true h = ap (λ (o : Bool). cond o (Some (g x)) (first_of p (map g zs))) (h refl)
    one_past false h = refl

-- what a list leads to, with the first ones left out that make no difference
pub skip : (F : List ℕ → Option ℕ) (bad : ℕ → Type 0) → ((x : ℕ) (ys : List ℕ) → bad x → F (x ∷ ys) ≡ F ys) → (n : ℕ) (xs : List ℕ) → All bad (take n xs) → F xs ≡ F (drop n xs)
skip F bad h zero xs a = refl
skip F bad h (suc n) [] a = refl
skip F bad h (suc n) (x ∷ xs) a = h x xs (All-head bad x (take n xs) a) ∙ skip F bad h n xs (All-tail bad x (take n xs) a)

-- over the types of a reach
module _ (f : Facts) (reach : Reach) (slot : ℕ) (p : ℕ → Bool) where
  abbrev over : ℕ → Bool
  over t = has_slot f slot t && in_reach f (Some reach) t

  pub slot_none : (types : List ℕ) (i d : ℕ) → i < length types → first_slot f reach slot p (get_or types i d ∷ []) ≡ None → first_slot f reach slot p (drop i types) ≡ first_slot f reach slot p (drop (i + 1) types)
  slot_none types i d lt e =
      at_drop_more (first_slot f reach slot p) types i d lt
      ∙ one_none p (λ t. slot_cell f t slot) (get_or types i d) (keep over (drop (i + 1) types)) (over (get_or types i d)) e

  pub slot_some : (types : List ℕ) (i d c : ℕ) → i < length types → first_slot f reach slot p (get_or types i d ∷ []) ≡ Some c → first_slot f reach slot p (drop i types) ≡ Some c
  slot_some types i d c lt e =
      at_drop_more (first_slot f reach slot p) types i d lt
      ∙ one_some p (λ t. slot_cell f t slot) (get_or types i d) (keep over (drop (i + 1) types)) (over (get_or types i d)) c e

  pub slot_end : (types : List ℕ) (i : ℕ) → length types ≤ i → first_slot f reach slot p (drop i types) ≡ None
  slot_end types i le = at_drop_all (first_slot f reach slot p) types i le

  pub slot_skip : (types : List ℕ) (n : ℕ) → All (λ t. over t ≡ true → p (slot_cell f t slot) ≡ false) (take n types) → first_slot f reach slot p types ≡ first_slot f reach slot p (drop n types)
  slot_skip types n a = skip (first_slot f reach slot p) (λ t. over t ≡ true → p (slot_cell f t slot) ≡ false)
      (λ x ys h. one_past p (λ t. slot_cell f t slot) x (keep over ys) (over x) h) n types a

-- a cell before the first one is none of the rest
pub before_rest : (fixed : List ℕ) (first c : ℕ) → c < first → is_rest fixed first c ≡ false
before_rest fixed first c lt = ap (λ (b : Bool). not b && not (has fixed c)) (lt-ltb c first lt)

-- parts of lists
all_take : (P : ℕ → Type 0) (n : ℕ) (xs : List ℕ) → All P xs → All P (take n xs)
all_take P zero xs h = All-nil P
all_take P (suc n) [] h = All-nil P
all_take P (suc n) (x ∷ xs) h = All-cons P x (take n xs) (All-head P x xs h) (all_take P n xs (All-tail P x xs h))

all_drop : (P : ℕ → Type 0) (n : ℕ) (xs : List ℕ) → All P xs → All P (drop n xs)
all_drop P zero xs h = h
all_drop P (suc n) [] h = h
all_drop P (suc n) (x ∷ xs) h = all_drop P n xs (All-tail P x xs h)

all_part : (P : ℕ → Type 0) (n : ℕ) (xs : List ℕ) → All P xs → All P (take (length xs - n) (drop n xs))
all_part P n xs h = subst (All P) (sym (take_rest xs n)) (all_drop P n xs h)

-- the numbers of a run that pass a test rise
module _ (p : ℕ → Bool) where
  lower_step : (m first : ℕ) (rest : List ℕ) → m ≤ first → All (λ s. m ≤ s) rest → (b : Bool) → All (λ s. m ≤ s) (cond b (first ∷ rest) rest)
  lower_step m first rest le h true = All-cons (λ s. m ≤ s) first rest le h
  lower_step m first rest le h false = h

  lower : (m first count : ℕ) → m ≤ first → All (λ s. m ≤ s) (keep p (run first count))
  lower m first zero le = All-nil (λ s. m ≤ s)
  lower m first (suc count) le = lower_step m first (keep p (run (suc first) count)) le (lower m (suc first) count (omega arith)) (p first)

  rising_cons : (first : ℕ) (rest : List ℕ) → All (λ s. first ≤ s) rest → IsNonDecreasingBy (λ (n : ℕ). n) rest → IsNonDecreasingBy (λ (n : ℕ). n) (first ∷ rest)
  rising_cons first rest low h zero zero d le lt = omega arith
  rising_cons first rest low h zero (suc j) d le lt = low j d (omega arith)
  rising_cons first rest low h (suc i) zero d le lt = absurd (omega arith)
  rising_cons first rest low h (suc i) (suc j) d le lt = h i j d (omega arith) (omega arith)

  rising_step : (first : ℕ) (rest : List ℕ) → All (λ s. first ≤ s) rest → IsNonDecreasingBy (λ (n : ℕ). n) rest → (b : Bool) → IsNonDecreasingBy (λ (n : ℕ). n) (cond b (first ∷ rest) rest)
  rising_step first rest low h true = rising_cons first rest low h
  rising_step first rest low h false = h

  rising_from : (first count : ℕ) → IsNonDecreasingBy (λ (n : ℕ). n) (keep p (run first count))
  rising_from first zero = λ i j d le lt. absurd (omega arith)
  rising_from first (suc count) = rising_step first (keep p (run (suc first) count)) (lower first (suc first) count (omega arith)) (rising_from (suc first) count) (p first)

  one_rises : (x : ℕ) → IsNonDecreasingBy (λ (n : ℕ). n) (x ∷ [])
  one_rises x = rising_cons x [] (All-nil (λ s. x ≤ s)) (λ i j d le lt. absurd (omega arith))

  pub kept_rises : (items : List ℕ) (n : ℕ) → items ≡ keep p (run 0 n) → IsNonDecreasingBy (λ (n : ℕ). n) items
  kept_rises items n e = subst (IsNonDecreasingBy (λ (n : ℕ). n)) (sym e) (rising_from 0 n)

pub candidates_rise : (f : Facts) (reach : Reach) (items : List ℕ) → items ≡ candidates f reach → IsNonDecreasingBy (λ (n : ℕ). n) items
candidates_rise f reach items e =
    let test = λ (s : ℕ). is_least f.types s && is_below f.types reach.head s in
    subst (IsNonDecreasingBy (λ (n : ℕ). n)) (sym e)
    (cond_both (nat_eq reach.depth 0) (reach.head ∷ []) (types_below f reach.head) (IsNonDecreasingBy (λ (n : ℕ). n)) (λ _. one_rises test reach.head) (λ _. kept_rises test (types_below f reach.head) (length (types_of f.types)) refl))

-- the next slot of the types of a reach
module _ (f : Facts) (reach : Reach) (head : IsHead f reach) (slot : ℕ) (fixed : List ℕ) (first : ℕ) where
  abbrev IsOwn : ℕ → Type 0
  IsOwn t = (t < length (types_of f.types)) × (is_least f.types t ≡ true)

  abbrev IsPast : ℕ → Type 0
  IsPast t = (has_slot f slot t && in_reach f (Some reach) t) ≡ true → is_rest fixed first (slot_cell f t slot) ≡ false

  slots_past : (n : ℕ) (types : List ℕ) → SlotsBefore f first n → All IsOwn types → All (λ t. t < n) types → All IsPast types
  slots_past n types before own less k d lt e =
      before_rest fixed first _ (before (get_or types k d) slot (less k d lt) (own k d lt).0 (own k d lt).1 (and_parts (has_slot f slot (get_or types k d)) _ e).0)

  all_own : (items : List ℕ) → items ≡ candidates f reach → All IsOwn items
  all_own items e = subst (All IsOwn) (sym e) (all_types_in f reach head)

  pub own_part : (items : List ℕ) (from : ℕ) → items ≡ candidates f reach → All IsOwn (take (length items - from) (drop from items))
  own_part items from e = all_part IsOwn from items (all_own items e)

  over_types : (items : List ℕ) → items ≡ candidates f reach → first_slot f reach slot (is_rest fixed first) items ≡ first_of (is_rest fixed first) (map (λ t. slot_cell f t slot) (over_reach f (Some reach) slot))
  over_types items e = ap (first_slot f reach slot (is_rest fixed first)) e ∙ ap (λ (xs : List ℕ). first_of (is_rest fixed first) (map (λ t. slot_cell f t slot) xs)) (types_done f reach slot head)

  pub slot_next : (items : List ℕ) (from n : ℕ) → items ≡ candidates f reach → SlotsBefore f first n → All (λ t. t < n) (take from items)
      → first_slot f reach slot (is_rest fixed first) (take (length items - from) (drop from items)) ≡ first_of (is_rest fixed first) (map (λ t. slot_cell f t slot) (over_reach f (Some reach) slot))
  slot_next items from n e before less =
      ap (first_slot f reach slot (is_rest fixed first)) (take_rest items from)
      ∙ sym (slot_skip f reach slot (is_rest fixed first) items from (slots_past n (take from items) before (all_take IsOwn from items (all_own items e)) less))
      ∙ over_types items e

  pub no_slot : SlotsBefore f first (length (types_of f.types)) → None ≡ first_of (is_rest fixed first) (map (λ t. slot_cell f t slot) (over_reach f (Some reach) slot))
  no_slot before =
      let items : List ℕ = candidates f reach in
      let own : All IsOwn (take (length items) items) = all_take IsOwn (length items) items (all_own items refl) in
      sym (slot_end f reach slot (is_rest fixed first) items (length items) (omega arith))
      ∙ sym (slot_skip f reach slot (is_rest fixed first) items (length items) (slots_past (length (types_of f.types)) (take (length items) items) before own (λ k d lt. (own k d lt).0)))
      ∙ over_types items refl

-- the numbers of a run behind the first ones
drop_run : (first count n : ℕ) → drop n (run first count) ≡ run (first + n) (count - n)
drop_run first count zero = let a : first ≡ first + 0 = omega arith in let b : count ≡ count - 0 = omega arith in ap (λ (k : ℕ). run k count) a ∙ ap (run (first + 0)) b
drop_run first zero (suc n) = let b : 0 ≡ 0 - suc n = omega arith in ap (run (first + suc n)) b
drop_run first (suc count) (suc n) =
    let a : suc first + n ≡ first + suc n = omega arith in let b : count - n ≡ suc count - suc n = omega arith in
    drop_run (suc first) count n ∙ ap (λ (k : ℕ). run k (count - n)) a ∙ ap (run (first + suc n)) b

take_run : (first count n end : ℕ) → first + n ≤ end → All (λ s. s < end) (take n (run first count))
take_run first count zero end le = All-nil (λ s. s < end)
take_run first zero (suc n) end le = All-nil (λ s. s < end)
take_run first (suc count) (suc n) end le = All-cons (λ s. s < end) first (take n (run (suc first) count)) (omega arith) (take_run (suc first) count n end (omega arith))

-- over the results of a function
module _ (f : Facts) (g : ℕ) (fixed : List ℕ) (first : ℕ) where
  abbrev pub result_from : ℕ → ℕ → Option ℕ
  result_from place count = first_of (is_rest fixed first) (map (out_cell f g) (run place (count - place)))

  past_place : (k : ℕ) → k < first - out_cell f g 0 → is_rest fixed first (out_cell f g k) ≡ false
  unfolding out_cell
  past_place k lt = before_rest fixed first (out_cell f g k) (omega arith)

  pub results_skip : (start count : ℕ) → start ≡ first - out_cell f g 0 → first_of (is_rest fixed first) (map (out_cell f g) (run 0 count)) ≡ result_from start count
  results_skip start count e =
      skip (λ (xs : List ℕ). first_of (is_rest fixed first) (map (out_cell f g) xs)) (λ k. k < start)
      (λ x ys lt. ap (λ (b : Bool). cond b (Some (out_cell f g x)) (first_of (is_rest fixed first) (map (out_cell f g) ys))) (past_place x (subst (λ (n : ℕ). x < n) e lt)))
      start (run 0 count) (take_run 0 count start start (omega arith))
      ∙ ap (λ (xs : List ℕ). first_of (is_rest fixed first) (map (out_cell f g) xs)) (drop_run 0 count start ∙ ap (λ (k : ℕ). run k (count - start)) (let z : 0 + start ≡ start = omega arith in z))

  result_here : (place count : ℕ) → place < count → result_from place count ≡ cond (is_rest fixed first (out_cell f g place)) (Some (out_cell f g place)) (result_from (place + 1) count)
  result_here place count lt =
      let a : count - place ≡ suc (count - (place + 1)) = omega arith in
      let b : suc place ≡ place + 1 = omega arith in
      ap (λ (n : ℕ). first_of (is_rest fixed first) (map (out_cell f g) (run place n))) a
      ∙ ap (λ (k : ℕ). cond (is_rest fixed first (out_cell f g place)) (Some (out_cell f g place)) (first_of (is_rest fixed first) (map (out_cell f g) (run k (count - (place + 1)))))) b

  pub result_more : (place count : ℕ) → place < count → is_rest fixed first (out_cell f g place) ≡ false → result_from place count ≡ result_from (place + 1) count
  result_more place count lt e = result_here place count lt ∙ ap (λ (b : Bool). cond b (Some (out_cell f g place)) (result_from (place + 1) count)) e

  pub result_found : (place count : ℕ) → place < count → is_rest fixed first (out_cell f g place) ≡ true → result_from place count ≡ Some (out_cell f g place)
  result_found place count lt e = result_here place count lt ∙ ap (λ (b : Bool). cond b (Some (out_cell f g place)) (result_from (place + 1) count)) e

  pub result_end : (place count : ℕ) → count ≤ place → result_from place count ≡ None
  result_end place count le = let z : count - place ≡ 0 = omega arith in ap (λ (n : ℕ). first_of (is_rest fixed first) (map (out_cell f g) (run place n))) z

module _ (p : ℕ → Bool) (h : ℕ → List ℕ) (x : ℕ) (zs : List ℕ) where
  flat_none : (b : Bool) → first_of p (flat_map h (cond b (x ∷ []) [])) ≡ None → first_of p (flat_map h (cond b (x ∷ zs) zs)) ≡ first_of p (flat_map h zs)
  flat_none true e = first_none p (h x) (flat_map h zs) (ap (first_of p) (sym (append_nil (h x))) ∙ e)
  flat_none false e = refl

  flat_some : (b : Bool) (c : ℕ) → first_of p (flat_map h (cond b (x ∷ []) [])) ≡ Some c → first_of p (flat_map h (cond b (x ∷ zs) zs)) ≡ Some c
  flat_some true c e = first_some p (h x) (flat_map h zs) c (ap (first_of p) (sym (append_nil (h x))) ∙ e)
  flat_some false c e = absurd cc

  flat_past : (b : Bool) → first_of p (h x) ≡ None → first_of p (flat_map h (cond b (x ∷ zs) zs)) ≡ first_of p (flat_map h zs)
  flat_past true e = first_none p (h x) (flat_map h zs) e
  flat_past false e = refl

-- the results of one function, if it is taken
pub one_result : (p : ℕ → Bool) (h : ℕ → List ℕ) (x : ℕ) (b : Bool) → b ≡ true → first_of p (h x) ≡ first_of p (flat_map h (cond b (x ∷ []) []))
one_result p h x b e = ap (first_of p) (sym (append_nil (h x))) ∙ ap (λ (o : Bool). first_of p (flat_map h (cond o (x ∷ []) []))) (sym e)

pub no_result : (p : ℕ → Bool) (h : ℕ → List ℕ) (x : ℕ) (b : Bool) → b ≡ false → None ≡ first_of p (flat_map h (cond b (x ∷ []) []))
no_result p h x b e = ap (λ (o : Bool). first_of p (flat_map h (cond o (x ∷ []) []))) (sym e)

none_pass : (p : ℕ → Bool) (xs : List ℕ) → All (λ x. p x ≡ false) xs → first_of p xs ≡ None
none_pass p [] a = refl
none_pass p (x ∷ xs) a = ap (λ (b : Bool). cond b (Some x) (first_of p xs)) (All-head (λ x. p x ≡ false) x xs a) ∙ none_pass p xs (All-tail (λ x. p x ≡ false) x xs a)

-- over the functions of a reach
module _ (f : Facts) (reach : Reach) (p : ℕ → Bool) where
  abbrev called : ℕ → Bool
  called g = in_reach f (Some reach) (slice_index f.funcs g)

  pub functions_none : (functions : List ℕ) (i d : ℕ) → i < length functions → first_result f reach p (get_or functions i d ∷ []) ≡ None → first_result f reach p (drop i functions) ≡ first_result f reach p (drop (i + 1) functions)
  functions_none functions i d lt e =
      at_drop_more (first_result f reach p) functions i d lt
      ∙ flat_none p (out_cells f) (get_or functions i d) (keep called (drop (i + 1) functions)) (called (get_or functions i d)) e

  pub functions_some : (functions : List ℕ) (i d c : ℕ) → i < length functions → first_result f reach p (get_or functions i d ∷ []) ≡ Some c → first_result f reach p (drop i functions) ≡ Some c
  functions_some functions i d c lt e =
      at_drop_more (first_result f reach p) functions i d lt
      ∙ flat_some p (out_cells f) (get_or functions i d) (keep called (drop (i + 1) functions)) (called (get_or functions i d)) c e

  functions_end : (functions : List ℕ) (i : ℕ) → length functions ≤ i → first_result f reach p (drop i functions) ≡ None
  functions_end functions i le = at_drop_all (first_result f reach p) functions i le

  functions_skip : (functions : List ℕ) (n : ℕ) → All (λ g. first_of p (out_cells f g) ≡ None) (take n functions) → first_result f reach p functions ≡ first_result f reach p (drop n functions)
  functions_skip functions n a = skip (first_result f reach p) (λ g. first_of p (out_cells f g) ≡ None)
      (λ x ys e. flat_past p (out_cells f) x (keep called ys) (called x) e) n functions a

-- the next result of the functions of a reach
module _ (f : Facts) (links : List Link) (named : (g : ℕ) → list_any (names g) links ≡ true → IsFunc f g) (reach : Reach) (fixed : List ℕ) (first : ℕ) where
  results_past : (n g : ℕ) → ResultsBefore f first n → g < n → g < length f.funcs → first_of (is_rest fixed first) (out_cells f g) ≡ None
  results_past n g before less lt =
      none_pass (is_rest fixed first) (out_cells f g)
      (All-map (λ c. is_rest fixed first c ≡ false) (out_cell f g) (run 0 (results_of f g)) (λ k d l. before_rest fixed first _ (before g _ less lt (run_below 0 (results_of f g) (results_of f g) (omega arith) k d l))))

  all_functions : (items : List ℕ) → items ≡ functions_below f links reach.head → All (IsFunc f) items
  all_functions items e = subst (All (IsFunc f)) (sym e) (λ k d lt. named _ (all_functions_in f links reach.head k d lt))

  pub functions_part : (items : List ℕ) (from : ℕ) → items ≡ functions_below f links reach.head → All (IsFunc f) (take (length items - from) (drop from items))
  functions_part items from e = all_part (IsFunc f) from items (all_functions items e)

  all_called : (items : List ℕ) → items ≡ functions_below f links reach.head → first_result f reach (is_rest fixed first) items ≡ first_of (is_rest fixed first) (flat_map (out_cells f) (callable f links (Under reach)))
  all_called items e = ap (first_result f reach (is_rest fixed first)) e ∙ ap (λ (xs : List ℕ). first_of (is_rest fixed first) (flat_map (out_cells f) xs)) (functions_done f links reach)

  past_in : (n : ℕ) (xs : List ℕ) → ResultsBefore f first n → All (IsFunc f) xs → All (λ g. g < n) xs → All (λ g. first_of (is_rest fixed first) (out_cells f g) ≡ None) xs
  past_in n xs before are less k d lt = results_past n _ before (less k d lt) (are k d lt).is_func

  pub result_at : (items : List ℕ) (from n : ℕ) → items ≡ functions_below f links reach.head → ResultsBefore f first n → All (λ g. g < n) (take from items)
      → first_result f reach (is_rest fixed first) (take (length items - from) (drop from items)) ≡ first_of (is_rest fixed first) (flat_map (out_cells f) (callable f links (Under reach)))
  result_at items from n e before less =
      ap (first_result f reach (is_rest fixed first)) (take_rest items from)
      ∙ sym (functions_skip f reach (is_rest fixed first) items from (past_in n (take from items) before (all_take (IsFunc f) from items (all_functions items e)) less))
      ∙ all_called items e

  pub no_result_under : ResultsBefore f first (length f.funcs) → None ≡ first_of (is_rest fixed first) (flat_map (out_cells f) (callable f links (Under reach)))
  no_result_under before =
      let items : List ℕ = functions_below f links reach.head in
      let are : All (IsFunc f) (take (length items) items) = all_take (IsFunc f) (length items) items (all_functions items refl) in
      sym (functions_end f reach (is_rest fixed first) items (length items) (omega arith))
      ∙ sym (functions_skip f reach (is_rest fixed first) items (length items) (past_in (length f.funcs) (take (length items) items) before are (λ k d lt. (are k d lt).is_func)))
      ∙ all_called items refl

-- a list of numbers that rises
abbrev pub IsRising : List ℕ → Type 0
IsRising [] = Unit {0}
IsRising (x ∷ xs) = All (λ y. x < y) xs × IsRising xs

-- in a list that rises, the first number behind one that passes is the next that passes
module _ (q : ℕ → Bool) where
  abbrev behind : ℕ → ℕ → Bool
  behind first c = not (nat_lt c first) && q c

  behind_is : (first c : ℕ) → first ≤ c → behind first c ≡ q c
  behind_is first c le = ap (λ (b : Bool). not b && q c) (le-ltb c first le)

  before_is : (first c : ℕ) → c < first → behind first c ≡ false
  before_is first c lt = ap (λ (b : Bool). not b && q c) (lt-ltb c first lt)

  head_step : (b d : Bool) (x : ℕ) (o : Option ℕ) (xs : List ℕ) → d ≡ b → o ≡ slice_get xs 0 → cond d (Some x) o ≡ slice_get (cond b (x ∷ xs) xs) 0
  head_step true d x o xs e h = ap (λ (k : Bool). cond k (Some x) o) e
  head_step false d x o xs e h = ap (λ (k : Bool). cond k (Some x) o) e ∙ h

  pub first_behind : (first : ℕ) (xs : List ℕ) → All (λ c. first ≤ c) xs → first_of (behind first) xs ≡ slice_get (keep q xs) 0
  first_behind first [] a = refl
  first_behind first (x ∷ xs) a =
      head_step (q x) (behind first x) x (first_of (behind first) xs) (keep q xs) (behind_is first x (All-head (λ c. first ≤ c) x xs a)) (first_behind first xs (All-tail (λ c. first ≤ c) x xs a))

  got_step : (P : ℕ → Type 0) (b : Bool) (x k t : ℕ) (xs : List ℕ) → P x → ((j : ℕ) → slice_get xs j ≡ Some t → P t) → slice_get (cond b (x ∷ xs) xs) k ≡ Some t → P t
  got_step P true x zero t xs p h e = subst P (some_same x t e) p
    where
      some_same : (a b : ℕ) → Some a ≡ Some b → a ≡ b
      some_same a b e = cc
  got_step P true x (suc k) t xs p h e = h k e
  got_step P false x k t xs p h e = h k e

  got : (P : ℕ → Type 0) (xs : List ℕ) (k t : ℕ) → All P xs → slice_get (keep q xs) k ≡ Some t → P t
  got P [] k t a e = absurd cc
  got P (x ∷ xs) k t a e = got_step P (q x) x k t (keep q xs) (All-head P x xs a) (λ j h. got P xs j t (All-tail P x xs a) h) e

  skipped : (first x : ℕ) (xs : List ℕ) → behind first x ≡ false → first_of (behind first) (x ∷ xs) ≡ first_of (behind first) xs
  skipped first x xs e = ap (λ (b : Bool). cond b (Some x) (first_of (behind first) xs)) e

  next_step : (b : Bool) (x k t : ℕ) (xs : List ℕ) → q x ≡ b → All (λ y. x < y) xs → ((j : ℕ) → slice_get (keep q xs) j ≡ Some t → first_of (behind (t + 1)) xs ≡ slice_get (keep q xs) (suc j))
      → slice_get (cond b (x ∷ keep q xs) (keep q xs)) k ≡ Some t → first_of (behind (t + 1)) (x ∷ xs) ≡ slice_get (cond b (x ∷ keep q xs) (keep q xs)) (suc k)
  next_step true x zero t xs is low h e =
      let same : x ≡ t = cc in
      skipped (t + 1) x xs (before_is (t + 1) x (omega arith))
      ∙ first_behind (t + 1) xs (λ j d lt. let l = low j d lt in omega arith)
  next_step true x (suc k) t xs is low h e =
      let above : x < t = got (λ y. x < y) xs k t low e in
      skipped (t + 1) x xs (before_is (t + 1) x (omega arith)) ∙ h k e
  next_step false x k t xs is low h e =
      let none : behind (t + 1) x ≡ false = ap (λ (b : Bool). not (nat_lt x (t + 1)) && b) is ∙ and_false (not (nat_lt x (t + 1))) in
      skipped (t + 1) x xs none ∙ h k e

  pub next_behind : (xs : List ℕ) (k t : ℕ) → IsRising xs → slice_get (keep q xs) k ≡ Some t → first_of (behind (t + 1)) xs ≡ slice_get (keep q xs) (suc k)
  next_behind [] k t r e = absurd cc
  next_behind (x ∷ xs) k t r e = next_step (q x) x k t xs refl r.0 (λ j h. next_behind xs j t r.1 h) e

-- a list of cells that stand once has the same cells
or_parts : (a b r : Bool) → (b ≡ true → a ≡ true) → (a || r) ≡ (a || (b || r))
or_parts true b r h = refl
or_parts false true r h = absurd (let z = h refl in cc)
or_parts false false r h = refl

or_assoc : (a b r : Bool) → ((a || (b || false)) || r) ≡ (a || (b || r))
or_assoc true b r = refl
or_assoc false true r = refl
or_assoc false false r = refl

or_none : (a : Bool) → a ≡ (a || false)
or_none true = refl
or_none false = refl

has_push : (seen : List ℕ) (x c : ℕ) → has (seen ++ x ∷ []) c ≡ (has seen c || (nat_eq x c || false))
has_push [] x c = refl
has_push (y ∷ seen) x c = ap (λ (b : Bool). nat_eq y c || b) (has_push seen x c) ∙ or_join (nat_eq y c) (has seen c) (nat_eq x c || false)
  where
    or_join : (a b r : Bool) → (a || (b || r)) ≡ ((a || b) || r)
    or_join true b r = refl
    or_join false b r = refl

has_step : (seen : List ℕ) (x c : ℕ) (r b : Bool) → has seen x ≡ b → (has (cond b seen (seen ++ x ∷ [])) c || r) ≡ (has seen c || (nat_eq x c || r))
has_step seen x c r true e = or_parts (has seen c) (nat_eq x c) r (λ h. subst (λ (d : ℕ). has seen d ≡ true) (eqb-true x c h) e)
has_step seen x c r false e = ap (λ (b : Bool). b || r) (has_push seen x c) ∙ or_assoc (has seen c) (nat_eq x c) r

pub has_once : (seen cells : List ℕ) (c : ℕ) → has (once_onto seen cells) c ≡ (has seen c || has cells c)
has_once seen [] c = or_none (has seen c)
has_once seen (x ∷ cells) c = has_once (cond (has seen x) seen (seen ++ x ∷ [])) cells c ∙ has_step seen x c (has cells c) (has seen x) refl
