-- Walks over the types and functions below a type.
use Rattle.std.proofs.Common.{◌≡◌, ℕ, zero, suc, ◌+◌, ◌<◌, ◌≤◌, ◌&&◌, Bool, true, false, cond, List, [], ◌∷◌, ◌++◌, Option, Some, None, map, length, get_or, take, is_some, append_assoc, sym, refl, ap, ◌∙◌, subst, ⊎_elim, arith}
use Rattle.std.specs.Prelude.{All, flat_map, nat_eq, slice_index}
use Rattle.std.specs.List.{filter as keep, list_any}
use Rattle.std.proofs.lemmas.Bool.{cases_Bool, cond_both, and_parts, and_from, eqb-true}
use Rattle.std.proofs.lemmas.List.{take_all}
use Rattle.std.proofs.lemmas.List.Elements.{All-head, All-tail, All-cons, All-nil, All-filter, filter_passes, filter_more, filter-append}
use Rattle.gu_types.specs.declared.types.HeapType.TheVariants as H
use Rattle.gu_types.specs.Depth.{types_of}
use Rattle.gu_rec.specs.Keys.{run}
use Rattle.gu_rec.specs.Sub.{distance}
use Rattle.gu_rec.proofs.Numbers.{run_more}
use Rattle.gu_contents.specs.declared.facts.Facts.{Facts}
use Rattle.gu_contents.specs.Order.{reaches}
use Rattle.gu_links.specs.declared.link.Link.{Link}
use Rattle.gu_links.specs.declared.reach.Reach.{Reach}
use Rattle.gu_links.specs.declared.reach.Callees.TheVariants.{Under}
use Rattle.gu_links.specs.Cells.{is_least}
use Rattle.gu_links.specs.Over.{has_slot, names}
use Rattle.gu_links.specs.Kept.{is_below, in_reach, over_reach, candidates, types_below, functions_below, callable}
use Rattle.gu_links.specs.Index.{IsHead}
use Rattle.gu_links.proofs.Nearest.{head_alone}
use Rattle.gu_links.proofs.Lists.{run_below, all_front, all_back}
use Rattle.gu_links.proofs.Reaching.{and_false, keep_none}

-- a run has each number between its ends
run_long : (first count : ℕ) → length (run first count) ≡ count
run_long first zero = refl
run_long first (suc count) = ap suc (run_long (suc first) count)

run_at : (first count i d : ℕ) → i < count → get_or (run first count) i d ≡ first + i
run_at first zero i d lt = absurd (omega arith)
run_at first (suc count) zero d lt = omega arith
run_at first (suc count) (suc i) d lt = let h = run_at (suc first) count i d (omega arith) in omega arith

pub run_each : (R : ℕ → Type 0) (n : ℕ) → All R (run 0 n) → (t : ℕ) → t < n → R t
run_each R n h t lt =
    let e : get_or (run 0 n) t 0 ≡ t = run_at 0 n t 0 lt ∙ (let z : 0 + t ≡ t = omega arith in z) in
    subst R e (h t 0 (subst (λ m. t < m) (sym (run_long 0 n)) lt))

pub unmapped : {B : Type 0} (Q : B → Type 0) (h : ℕ → B) (xs : List ℕ) → All Q (map h xs) → All (λ s. Q (h s)) xs
unmapped Q h [] a = All-nil (λ s. Q (h s))
unmapped Q h (x ∷ xs) a = All-cons (λ s. Q (h s)) x xs (All-head Q (h x) (map h xs) a) (unmapped Q h xs (All-tail Q (h x) (map h xs) a))

-- what holds of all kept elements holds of each that passes
pub kept_all : (Q : ℕ → Type 0) (p : ℕ → Bool) (xs : List ℕ) → All Q (keep p xs) → All (λ t. p t ≡ true → Q t) xs
kept_all Q p [] h = All-nil (λ t. p t ≡ true → Q t)
kept_all Q p (x ∷ xs) h = ⊎_elim
    (λ (e : p x ≡ true).
    let h' : All Q (x ∷ keep p xs) = subst (λ b. All Q (cond b (x ∷ keep p xs) (keep p xs))) e h in
    All-cons (λ t. p t ≡ true → Q t) x xs (λ _. All-head Q x (keep p xs) h') (kept_all Q p xs (All-tail Q x (keep p xs) h')))
    (λ (e : p x ≡ false).
    let h' : All Q (keep p xs) = subst (λ b. All Q (cond b (x ∷ keep p xs) (keep p xs))) e h in
    All-cons (λ t. p t ≡ true → Q t) x xs (λ t. let bad : true ≡ false = sym t ∙ e in cc) (kept_all Q p xs h'))
    (cases_Bool (p x))

-- two tests one after another are one
pub fuse : (p q r : ℕ → Bool) → ((s : ℕ) → cond (q s) (p s) false ≡ r s) → (xs : List ℕ) → keep p (keep q xs) ≡ keep r xs
fuse p q r h [] = refl
fuse p q r h (x ∷ xs) = ⊎_elim
    (λ (e : q x ≡ true).
    ap (λ b. keep p (cond b (x ∷ keep q xs) (keep q xs))) e
    ∙ ap (λ b. cond b (x ∷ keep p (keep q xs)) (keep p (keep q xs))) (sym (ap (λ b. cond b (p x) false) e) ∙ h x)
    ∙ ap (λ ys. cond (r x) (x ∷ ys) ys) (fuse p q r h xs))
    (λ (e : q x ≡ false).
    ap (λ b. keep p (cond b (x ∷ keep q xs) (keep q xs))) e
    ∙ fuse p q r h xs
    ∙ ap (λ b. cond b (x ∷ keep r xs) (keep r xs)) (sym (ap (λ b. cond b (p x) false) e) ∙ h x))
    (cases_Bool (q x))

pub mapped_each : {B : Type 0} (Q : B → Type 0) (h : ℕ → B) (n : ℕ) → All Q (map h (run 0 n)) → (t : ℕ) → t < n → Q (h t)
mapped_each Q h n a t lt = run_each (λ s. Q (h s)) n (unmapped Q h (run 0 n) a) t lt

-- what holds of all that is made of the kept elements holds of what is made of each
pub kept_flat : {B : Type 0} (Q : B → Type 0) (h : ℕ → List B) (p : ℕ → Bool) (xs : List ℕ) → All Q (flat_map h (keep p xs)) → All (λ t. p t ≡ true → All Q (h t)) xs
kept_flat Q h p [] a = All-nil (λ t. p t ≡ true → All Q (h t))
kept_flat {B} Q h p (x ∷ xs) a = ⊎_elim
    (λ (e : p x ≡ true).
    let a' : All Q (h x ++ flat_map h (keep p xs)) = subst (λ b. All Q (flat_map h (cond b (x ∷ keep p xs) (keep p xs)))) e a in
    All-cons (λ t. p t ≡ true → All Q (h t)) x xs (λ _. all_front Q (h x) (flat_map h (keep p xs)) a') (kept_flat Q h p xs (all_back Q (h x) (flat_map h (keep p xs)) a')))
    (λ (e : p x ≡ false).
    let a' : All Q (flat_map h (keep p xs)) = subst (λ b. All Q (flat_map h (cond b (x ∷ keep p xs) (keep p xs)))) e a in
    All-cons (λ t. p t ≡ true → All Q (h t)) x xs (λ t. let bad : true ≡ false = sym t ∙ e in cc) (kept_flat Q h p xs a'))
    (cases_Bool (p x))

-- one more element that passes, or does not
map_push : {B : Type 0} (g : ℕ → B) (xs : List ℕ) (x : ℕ) → map g (xs ++ x ∷ []) ≡ map g xs ++ g x ∷ []
map_push g [] x = refl
map_push g (y ∷ xs) x = ap (λ ys. g y ∷ ys) (map_push g xs x)

pub append_nil : {B : Type 0} (xs : List B) → xs ++ [] ≡ xs
append_nil [] = refl
append_nil (x ∷ xs) = ap (λ ys. x ∷ ys) (append_nil xs)

pub kept_more : (p : ℕ → Bool) (xs : List ℕ) (i : ℕ) → i < length xs → p (get_or xs i 0) ≡ true → keep p (take (i + 1) xs) ≡ keep p (take i xs) ++ get_or xs i 0 ∷ []
kept_more p xs i lt e = filter_more p xs i 0 lt ∙ ap (λ b. keep p (take i xs) ++ cond b (get_or xs i 0 ∷ []) []) e

pub kept_same : (p : ℕ → Bool) (xs : List ℕ) (i : ℕ) → i < length xs → p (get_or xs i 0) ≡ false → keep p (take (i + 1) xs) ≡ keep p (take i xs)
kept_same p xs i lt e = filter_more p xs i 0 lt ∙ ap (λ b. keep p (take i xs) ++ cond b (get_or xs i 0 ∷ []) []) e ∙ append_nil (keep p (take i xs))

pub map_more : {B : Type 0} (g : ℕ → B) (p : ℕ → Bool) (xs : List ℕ) (i : ℕ) → i < length xs → p (get_or xs i 0) ≡ true → map g (keep p (take (i + 1) xs)) ≡ map g (keep p (take i xs)) ++ g (get_or xs i 0) ∷ []
map_more g p xs i lt e = ap (map g) (kept_more p xs i lt e) ∙ map_push g (keep p (take i xs)) (get_or xs i 0)

flat_push : {B : Type 0} (h : ℕ → List B) (xs : List ℕ) (x : ℕ) → flat_map h (xs ++ x ∷ []) ≡ flat_map h xs ++ h x
flat_push h [] x = append_nil (h x)
flat_push h (y ∷ xs) x = ap (λ ys. h y ++ ys) (flat_push h xs x) ∙ sym (append_assoc (h y) (flat_map h xs) (h x))

pub flat_more : {B : Type 0} (h : ℕ → List B) (p : ℕ → Bool) (xs : List ℕ) (i : ℕ) → i < length xs → p (get_or xs i 0) ≡ true → flat_map h (keep p (take (i + 1) xs)) ≡ flat_map h (keep p (take i xs)) ++ h (get_or xs i 0)
flat_more h p xs i lt e = ap (flat_map h) (kept_more p xs i lt e) ∙ flat_push h (keep p (take i xs)) (get_or xs i 0)

module _ (f : Facts) where
  reaches_some : (o : Option ℕ) (more depth : ℕ) → reaches o more depth ≡ true → is_some o ≡ true
  reaches_some None more depth e = e
  reaches_some (Some k) more depth e = refl

  in_below : (r : Reach) (s : ℕ) → in_reach f (Some r) s ≡ true → is_below f.types r.head s ≡ true
  in_below r s e = reaches_some (distance f.types (H.Idx r.head) (H.Idx s)) 0 r.depth e

  -- the types of a reach are those below its head that are in it
  tests : (l b h i : Bool) → (i ≡ true → b ≡ true) → cond (l && b) (h && i) false ≡ (h && (l && i))
  tests true true h i up = refl
  tests true false true true up = up refl
  tests true false false true up = refl
  tests true false true false up = refl
  tests true false false false up = refl
  tests false b true i up = refl
  tests false b false i up = refl

  below_done : (r : Reach) (slot : ℕ) → keep (λ t. has_slot f slot t && in_reach f (Some r) t) (types_below f r.head) ≡ over_reach f (Some r) slot
  below_done r slot =
      fuse (λ t. has_slot f slot t && in_reach f (Some r) t) (λ s. is_least f.types s && is_below f.types r.head s) (λ s. has_slot f slot s && (is_least f.types s && in_reach f (Some r) s))
      (λ s. tests (is_least f.types s) (is_below f.types r.head s) (has_slot f slot s) (in_reach f (Some r) s) (in_below r s)) (run 0 (length (types_of f.types)))

  pub types_done : (r : Reach) (slot : ℕ) → IsHead f r → keep (λ t. has_slot f slot t && in_reach f (Some r) t) (candidates f r) ≡ over_reach f (Some r) slot
  types_done r slot head = cond_both (nat_eq r.depth 0) (r.head ∷ []) (types_below f r.head) (λ (ts : List ℕ). keep (λ t. has_slot f slot t && in_reach f (Some r) t) ts ≡ over_reach f (Some r) slot)
      (λ e. head_alone f r slot head (eqb-true r.depth 0 e)) (λ e. below_done r slot)

  pub nothing_reached : (slot : ℕ) → over_reach f None slot ≡ []
  nothing_reached slot = keep_none (λ s. has_slot f slot s && (is_least f.types s && false)) (run 0 (length (types_of f.types))) (λ s. ap (λ b. has_slot f slot s && b) (and_false (is_least f.types s)) ∙ and_false (has_slot f slot s))

  pub walked : (r : Reach) (slot : ℕ) (items : List ℕ) (i : ℕ) → IsHead f r → items ≡ candidates f r → length items ≤ i
      → keep (λ t. has_slot f slot t && in_reach f (Some r) t) (take i items) ≡ over_reach f (Some r) slot
  walked r slot items i head e le = ap (keep (λ t. has_slot f slot t && in_reach f (Some r) t)) (take_all i items le ∙ e) ∙ types_done r slot head

  -- the functions that can be called are those below its head that are in it
  call_tests : (n b i : Bool) → (i ≡ true → b ≡ true) → cond (n && b) i false ≡ (n && i)
  call_tests true true i up = refl
  call_tests true false true up = up refl
  call_tests true false false up = refl
  call_tests false b i up = refl

  pub functions_done : (links : List Link) (r : Reach) → keep (λ g. in_reach f (Some r) (slice_index f.funcs g)) (functions_below f links r.head) ≡ callable f links (Under r)
  functions_done links r =
      fuse (λ g. in_reach f (Some r) (slice_index f.funcs g)) (λ g. list_any (names g) links && is_below f.types r.head (slice_index f.funcs g)) (λ g. list_any (names g) links && in_reach f (Some r) (slice_index f.funcs g))
      (λ g. call_tests (list_any (names g) links) (is_below f.types r.head (slice_index f.funcs g)) (in_reach f (Some r) (slice_index f.funcs g)) (in_below r (slice_index f.funcs g))) (run 0 (length f.funcs))

  pub called_all : (links : List Link) (r : Reach) (items : List ℕ) (i : ℕ) → items ≡ functions_below f links r.head → length items ≤ i
      → keep (λ g. in_reach f (Some r) (slice_index f.funcs g)) (take i items) ≡ callable f links (Under r)
  called_all links r items i e le = ap (keep (λ g. in_reach f (Some r) (slice_index f.funcs g))) (take_all i items le ∙ e) ∙ functions_done links r

  all_below_in : (h : ℕ) → All (λ t. (t < length (types_of f.types)) × (is_least f.types t ≡ true)) (types_below f h)
  all_below_in h k d lt = (
    All-filter (λ s. is_least f.types s && is_below f.types h s) (λ s. s < length (types_of f.types)) (run 0 (length (types_of f.types))) (run_below 0 (length (types_of f.types)) (length (types_of f.types)) (omega arith)) k d lt,
    (and_parts (is_least f.types _) _ (filter_passes (λ s. is_least f.types s && is_below f.types h s) (run 0 (length (types_of f.types))) k d lt)).0,
  )

  pub all_types_in : (r : Reach) → IsHead f r → All (λ t. (t < length (types_of f.types)) × (is_least f.types t ≡ true)) (candidates f r)
  all_types_in r head = let P = λ (t : ℕ). (t < length (types_of f.types)) × (is_least f.types t ≡ true) in
      cond_both (nat_eq r.depth 0) (r.head ∷ []) (types_below f r.head) (All P) (λ e. All-cons P r.head [] (head.in_range, head.least) (All-nil P)) (λ e. all_below_in r.head)

  pub item_in : (r : Reach) (items : List ℕ) (i : ℕ) → IsHead f r → items ≡ candidates f r → i < length items → (get_or items i 0 < length (types_of f.types)) × (is_least f.types (get_or items i 0) ≡ true)
  item_in r items i head e lt = subst (λ (ts : List ℕ). All (λ (t : ℕ). (t < length (types_of f.types)) × (is_least f.types t ≡ true)) ts) (sym e) (all_types_in r head) i 0 lt

  -- what holds of all types of a reach that have a slot holds of one
  pub one_of : (Q : ℕ → Type 0) (r : Option Reach) (slot t : ℕ) → All Q (over_reach f r slot) → t < length (types_of f.types) → is_least f.types t ≡ true → (has_slot f slot t && in_reach f r t) ≡ true → Q t
  one_of Q r slot t h lt least e =
      let p = and_parts (has_slot f slot t) (in_reach f r t) e in
      run_each (λ s. (has_slot f slot s && (is_least f.types s && in_reach f r s)) ≡ true → Q s) (length (types_of f.types))
      (kept_all Q (λ s. has_slot f slot s && (is_least f.types s && in_reach f r s)) (run 0 (length (types_of f.types))) h) t lt
      (and_from (has_slot f slot t) _ p.0 (and_from (is_least f.types t) _ least p.1))

  pub all_functions_in : (links : List Link) (h : ℕ) → All (λ g. list_any (names g) links ≡ true) (functions_below f links h)
  all_functions_in links h k d lt = (and_parts (list_any (names _) links) _ (filter_passes (λ g. list_any (names g) links && is_below f.types h (slice_index f.funcs g)) (run 0 (length f.funcs)) k d lt)).0

  pub function_in : (links : List Link) (h : ℕ) (items : List ℕ) (i : ℕ) → items ≡ functions_below f links h → i < length items → list_any (names (get_or items i 0)) links ≡ true
  function_in links h items i e lt = subst (λ (gs : List ℕ). All (λ (g : ℕ). list_any (names g) links ≡ true) gs) (sym e) (all_functions_in links h) i 0 lt

  -- what holds of all that is made of the functions of a reach holds of what is made of each
  pub one_called : {B : Type 0} (Q : B → Type 0) (h : ℕ → List B) (links : List Link) (r : Reach) (g : ℕ) → All Q (flat_map h (callable f links (Under r))) → g < length f.funcs → list_any (names g) links ≡ true → in_reach f (Some r) (slice_index f.funcs g) ≡ true → All Q (h g)
  one_called Q h links r g a lt named e =
      run_each (λ s. (list_any (names s) links && in_reach f (Some r) (slice_index f.funcs s)) ≡ true → All Q (h s)) (length f.funcs)
      (kept_flat Q h (λ s. list_any (names s) links && in_reach f (Some r) (slice_index f.funcs s)) (run 0 (length f.funcs)) a) g lt
      (and_from (list_any (names g) links) _ named e)

pub one_out : {B : Type 0} (Q : B → Type 0) (h : ℕ → List B) (g : ℕ) (b : Bool) → b ≡ true → All Q (flat_map h (cond b (g ∷ []) [])) → All Q (h g)
one_out {B} Q h g b e a = let a' : All Q (h g ++ []) = subst (λ (b : Bool). All Q (flat_map h (cond b (g ∷ []) []))) e a in all_front Q (h g) [] a'

pub one_flat : {B : Type 0} (h : ℕ → List B) (g : ℕ) (b : Bool) → b ≡ true → [] ++ h g ≡ flat_map h (cond b (g ∷ []) [])
one_flat h g b e = sym (ap (λ b. flat_map h (cond b (g ∷ []) [])) e ∙ append_nil (h g))

pub no_flat : {B : Type 0} (h : ℕ → List B) (g : ℕ) (b : Bool) → b ≡ false → [] ≡ flat_map h (cond b (g ∷ []) [])
no_flat h g b e = sym (ap (λ b. flat_map h (cond b (g ∷ []) [])) e)

-- a run that is one longer
pub kept_run : {B : Type 0} (g : ℕ → B) (p : ℕ → Bool) (n : ℕ) → p n ≡ true → map g (keep p (run 0 (n + 1))) ≡ map g (keep p (run 0 n)) ++ g n ∷ []
kept_run g p n e =
    let z : 0 + n ≡ n = omega arith in
    ap (λ (xs : List ℕ). map g (keep p xs)) (run_more 0 n ∙ ap (λ (m : ℕ). run 0 n ++ m ∷ []) z)
    ∙ ap (map g) (filter-append p (run 0 n) (n ∷ []) ∙ ap (λ (b : Bool). keep p (run 0 n) ++ cond b (n ∷ []) []) e)
    ∙ map_push g (keep p (run 0 n)) n

pub unkept_run : {B : Type 0} (g : ℕ → B) (p : ℕ → Bool) (n : ℕ) → p n ≡ false → map g (keep p (run 0 (n + 1))) ≡ map g (keep p (run 0 n))
unkept_run g p n e =
    let z : 0 + n ≡ n = omega arith in
    ap (λ (xs : List ℕ). map g (keep p xs)) (run_more 0 n ∙ ap (λ (m : ℕ). run 0 n ++ m ∷ []) z)
    ∙ ap (map g) (filter-append p (run 0 n) (n ∷ []) ∙ ap (λ (b : Bool). keep p (run 0 n) ++ cond b (n ∷ []) []) e ∙ append_nil (keep p (run 0 n)))
