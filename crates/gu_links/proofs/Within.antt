-- The cells of slots, parameters and results are the first ones.
use Rattle.std.proofs.Common.{◌≡◌, ◌∙◌, ℕ, zero, suc, ◌+◌, ◌<◌, ◌≤◌, true, List, [], ◌∷◌, ◌++◌, length, get_or, refl, sym, ap, subst, ⊎_elim, arith}
use Rattle.std.specs.Prelude.{nat_eq, sum_by}
use Rattle.std.proofs.lemmas.Bool.{ltb-true, eqb-true, eq-eqb, ne_eqb, cond-true, cond-false, cases_lt, lt-ltb}
use Rattle.std.proofs.lemmas.List.{get_or_append_left, get_or_push, length-append, get_or_default}
use Rattle.std.proofs.lemmas.List.Sums.{sum_by-cons, sum_by_push}
use Rattle.gu_types.specs.Depth.{types_of}
use Rattle.gu_rec.specs.Keys.{run}
use Rattle.gu_types.specs.declared.types.TypeList.{TypeList}
use Rattle.gu_rec.specs.Closed.{SameType}
use Rattle.gu_types.specs.declared.types.HeapType.TheVariants as H
use Rattle.gu_contents.proofs.Heights.{least_is, least_same, least_least, least_in_range}
use Rattle.gu_contents.proofs.Heaps.{same_self, same_through}
use Rattle.gu_contents.specs.declared.facts.Facts.{Facts}
use Rattle.gu_contents.specs.Contents.{least_of}
use Rattle.gu_links.specs.Cells.{slot_cell, param_cell, out_cell, own_cells, own_slots, slots_of, slots_before, before_func, is_least, params_of, results_of}
use Rattle.gu_links.specs.Over.{has_slot}

-- a part of a sum over a run of numbers, with one more of its terms
pub run_part : (g : ℕ → ℕ) (first count i : ℕ) → i < count → sum_by g (run first i) + g (first + i) ≤ sum_by g (run first count)
run_part g first zero i lt = absurd (omega arith)
run_part g first (suc count) zero lt =
    let e = sum_by-cons g first (run (suc first) count) in let z : g (first + 0) ≡ g first = ap g (omega arith) in omega arith
run_part g first (suc count) (suc i) lt =
    let e = sum_by-cons g first (run (suc first) count) in
    let d = sum_by-cons g first (run (suc first) i) in
    let z : g (first + suc i) ≡ g (suc first + i) = ap g (omega arith) in
    let h = run_part g (suc first) count i (omega arith) in omega arith

own_slots_is : (f : Facts) (s : ℕ) → is_least f.types s ≡ true → own_slots f.types s ≡ slots_of f.types s
own_slots_is f s e = cond-true (is_least f.types s) (slots_of f.types s) 0 e

pub slot_within : (f : Facts) (s slot : ℕ) → s < length (types_of f.types) → is_least f.types s ≡ true → has_slot f slot s ≡ true → slot_cell f s slot < own_cells f
unfolding slot_cell own_cells
slot_within f s slot lt least has =
    let e : slots_before f (least_of f.types s) ≡ slots_before f s = ap (slots_before f) (eqb-true (least_of f.types s) s least) in
    let part = run_part (own_slots f.types) 0 (length (types_of f.types)) s lt in
    let z : own_slots f.types (0 + s) ≡ own_slots f.types s = ap (own_slots f.types) (omega arith) in
    let own = own_slots_is f s least in
    let h = ltb-true slot (slots_of f.types s) has in omega arith

func_part : (f : Facts) (g : ℕ) → g < length f.funcs → before_func f g + (params_of f g + results_of f g) ≤ own_cells f
unfolding own_cells
func_part f g lt =
    let part = run_part (λ h. params_of f h + results_of f h) 0 (length f.funcs) g lt in
    let z : params_of f (0 + g) + results_of f (0 + g) ≡ params_of f g + results_of f g = ap (λ h. params_of f h + results_of f h) (omega arith) in omega arith

pub param_within : (f : Facts) (g j : ℕ) → g < length f.funcs → j < params_of f g → param_cell f g j < own_cells f
unfolding param_cell
param_within f g j lt h = let part = func_part f g lt in omega arith

pub out_within : (f : Facts) (g j : ℕ) → g < length f.funcs → j < results_of f g → out_cell f g j < own_cells f
unfolding out_cell
out_within f g j lt h = let part = func_part f g lt in omega arith

-- whether an index is the least of its type, by the least index that denotes the same type
pub is_least_by : (list : TypeList) (i r : ℕ) → SameType list i list r → ((j : ℕ) → SameType list i list j → r ≤ j) → is_least list i ≡ nat_eq r i
is_least_by list i r same least = ap (λ k. nat_eq k i) (sym (least_is list i r same least))

pub own_slots_other : (list : TypeList) (i r : ℕ) → SameType list i list r → ((j : ℕ) → SameType list i list j → r ≤ j) → (r ≡ i → ⊥) → 0 ≡ own_slots list i
own_slots_other list i r same least e = sym (cond-false (is_least list i) (slots_of list i) 0 (is_least_by list i r same least ∙ ne_eqb r i e))

-- a sum over a run of numbers, with one more
run_more : (first count : ℕ) → run first (suc count) ≡ run first count ++ (first + count) ∷ []
run_more first zero = ap (λ n. n ∷ []) (omega arith)
run_more first (suc count) = ap (λ ns. first ∷ ns) (run_more (suc first) count ∙ ap (λ n. run (suc first) count ++ n ∷ []) (omega arith))

pub sum_more : (g : ℕ → ℕ) (count : ℕ) → sum_by g (run 0 (count + 1)) ≡ sum_by g (run 0 count) + g count
sum_more g count =
    let one : count + 1 ≡ suc count = omega arith in
    ap (λ n. sum_by g (run 0 n)) one ∙ (ap (sum_by g) (run_more 0 count) ∙ (sum_by_push g (run 0 count) (0 + count) ∙ ap (λ n. sum_by g (run 0 count) + g n) (omega arith)))

pub slots_next : (f : Facts) (ty : ℕ) → slots_before f (ty + 1) ≡ slots_before f ty + own_slots f.types ty
slots_next f ty = sum_more (own_slots f.types) ty

pub func_first : (f : Facts) → before_func f 0 ≡ slots_before f (length (types_of f.types))
func_first f = omega arith

pub funcs_next : (f : Facts) (g : ℕ) → before_func f (g + 1) ≡ before_func f g + (params_of f g + results_of f g)
funcs_next f g = let e = sum_more (λ h. params_of f h + results_of f h) g in omega arith

-- the places at which counted things begin, with one more
pub starts_more : (g : ℕ → ℕ) (items new : List ℕ) (end : ℕ) → ((k : ℕ) → k < length items → get_or items k 0 ≡ g k) → end ≡ g (length items) → new ≡ items ++ end ∷ [] → (k : ℕ) → k < length new → get_or new k 0 ≡ g k
starts_more g items new end h e is k lt = ⊎_elim
    (λ (l : k < length items). ap (λ xs. get_or xs k 0) is ∙ (get_or_append_left items (end ∷ []) 0 k l ∙ h k l))
    (λ (l : length items ≤ k).
    let there : k ≡ length items = omega (arith, ap length is, length-append items (end ∷ [])) in
    ap (λ xs. get_or xs k 0) is ∙ (ap (λ j. get_or (items ++ end ∷ []) j 0) there ∙ (get_or_push items end 0 (length items) refl ∙ (e ∙ ap g (sym there)))))
    (cases_lt k (length items))

-- what is read of a list is what the list has there
pub read_is : (xs : List ℕ) (g : ℕ → ℕ) (k x : ℕ) → k < length xs → x ≡ get_or xs k x → ((i : ℕ) → i < length xs → get_or xs i 0 ≡ g i) → x ≡ g k
read_is xs g k x lt e h = e ∙ (get_or_default xs k x 0 lt ∙ h k lt)

pub out_is : (f : Facts) (g j : ℕ) → before_func f g + (params_of f g + j) ≡ out_cell f g j
unfolding out_cell
out_is f g j = refl

pub param_is : (f : Facts) (g j : ℕ) → before_func f g + j ≡ param_cell f g j
unfolding param_cell
param_is f g j = refl

-- the cell of a slot, by the least index of its type
pub slot_is : (f : Facts) (ty slot r : ℕ) → SameType f.types ty f.types r → ((j : ℕ) → SameType f.types ty f.types j → r ≤ j) → slots_before f r + slot ≡ slot_cell f ty slot
unfolding slot_cell
slot_is f ty slot r same least = ap (λ k. slots_before f k + slot) (least_is f.types ty r same least)

-- the least index of a type is its own least
pub least_again : (list : TypeList) (ty : ℕ) → least_of list (least_of list ty) ≡ least_of list ty
least_again list ty =
    sym (least_is list (least_of list ty) (least_of list ty) (same_self list (least_of list ty)) (λ j same. least_least list ty j (same_through list ty (least_of list ty) j (least_same list ty) same)))

pub slot_least_within : (f : Facts) (ty slot : ℕ) → ty < length (types_of f.types) → slot < slots_of f.types (least_of f.types ty) → slot_cell f ty slot < own_cells f
unfolding slot_cell
slot_least_within f ty slot lt has =
    let r = least_of f.types ty in
    let w = slot_within f r slot (least_in_range f.types (H.Idx ty) lt) (eq-eqb (least_of f.types r) r (least_again f.types ty)) (lt-ltb slot (slots_of f.types r) has) in
    subst (λ k. slots_before f k + slot < own_cells f) (least_again f.types ty) w

pub least_below : (f : Facts) (ty r n : ℕ) → ty < length (types_of f.types) → n ≡ length (types_of f.types) → SameType f.types ty f.types r → ((j : ℕ) → SameType f.types ty f.types j → r ≤ j) → r < n
least_below f ty r n lt is same least =
    let e = least_is f.types ty r same least in
    let h : least_of f.types ty < length (types_of f.types) = least_in_range f.types (H.Idx ty) lt in omega arith
