-- Which type or function has each of the first cells.
use Rattle.std.proofs.Common.{◌≡◌, ◌∙◌, ℕ, zero, suc, ◌+◌, ◌<◌, ◌≤◌, ◌-◌, true, false, ⊎_elim, List, [], ◌∷◌, ◌++◌, length, get_or, map, append_assoc, refl, sym, ap, subst, arith}
use Rattle.std.specs.Prelude.{flat_map, replicate, sum_by}
use Rattle.std.proofs.lemmas.Bool.{cond-true, cond-false, cases_Bool, cases_lt, eqb-true, ltb-true}
use Rattle.std.proofs.lemmas.List.{get_or_append_left, get_or-append-add, get_or_default, length-append, length-replicate, get_or-replicate, flat_map_more, replicate-append-replicate}
use Rattle.std.proofs.lemmas.List.Sums.{sum_by-cons}
use Rattle.gu_types.specs.Depth.{types_of}
use Rattle.gu_rec.specs.Keys.{run}
use Rattle.gu_rec.proofs.Numbers.{run_more}
use Rattle.gu_contents.specs.declared.facts.Facts.{Facts}
use Rattle.gu_links.specs.declared.index.Cells.{Cells}
use Rattle.gu_contents.specs.Contents.{least_of}
use Rattle.gu_links.specs.Over.{has_slot}
use Rattle.gu_links.specs.Next.{SlotsBefore, ResultsBefore}
use Rattle.gu_links.specs.Cells.{slot_cell, out_cell, own_cells, own_slots, slots_of, slots_before, before_func, is_least, params_of, results_of}
use Rattle.gu_links.specs.Index.{CellsAre, owned, own_places}
use Rattle.gu_links.proofs.Within.{run_part, sum_more}

run_next : (n : ℕ) → run 0 (n + 1) ≡ run 0 n ++ n ∷ []
run_next n = run_more 0 n ∙ ap (λ (m : ℕ). run 0 n ++ m ∷ []) (let z : 0 + n ≡ n = omega arith in z)

-- what is made of each number below another, with one more
map_push : (g : ℕ → ℕ) (xs : List ℕ) (n : ℕ) → map g (xs ++ n ∷ []) ≡ map g xs ++ g n ∷ []
map_push g [] n = refl
map_push g (x ∷ xs) n = ap (λ (ys : List ℕ). g x ∷ ys) (map_push g xs n)

pub mapped_next : (g : ℕ → ℕ) (n : ℕ) → map g (run 0 (n + 1)) ≡ map g (run 0 n) ++ g n ∷ []
mapped_next g n = ap (map g) (run_next n) ∙ map_push g (run 0 n) n

mapped_long : (g : ℕ → ℕ) (first n : ℕ) → length (map g (run first n)) ≡ n
mapped_long g first zero = refl
mapped_long g first (suc n) = ap suc (mapped_long g (suc first) n)

mapped_from : (g : ℕ → ℕ) (first n i : ℕ) → i < n → get_or (map g (run first n)) i 0 ≡ g (first + i)
mapped_from g first zero i lt = absurd (omega arith)
mapped_from g first (suc n) zero lt = ap g (let z : first ≡ first + 0 = omega arith in z)
mapped_from g first (suc n) (suc i) lt = mapped_from g (suc first) n i (omega arith) ∙ ap g (let z : suc first + i ≡ first + suc i = omega arith in z)

mapped_at : (g : ℕ → ℕ) (n i : ℕ) → i < n → get_or (map g (run 0 n)) i 0 ≡ g i
mapped_at g n i lt = mapped_from g 0 n i lt ∙ ap g (let z : 0 + i ≡ i = omega arith in z)

-- numbers, each as often as a count says
abbrev each : (ℕ → ℕ) → ℕ → List ℕ
each g k = replicate (g k) k

owned_from_long : (g : ℕ → ℕ) (first n : ℕ) → length (flat_map (each g) (run first n)) ≡ sum_by g (run first n)
owned_from_long g first zero = refl
owned_from_long g first (suc n) =
    let a = length-append (replicate (g first) first) (flat_map (each g) (run (suc first) n)) in
    let b = length-replicate (g first) first in
    let c = owned_from_long g (suc first) n in
    let d = sum_by-cons g first (run (suc first) n) in omega arith

pub owned_long : (g : ℕ → ℕ) (n : ℕ) → length (owned g n) ≡ sum_by g (run 0 n)
owned_long g n = owned_from_long g 0 n

owned_from_at : (g : ℕ → ℕ) (first n i s : ℕ) → i < n → s < g (first + i) → get_or (flat_map (each g) (run first n)) (sum_by g (run first i) + s) 0 ≡ first + i
owned_from_at g first zero i s lt h = absurd (omega arith)
owned_from_at g first (suc n) zero s lt h =
    let z : first + 0 ≡ first = omega arith in
    let few : s < g first = subst (λ (k : ℕ). s < g k) z h in
    let there : s < length (replicate (g first) first) = subst (λ (k : ℕ). s < k) (sym (length-replicate (g first) first)) few in
    ap (λ (k : ℕ). get_or (replicate (g first) first ++ flat_map (each g) (run (suc first) n)) k 0) (let e : 0 + s ≡ s = omega arith in e)
    ∙ get_or_append_left (replicate (g first) first) (flat_map (each g) (run (suc first) n)) 0 s there
    ∙ get_or-replicate (g first) s first 0 few
    ∙ sym z
owned_from_at g first (suc n) (suc i) s lt h =
    let z : first + suc i ≡ suc first + i = omega arith in
    let a = sum_by-cons g first (run (suc first) i) in
    let b = length-replicate (g first) first in
    ap (λ (k : ℕ). get_or (replicate (g first) first ++ flat_map (each g) (run (suc first) n)) k 0)
    (let e : sum_by g (run first (suc i)) + s ≡ length (replicate (g first) first) + (sum_by g (run (suc first) i) + s) = omega arith in e)
    ∙ get_or-append-add (replicate (g first) first) (flat_map (each g) (run (suc first) n)) (sum_by g (run (suc first) i) + s) 0
    ∙ owned_from_at g (suc first) n i s (omega arith) (subst (λ (k : ℕ). s < g k) z h)
    ∙ sym z

owned_at : (g : ℕ → ℕ) (n i s : ℕ) → i < n → s < g i → get_or (owned g n) (sum_by g (run 0 i) + s) 0 ≡ i
owned_at g n i s lt h = let z : 0 + i ≡ i = omega arith in owned_from_at g 0 n i s lt (subst (λ (k : ℕ). s < g k) (sym z) h) ∙ z

owned_within : (g : ℕ → ℕ) (n i s : ℕ) → i < n → s < g i → sum_by g (run 0 i) + s < length (owned g n)
owned_within g n i s lt h =
    let part = run_part g 0 n i lt in
    let z : g (0 + i) ≡ g i = ap g (omega arith) in
    let long = owned_long g n in omega arith

-- one more has its cells
pub owned_next : (g : ℕ → ℕ) (before : List ℕ) (n : ℕ) → (before ++ owned g n) ++ replicate (g n) n ≡ before ++ owned g (n + 1)
owned_next g before n = flat_map_more (each g) before (run 0 n) n ∙ ap (λ (xs : List ℕ). before ++ flat_map (each g) xs) (sym (run_next n))

-- the cells of a function are those of its parameters and those of its results
pub places_next : (f : Facts) (before : List ℕ) (g : ℕ) → ((before ++ owned (own_places f) g) ++ replicate (params_of f g) g) ++ replicate (results_of f g) g ≡ before ++ owned (own_places f) (g + 1)
places_next f before g =
    append_assoc (before ++ owned (own_places f) g) (replicate (params_of f g) g) (replicate (results_of f g) g)
    ∙ ap (λ (xs : List ℕ). (before ++ owned (own_places f) g) ++ xs) (replicate-append-replicate (params_of f g) (results_of f g) g)
    ∙ owned_next (own_places f) before g

-- where the next function's cells begin
pub functions_long : (f : Facts) (g : ℕ) → length (owned (own_slots f.types) (length (types_of f.types)) ++ owned (own_places f) g) ≡ before_func f g
functions_long f g =
    let a = length-append (owned (own_slots f.types) (length (types_of f.types))) (owned (own_places f) g) in
    let b = owned_long (own_slots f.types) (length (types_of f.types)) in
    let c = owned_long (own_places f) g in omega arith

-- tables that are made so are those of the facts
module _ (f : Facts) (cells : Cells) where
  abbrev types : ℕ
  types = length (types_of f.types)

  abbrev AreOwners : Type 0
  AreOwners = cells.owners.items ≡ owned (own_slots f.types) types ++ owned (own_places f) (length f.funcs)

  type_owns : AreOwners → (ty slot : ℕ) → ty < types → is_least f.types ty ≡ true → slot < slots_of f.types ty → get_or cells.owners.items (slots_before f ty + slot) 0 ≡ ty
  type_owns owners ty slot lt least has =
      let own : slot < own_slots f.types ty = subst (λ (n : ℕ). slot < n) (sym (cond-true (is_least f.types ty) (slots_of f.types ty) 0 least)) has in
      let within : slots_before f ty + slot < length (owned (own_slots f.types) types) = owned_within (own_slots f.types) types ty slot lt own in
      ap (λ (xs : List ℕ). get_or xs (slots_before f ty + slot) 0) owners
      ∙ get_or_append_left (owned (own_slots f.types) types) (owned (own_places f) (length f.funcs)) 0 (slots_before f ty + slot) within
      ∙ owned_at (own_slots f.types) types ty slot lt own

  function_owns : AreOwners → (g j : ℕ) → g < length f.funcs → j < params_of f g + results_of f g → get_or cells.owners.items (before_func f g + j) 0 ≡ g
  function_owns owners g j lt has =
      let long = owned_long (own_slots f.types) types in
      ap (λ (xs : List ℕ). get_or xs (before_func f g + j) 0) owners
      ∙ ap (λ (k : ℕ). get_or (owned (own_slots f.types) types ++ owned (own_places f) (length f.funcs)) k 0)
      (let e : before_func f g + j ≡ length (owned (own_slots f.types) types) + (sum_by (own_places f) (run 0 g) + j) = omega arith in e)
      ∙ get_or-append-add (owned (own_slots f.types) types) (owned (own_places f) (length f.funcs)) (sum_by (own_places f) (run 0 g) + j) 0
      ∙ owned_at (own_places f) (length f.funcs) g j lt has

  pub cells_are : cells.slots.items ≡ map (slots_before f) (run 0 types) → cells.params.items ≡ map (before_func f) (run 0 (length f.funcs))
      → cells.results.items ≡ map (λ g. before_func f g + params_of f g) (run 0 (length f.funcs))
      → cells.owners.items ≡ owned (own_slots f.types) types ++ owned (own_places f) (length f.funcs) → cells.slot_cells ≡ slots_before f types → CellsAre f cells
  unfolding own_cells
  cells_are slots params results owners end = record {
    slots_long = ap length slots ∙ mapped_long (slots_before f) 0 types;
    slots_are = λ ty lt. ap (λ (xs : List ℕ). get_or xs ty 0) slots ∙ mapped_at (slots_before f) types ty lt;
    params_long = ap length params ∙ mapped_long (before_func f) 0 (length f.funcs);
    params_are = λ g lt. ap (λ (xs : List ℕ). get_or xs g 0) params ∙ mapped_at (before_func f) (length f.funcs) g lt;
    results_long = ap length results ∙ mapped_long (λ g. before_func f g + params_of f g) 0 (length f.funcs);
    results_are = λ g lt. ap (λ (xs : List ℕ). get_or xs g 0) results ∙ mapped_at (λ g. before_func f g + params_of f g) (length f.funcs) g lt;
    owners_long = ap length owners ∙ functions_long f (length f.funcs);
    slots_end = end;
    types_own = type_owns owners;
    functions_own = function_owns owners;
  }

-- the number that has a place among numbers, each as often as a count says
pub record Located (g : ℕ → ℕ) (n c : ℕ) : Type 0 where
  pub owner : ℕ
  pub within : ℕ
  pub below : owner < n
  pub has : within < g owner
  pub is : c ≡ sum_by g (run 0 owner) + within

pub located : (g : ℕ → ℕ) (n c : ℕ) → c < sum_by g (run 0 n) → Located g n c
located g zero c lt = absurd (omega arith)
located g (suc n) c lt =
    let more = sum_more g n in
    let one : sum_by g (run 0 (n + 1)) ≡ sum_by g (run 0 (suc n)) = ap (λ (k : ℕ). sum_by g (run 0 k)) (let e : n + 1 ≡ suc n = omega arith in e) in
    ⊎_elim
    (λ (h : c < sum_by g (run 0 n)). let l = located g n c h in record { owner = l.owner; within = l.within; below = let b = l.below in omega arith; has = l.has; is = l.is })
    (λ (h : sum_by g (run 0 n) ≤ c). record { owner = n; within = c - sum_by g (run 0 n); below = omega arith; has = omega arith; is = omega arith })
    (cases_lt c (sum_by g (run 0 n)))

-- the type that has a cell of a slot, and that all slots of the types before it stand before it
module _ (f : Facts) (cells : Cells) (are : CellsAre f cells) where
  pub slot_before : (t slot n : ℕ) → t < n → is_least f.types t ≡ true → has_slot f slot t ≡ true → slot_cell f t slot < slots_before f n
  unfolding slot_cell
  slot_before t slot n lt least has =
      let e : slots_before f (least_of f.types t) ≡ slots_before f t = ap (slots_before f) (eqb-true (least_of f.types t) t least) in
      let part = run_part (own_slots f.types) 0 n t lt in
      let z : own_slots f.types (0 + t) ≡ own_slots f.types t = ap (own_slots f.types) (omega arith) in
      let own = cond-true (is_least f.types t) (slots_of f.types t) 0 least in
      let h = ltb-true slot (slots_of f.types t) has in omega arith

  pub least_owner : (t s : ℕ) → s < own_slots f.types t → (is_least f.types t ≡ true) × (s < slots_of f.types t)
  least_owner t s h = ⊎_elim
      (λ (e : is_least f.types t ≡ true). (e, subst (λ (n : ℕ). s < n) (cond-true (is_least f.types t) (slots_of f.types t) 0 e) h))
      (λ (e : is_least f.types t ≡ false). absurd (let z = cond-false (is_least f.types t) (slots_of f.types t) 0 e in omega arith))
      (cases_Bool (is_least f.types t))

  pub type_found : (c t : ℕ) → c < cells.slot_cells → t ≡ get_or cells.owners.items c t → c < length cells.owners.items → SlotsBefore f c t
  type_found c t lt e long u slot below range least has =
      let l = located (own_slots f.types) (length (types_of f.types)) c (subst (λ (n : ℕ). c < n) are.slots_end lt) in
      let o = least_owner l.owner l.within l.has in
      let owner : get_or cells.owners.items c 0 ≡ l.owner = ap (λ (k : ℕ). get_or cells.owners.items k 0) l.is ∙ are.types_own l.owner l.within l.below o.0 o.1 in
      let is : t ≡ l.owner = e ∙ get_or_default cells.owners.items c t 0 long ∙ owner in
      let before = slot_before u slot l.owner (subst (λ (n : ℕ). u < n) is below) least has in
      let at = l.is in omega arith

  pub types_end : (c : ℕ) → cells.slot_cells ≤ c → SlotsBefore f c (length (types_of f.types))
  types_end c past u slot below range least has =
      let before = slot_before u slot (length (types_of f.types)) range least has in
      let end = are.slots_end in omega arith

  pub slots_long : cells.slot_cells ≤ length cells.owners.items
  unfolding own_cells
  slots_long = let a = are.slots_end in let b = are.owners_long in omega arith

  result_before : (g place n : ℕ) → g < n → place < results_of f g → out_cell f g place < before_func f n
  unfolding out_cell
  result_before g place n lt h =
      let part = run_part (own_places f) 0 n g lt in
      let z : own_places f (0 + g) ≡ own_places f g = ap (own_places f) (omega arith) in omega arith

  pub functions_end : (c : ℕ) → length cells.owners.items ≤ c → ResultsBefore f c (length f.funcs)
  unfolding own_cells
  functions_end c past g place below range has = let b = result_before g place (length f.funcs) range has in let l = are.owners_long in omega arith

  pub function_found : (c g : ℕ) → cells.slot_cells ≤ c → c < length cells.owners.items → g ≡ get_or cells.owners.items c g → ResultsBefore f c g
  unfolding own_cells
  function_found c g past long e h place below range has =
      let slots : ℕ = slots_before f (length (types_of f.types)) in
      let first : slots ≤ c = let a = are.slots_end in omega arith in
      let all : c < slots + sum_by (own_places f) (run 0 (length f.funcs)) = let a = are.owners_long in omega arith in
      let l = located (own_places f) (length f.funcs) (c - slots) (omega arith) in
      let at : c ≡ before_func f l.owner + l.within = let i = l.is in omega arith in
      let owner : get_or cells.owners.items c 0 ≡ l.owner = ap (λ (k : ℕ). get_or cells.owners.items k 0) at ∙ are.functions_own l.owner l.within l.below l.has in
      let is : g ≡ l.owner = e ∙ get_or_default cells.owners.items c g 0 long ∙ owner in
      let before = result_before h place l.owner (subst (λ (n : ℕ). h < n) is below) has in
      omega arith
