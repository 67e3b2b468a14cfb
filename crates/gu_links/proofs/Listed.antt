-- Where the links are listed that read a cell.
use Rattle.std.proofs.Common.{◌≡◌, ◌∙◌, ℕ, suc, ◌+◌, ◌<◌, ◌≤◌, ◌-◌, ◌||◌, Bool, true, false, cond, Option, Some, None, option_map, List, length, get_or, refl, sym, ap, subst, ⊎_elim, arith}
use Rattle.std.specs.Prelude.{slice_index, sum_by, nat_eq, nat_lt, nat_le}
use Rattle.std.proofs.lemmas.Bool.{cond-true, cond-false, cases_lt, eqb-true, eq-eqb, ne_eqb, ltb-true, ltb-false, lt-ltb, le-ltb, lt-leb, le-leb}
use Rattle.std.proofs.lemmas.Option.{slice_get_past}
use Rattle.gu_types.specs.declared.types.HeapType.TheVariants as H
use Rattle.gu_types.specs.Depth.{types_of, parent, depth}
use Rattle.gu_rec.specs.Keys.{run}
use Rattle.gu_rec.specs.Closed.{SameType}
use Rattle.gu_rec.specs.Tests.{same_type}
use Rattle.gu_rec.specs.Sub.{distance, same_heap, line}
use Rattle.gu_rec.specs.Table.{place}
use Rattle.gu_rec.proofs.Places.{index_root, index_step}
use Rattle.gu_rec.proofs.Queries.{distance_is}
use Rattle.gu_rec.proofs.Same.{same_type_decides}
use Rattle.gu_contents.specs.declared.facts.Facts.{Facts}
use Rattle.gu_contents.specs.Contents.{least_of}
use Rattle.gu_contents.proofs.Heaps.{same_back, same_through}
use Rattle.gu_contents.proofs.Heights.{least_is, least_same, least_least, least_in_range}
use Rattle.gu_links.specs.declared.index.Cells.{Cells}
use Rattle.gu_links.specs.Cells.{comp_results, count_of, slot_cell, out_cell, own_cells, own_slots, slots_of, slots_before, before_func, is_least, params_of, results_of}
use Rattle.gu_links.specs.Index.{CellsAre, own_places}
use Rattle.gu_links.specs.Ways.{ReadsSlot, ReadsResult}
use Rattle.gu_links.specs.declared.link.Link.{Link}
use Rattle.gu_links.specs.declared.readers.Place.TheVariants as P
use Rattle.gu_links.specs.Listed.{result_of, result_owner, result_place, owner_place, fixed_place, slot_place, type_place, IsPlace}
use Rattle.gu_links.proofs.Within.{slot_within, out_within, least_again}
use Rattle.gu_links.proofs.Tables.{read}
use Rattle.gu_links.proofs.Owning.{located, least_owner, slot_before}
use Rattle.gu_links.proofs.Sized.{least_slots}

-- a function that has a result has a type
result_typed : (f : Facts) (g : ℕ) → 0 < results_of f g → slice_index f.funcs g < length (types_of f.types)
result_typed f g h = ⊎_elim
    (λ (lt : slice_index f.funcs g < length (types_of f.types)). lt)
    (λ (past : length (types_of f.types) ≤ slice_index f.funcs g).
    let none : results_of f g ≡ 0 = ap (count_of comp_results) (slice_get_past (types_of f.types) (slice_index f.funcs g) past) in absurd (omega arith))
    (cases_lt (slice_index f.funcs g) (length (types_of f.types)))

-- the function that has a cell, and which of its places the cell is
pub record OwnedBy (f : Facts) (cells : Cells) (c : ℕ) : Type 0 where
  pub function : ℕ
  pub within : ℕ
  pub below : function < length f.funcs
  pub has : within < params_of f function + results_of f function
  pub at : c ≡ before_func f function + within
  pub is : get_or cells.owners.items c 0 ≡ function

-- the type that has the cell of a slot, and which of its slots it is
pub record SlotOf (f : Facts) (cells : Cells) (c : ℕ) : Type 0 where
  pub type : ℕ
  pub slot : ℕ
  pub below : type < length (types_of f.types)
  pub least : is_least f.types type ≡ true
  pub has : slot < slots_of f.types type
  pub at : c ≡ slots_before f type + slot
  pub is : get_or cells.owners.items c 0 ≡ type

module _ (f : Facts) (cells : Cells) (are : CellsAre f cells) where
  pub owned_by : (c : ℕ) → cells.slot_cells ≤ c → c < length cells.owners.items → OwnedBy f cells c
  unfolding own_cells
  owned_by c past long =
      let slots : ℕ = slots_before f (length (types_of f.types)) in
      let first : slots ≤ c = let a = are.slots_end in omega arith in
      let all : c < slots + sum_by (own_places f) (run 0 (length f.funcs)) = let a = are.owners_long in omega arith in
      let l = located (own_places f) (length f.funcs) (c - slots) (omega arith) in
      let at : c ≡ before_func f l.owner + l.within = let i = l.is in omega arith in
      record {
        function = l.owner;
        within = l.within;
        below = l.below;
        has = l.has;
        at = at;
        is = ap (λ (k : ℕ). get_or cells.owners.items k 0) at ∙ are.functions_own l.owner l.within l.below l.has;
      }

  pub slot_of : (c : ℕ) → c < cells.slot_cells → SlotOf f cells c
  slot_of c lt =
      let l = located (own_slots f.types) (length (types_of f.types)) c (subst (λ (n : ℕ). c < n) are.slots_end lt) in
      let o = least_owner f cells are l.owner l.within l.has in
      record {
        type = l.owner;
        slot = l.within;
        below = l.below;
        least = o.0;
        has = o.1;
        at = l.is;
        is = ap (λ (k : ℕ). get_or cells.owners.items k 0) l.is ∙ are.types_own l.owner l.within l.below o.0 o.1;
      }

  -- no function has the cell of a slot
  slot_owner : (c : ℕ) → c < cells.slot_cells → result_owner cells c ≡ None
  slot_owner c lt = ap (λ (b : Bool). cond (b || nat_le (length cells.owners.items) c) None (result_of cells (slice_index cells.owners.items c) c)) (lt-ltb c cells.slot_cells lt)

  -- a function has the cells of its results
  out_owner : (g j : ℕ) → g < length f.funcs → j < results_of f g → result_owner cells (out_cell f g j) ≡ Some g
  unfolding out_cell
  out_owner g j lt h =
      let c : ℕ = before_func f g + (params_of f g + j) in
      let past : nat_lt c cells.slot_cells ≡ false = le-ltb c cells.slot_cells (let e = are.slots_end in omega arith) in
      let long : nat_le (length cells.owners.items) c ≡ false = lt-leb (length cells.owners.items) c (let e = are.owners_long in let w = out_within f g j lt h in omega arith) in
      let own : slice_index cells.owners.items c ≡ g = are.functions_own g (params_of f g + j) lt (omega arith) in
      let behind : nat_lt c (slice_index cells.results.items g) ≡ false = le-ltb c (slice_index cells.results.items g) (let e = are.results_are g lt in omega arith) in
      ap (λ (b : Bool). cond (b || nat_le (length cells.owners.items) c) None (result_of cells (slice_index cells.owners.items c) c)) past
      ∙ ap (λ (b : Bool). cond b None (result_of cells (slice_index cells.owners.items c) c)) long
      ∙ ap (λ (h : ℕ). result_of cells h c) own
      ∙ cond-false (nat_lt c (slice_index cells.results.items g)) None (Some g) behind

-- one step up
later : (b : Bool) (o : Option ℕ) (n : ℕ) → cond b (Some 0) (option_map suc o) ≡ Some (suc n) → o ≡ Some n
later true o n e = let z : 0 ≡ suc n = cc in absurd (omega arith)
later false None n e = absurd cc
later false (Some k) n e = let z : suc k ≡ suc n = cc in ap (λ (m : ℕ). Some m) (omega arith)

ended : (b : Bool) (n : ℕ) → cond b (Some 0) None ≡ Some (suc n) → ⊥
ended true n e = let z : 0 ≡ suc n = cc in omega arith
ended false n e = cc

reached : (b : Bool) (o : Option ℕ) → cond b (Some 0) (option_map suc o) ≡ Some 0 → b ≡ true
reached true o e = refl
reached false None e = absurd cc
reached false (Some k) e = let z : suc k ≡ 0 = cc in absurd (omega arith)

module _ (f : Facts) where
  stands : (above at : ℕ) → distance f.types (H.Idx above) (H.Idx at) ≡ place (same_heap f.types (H.Idx above)) (line f.types (H.Idx at))
  stands above at = distance_is f.types (H.Idx above) (H.Idx at)

  pub step_up : (above at p n : ℕ) → parent (types_of f.types) at ≡ Some p → distance f.types (H.Idx above) (H.Idx at) ≡ Some (n + 1) → distance f.types (H.Idx above) (H.Idx p) ≡ Some n
  step_up above at p n e d =
      stands above p ∙ later (same_type f.types above f.types at) (place (same_heap f.types (H.Idx above)) (line f.types (H.Idx p))) n
      (sym (index_step f.types above at p e) ∙ sym (stands above at) ∙ d ∙ ap (λ (m : ℕ). Some m) (let z : n + 1 ≡ suc n = omega arith in z))

  pub no_step : (above at n : ℕ) → parent (types_of f.types) at ≡ None → distance f.types (H.Idx above) (H.Idx at) ≡ Some (n + 1) → ⊥
  no_step above at n e d =
      ended (same_type f.types above f.types at) n
      (sym (index_root f.types above at e) ∙ sym (stands above at) ∙ d ∙ ap (λ (m : ℕ). Some m) (let z : n + 1 ≡ suc n = omega arith in z))

  same_here : (above at : ℕ) (o : Option ℕ) → parent (types_of f.types) at ≡ o → distance f.types (H.Idx above) (H.Idx at) ≡ Some 0 → same_type f.types above f.types at ≡ true
  same_here above at None e d = reached (same_type f.types above f.types at) None (sym (index_root f.types above at e) ∙ sym (stands above at) ∙ d)
  same_here above at (Some p) e d =
      reached (same_type f.types above f.types at) (place (same_heap f.types (H.Idx above)) (line f.types (H.Idx p))) (sym (index_step f.types above at p e) ∙ sym (stands above at) ∙ d)

  same_least : (i j : ℕ) → SameType f.types i f.types j → least_of f.types i ≡ least_of f.types j
  same_least i j s =
      sym (least_is f.types i (least_of f.types j) (same_through f.types i j (least_of f.types j) s (least_same f.types j)) (λ k t. least_least f.types j k (same_through f.types j i k (same_back f.types i j s) t)))

  -- at the end stands the type itself
  pub no_further : (above at : ℕ) → distance f.types (H.Idx above) (H.Idx at) ≡ Some 0 → least_of f.types above ≡ least_of f.types at
  no_further above at d = same_least above at ((same_type_decides f.types f.types above at).0 (same_here above at (parent (types_of f.types) at) refl d))

  pub least_least_of : (i r : ℕ) → SameType f.types i f.types r → ((j : ℕ) → SameType f.types i f.types j → r ≤ j) → is_least f.types r ≡ true
  least_least_of i r same least =
      let e = least_is f.types i r same least in
      eq-eqb (least_of f.types r) r (ap (least_of f.types) e ∙ least_again f.types i ∙ sym e)

-- a function that has a cell for a result has a type of the facts
pub record IsTyped (f : Facts) (g : ℕ) : Type 0 where
  pub below : g < length f.funcs
  pub typed : slice_index f.funcs g < length (types_of f.types)

module _ (f : Facts) (cells : Cells) (are : CellsAre f cells) where
  typed_here : (c h g : ℕ) (b : Bool) → h < length f.funcs → (w : ℕ) → w < params_of f h + results_of f h → c ≡ before_func f h + w → nat_lt c (slice_index cells.results.items h) ≡ b → cond b None (Some h) ≡ Some g → IsTyped f g
  typed_here c h g true lt w has at b e = absurd cc
  typed_here c h g false lt w has at b e =
      let same : h ≡ g = cc in
      let behind = ltb-false c (slice_index cells.results.items h) b in
      let first = are.results_are h lt in
      subst (IsTyped f) same (record { below = lt; typed = result_typed f h (omega arith) })

  typed_past : (c g : ℕ) → cells.slot_cells ≤ c → c < length cells.owners.items → result_of cells (slice_index cells.owners.items c) c ≡ Some g → IsTyped f g
  typed_past c g past long e =
      let o = owned_by f cells are c past long in
      typed_here c o.function g (nat_lt c (slice_index cells.results.items o.function)) o.below o.within o.has o.at refl (sym (ap (λ (h : ℕ). result_of cells h c) o.is) ∙ e)

  -- who has a cell behind those of slots
  owner_result : (c h : ℕ) → cells.slot_cells ≤ c → c < length cells.owners.items → h ≡ get_or cells.owners.items c 0 → result_owner cells c ≡ result_of cells h c
  owner_result c h past long own =
      ap (λ (b : Bool). cond (b || nat_le (length cells.owners.items) c) None (result_of cells (slice_index cells.owners.items c) c)) (le-ltb c cells.slot_cells past)
      ∙ ap (λ (b : Bool). cond b None (result_of cells (slice_index cells.owners.items c) c)) (lt-leb (length cells.owners.items) c long)
      ∙ ap (λ (k : ℕ). result_of cells k c) (sym own)

  pub owner_none : (c h : ℕ) → cells.slot_cells ≤ c → c < length cells.owners.items → h ≡ get_or cells.owners.items c 0 → c < slice_index cells.results.items h → result_owner cells c ≡ None
  owner_none c h past long own lt = owner_result c h past long own ∙ cond-true (nat_lt c (slice_index cells.results.items h)) None (Some h) (lt-ltb c (slice_index cells.results.items h) lt)

  pub owner_some : (c h : ℕ) → cells.slot_cells ≤ c → c < length cells.owners.items → h ≡ get_or cells.owners.items c 0 → slice_index cells.results.items h ≤ c → result_owner cells c ≡ Some h
  owner_some c h past long own le = owner_result c h past long own ∙ cond-false (nat_lt c (slice_index cells.results.items h)) None (Some h) (le-ltb c (slice_index cells.results.items h) le)

  pub owner_typed : (c g : ℕ) → result_owner cells c ≡ Some g → IsTyped f g
  owner_typed c g e = ⊎_elim
      (λ (low : c < cells.slot_cells). absurd (let bad : None ≡ Some g = sym (slot_owner f cells are c low) ∙ e in cc))
      (λ (past : cells.slot_cells ≤ c). ⊎_elim
      (λ (long : c < length cells.owners.items). typed_past c g past long (sym (owner_result c (get_or cells.owners.items c 0) past long refl) ∙ e))
      (λ (end : length cells.owners.items ≤ c). absurd (let bad : None ≡ Some g =
      sym (ap (λ (b : Bool). cond (b || nat_le (length cells.owners.items) c) None (result_of cells (slice_index cells.owners.items c) c)) (le-ltb c cells.slot_cells past)
      ∙ ap (λ (b : Bool). cond b None (result_of cells (slice_index cells.owners.items c) c)) (le-leb (length cells.owners.items) c end)) ∙ e in cc))
      (cases_lt c (length cells.owners.items)))
      (cases_lt c cells.slot_cells)

  -- the results of a deep type's functions have the place of the type
  pub deep_place : (c g own r : ℕ) → result_owner cells c ≡ Some g → own ≡ slice_index f.funcs g → depth (types_of f.types) own ≡ 63 → r ≡ least_of f.types own → P.Type r ≡ fixed_place f cells c
  deep_place c g own r e is deep least =
      sym (ap (λ (o : Option ℕ). owner_place f c o) e
      ∙ ap (λ (k : ℕ). result_place f c k) (sym is)
      ∙ cond-true (nat_eq (depth (types_of f.types) own) 63) (P.Type (least_of f.types own)) (P.Cell c) (eq-eqb (depth (types_of f.types) own) 63 deep)
      ∙ ap (λ (k : ℕ). P.Type k) (sym least))

  result_place_within : (count c ty : ℕ) (b : Bool) → c < count → ty < length (types_of f.types) → IsPlace f count (cond b (P.Type (least_of f.types ty)) (P.Cell c))
  result_place_within count c ty true lt h = least_in_range f.types (H.Idx ty) h
  result_place_within count c ty false lt h = lt

  owner_place_within : (count c : ℕ) (o : Option ℕ) → c < count → result_owner cells c ≡ o → IsPlace f count (owner_place f c o)
  owner_place_within count c None lt e = lt
  owner_place_within count c (Some g) lt e = result_place_within count c (slice_index f.funcs g) (nat_eq (depth (types_of f.types) (slice_index f.funcs g)) 63) lt (owner_typed c g e).typed

  pub fixed_within : (count c : ℕ) → c < count → IsPlace f count (fixed_place f cells c)
  fixed_within count c lt = owner_place_within count c (result_owner cells c) lt refl

  slot_first : (t slot : ℕ) → is_least f.types t ≡ true → slot_cell f t slot ≡ slots_before f t + slot
  unfolding slot_cell
  slot_first t slot least = ap (λ (k : ℕ). slots_before f k + slot) (eqb-true (least_of f.types t) t least)

  least_first : (ty slot : ℕ) → slots_before f (least_of f.types ty) + slot ≡ slot_cell f ty slot
  unfolding slot_cell
  least_first ty slot = refl

  -- a slot that is read of the types at or below one
  module _ (ty slot cell up : ℕ) (r : ReadsSlot f ty slot cell up) where
    pub reads_low : cell < cells.slot_cells
    reads_low =
        let b = slot_before f cells are r.of slot (length (types_of f.types)) r.in_range r.least r.has in
        let e = are.slots_end in let i = r.cell_is in omega arith

    reads_at : cell ≡ slots_before f r.of + slot
    reads_at = r.cell_is ∙ slot_first r.of slot r.least

    reads_owner : get_or cells.owners.items cell 0 ≡ r.of
    reads_owner = ap (λ (k : ℕ). get_or cells.owners.items k 0) reads_at ∙ are.types_own r.of slot r.in_range r.least (ltb-true slot (slots_of f.types r.of) r.has)

    pub reads_far : (v : ℕ) → v ≡ get_or cells.owners.items cell 0 → distance f.types (H.Idx ty) (H.Idx v) ≡ Some up
    reads_far v e = ap (λ (k : ℕ). distance f.types (H.Idx ty) (H.Idx k)) (e ∙ reads_owner) ∙ r.far

    -- the slot of the supertype
    pub above_has : (v above first s : ℕ) → slot < slots_of f.types ty → v ≡ get_or cells.owners.items cell 0 → first ≡ slots_before f v → above ≡ least_of f.types ty → s ≡ cell - first → s < slots_of f.types above
    above_has v above first s has own begin up_is slot_is =
        let a = reads_at in
        let o = ap (slots_before f) (own ∙ reads_owner) in
        let n = ap (slots_of f.types) up_is ∙ least_slots f.types ty in
        omega arith

    pub above_is : (v above first base s : ℕ) → v ≡ get_or cells.owners.items cell 0 → first ≡ slots_before f v → above ≡ least_of f.types ty → base ≡ slots_before f above → s ≡ cell - first → Some (P.Cell (base + s)) ≡ Some (slot_place f ty slot)
    above_is v above first base s own begin up_is base_is slot_is =
        let a = reads_at in
        let o = ap (slots_before f) (own ∙ reads_owner) in
        let b = ap (slots_before f) up_is in
        let z : base + s ≡ slots_before f (least_of f.types ty) + slot = omega arith in
        ap (λ (k : ℕ). Some (P.Cell k)) (z ∙ least_first ty slot)

    -- where it is read of the type itself
    pub slot_itself : up ≡ 0 → Some (fixed_place f cells cell) ≡ Some (slot_place f ty slot)
    slot_itself none =
        let same : least_of f.types ty ≡ least_of f.types r.of = no_further f ty r.of (r.far ∙ ap (λ (k : ℕ). Some k) none) in
        let least : least_of f.types r.of ≡ r.of = eqb-true (least_of f.types r.of) r.of r.least in
        ap (λ (o : Option ℕ). Some (owner_place f cell o)) (slot_owner f cells are cell reads_low)
        ∙ ap (λ (k : ℕ). Some (P.Cell k)) (reads_at ∙ ap (λ (k : ℕ). slots_before f k + slot) (sym (same ∙ least)) ∙ least_first ty slot)

  -- a result that is read of the functions whose types are at or below one
  module _ (links : List Link) (ty cell up : ℕ) (r : ReadsResult f links ty cell up) where
    pub result_high : cell < cells.slot_cells → ⊥
    unfolding out_cell
    result_high low = let e = are.slots_end in let i = r.cell_is in omega arith

    pub result_owned : result_owner cells cell ≡ Some r.of
    result_owned = ap (result_owner cells) r.cell_is ∙ out_owner f cells are r.of r.place r.in_range r.has

    way_none : (b : Bool) → nat_eq (depth (types_of f.types) (slice_index f.funcs r.of)) 63 ≡ b → cond b r.far (r.far + 1) ≡ 0 → (b ≡ true) × (r.far ≡ 0)
    way_none true e z = (refl, z)
    way_none false e z = absurd (omega arith)

    pub result_itself : up ≡ 0 → Some (fixed_place f cells cell) ≡ Some (type_place f ty)
    result_itself none =
        let w = way_none (nat_eq (depth (types_of f.types) (slice_index f.funcs r.of)) 63) refl (sym r.way ∙ none) in
        let same : least_of f.types ty ≡ least_of f.types (slice_index f.funcs r.of) = no_further f ty (slice_index f.funcs r.of) (r.far_is ∙ ap (λ (k : ℕ). Some k) w.1) in
        ap (λ (o : Option ℕ). Some (owner_place f cell o)) result_owned
        ∙ ap (λ (b : Bool). Some (cond b (P.Type (least_of f.types (slice_index f.funcs r.of))) (P.Cell cell))) w.0
        ∙ ap (λ (k : ℕ). Some (P.Type k)) (sym same)

    way_steps : (b : Bool) (steps : ℕ) → up ≡ cond b r.far (r.far + 1) → steps ≡ cond b up (up - 1) → steps ≡ r.far
    way_steps true steps e s = s ∙ e
    way_steps false steps e s = omega arith

    -- as many steps lead up to the type
    pub result_far : (own steps : ℕ) → own ≡ slice_index f.funcs r.of → steps ≡ (cond (nat_eq (depth (types_of f.types) own) 63) up (up - 1)) → distance f.types (H.Idx ty) (H.Idx own) ≡ Some steps
    result_far own steps e s =
        let n = way_steps (nat_eq (depth (types_of f.types) (slice_index f.funcs r.of)) 63) steps r.way (s ∙ ap (λ (k : ℕ). cond (nat_eq (depth (types_of f.types) k) 63) up (up - 1)) e) in
        ap (λ (k : ℕ). distance f.types (H.Idx ty) (H.Idx k)) e ∙ r.far_is ∙ ap (λ (k : ℕ). Some k) (sym n)

-- what is read of the table of slots
module _ (f : Facts) (cells : Cells) (are : CellsAre f cells) where
  pub table_first : (t v : ℕ) → t < length (types_of f.types) → v ≡ get_or cells.slots.items t v → v ≡ slots_before f t
  table_first t v lt e = read cells.slots.items t v (slots_before f t) (subst (λ (n : ℕ). t < n) (sym are.slots_long) lt) e (are.slots_are t lt)

  pub above_within : (t v s : ℕ) → t < length (types_of f.types) → is_least f.types t ≡ true → s < slots_of f.types t → v ≡ get_or cells.slots.items t v → v + s < own_cells f
  above_within t v s lt least has e =
      let w = slot_within f t s lt least (lt-ltb s (slots_of f.types t) has) in
      let a = slot_first f cells are t s least in
      let b = table_first t v lt e in omega arith

  pub slot_table : (ty own slot v : ℕ) → ty < length (types_of f.types) → own ≡ least_of f.types ty → v ≡ get_or cells.slots.items own v → v + slot ≡ slot_cell f ty slot
  slot_table ty own slot v lt least e =
      let n = least_in_range f.types (H.Idx ty) lt in
      let own_lt : own < length (types_of f.types) = subst (λ (k : ℕ). k < length (types_of f.types)) (sym least) n in
      ap (λ (k : ℕ). k + slot) (table_first own v own_lt e ∙ ap (slots_before f) least) ∙ least_first f cells are ty slot

-- how many steps lead up from a function's type
pub steps_deep : (d up steps : ℕ) → d ≡ 63 → steps ≡ up → steps ≡ cond (nat_eq d 63) up (up - 1)
steps_deep d up steps deep e = e ∙ sym (cond-true (nat_eq d 63) up (up - 1) (eq-eqb d 63 deep))

pub steps_other : (d up steps : ℕ) → (d ≡ 63 → ⊥) → steps ≡ up - 1 → steps ≡ cond (nat_eq d 63) up (up - 1)
steps_other d up steps other e = e ∙ sym (cond-false (nat_eq d 63) up (up - 1) (ne_eqb d 63 other))
