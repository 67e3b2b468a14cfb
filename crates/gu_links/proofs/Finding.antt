-- Each link that reads a cell is found by one of the 64 ways.
use Rattle.std.proofs.Common.{◌≡◌, ℕ, zero, suc, ◌+◌, ◌<◌, ◌≤◌, ◌&&◌, Bool, true, false, cond, Option, Some, None, List, [], ◌∷◌, map, length, sym, refl, ap, ◌∙◌, inl, inr, ⊎_elim, arith}
use Rattle.std.specs.Prelude.{All, Contains, nat_eq, flat_map, slice_get, slice_index, is_some, option_map}
use Rattle.std.specs.List.{list_any}
use Rattle.std.proofs.lemmas.Bool.{and_parts, eq-eqb, cases_eq}
use Rattle.std.proofs.lemmas.List.Elements.{Contains-append_cases, All-contains, All-map}
use Rattle.gu_types.specs.declared.types.Abs.{Abs}
use Rattle.gu_types.specs.declared.types.SubType.{SubType}
use Rattle.gu_types.specs.declared.types.TypeList.{TypeList}
use Rattle.gu_types.specs.declared.types.HeapType.TheVariants as H
use Rattle.gu_types.specs.Depth.{types_of, parent, depth, depth_within, one_above}
use Rattle.gu_rec.specs.Keys.{run}
use Rattle.gu_rec.specs.Sub.{distance, is_sub, line, line_within, root_line, next_line, same_heap, abs_line, kind_of}
use Rattle.gu_rec.specs.Table.{place}
use Rattle.gu_rec.proofs.Queries.{distance_is}
use Rattle.gu_contents.specs.declared.facts.Facts.{Facts}
use Rattle.gu_contents.specs.declared.content.Content.{Content}
use Rattle.gu_contents.proofs.Heaps.{sub_distance}
use Rattle.gu_links.specs.declared.link.Link.{Link}
use Rattle.gu_links.specs.declared.link.Link.TheVariants as L
use Rattle.gu_links.specs.Cells.{slot_cell, out_cell, out_cells, is_least, results_of}
use Rattle.gu_links.specs.Over.{over, is_over, has_slot, callees, is_callee, names}
use Rattle.gu_links.specs.Gives.{Contents, reads}
use Rattle.gu_links.specs.Solutions.{IsReader}
use Rattle.gu_links.specs.Kept.{fixed_reads}
use Rattle.gu_links.specs.Ways.{ReadsSlot, ReadsResult, result_way, IsFound}
use Rattle.gu_links.proofs.Lists.{run_below, all_map_kept_from, all_kept_from}

-- no index stands among abstract heap types
no_abstract : (list : TypeList) (ty : ℕ) (kinds : List Abs) → place (same_heap list (H.Idx ty)) (map H.Abs kinds) ≡ None
no_abstract list ty [] = refl
no_abstract list ty (kind ∷ kinds) = ap (option_map suc) (no_abstract list ty kinds)

no_root : (list : TypeList) (ty : ℕ) (o : Option SubType) → place (same_heap list (H.Idx ty)) (root_line o) ≡ None
no_root list ty None = refl
no_root list ty (Some sub) = no_abstract list ty (abs_line (kind_of sub.comp))

few_more : (b : Bool) (o : Option ℕ) (k m : ℕ) → cond b (Some 0) (option_map suc o) ≡ Some k → ((j : ℕ) → o ≡ Some j → j < m) → k ≤ m
few_more true o k m e h = let z : 0 ≡ k = cc in omega arith
few_more false None k m e h = absurd cc
few_more false (Some j) k m e h = let z : suc j ≡ k = cc in let l = h j refl in omega arith

none_some : (o : Option ℕ) (j m : ℕ) → o ≡ None → o ≡ Some j → j < m
none_some o j m e d = let bad : None ≡ Some j = sym e ∙ d in absurd cc

-- the place of an index on a line is at most the depth of the type that the line begins with
deep_next : (list : TypeList) (ty m i k : ℕ) (p : Option ℕ) → ((super j : ℕ) → place (same_heap list (H.Idx ty)) (line_within m (types_of list) super) ≡ Some j → j ≤ depth_within m (types_of list) super)
    → place (same_heap list (H.Idx ty)) (H.Idx i ∷ next_line (line_within m (types_of list)) (root_line (slice_get (types_of list) i)) p) ≡ Some k → k ≤ one_above (depth_within m (types_of list)) p
deep_next list ty m i k None deep e = few_more (same_heap list (H.Idx ty) (H.Idx i)) (place (same_heap list (H.Idx ty)) (root_line (slice_get (types_of list) i))) k 0 e
    (λ j d. none_some _ j 0 (no_root list ty (slice_get (types_of list) i)) d)
deep_next list ty m i k (Some super) deep e = few_more (same_heap list (H.Idx ty) (H.Idx i)) (place (same_heap list (H.Idx ty)) (line_within m (types_of list) super)) k (suc (depth_within m (types_of list) super)) e
    (λ j d. let l = deep super j d in omega arith)

place_deep : (list : TypeList) (ty m i k : ℕ) → place (same_heap list (H.Idx ty)) (line_within m (types_of list) i) ≡ Some k → k ≤ depth_within m (types_of list) i
place_deep list ty zero i k e = few_more (same_heap list (H.Idx ty) (H.Idx i)) (place (same_heap list (H.Idx ty)) (root_line (slice_get (types_of list) i))) k 0 e
    (λ j d. none_some _ j 0 (no_root list ty (slice_get (types_of list) i)) d)
place_deep list ty (suc m) i k e = deep_next list ty m i k (parent (types_of list) i) (λ super j d. place_deep list ty m super j d) e

-- a type stands at most as many declared supertypes below another as its depth says
distance_deep : (f : Facts) (ty i k : ℕ) → distance f.types (H.Idx ty) (H.Idx i) ≡ Some k → k ≤ depth (types_of f.types) i
unfolding line
distance_deep f ty i k e = place_deep f.types ty i i k (sym (distance_is f.types (H.Idx ty) (H.Idx i)) ∙ e)

record Edges (f : Facts) (ty i : ℕ) : Type 0 where
  up : ℕ
  deep : up ≤ depth (types_of f.types) i
  is : distance f.types (H.Idx ty) (H.Idx i) ≡ Some up

edges_of : (f : Facts) (ty i : ℕ) (o : Option ℕ) → distance f.types (H.Idx ty) (H.Idx i) ≡ o → is_some o ≡ true → Edges f ty i
edges_of f ty i None e s = absurd cc
edges_of f ty i (Some k) e s = record { up = k; deep = distance_deep f ty i k e; is = e }

below_edges : (f : Facts) (ty i : ℕ) → is_sub f.types (H.Idx i) (H.Idx ty) ≡ true → Edges f ty i
below_edges f ty i e = edges_of f ty i (distance f.types (H.Idx ty) (H.Idx i)) refl (sym (sub_distance f.types f.hold (H.Idx i) (H.Idx ty) refl) ∙ e)

-- there are ways enough for the results of a function
way_most : (b : Bool) (d far : ℕ) → nat_eq d 63 ≡ b → d ≤ 63 → far ≤ d → cond b far (far + 1) ≤ 63
way_most true d far e few deep = omega arith
way_most false d far e few deep = ⊎_elim
    (λ (same : d ≡ 63). absurd (let bad : true ≡ false = sym (eq-eqb d 63 same) ∙ e in cc))
    (λ (other : d ≡ 63 → ⊥). omega arith)
    (cases_eq d 63)

record SlotFound (f : Facts) (ty slot cell : ℕ) : Type 0 where
  up : ℕ
  most : up ≤ 63
  way : ReadsSlot f ty slot cell up

record ResultFound (f : Facts) (links : List Link) (ty cell : ℕ) : Type 0 where
  up : ℕ
  most : up ≤ 63
  way : ReadsResult f links ty cell up

slot_found : (f : Facts) (a : Content) (ty slot s : ℕ) → s < length (types_of f.types) → (has_slot f slot s && is_over f a ty s) ≡ true → SlotFound f ty slot (slot_cell f s slot)
unfolding is_over
slot_found f a ty slot s lt e =
    let p = and_parts (has_slot f slot s) _ e in
    let q = and_parts (is_least f.types s) _ p.1 in
    let r = and_parts (is_sub f.types (H.Idx s) (H.Idx ty)) _ q.1 in
    let d = below_edges f ty s r.0 in
    record { up = d.up; most = let few = f.shallow s in let deep = d.deep in omega arith; way = record { of = s; in_range = lt; least = q.0; has = p.0; far = d.is; cell_is = refl } }

slots_found : (f : Facts) (a : Content) (ty slot : ℕ) → All (SlotFound f ty slot) (map (λ s. slot_cell f s slot) (over f a ty slot))
unfolding over
slots_found f a ty slot =
    all_map_kept_from (λ s. s < length (types_of f.types)) (λ s. has_slot f slot s && is_over f a ty s) (SlotFound f ty slot) (λ s. slot_cell f s slot) (slot_found f a ty slot)
    (run 0 (length (types_of f.types))) (run_below 0 (length (types_of f.types)) (length (types_of f.types)) (omega arith))

result_found : (f : Facts) (links : List Link) (a : Content) (ty g : ℕ) → g < length f.funcs → (list_any (names g) links && is_callee f a ty g) ≡ true → All (ResultFound f links ty) (out_cells f g)
unfolding is_callee
result_found f links a ty g lt e =
    let p = and_parts (list_any (names g) links) _ e in
    let q = and_parts (is_sub f.types (H.Idx (slice_index f.funcs g)) (H.Idx ty)) _ p.1 in
    let d = below_edges f ty (slice_index f.funcs g) q.0 in
    All-map (ResultFound f links ty) (out_cell f g) (run 0 (results_of f g))
    (λ k e' l. record {
      up = result_way f g d.up;
      most = way_most (nat_eq (depth (types_of f.types) (slice_index f.funcs g)) 63) (depth (types_of f.types) (slice_index f.funcs g)) d.up refl (f.shallow (slice_index f.funcs g)) d.deep;
      way = record { of = g; place = _; far = d.up; in_range = lt; named = p.0; has = run_below 0 (results_of f g) (results_of f g) (omega arith) k e' l; far_is = d.is; cell_is = refl; way = refl };
    })

results_found : (f : Facts) (links : List Link) (a : Content) (ty : ℕ) → All (ResultFound f links ty) (flat_map (out_cells f) (callees f links a ty))
unfolding callees
results_found f links a ty =
    all_kept_from (λ g. g < length f.funcs) (λ g. list_any (names g) links && is_callee f a ty g) (ResultFound f links ty) (out_cells f) (result_found f links a ty)
    (run 0 (length f.funcs)) (run_below 0 (length f.funcs) (length f.funcs) (omega arith))

by_number : (f : Facts) (links : List Link) (cell : ℕ) (link : Link) → Contains (fixed_reads link) cell → IsFound f links cell link
by_number f links cell link h = record { up = 0; most = omega arith; way = inl (refl, h) }

-- what a link reads it names, or it is found by way of a type
found : (f : Facts) (links : List Link) (cell : ℕ) (x : Contents) (link : Link) → Contains (reads f links link x) cell → IsFound f links cell link
unfolding reads
found f links cell x (L.Root give to) h = by_number f links cell (L.Root give to) h
found f links cell x (L.Copy from to) h = by_number f links cell (L.Copy from to) h
found f links cell x (L.NonNull from to) h = by_number f links cell (L.NonNull from to) h
found f links cell x (L.Filter from by to) h = by_number f links cell (L.Filter from by to) h
found f links cell x (L.Minus from by to) h = by_number f links cell (L.Minus from by to) h
found f links cell x (L.Test from by to) h = by_number f links cell (L.Test from by to) h
found f links cell x (L.IsNull from to) h = by_number f links cell (L.IsNull from to) h
found f links cell x (L.Equal left right to) h = by_number f links cell (L.Equal left right to) h
found f links cell x (L.Pack storage from to) h = by_number f links cell (L.Pack storage from to) h
found f links cell x (L.SlotGet object ty slot storage signed to) h = ⊎_elim
    (λ (one : Contains (object ∷ []) cell). by_number f links cell (L.SlotGet object ty slot storage signed to) one)
    (λ (more : Contains (map (λ s. slot_cell f s slot) (over f (x object) ty slot)) cell).
    let w = All-contains (SlotFound f ty slot) (map (λ s. slot_cell f s slot) (over f (x object) ty slot)) cell (slots_found f (x object) ty slot) more in
    record { up = w.up; most = w.most; way = inr w.way })
    (Contains-append_cases (object ∷ []) (map (λ s. slot_cell f s slot) (over f (x object) ty slot)) cell h)
found f links cell x (L.SlotSet object ty slot storage from) h = by_number f links cell (L.SlotSet object ty slot storage from) h
found f links cell x (L.SlotFill object ty slot give) h = by_number f links cell (L.SlotFill object ty slot give) h
found f links cell x (L.SlotCopy target to_ty source from_ty) h = ⊎_elim
    (λ (one : Contains (target ∷ source ∷ []) cell). by_number f links cell (L.SlotCopy target to_ty source from_ty) one)
    (λ (more : Contains (map (λ s. slot_cell f s 0) (over f (x source) from_ty 0)) cell).
    let w = All-contains (SlotFound f from_ty 0) (map (λ s. slot_cell f s 0) (over f (x source) from_ty 0)) cell (slots_found f (x source) from_ty 0) more in
    record { up = w.up; most = w.most; way = inr w.way })
    (Contains-append_cases (target ∷ source ∷ []) (map (λ s. slot_cell f s 0) (over f (x source) from_ty 0)) cell h)
found f links cell x (L.CallBy callee ty operands results) h = ⊎_elim
    (λ (one : Contains (callee ∷ operands) cell). by_number f links cell (L.CallBy callee ty operands results) one)
    (λ (more : Contains (flat_map (out_cells f) (callees f links (x callee) ty)) cell).
    let w = All-contains (ResultFound f links ty) (flat_map (out_cells f) (callees f links (x callee) ty)) cell (results_found f links (x callee) ty) more in
    record { up = w.up; most = w.most; way = inr w.way })
    (Contains-append_cases (callee ∷ operands) (flat_map (out_cells f) (callees f links (x callee) ty)) cell h)
found f links cell x (L.Internalise from to) h = by_number f links cell (L.Internalise from to) h
found f links cell x (L.Externalise from to) h = by_number f links cell (L.Externalise from to) h
found f links cell x (L.Callable function) h = by_number f links cell (L.Callable function) h

pub readers_are_found : (f : Facts) (links : List Link) (cell : ℕ) (link : Link) → IsReader f links cell link → IsFound f links cell link
readers_are_found f links cell link r = found f links cell r.contents link r.read
