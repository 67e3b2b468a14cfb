-- The cells for which a link asks: each stands once, all are cells of the system, and they are those on which it rests.
use Rattle.std.proofs.Common.{◌≡◌, ◌∙◌, ℕ, suc, ◌+◌, ◌<◌, ◌≤◌, ◌&&◌, Bool, true, false, List, [], ◌∷◌, ◌++◌, map, length, get_or, ap, subst, ⊎_elim, arith}
use Rattle.std.specs.Prelude.{All, Contains, flat_map, not, slice_get, Some}
use Rattle.std.specs.List.{filter as keep, list_any}
use Rattle.std.proofs.lemmas.Bool.{and_parts, cases_Bool, cond-true, eqb-true, ltb-true, not-true, not_from_false}
use Rattle.std.proofs.lemmas.Option.{slice_get_within, get_or_from_slice_get}
use Rattle.std.proofs.lemmas.List.Concat.{flat_map_single}
use Rattle.std.proofs.lemmas.List.Elements.{All-cons, All-nil, All-append, All-map, All-filter, All-contains, All-contains_itself, Contains-append_left, Contains-append_right, filter_passes}
use Rattle.gu_types.specs.Depth.{types_of}
use Rattle.gu_rec.specs.Keys.{run}
use Rattle.gu_contents.specs.declared.content.Content.{Content}
use Rattle.gu_contents.specs.declared.facts.Facts.{Facts}
use Rattle.gu_contents.specs.Contents.{least_of}
use Rattle.gu_links.specs.declared.link.Link.{Link}
use Rattle.gu_links.specs.declared.link.Link.TheVariants as L
use Rattle.gu_links.specs.Cells.{slot_cell, out_cell, out_cells, own_cells, slots_of, slots_before, before_func, is_least, results_of}
use Rattle.gu_links.specs.Over.{over, is_over, has_slot, callees, is_callee, names}
use Rattle.gu_links.specs.Gives.{Contents, reads}
use Rattle.gu_links.specs.Solutions.{Fits}
use Rattle.gu_links.specs.Kept.{has, fixed_reads, fixed_once, further_reads}
use Rattle.gu_links.specs.Known.{asked_for}
use Rattle.gu_links.proofs.Lists.{run_below, all_map_kept_from, all_kept_from}
use Rattle.gu_links.proofs.Walks.{kept_all}
use Rattle.gu_links.proofs.Within.{slot_within, out_within, slots_next, funcs_next}
use Rattle.gu_links.proofs.Applying.{reads_fixed, reads_further}
use Rattle.gu_links.proofs.Firsts.{IsRising, has_once}
use Rattle.gu_links.proofs.Distinct.{IsOnce, from_has, once_append, once_is_once, once_all, all_once, kept_once, rising_once, kept_rise, run_rises}

-- what holds of the fixed cells of a link and of its further ones holds of all on which it rests
pub reads_all : (f : Facts) (links : List Link) (link : Link) (x : Contents) (Q : ℕ → Type 0) → All Q (fixed_reads link) → All Q (further_reads f links link x) → All Q (reads f links link x)
unfolding reads
reads_all f links (L.Root give to) x Q a b = a
reads_all f links (L.Copy from to) x Q a b = a
reads_all f links (L.NonNull from to) x Q a b = a
reads_all f links (L.Filter from by to) x Q a b = a
reads_all f links (L.Minus from by to) x Q a b = a
reads_all f links (L.Test from by to) x Q a b = a
reads_all f links (L.IsNull from to) x Q a b = a
reads_all f links (L.Equal left right to) x Q a b = a
reads_all f links (L.Pack storage from to) x Q a b = a
reads_all f links (L.SlotGet object ty slot storage signed to) x Q a b = All-append Q (object ∷ []) _ a b
reads_all f links (L.SlotSet object ty slot storage from) x Q a b = a
reads_all f links (L.SlotFill object ty slot give) x Q a b = a
reads_all f links (L.SlotCopy target to_ty source from_ty) x Q a b = All-append Q (target ∷ source ∷ []) _ a b
reads_all f links (L.CallBy callee ty operands results) x Q a b = All-append Q (callee ∷ operands) _ a b
reads_all f links (L.Internalise from to) x Q a b = a
reads_all f links (L.Externalise from to) x Q a b = a
reads_all f links (L.Callable function) x Q a b = a

module _ (f : Facts) where
  -- the slots of a type stand between the first cells of it and of the next type, and the results of a function likewise
  slot_between : (t slot : ℕ) → is_least f.types t ≡ true → has_slot f slot t ≡ true → (slots_before f t ≤ slot_cell f t slot) × (slot_cell f t slot < slots_before f (suc t))
  unfolding slot_cell
  slot_between t slot least own =
      let e : slots_before f (least_of f.types t) ≡ slots_before f t = ap (slots_before f) (eqb-true (least_of f.types t) t least) in
      let one : slots_before f (t + 1) ≡ slots_before f (suc t) = ap (slots_before f) (let z : t + 1 ≡ suc t = omega arith in z) in
      let more = slots_next f t in
      let slots = cond-true (is_least f.types t) (slots_of f.types t) 0 least in
      let h = ltb-true slot (slots_of f.types t) own in
      (omega arith, omega arith)

  slots_up : (t : ℕ) → slots_before f t ≤ slots_before f (suc t)
  slots_up t =
      let one : slots_before f (t + 1) ≡ slots_before f (suc t) = ap (slots_before f) (let z : t + 1 ≡ suc t = omega arith in z) in
      let more = slots_next f t in omega arith

  result_between : (g j : ℕ) → j < results_of f g → (before_func f g ≤ out_cell f g j) × (out_cell f g j < before_func f (suc g))
  unfolding out_cell
  result_between g j lt =
      let one : before_func f (g + 1) ≡ before_func f (suc g) = ap (before_func f) (let z : g + 1 ≡ suc g = omega arith in z) in
      let more = funcs_next f g in
      (omega arith, omega arith)

  functions_up : (g : ℕ) → before_func f g ≤ before_func f (suc g)
  functions_up g =
      let one : before_func f (g + 1) ≡ before_func f (suc g) = ap (before_func f) (let z : g + 1 ≡ suc g = omega arith in z) in
      let more = funcs_next f g in omega arith

  results_up : (g j : ℕ) → out_cell f g j < out_cell f g (suc j)
  unfolding out_cell
  results_up g j = omega arith

  slots_rise : (slot ty : ℕ) (a : Content) → IsRising (map (λ s. slot_cell f s slot) (over f a ty slot))
  unfolding over is_over
  slots_rise slot ty a = subst (λ (xs : List ℕ). IsRising xs) (flat_map_single (λ s. slot_cell f s slot) (over f a ty slot))
      (kept_rise (slots_before f) (λ s. slot_cell f s slot ∷ []) (λ s. has_slot f slot s && is_over f a ty s) slots_up
      (λ s e.
      let p = and_parts (has_slot f slot s) (is_over f a ty s) e in
      All-cons (λ c. (slots_before f s ≤ c) × (c < slots_before f (suc s))) (slot_cell f s slot) [] (slot_between s slot (and_parts (is_least f.types s) _ p.1).0 p.0) (All-nil (λ c. (slots_before f s ≤ c) × (c < slots_before f (suc s)))))
      (λ s. (All-nil (λ y. slot_cell f s slot < y), tt)) 0 (length (types_of f.types)))

  results_rise : (links : List Link) (ty : ℕ) (a : Content) → IsRising (flat_map (out_cells f) (callees f links a ty))
  unfolding callees
  results_rise links ty a =
      kept_rise (before_func f) (out_cells f) (λ g. list_any (names g) links && is_callee f a ty g) functions_up
      (λ g e. All-map (λ c. (before_func f g ≤ c) × (c < before_func f (suc g))) (out_cell f g) (run 0 (results_of f g)) (λ k d lt. result_between g (get_or (run 0 (results_of f g)) k d) (run_below 0 (results_of f g) (results_of f g) (omega arith) k d lt)))
      (λ g. run_rises (out_cell f g) (results_up g) 0 (results_of f g)) 0 (length f.funcs)

  module _ (links : List Link) where
    pub further_rises : (link : Link) (x : Contents) → IsRising (further_reads f links link x)
    further_rises (L.SlotGet object ty slot storage signed to) x = slots_rise slot ty (x object)
    further_rises (L.SlotCopy target to_ty source from_ty) x = slots_rise 0 from_ty (x source)
    further_rises (L.CallBy callee ty operands results) x = results_rise links ty (x callee)
    further_rises link x = tt

    -- all are cells of the system
    module _ (longs : List ℕ) (count : ℕ) (room : own_cells f ≤ count) where
      slots_within : (slot ty : ℕ) (a : Content) → All (λ c. c < count) (map (λ s. slot_cell f s slot) (over f a ty slot))
      unfolding over is_over
      slots_within slot ty a =
          all_map_kept_from (λ s. s < length (types_of f.types)) (λ s. has_slot f slot s && is_over f a ty s) (λ c. c < count) (λ s. slot_cell f s slot)
          (λ s lt e.
          let p = and_parts (has_slot f slot s) (is_over f a ty s) e in
          let w = slot_within f s slot lt (and_parts (is_least f.types s) _ p.1).0 p.0 in omega arith)
          (run 0 (length (types_of f.types))) (run_below 0 (length (types_of f.types)) (length (types_of f.types)) (omega arith))

      results_within : (ty : ℕ) (a : Content) → All (λ c. c < count) (flat_map (out_cells f) (callees f links a ty))
      unfolding callees
      results_within ty a =
          all_kept_from (λ g. g < length f.funcs) (λ g. list_any (names g) links && is_callee f a ty g) (λ c. c < count) (out_cells f)
          (λ g lt e. All-map (λ c. c < count) (out_cell f g) (run 0 (results_of f g))
          (λ k d l. let w = out_within f g (get_or (run 0 (results_of f g)) k d) lt (run_below 0 (results_of f g) (results_of f g) (omega arith) k d l) in omega arith))
          (run 0 (length f.funcs)) (run_below 0 (length f.funcs) (length f.funcs) (omega arith))

      further_within : (link : Link) (x : Contents) → All (λ c. c < count) (further_reads f links link x)
      further_within (L.SlotGet object ty slot storage signed to) x = slots_within slot ty (x object)
      further_within (L.SlotCopy target to_ty source from_ty) x = slots_within 0 from_ty (x source)
      further_within (L.CallBy callee ty operands results) x = results_within ty (x callee)
      further_within link x = All-nil (λ c. c < count)

      abbrev IsCell : ℕ → Type 0
      IsCell c = c < count

      one_within : (c : ℕ) → c < count → All IsCell (c ∷ [])
      one_within c lt = All-cons IsCell c [] lt (All-nil IsCell)

      two_within : (c d : ℕ) → c < count → d < count → All IsCell (c ∷ d ∷ [])
      two_within c d lt less = All-cons IsCell c (d ∷ []) lt (one_within d less)

      fixed_within : (link : Link) → Fits f longs count link → All IsCell (fixed_reads link)
      fixed_within (L.Root give to) h = All-nil IsCell
      fixed_within (L.Copy from to) h = one_within from h.0
      fixed_within (L.NonNull from to) h = one_within from h.0
      fixed_within (L.Filter from by to) h = one_within from h.0
      fixed_within (L.Minus from by to) h = one_within from h.0
      fixed_within (L.Test from by to) h = one_within from h.0
      fixed_within (L.IsNull from to) h = one_within from h.0
      fixed_within (L.Equal left right to) h = two_within left right h.0 h.1
      fixed_within (L.Pack storage from to) h = one_within from h.0
      fixed_within (L.SlotGet object ty slot storage signed to) h = one_within object h.0
      fixed_within (L.SlotSet object ty slot storage from) h = two_within object from h.0 h.1
      fixed_within (L.SlotFill object ty slot give) h = one_within object h.0
      fixed_within (L.SlotCopy target to_ty source from_ty) h = two_within target source h.0 h.1
      fixed_within (L.CallBy callee ty operands results) h = All-cons IsCell callee operands h.0 h.2
      fixed_within (L.Internalise from to) h = one_within from h.0
      fixed_within (L.Externalise from to) h = one_within from h.0
      fixed_within (L.Callable function) h = All-nil IsCell

      pub asked_within : (link : Link) (x : Contents) → Fits f longs count link → All (λ c. c < count) (asked_for f links link x)
      unfolding asked_for fixed_once
      asked_within link x fits =
          All-append IsCell (fixed_once link) (keep (λ c. not (has (fixed_reads link) c)) (further_reads f links link x))
          (once_all IsCell (fixed_reads link) (fixed_within link fits))
          (All-filter (λ c. not (has (fixed_reads link) c)) IsCell (further_reads f links link x) (further_within link x))

    module _ (link : Link) (x : Contents) where
      abbrev is_new : ℕ → Bool
      is_new c = not (has (fixed_reads link) c)

      -- each stands once
      pub asked_once : IsOnce (asked_for f links link x)
      unfolding asked_for fixed_once
      asked_once =
          once_append (fixed_once link) (keep is_new (further_reads f links link x)) (once_is_once [] (fixed_reads link) tt)
          (kept_once is_new (further_reads f links link x) (rising_once (further_reads f links link x) (further_rises link x)))
          (λ k d lt. has_once [] (fixed_reads link) _ ∙ not-true (has (fixed_reads link) _) (filter_passes is_new (further_reads f links link x) k d lt))

      -- they are the cells on which the link rests
      pub asked_read : All (Contains (reads f links link x)) (asked_for f links link x)
      unfolding asked_for fixed_once
      asked_read =
          let rests : List ℕ = reads f links link x in
          All-append (Contains rests) (fixed_once link) (keep is_new (further_reads f links link x))
          (once_all (Contains rests) (fixed_reads link) (reads_fixed f links link x (Contains rests) (All-contains_itself rests)))
          (All-filter is_new (Contains rests) (further_reads f links link x) (reads_further f links link x (Contains rests) (All-contains_itself rests)))

      pub read_asked : All (Contains (asked_for f links link x)) (reads f links link x)
      unfolding asked_for fixed_once
      read_asked =
          let further : List ℕ = further_reads f links link x in
          let asked : List ℕ = fixed_once link ++ keep is_new further in
          let first : All (Contains asked) (fixed_reads link) = (λ k d lt. Contains-append_left (fixed_once link) (keep is_new further) _ (all_once (fixed_reads link) k d lt)) in
          let kept : All (λ c. is_new c ≡ true → Contains asked c) further =
          kept_all (Contains asked) is_new further (λ k d lt. Contains-append_right (fixed_once link) (keep is_new further) _ (All-contains_itself (keep is_new further) k d lt)) in
          reads_all f links link x (Contains asked) first
          (λ k d lt. ⊎_elim
          (λ (e : has (fixed_reads link) (get_or further k d) ≡ true). All-contains (Contains asked) (fixed_reads link) (get_or further k d) first (from_has (fixed_reads link) (get_or further k d) e))
          (λ (e : has (fixed_reads link) (get_or further k d) ≡ false). kept k d lt (not_from_false (has (fixed_reads link) (get_or further k d)) e))
          (cases_Bool (has (fixed_reads link) (get_or further k d))))

      -- what is asked for at a place
      pub asked_at : (n c : ℕ) → slice_get (asked_for f links link x) n ≡ Some c → Contains (asked_for f links link x) c
      asked_at n c e = (n, slice_get_within (asked_for f links link x) n c e, get_or_from_slice_get (asked_for f links link x) n c c e)
