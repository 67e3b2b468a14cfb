-- What the tables of a `Types` answer.
use Rattle.std.proofs.Common.{◌≡◌, ℕ, suc, ◌+◌, ◌<◌, Bool, true, false, ◌||◌, List, length, get_or, nat_eq, if◌then◌else◌, Option, Some, None, option_map, is_some, IsTrue, ◌↔◌, refl, ap, ap₂, sym, ◌∙◌, subst, arith}
use Rattle.std.proofs.lemmas.List.{get_or_read}
use Rattle.std.proofs.lemmas.Option.{slice_get_read}
use Rattle.gu_types.specs.declared.types.Abs.{Abs}
use Rattle.gu_types.specs.declared.types.HeapType.{HeapType}
use Rattle.gu_types.specs.declared.types.HeapType.TheVariants as H
use Rattle.gu_types.specs.declared.types.TypeList.{TypeList}
use Rattle.gu_types.specs.Depth.{types_of, parent}
use Rattle.gu_rec.specs.declared.types.Entry.{Entry}
use Rattle.gu_rec.specs.Closed.{SameType}
use Rattle.gu_rec.specs.Tests.{eq_abs, same_type}
use Rattle.gu_rec.specs.Sub.{abs_line, line, same_heap, distance, is_sub, is_sub_under, top_over}
use Rattle.gu_rec.specs.Table.{IsTable, EntryIs, place, above_type, next_above}
use Rattle.gu_rec.proofs.Same.{same_type_decides, numbers_tell, tells_decides}
use Rattle.gu_rec.proofs.Places.{same_is, index_root, index_step, abs_far, no_index, abs_place, place_is, any_is}

not_true : (b : Bool) → (b ≡ true → ⊥) → b ≡ false
not_true true h = absurd (h refl)
not_true false h = refl

module _ {list : TypeList} {least : List ℕ} {entries : List Entry} (table : IsTable list least entries) where
  least_read : (i r : ℕ) → i < length (types_of list) → r ≡ get_or least i r → r ≡ get_or least i 0
  least_read i r h e = get_or_read least i r (let l = table.least_are.long in omega arith) e 0

  pub same_read : (i j r s : ℕ) → i < length (types_of list) → j < length (types_of list) → r ≡ get_or least i r → s ≡ get_or least j s → nat_eq r s ≡ same_type list i list j
  same_read i j r s h k d e =
      let l = table.least_are.long in
      ap₂ nat_eq (least_read i r h d) (least_read j s k e) ∙ sym (same_is list least table.least_are i j (omega arith) (omega arith))

  pub same_means : (i j : ℕ) (b : Bool) → b ≡ same_type list i list j → IsTrue b ↔ SameType list i list j
  same_means i j b e = subst (λ c. IsTrue c ↔ SameType list i list j) (sym e) (same_type_decides list list i j)

  pub entry_read : (i : ℕ) (e : Entry) → i < length (types_of list) → e ≡ get_or entries i e → EntryIs (types_of list) i e
  entry_read i e h r = table.entries_are.at i e (slice_get_read entries (length (types_of list)) i e (sym table.entries_are.long) h r)

  abbrev pub Rest : ℕ → ℕ → ℕ → ℕ → Type 0
  Rest to from at steps = option_map (λ n. steps + n) (place (same_heap list (H.Idx to)) (line list (H.Idx at))) ≡ place (same_heap list (H.Idx to)) (line list (H.Idx from))

  place_here : (to at : ℕ) → same_type list to list at ≡ true → place (same_heap list (H.Idx to)) (line list (H.Idx at)) ≡ Some 0
  place_here to at e = by_parent (parent (types_of list) at) refl
    where
      by_parent : (o : Option ℕ) → parent (types_of list) at ≡ o → place (same_heap list (H.Idx to)) (line list (H.Idx at)) ≡ Some 0
      by_parent None p = index_root list to at p ∙ ap (λ b. if b then Some 0 else None) e
      by_parent (Some q) p = index_step list to at q p ∙ ap (λ b. if b then Some 0 else option_map suc (place (same_heap list (H.Idx to)) (line list (H.Idx q)))) e

  pub found_here : (to from at steps r s : ℕ) → to < length (types_of list) → at < length (types_of list) → r ≡ get_or least at r → s ≡ get_or least to s → r ≡ s → Rest to from at steps → Some steps ≡ place (same_heap list (H.Idx to)) (line list (H.Idx from))
  found_here to from at steps r s h k d e f rest =
      let t : same_type list to list at ≡ true = sym (same_read to at s r h k e d) ∙ (tells_decides numbers_tell s r).1 (sym f) in
      ap (λ n. Some n) (omega arith) ∙ (sym (ap (option_map (λ n. steps + n)) (place_here to at t)) ∙ rest)

  apart : (to at r s : ℕ) → to < length (types_of list) → at < length (types_of list) → r ≡ get_or least at r → s ≡ get_or least to s → (r ≡ s → ⊥) → same_type list to list at ≡ false
  apart to at r s h k d e f = sym (same_read to at s r h k e d) ∙ not_true (nat_eq s r) (λ t. f (sym ((tells_decides numbers_tell s r).0 t)))

  pub found_nowhere : (to from at steps r s : ℕ) (entry : Entry) → to < length (types_of list) → at < length (types_of list) → r ≡ get_or least at r → s ≡ get_or least to s → (r ≡ s → ⊥) → entry ≡ get_or entries at entry → entry.parent ≡ None → Rest to from at steps → ◌≡◌ {A = Option ℕ} None (place (same_heap list (H.Idx to)) (line list (H.Idx from)))
  found_nowhere to from at steps r s entry h k d e f g p rest =
      let q : parent (types_of list) at ≡ None = sym (entry_read at entry k g).parent_is ∙ p in
      sym (ap (option_map (λ n. steps + n)) (index_root list to at q ∙ ap (λ b. if b then Some 0 else None) (apart to at r s h k d e f))) ∙ rest

  pub parent_read : (at above : ℕ) (entry : Entry) → at < length (types_of list) → entry ≡ get_or entries at entry → entry.parent ≡ Some above → parent (types_of list) at ≡ Some above
  parent_read at above entry k g p = sym (entry_read at entry k g).parent_is ∙ p

  one_more : (steps : ℕ) (o : Option ℕ) → option_map (λ n. steps + 1 + n) o ≡ option_map (λ n. steps + n) (option_map suc o)
  one_more steps None = refl
  one_more steps (Some n) = ap (λ m. Some m) (omega arith)

  pub one_up : (to from at above steps r s : ℕ) (entry : Entry) → to < length (types_of list) → at < length (types_of list) → r ≡ get_or least at r → s ≡ get_or least to s → (r ≡ s → ⊥) → entry ≡ get_or entries at entry → entry.parent ≡ Some above → Rest to from at steps → Rest to from above (steps + 1)
  one_up to from at above steps r s entry h k d e f g p rest =
      let q : parent (types_of list) at ≡ Some above = parent_read at above entry k g p in
      one_more steps (place (same_heap list (H.Idx to)) (line list (H.Idx above)))
      ∙ (sym (ap (option_map (λ n. steps + n)) (index_step list to at above q ∙ ap (λ b. if b then Some 0 else option_map suc (place (same_heap list (H.Idx to)) (line list (H.Idx above)))) (apart to at r s h k d e f))) ∙ rest)

  pub far_read : (top : Abs) (i : ℕ) (entry : Entry) → i < length (types_of list) → entry ≡ get_or entries i entry → place (same_heap list (H.Abs top)) (line list (H.Idx i)) ≡ option_map (λ k. suc entry.depth + k) (place (eq_abs top) (abs_line entry.kind))
  far_read top i entry h e =
      let x = entry_read i entry h e in
      abs_far list top i h ∙ ap₂ (λ d k. option_map (λ n. suc d + n) (place (eq_abs top) (abs_line k))) (sym x.depth_is) (sym x.kind_is)

  pub above_read : (i : ℕ) (entry : Entry) → i < length (types_of list) → entry ≡ get_or entries i entry → Some (above_type entry.kind entry.parent) ≡ next_above list (H.Idx i)
  above_read i entry h e = let x = entry_read i entry h e in ap₂ (λ k o. Some (above_type k o)) x.kind_is x.parent_is

pub idx_nowhere : (list : TypeList) (j : ℕ) (kind : Abs) → place (same_heap list (H.Idx j)) (line list (H.Abs kind)) ≡ None
unfolding line
idx_nowhere list j kind = no_index list j (abs_line kind)

pub abs_there : (list : TypeList) (top kind : Abs) → place (same_heap list (H.Abs top)) (line list (H.Abs kind)) ≡ place (eq_abs top) (abs_line kind)
unfolding line
abs_there list top kind = abs_place list top (abs_line kind)

pub distance_is : (list : TypeList) (above below : HeapType) → distance list above below ≡ place (same_heap list above) (line list below)
unfolding distance
distance_is list above below = place_is (same_heap list above) (line list below)

pub below_is : (list : TypeList) (a b : HeapType) → top_over a ≡ None → is_sub list a b ≡ is_some (place (same_heap list b) (line list a))
unfolding is_sub
below_is list a b e = ap (λ o. is_sub_under list o a b) e ∙ any_is (same_heap list b) (line list a)

pub bottom_is : (list : TypeList) (a b : HeapType) (top : Abs) → top_over a ≡ Some top → is_sub list a b ≡ (same_heap list b a || is_some (place (same_heap list (H.Abs top)) (line list b)))
unfolding is_sub
bottom_is list a b top e = ap (λ o. is_sub_under list o a b) e ∙ ap (λ c. same_heap list b a || c) (any_is (same_heap list (H.Abs top)) (line list b))
