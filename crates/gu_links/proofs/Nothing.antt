-- Of nothing a link makes nothing.
use Rattle.std.proofs.Common.{◌≡◌, ℕ, ◌&&◌, Bool, false, List, [], ◌∷◌, ◌++◌, map, length, sym, refl, ap, ◌∙◌, subst}
use Rattle.std.specs.Prelude.{All, flat_map, slice_index}
use Rattle.std.specs.List.{filter as keep, list_any}
use Rattle.gu_types.specs.Depth.{types_of}
use Rattle.gu_types.specs.declared.types.HeapType.TheVariants as H
use Rattle.gu_rec.specs.Keys.{run}
use Rattle.gu_rec.specs.Sub.{is_sub}
use Rattle.std.proofs.lemmas.Bool.{and_right}
use Rattle.std.proofs.lemmas.List.Elements.{All-head, All-cons, All-nil}
use Rattle.gu_contents.specs.declared.content.Content.{Content}
use Rattle.gu_contents.specs.declared.content.Content.TheVariants.{Empty}
use Rattle.gu_contents.specs.declared.facts.Facts.{Facts}
use Rattle.gu_contents.specs.Meets.{filter, minus, test, is_null, equal}
use Rattle.gu_contents.specs.Numbers.{pack}
use Rattle.gu_types.specs.declared.types.Storage.{Storage}
use Rattle.gu_types.specs.declared.types.Storage.TheVariants as S
use Rattle.gu_links.specs.declared.link.Link.{Link}
use Rattle.gu_links.specs.declared.link.Link.TheVariants as L
use Rattle.gu_links.specs.Cells.{slot_cell, out_cells, is_least}
use Rattle.gu_links.specs.Over.{over, callees, is_over, is_callee, has_slot, names}
use Rattle.gu_links.specs.Gives.{Contents, Asked, gives, reads, IsRoot, non_null, internalised, externalised, into_slots, call}

none_kept : {A : Type 0} (p : A → Bool) (xs : List A) → ((x : A) → p x ≡ false) → keep p xs ≡ []
none_kept p [] h = refl
none_kept p (x ∷ xs) h = let e = h x in let es = none_kept p xs h in simp (e, es)

over_none : (f : Facts) (ty s : ℕ) → is_over f Empty ty s ≡ false
unfolding is_over filter
over_none f ty s = and_right (is_least f.types s) _ (and_right (is_sub f.types (H.Idx s) (H.Idx ty)) false refl)

callee_none : (f : Facts) (ty g : ℕ) → is_callee f Empty ty g ≡ false
unfolding is_callee filter
callee_none f ty g = and_right (is_sub f.types (H.Idx (slice_index f.funcs g)) (H.Idx ty)) false refl

pub over_nothing : (f : Facts) (ty slot : ℕ) → over f Empty ty slot ≡ []
unfolding over
over_nothing f ty slot = none_kept (λ s. has_slot f slot s && is_over f Empty ty s) (run 0 (length (types_of f.types))) (λ s. and_right (has_slot f slot s) (is_over f Empty ty s) (over_none f ty s))

pub callees_nothing : (f : Facts) (links : List Link) (ty : ℕ) → callees f links Empty ty ≡ []
unfolding callees
callees_nothing f links ty = none_kept (λ g. list_any (names g) links && is_callee f Empty ty g) (run 0 (length f.funcs)) (λ g. and_right (list_any (names g) links) (is_callee f Empty ty g) (callee_none f ty g))

module _ (f : Facts) (links : List Link) (x : Contents) where
  abbrev IsNone : Asked → Type 0
  IsNone asked = asked.1 ≡ Empty

  abbrev Nothing : List ℕ → Type 0
  Nothing cells = All (λ c. x c ≡ Empty) cells

  one : (to : ℕ) (a : Content) → a ≡ Empty → All IsNone ((to, a) ∷ [])
  one to a e = All-cons IsNone (to, a) [] e (All-nil IsNone)

  none : (xs : List Asked) → xs ≡ [] → All IsNone xs
  none xs e = subst (λ (ys : List Asked). All IsNone ys) (sym e) (All-nil IsNone)

  head : (c : ℕ) (cs : List ℕ) → Nothing (c ∷ cs) → x c ≡ Empty
  head c cs h = All-head (λ d. x d ≡ Empty) c cs h

  pack_nothing : (s : Storage) → pack s Empty ≡ Empty
  unfolding pack
  pack_nothing S.I8 = refl
  pack_nothing S.I16 = refl
  pack_nothing (S.Val ty) = refl

  slots_nothing : (slot ty : ℕ) (a b : Content) → b ≡ Empty → into_slots f slot a (over f b ty slot) ≡ []
  slots_nothing slot ty a b e = ap (λ c. into_slots f slot a (over f c ty slot)) e ∙ ap (into_slots f slot a) (over_nothing f ty slot)

  pub gives_nothing : (link : Link) → (IsRoot link → ⊥) → Nothing (reads f links link x) → All IsNone (gives f links link x)
  unfolding gives reads non_null filter minus test is_null equal internalised externalised
  gives_nothing (L.Root give to) root h = absurd (root tt)
  gives_nothing (L.Copy from to) root h = one to (x from) (head from [] h)
  gives_nothing (L.NonNull from to) root h = one to _ (ap non_null (head from [] h))
  gives_nothing (L.Filter from by to) root h = one to _ (ap (λ a. filter f a by) (head from [] h))
  gives_nothing (L.Minus from by to) root h = one to _ (ap (λ a. minus f a by) (head from [] h))
  gives_nothing (L.Test from by to) root h = one to _ (ap (λ a. test f a by) (head from [] h))
  gives_nothing (L.IsNull from to) root h = one to _ (ap is_null (head from [] h))
  gives_nothing (L.Equal left right to) root h = one to _ (ap (λ a. equal f a (x right)) (head left (right ∷ []) h))
  gives_nothing (L.Pack storage from to) root h = one to _ (ap (pack storage) (head from [] h) ∙ pack_nothing storage)
  gives_nothing (L.SlotGet object ty slot storage signed to) root h =
      let e = head object (map (λ s. slot_cell f s slot) (over f (x object) ty slot)) h in
      let es : over f (x object) ty slot ≡ [] = ap (λ a. over f a ty slot) e ∙ over_nothing f ty slot in
      none _ (ap (map _) es)
  gives_nothing (L.SlotSet object ty slot storage from) root h = none _ (slots_nothing slot ty _ (x object) (head object (from ∷ []) h))
  gives_nothing (L.SlotFill object ty slot give) root h = none _ (slots_nothing slot ty _ (x object) (head object [] h))
  gives_nothing (L.SlotCopy target to_ty source from_ty) root h =
      none _ (slots_nothing 0 to_ty _ (x target) (head target (source ∷ map (λ s. slot_cell f s 0) (over f (x source) from_ty 0)) h))
  gives_nothing (L.CallBy callee ty operands results) root h =
      let e = head callee (operands ++ flat_map (out_cells f) (callees f links (x callee) ty)) h in
      let es : callees f links (x callee) ty ≡ [] = ap (λ a. callees f links a ty) e ∙ callees_nothing f links ty in
      none _ (ap (flat_map (call f operands results x)) es)
  gives_nothing (L.Internalise from to) root h = one to _ (ap (internalised f) (head from [] h))
  gives_nothing (L.Externalise from to) root h = one to _ (ap externalised (head from [] h))
  gives_nothing (L.Callable function) root h = All-nil IsNone
