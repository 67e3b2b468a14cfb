-- A link rests on what it reads alone.
use Rattle.std.proofs.Common.{◌≡◌, ℕ, List, [], ◌∷◌, ◌++◌, map, sym, refl, ap, ◌∙◌, subst}
use Rattle.std.specs.Prelude.{flat_map, fold}
use Rattle.gu_contents.specs.declared.content.Content.{Content}
use Rattle.gu_contents.specs.declared.content.Content.TheVariants.{Empty}
use Rattle.gu_contents.specs.declared.facts.Facts.{Facts}
use Rattle.gu_contents.specs.Join.{join}
use Rattle.gu_contents.specs.Meets.{filter, minus, test, is_null}
use Rattle.gu_contents.specs.Numbers.{pack, extend}
use Rattle.gu_links.specs.declared.link.Link.{Link}
use Rattle.gu_links.specs.declared.link.Link.TheVariants as L
use Rattle.gu_links.specs.Cells.{slot_cell, out_cells}
use Rattle.gu_links.specs.Over.{over, callees}
use Rattle.gu_links.specs.Gives.{Contents, gives, reads, non_null, internalised, externalised, slot_of, joined, into_slots, call}
use Rattle.gu_links.specs.Laws.{Agree, IsSameOn}
use Rattle.gu_links.proofs.Agreeing.{first, rest, front, back, map_same, cells_same, flat_same}

module _ (f : Facts) (links : List Link) (x y : Contents) where
  one : (link : Link) (from to : ℕ) (make : Content → Content)
      → reads f links link x ≡ from ∷ [] → reads f links link y ≡ from ∷ [] → gives f links link x ≡ (to, make (x from)) ∷ [] → gives f links link y ≡ (to, make (y from)) ∷ []
      → Agree (reads f links link x) x y → IsSameOn f links link x y
  one link from to make rx ry gx gy h = record {
    reads_are = rx ∙ sym ry;
    gives_are = gx ∙ (ap (λ (a : Content). (to, make a) ∷ []) (first x y from [] (subst (λ (cs : List ℕ). Agree cs x y) rx h)) ∙ sym gy);
  }

  call_same : (operands results : List ℕ) (g : ℕ) → Agree operands x y → Agree (out_cells f g) x y → call f operands results x g ≡ call f operands results y g
  call_same operands results g h k = let e = cells_same x y operands h in let es = cells_same x y (out_cells f g) k in cc

  pub same_on : (link : Link) → Agree (reads f links link x) x y → IsSameOn f links link x y
  unfolding gives reads
  same_on (L.Root give to) h = record { reads_are = refl; gives_are = refl }
  same_on (L.Copy from to) h = one (L.Copy from to) from to (λ a. a) refl refl refl refl h
  same_on (L.NonNull from to) h = one (L.NonNull from to) from to non_null refl refl refl refl h
  same_on (L.Filter from by to) h = one (L.Filter from by to) from to (λ a. filter f a by) refl refl refl refl h
  same_on (L.Minus from by to) h = one (L.Minus from by to) from to (λ a. minus f a by) refl refl refl refl h
  same_on (L.Test from by to) h = one (L.Test from by to) from to (λ a. test f a by) refl refl refl refl h
  same_on (L.IsNull from to) h = one (L.IsNull from to) from to is_null refl refl refl refl h
  same_on (L.Equal left right to) h = record {
    reads_are = refl;
    gives_are = let e = first x y left (right ∷ []) h in let d = first x y right [] (rest x y left (right ∷ []) h) in cc;
  }
  same_on (L.Pack storage from to) h = one (L.Pack storage from to) from to (pack storage) refl refl refl refl h
  same_on (L.SlotGet object ty slot storage signed to) h =
      let types = over f (x object) ty slot in
      let e = first x y object (map (λ s. slot_cell f s slot) types) h in
      let es = map_same x y (λ s. slot_cell f s slot) (λ a. (to, extend storage signed a)) types (rest x y object (map (λ s. slot_cell f s slot) types) h) in
      record {
        reads_are = ap (λ a. object ∷ map (λ s. slot_cell f s slot) (over f a ty slot)) e;
        gives_are = es ∙ ap (λ a. map (λ s. (to, extend storage signed (slot_of f y slot s))) (over f a ty slot)) e;
      }
  same_on (L.SlotSet object ty slot storage from) h = record {
    reads_are = refl;
    gives_are = let e = first x y object (from ∷ []) h in let d = first x y from [] (rest x y object (from ∷ []) h) in
        ap (λ a. into_slots f slot (pack storage a) (over f (x object) ty slot)) d ∙ ap (λ a. into_slots f slot (pack storage (y from)) (over f a ty slot)) e;
  }
  same_on (L.SlotFill object ty slot give) h = record {
    reads_are = refl;
    gives_are = ap (λ a. into_slots f slot give (over f a ty slot)) (first x y object [] h);
  }
  same_on (L.SlotCopy target to_ty source from_ty) h =
      let types = over f (x source) from_ty 0 in
      let cells = map (λ s. slot_cell f s 0) types in
      let t = first x y target (source ∷ cells) h in
      let h1 = rest x y target (source ∷ cells) h in
      let e = first x y source cells h1 in
      let es = map_same x y (λ s. slot_cell f s 0) (λ a. a) types (rest x y source cells h1) in
      record {
        reads_are = ap (λ a. target ∷ source ∷ map (λ s. slot_cell f s 0) (over f a from_ty 0)) e;
        gives_are = ap (λ held. into_slots f 0 (fold (join f) Empty held) (over f (x target) to_ty 0)) es
            ∙ (ap (λ a. into_slots f 0 (joined f y (over f a from_ty 0)) (over f (x target) to_ty 0)) e
            ∙ ap (λ a. into_slots f 0 (joined f y (over f (y source) from_ty 0)) (over f a to_ty 0)) t);
      }
  same_on (L.CallBy callee ty operands results) h =
      let gs = callees f links (x callee) ty in
      let e = first x y callee (operands ++ flat_map (out_cells f) gs) h in
      let h1 = rest x y callee (operands ++ flat_map (out_cells f) gs) h in
      let os = front x y operands (flat_map (out_cells f) gs) h1 in
      let es = flat_same x y (out_cells f) (call f operands results) (λ g k. call_same operands results g os k) gs (back x y operands (flat_map (out_cells f) gs) h1) in
      record {
        reads_are = ap (λ a. callee ∷ operands ++ flat_map (out_cells f) (callees f links a ty)) e;
        gives_are = es ∙ ap (λ a. flat_map (call f operands results y) (callees f links a ty)) e;
      }
  same_on (L.Internalise from to) h = one (L.Internalise from to) from to (internalised f) refl refl refl refl h
  same_on (L.Externalise from to) h = one (L.Externalise from to) from to externalised refl refl refl refl h
  same_on (L.Callable function) h = record { reads_are = refl; gives_are = refl }
