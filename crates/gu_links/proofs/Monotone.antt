-- Where cells have more, a link asks for no less.
use Rattle.std.proofs.Common.{◌≡◌, ℕ, ◌<◌, ◌&&◌, Bool, true, List, [], ◌∷◌, map, length, arith}
use Rattle.std.specs.Prelude.{All, flat_map, zip, fold}
use Rattle.std.specs.List.{list_any}
use Rattle.std.proofs.lemmas.Bool.{and_parts, and_from}
use Rattle.std.proofs.lemmas.List.Elements.{All-head, All-tail, All-cons, All-nil, All-append, All-map}
use Rattle.gu_types.specs.declared.types.Storage.{Storage}
use Rattle.gu_types.specs.Depth.{types_of}
use Rattle.gu_rec.specs.Keys.{run}
use Rattle.gu_contents.specs.declared.content.Content.{Content}
use Rattle.gu_contents.specs.declared.content.Content.TheVariants.{Empty}
use Rattle.gu_contents.specs.declared.facts.Facts.{Facts}
use Rattle.gu_contents.specs.Order.{AtMost}
use Rattle.gu_contents.specs.Join.{join}
use Rattle.gu_contents.specs.Meets.{filter, minus, test, is_null, equal}
use Rattle.gu_contents.specs.Numbers.{pack, extend}
use Rattle.gu_contents.specs.Belongs.{Belongs}
use Rattle.gu_contents.specs.Laws.{ContentsAreALattice, AnswersBelong}
use Rattle.gu_links.specs.declared.link.Link.{Link}
use Rattle.gu_links.specs.declared.link.Link.TheVariants as L
use Rattle.gu_links.specs.Cells.{slot_cell, param_cells, out_cells}
use Rattle.gu_links.specs.Over.{over, is_over, has_slot, callees, is_callee, names}
use Rattle.gu_links.specs.Gives.{Contents, gives, non_null, internalised, externalised, slot_of, joined, into_slots, call}
use Rattle.gu_links.specs.Solutions.{Fits, IsSystem, AllBelong, IsBelow, IsMet}
use Rattle.gu_links.proofs.Lists.{run_below, all_map_kept, all_kept, all_front, all_back}
use Rattle.gu_links.proofs.Covering.{over_up, callee_up}
use Rattle.gu_links.proofs.Converting.{non_null_up, non_null_belongs, internalised_up, internalised_belongs, externalised_up, externalised_belongs}
use Rattle.gu_links.proofs.Given.{named_func, fold_kept, belonging_is_kept, all_of}

-- the join of a list is the least content that is at least each of it
module _ (f : Facts) (lattice : ContentsAreALattice f) (answers : AnswersBelong f) where
  pub fold_least : (c a : Content) (xs : List Content) → Belongs f c → Belongs f a → All (Belongs f) xs → AtMost f a c → All (λ b. AtMost f b c) xs → AtMost f (fold (join f) a xs) c
  fold_least c a [] hc ha hs le les = le
  fold_least c a (b ∷ xs) hc ha hs le les =
      let hb = All-head (Belongs f) b xs hs in
      fold_least c (join f a b) xs hc (answers.join_does a b ha hb) (All-tail (Belongs f) b xs hs)
      (lattice.joins.least a b c ha hb hc le (All-head (λ b. AtMost f b c) b xs les)) (All-tail (λ b. AtMost f b c) b xs les)

  folded : (a : Content) (xs : List Content) → Belongs f a → All (Belongs f) xs → Belongs f (fold (join f) a xs)
  folded = fold_kept f (Belongs f) (belonging_is_kept f lattice answers)

  fold_first : (a : Content) (xs : List Content) → Belongs f a → All (Belongs f) xs → AtMost f a (fold (join f) a xs)
  fold_first a [] ha hs = lattice.order.reflexive a
  fold_first a (b ∷ xs) ha hs =
      let hb = All-head (Belongs f) b xs hs in let rest = All-tail (Belongs f) b xs hs in
      let j = answers.join_does a b ha hb in
      lattice.order.transitive a (join f a b) (fold (join f) a (b ∷ xs)) ha j (folded (join f a b) xs j rest) (lattice.joins.first a b ha hb) (fold_first (join f a b) xs j rest)

  pub fold_each : (a : Content) (xs : List Content) → Belongs f a → All (Belongs f) xs → All (λ b. AtMost f b (fold (join f) a xs)) xs
  fold_each a [] ha hs = All-nil (λ b. AtMost f b a)
  fold_each a (b ∷ xs) ha hs =
      let hb = All-head (Belongs f) b xs hs in let rest = All-tail (Belongs f) b xs hs in
      let j = answers.join_does a b ha hb in
      All-cons (λ c. AtMost f c (fold (join f) a (b ∷ xs))) b xs
      (lattice.order.transitive b (join f a b) (fold (join f) a (b ∷ xs)) hb j (folded (join f a b) xs j rest) (lattice.joins.second a b ha hb) (fold_first (join f a b) xs j rest))
      (fold_each (join f a b) xs j rest)

  module _ (longs : List ℕ) (count : ℕ) (links : List Link) (system : IsSystem f longs count links) (x y : Contents) (hx : AllBelong f x) (hy : AllBelong f y) (below : IsBelow f x y) where
    -- what is at most a content that is met is met
    down : (to : ℕ) (a b : Content) → Belongs f a → Belongs f b → AtMost f a b → AtMost f b (y to) → AtMost f a (y to)
    down to a b ha hb le met = lattice.order.transitive a b (y to) ha hb (hy.at to) le met

    one : (to : ℕ) (a b : Content) → Belongs f a → Belongs f b → AtMost f a b → All (IsMet f y) ((to, b) ∷ []) → All (IsMet f y) ((to, a) ∷ [])
    one to a b ha hb le met = All-cons (IsMet f y) (to, a) [] (down to a b ha hb le (All-head (IsMet f y) (to, b) [] met)) (All-nil (IsMet f y))

    abbrev IsIn : ℕ → Type 0
    IsIn ty = ty < length (types_of f.types)

    in_run : All IsIn (run 0 (length (types_of f.types)))
    in_run = run_below 0 (length (types_of f.types)) (length (types_of f.types)) (omega arith)

    -- a slot type of a cell's content is one of the greater content
    slot_up : (object ty slot s : ℕ) → IsIn ty → IsIn s → (has_slot f slot s && is_over f (x object) ty s) ≡ true → (has_slot f slot s && is_over f (y object) ty s) ≡ true
    slot_up object ty slot s in_range lt e =
        let p = and_parts (has_slot f slot s) (is_over f (x object) ty s) e in
        and_from (has_slot f slot s) (is_over f (y object) ty s) p.0 (over_up f lattice answers (x object) (y object) ty s in_range lt (hx.at object) (hy.at object) (below.at object) p.1)

    slots_down : (object ty slot : ℕ) (a b : Content) → IsIn ty → Belongs f a → Belongs f b → AtMost f a b
        → All (IsMet f y) (into_slots f slot b (over f (y object) ty slot)) → All (IsMet f y) (into_slots f slot a (over f (x object) ty slot))
    unfolding over
    slots_down object ty slot a b in_range ha hb le met =
        all_map_kept IsIn (λ s. has_slot f slot s && is_over f (x object) ty s) (λ s. has_slot f slot s && is_over f (y object) ty s) (IsMet f y) (IsMet f y)
        (λ s. (slot_cell f s slot, a)) (λ s. (slot_cell f s slot, b))
        (λ s lt e. (slot_up object ty slot s in_range lt e, down (slot_cell f s slot) a b ha hb le)) (run 0 (length (types_of f.types))) in_run met

    gets_down : (object ty slot to : ℕ) (storage : Storage) (signed : Bool) → IsIn ty
        → All (IsMet f y) (map (λ s. (to, extend storage signed (slot_of f y slot s))) (over f (y object) ty slot)) → All (IsMet f y) (map (λ s. (to, extend storage signed (slot_of f x slot s))) (over f (x object) ty slot))
    unfolding over
    gets_down object ty slot to storage signed in_range met =
        all_map_kept IsIn (λ s. has_slot f slot s && is_over f (x object) ty s) (λ s. has_slot f slot s && is_over f (y object) ty s) (IsMet f y) (IsMet f y)
        (λ s. (to, extend storage signed (slot_of f x slot s))) (λ s. (to, extend storage signed (slot_of f y slot s)))
        (λ s lt e.
        let c = slot_cell f s slot in (
          slot_up object ty slot s in_range lt e,
          down to (extend storage signed (x c)) (extend storage signed (y c)) (answers.extend_does storage signed (x c) (hx.at c)) (answers.extend_does storage signed (y c) (hy.at c))
              (lattice.monotone.extend_is storage signed (x c) (y c) (hx.at c) (hy.at c) (below.at c)),
        ))
        (run 0 (length (types_of f.types))) in_run met

    -- the elements of more arrays, joined
    slots_belong : (z : Contents) → AllBelong f z → (types : List ℕ) → All (Belongs f) (map (slot_of f z 0) types)
    slots_belong z hz types = All-map (Belongs f) (slot_of f z 0) types (all_of (λ s. Belongs f (slot_of f z 0 s)) (λ s. hz.at (slot_cell f s 0)) types)

    joined_belongs : (z : Contents) → AllBelong f z → (types : List ℕ) → Belongs f (joined f z types)
    joined_belongs z hz types = folded Empty (map (slot_of f z 0) types) tt (slots_belong z hz types)

    joined_up : (object ty : ℕ) → IsIn ty → AtMost f (joined f x (over f (x object) ty 0)) (joined f y (over f (y object) ty 0))
    unfolding over
    joined_up object ty in_range =
        let more = over f (y object) ty 0 in
        let whole = joined f y more in
        let hw = joined_belongs y hy more in
        fold_least whole Empty (map (slot_of f x 0) (over f (x object) ty 0)) hw tt (slots_belong x hx (over f (x object) ty 0)) (lattice.order.least whole)
        (all_map_kept IsIn (λ s. has_slot f 0 s && is_over f (x object) ty s) (λ s. has_slot f 0 s && is_over f (y object) ty s) (λ b. AtMost f b whole) (λ b. AtMost f b whole)
        (slot_of f x 0) (slot_of f y 0)
        (λ s lt e. let c = slot_cell f s 0 in
        (slot_up object ty 0 s in_range lt e, λ le. lattice.order.transitive (x c) (y c) whole (hx.at c) (hy.at c) hw (below.at c) le))
        (run 0 (length (types_of f.types))) in_run
        (fold_each Empty (map (slot_of f y 0) more) tt (slots_belong y hy more)))

    zip_down : (cells from : List ℕ) → All (IsMet f y) (zip cells (map y from)) → All (IsMet f y) (zip cells (map x from))
    zip_down [] from met = met
    zip_down (c ∷ cells) [] met = met
    zip_down (c ∷ cells) (d ∷ from) met = All-cons (IsMet f y) (c, x d) (zip cells (map x from))
        (down c (x d) (y d) (hx.at d) (hy.at d) (below.at d) (All-head (IsMet f y) (c, y d) (zip cells (map y from)) met))
        (zip_down cells from (All-tail (IsMet f y) (c, y d) (zip cells (map y from)) met))

    call_down : (operands results : List ℕ) (g : ℕ) → All (IsMet f y) (call f operands results y g) → All (IsMet f y) (call f operands results x g)
    call_down operands results g met = All-append (IsMet f y) (zip (param_cells f g) (map x operands)) (zip results (map x (out_cells f g)))
        (zip_down (param_cells f g) operands (all_front (IsMet f y) (zip (param_cells f g) (map y operands)) (zip results (map y (out_cells f g))) met))
        (zip_down results (out_cells f g) (all_back (IsMet f y) (zip (param_cells f g) (map y operands)) (zip results (map y (out_cells f g))) met))

    calls_down : (callee ty : ℕ) (operands results : List ℕ) → IsIn ty
        → All (IsMet f y) (flat_map (call f operands results y) (callees f links (y callee) ty)) → All (IsMet f y) (flat_map (call f operands results x) (callees f links (x callee) ty))
    unfolding callees
    calls_down callee ty operands results in_range met =
        all_kept (λ (g : ℕ). Unit {0}) (λ g. list_any (names g) links && is_callee f (x callee) ty g) (λ g. list_any (names g) links && is_callee f (y callee) ty g) (IsMet f y) (IsMet f y)
        (call f operands results x) (call f operands results y)
        (λ g u e. let p = and_parts (list_any (names g) links) (is_callee f (x callee) ty g) e in (
          and_from (list_any (names g) links) (is_callee f (y callee) ty g) p.0
              (callee_up f lattice answers (x callee) (y callee) ty g in_range (named_func f longs count g links system.fit p.0) (hx.at callee) (hy.at callee) (below.at callee) p.1),
          call_down operands results g,
        ))
        (run 0 (length f.funcs)) (λ k d h. tt) met

    pub gives_down : (link : Link) → Fits f longs count link → All (IsMet f y) (gives f links link y) → All (IsMet f y) (gives f links link x)
    unfolding gives
    gives_down (L.Root give to) fit met = met
    gives_down (L.Copy from to) fit met = one to (x from) (y from) (hx.at from) (hy.at from) (below.at from) met
    gives_down (L.NonNull from to) fit met = one to _ (non_null (y from)) (non_null_belongs f lattice answers (x from) (hx.at from)) (non_null_belongs f lattice answers (y from) (hy.at from))
        (non_null_up f lattice answers (x from) (y from) (hx.at from) (hy.at from) (below.at from)) met
    gives_down (L.Filter from by to) fit met = one to _ (filter f (y from) by) (answers.filter_does by fit.2 (x from) (hx.at from)) (answers.filter_does by fit.2 (y from) (hy.at from))
        (lattice.monotone.filter_is by fit.2 (x from) (y from) (hx.at from) (hy.at from) (below.at from)) met
    gives_down (L.Minus from by to) fit met = one to _ (minus f (y from) by) (answers.minus_does by fit.2 (x from) (hx.at from)) (answers.minus_does by fit.2 (y from) (hy.at from))
        (lattice.monotone.minus_is by fit.2 (x from) (y from) (hx.at from) (hy.at from) (below.at from)) met
    gives_down (L.Test from by to) fit met = one to _ (test f (y from) by) (answers.test_does by (x from)) (answers.test_does by (y from))
        (lattice.monotone.test_is by fit.2 (x from) (y from) (hx.at from) (hy.at from) (below.at from)) met
    gives_down (L.IsNull from to) fit met = one to _ (is_null (y from)) (answers.is_null_does (x from)) (answers.is_null_does (y from))
        (lattice.monotone.is_null_is (x from) (y from) (hx.at from) (hy.at from) (below.at from)) met
    gives_down (L.Equal left right to) fit met = one to _ (equal f (y left) (y right)) (answers.equal_does (x left) (x right)) (answers.equal_does (y left) (y right))
        (lattice.monotone.equal_is (x left) (y left) (x right) (y right) (hx.at left) (hy.at left) (hx.at right) (hy.at right) (below.at left) (below.at right)) met
    gives_down (L.Pack storage from to) fit met = one to _ (pack storage (y from)) (answers.pack_does storage (x from) (hx.at from)) (answers.pack_does storage (y from) (hy.at from))
        (lattice.monotone.pack_is storage (x from) (y from) (hx.at from) (hy.at from) (below.at from)) met
    gives_down (L.SlotGet object ty slot storage signed to) fit met = gets_down object ty slot to storage signed fit.2 met
    gives_down (L.SlotSet object ty slot storage from) fit met = slots_down object ty slot (pack storage (x from)) (pack storage (y from)) fit.2 (answers.pack_does storage (x from) (hx.at from)) (answers.pack_does storage (y from) (hy.at from))
        (lattice.monotone.pack_is storage (x from) (y from) (hx.at from) (hy.at from) (below.at from)) met
    gives_down (L.SlotFill object ty slot give) fit met = slots_down object ty slot give give fit.2 fit.1.belongs fit.1.belongs (lattice.order.reflexive give) met
    gives_down (L.SlotCopy target to_ty source from_ty) fit met =
        slots_down target to_ty 0 (joined f x (over f (x source) from_ty 0)) (joined f y (over f (y source) from_ty 0)) fit.2
        (joined_belongs x hx (over f (x source) from_ty 0)) (joined_belongs y hy (over f (y source) from_ty 0)) (joined_up source from_ty fit.3) met
    gives_down (L.CallBy callee ty operands results) fit met = calls_down callee ty operands results fit.1 met
    gives_down (L.Internalise from to) fit met = one to _ (internalised f (y from)) (internalised_belongs f lattice answers (x from) (hx.at from)) (internalised_belongs f lattice answers (y from) (hy.at from))
        (internalised_up f lattice answers (x from) (y from) (hx.at from) (hy.at from) (below.at from)) met
    gives_down (L.Externalise from to) fit met = one to _ (externalised (y from)) (externalised_belongs f lattice answers (x from) (hx.at from)) (externalised_belongs f lattice answers (y from) (hy.at from))
        (externalised_up f lattice answers (x from) (y from) (hx.at from) (hy.at from) (below.at from)) met
    gives_down (L.Callable function) fit met = met
