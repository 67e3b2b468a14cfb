-- What a link asks for stays in the system: its cells are the system's, and what holds of all contents holds of the
-- contents that it asks for.
use Rattle.std.proofs.Common.{◌≡◌, ℕ, ◌<◌, ◌&&◌, Bool, true, List, [], ◌∷◌, map, length, subst, ⊎_elim, arith}
use Rattle.std.specs.Prelude.{All, flat_map, zip, fold}
use Rattle.std.specs.List.{list_any}
use Rattle.std.proofs.lemmas.Bool.{and_parts, or_cases, eqb-true}
use Rattle.std.proofs.lemmas.List.Elements.{All-head, All-tail, All-cons, All-nil, All-append, All-map}
use Rattle.gu_types.specs.declared.types.RefType.{RefType}
use Rattle.gu_types.specs.declared.types.Storage.{Storage}
use Rattle.gu_types.specs.Depth.{types_of}
use Rattle.gu_rec.specs.Keys.{run}
use Rattle.gu_rec.specs.Sub.{IsHeapOf}
use Rattle.gu_contents.specs.declared.content.Content.{Content}
use Rattle.gu_contents.specs.declared.content.Content.TheVariants.{Empty}
use Rattle.gu_contents.specs.declared.facts.Facts.{Facts}
use Rattle.gu_contents.specs.Join.{join}
use Rattle.gu_contents.specs.Meets.{filter, minus, test, is_null, equal}
use Rattle.gu_contents.specs.Numbers.{pack, extend}
use Rattle.gu_contents.specs.Belongs.{Belongs, IsListed, IsFunc}
use Rattle.gu_contents.specs.Laws.{ContentsAreALattice, AnswersBelong, AnswersAreListed}
use Rattle.gu_links.specs.declared.link.Link.{Link}
use Rattle.gu_links.specs.declared.link.Link.TheVariants as L
use Rattle.gu_links.specs.Cells.{slot_cell, param_cell, param_cells, out_cells, is_least, params_of}
use Rattle.gu_links.specs.Over.{over, is_over, has_slot, callees, is_callee, names}
use Rattle.gu_links.specs.Gives.{Contents, Asked, gives, non_null, internalised, externalised, slot_of, joined, into_slots, call}
use Rattle.gu_links.specs.Solutions.{Fits, IsSystem, IsOf}
use Rattle.gu_links.proofs.Lists.{run_below, all_map_kept_from, all_kept_from}
use Rattle.gu_links.proofs.Within.{slot_within, param_within}
use Rattle.gu_links.proofs.Converting.{non_null_belongs, non_null_listed, internalised_belongs, internalised_listed, externalised_belongs, externalised_listed}

-- what holds of contents holds of all that is made of them
pub record IsKept (f : Facts) (P : Content → Type 0) : Type 0 where
  pub empty_is : P Empty
  pub join_is : (a b : Content) → P a → P b → P (join f a b)
  pub non_null_is : (a : Content) → P a → P (non_null a)
  pub filter_is : (to : RefType) → IsHeapOf f.types to.heap → (a : Content) → P a → P (filter f a to)
  pub minus_is : (by : RefType) → IsHeapOf f.types by.heap → (a : Content) → P a → P (minus f a by)
  pub test_is : (to : RefType) (a : Content) → P (test f a to)
  pub is_null_is : (a : Content) → P (is_null a)
  pub equal_is : (a b : Content) → P (equal f a b)
  pub pack_is : (s : Storage) (a : Content) → P a → P (pack s a)
  pub extend_is : (s : Storage) (sign : Bool) (a : Content) → P a → P (extend s sign a)
  pub internalised_is : (a : Content) → P a → P (internalised f a)
  pub externalised_is : (a : Content) → P a → P (externalised a)

pub belonging_is_kept : (f : Facts) → ContentsAreALattice f → AnswersBelong f → IsKept f (Belongs f)
belonging_is_kept f lattice answers = record {
  empty_is = tt;
  join_is = answers.join_does;
  non_null_is = non_null_belongs f lattice answers;
  filter_is = answers.filter_does;
  minus_is = answers.minus_does;
  test_is = answers.test_does;
  is_null_is = answers.is_null_does;
  equal_is = answers.equal_does;
  pack_is = answers.pack_does;
  extend_is = answers.extend_does;
  internalised_is = internalised_belongs f lattice answers;
  externalised_is = externalised_belongs f lattice answers;
}

pub listed_is_kept : (f : Facts) (longs : List ℕ) → ContentsAreALattice f → AnswersBelong f → AnswersAreListed f longs → IsKept f (IsListed longs)
listed_is_kept f longs lattice answers listed = record {
  empty_is = tt;
  join_is = listed.join_is;
  non_null_is = non_null_listed f lattice answers longs;
  filter_is = λ to h a p. listed.filter_is to a;
  minus_is = λ by h a p. listed.minus_is by a p;
  test_is = listed.test_is;
  is_null_is = listed.is_null_is;
  equal_is = listed.equal_is;
  pack_is = listed.pack_is;
  extend_is = listed.extend_is;
  internalised_is = λ a p. internalised_listed f lattice answers longs a;
  externalised_is = λ a p. externalised_listed f lattice answers longs a;
}

-- a function that links name is one of the facts
named_link : (f : Facts) (longs : List ℕ) (count g : ℕ) (link : Link) → Fits f longs count link → names g link ≡ true → IsFunc f g
named_link f longs count g (L.Callable h) fit e = subst (λ (i : ℕ). IsFunc f i) (eqb-true h g e) fit
named_link f longs count g (L.Root give to) fit e = cc
named_link f longs count g (L.Copy from to) fit e = cc
named_link f longs count g (L.NonNull from to) fit e = cc
named_link f longs count g (L.Filter from by to) fit e = cc
named_link f longs count g (L.Minus from by to) fit e = cc
named_link f longs count g (L.Test from by to) fit e = cc
named_link f longs count g (L.IsNull from to) fit e = cc
named_link f longs count g (L.Equal left right to) fit e = cc
named_link f longs count g (L.Pack storage from to) fit e = cc
named_link f longs count g (L.SlotGet object ty slot storage signed to) fit e = cc
named_link f longs count g (L.SlotSet object ty slot storage from) fit e = cc
named_link f longs count g (L.SlotFill object ty slot give) fit e = cc
named_link f longs count g (L.SlotCopy target to_ty source from_ty) fit e = cc
named_link f longs count g (L.CallBy callee ty operands results) fit e = cc
named_link f longs count g (L.Internalise from to) fit e = cc
named_link f longs count g (L.Externalise from to) fit e = cc

pub named_func : (f : Facts) (longs : List ℕ) (count g : ℕ) (links : List Link) → All (Fits f longs count) links → list_any (names g) links ≡ true → IsFunc f g
named_func f longs count g [] fits e = cc
named_func f longs count g (link ∷ links) fits e = ⊎_elim
    (λ (h : names g link ≡ true). named_link f longs count g link (All-head (Fits f longs count) link links fits) h)
    (λ (h : list_any (names g) links ≡ true). named_func f longs count g links (All-tail (Fits f longs count) link links fits) h)
    (or_cases (names g link) (list_any (names g) links) e)

all_zip : {A B : Type 0} (P : A → Type 0) (Q : B → Type 0) (xs : List A) (ys : List B) → All P xs → All Q ys → All (λ (p : A × B). P p.0 × Q p.1) (zip xs ys)
all_zip {A} {B} P Q [] ys h k = All-nil (λ (p : A × B). P p.0 × Q p.1)
all_zip {A} {B} P Q (x ∷ xs) [] h k = All-nil (λ (p : A × B). P p.0 × Q p.1)
all_zip {A} {B} P Q (x ∷ xs) (y ∷ ys) h k = All-cons (λ (p : A × B). P p.0 × Q p.1) (x, y) (zip xs ys) (All-head P x xs h, All-head Q y ys k) (all_zip P Q xs ys (All-tail P x xs h) (All-tail Q y ys k))

pub all_of : {A : Type 0} (P : A → Type 0) → ((a : A) → P a) → (xs : List A) → All P xs
all_of P h xs k d lt = h _

module _ (f : Facts) (P : Content → Type 0) (kept : IsKept f P) where
  pub fold_kept : (a : Content) (xs : List Content) → P a → All P xs → P (fold (join f) a xs)
  fold_kept a [] h hs = h
  fold_kept a (b ∷ xs) h hs = fold_kept (join f a b) xs (kept.join_is a b h (All-head P b xs hs)) (All-tail P b xs hs)

  module _ (longs : List ℕ) (count : ℕ) (links : List Link) (system : IsSystem f longs count links) (of : (a : Content) → IsOf f longs a → P a) (x : Contents) (all : (c : ℕ) → P (x c)) where
    abbrev pub IsProper : Asked → Type 0
    IsProper asked = (asked.0 < count) × P asked.1

    one : (to : ℕ) (a : Content) → to < count → P a → All IsProper ((to, a) ∷ [])
    one to a lt p = All-cons IsProper (to, a) [] (lt, p) (All-nil IsProper)

    abbrev IsSlotType : ℕ → Type 0
    IsSlotType s = s < length (types_of f.types)

    slot_cell_within : (a : Content) (ty slot s : ℕ) → s < length (types_of f.types) → (has_slot f slot s && is_over f a ty s) ≡ true → slot_cell f s slot < count
    unfolding is_over
    slot_cell_within a ty slot s lt e =
        let p = and_parts (has_slot f slot s) _ e in
        let q = and_parts (is_least f.types s) _ p.1 in
        let h = slot_within f s slot lt q.0 p.0 in let r = system.room in omega arith

    slots_proper : (a b : Content) (ty slot : ℕ) → P b → All IsProper (into_slots f slot b (over f a ty slot))
    unfolding over
    slots_proper a b ty slot p =
        all_map_kept_from (λ s. s < length (types_of f.types)) (λ s. has_slot f slot s && is_over f a ty s) IsProper (λ s. (slot_cell f s slot, b))
        (λ s lt e. (slot_cell_within a ty slot s lt e, p)) (run 0 (length (types_of f.types))) (run_below 0 (length (types_of f.types)) (length (types_of f.types)) (omega arith))

    gets_proper : (types : List ℕ) (to slot : ℕ) (storage : Storage) (signed : Bool) → to < count → All IsProper (map (λ s. (to, extend storage signed (slot_of f x slot s))) types)
    gets_proper types to slot storage signed lt = All-map IsProper (λ s. (to, extend storage signed (slot_of f x slot s))) types (all_of (λ s. (to < count) × P (extend storage signed (slot_of f x slot s))) (λ s. (lt, kept.extend_is storage signed (slot_of f x slot s) (all (slot_cell f s slot)))) types)

    pub joined_kept : (types : List ℕ) → P (joined f x types)
    joined_kept types = fold_kept Empty (map (slot_of f x 0) types) kept.empty_is (All-map P (slot_of f x 0) types (all_of _ (λ s. all (slot_cell f s 0)) types))

    call_proper : (operands results : List ℕ) (g : ℕ) → All (λ c. c < count) results → g < length f.funcs → All IsProper (call f operands results x g)
    call_proper operands results g rs lt = All-append IsProper (zip (param_cells f g) (map x operands)) (zip results (map x (out_cells f g)))
        (all_zip (λ c. c < count) P (param_cells f g) (map x operands)
        (All-map (λ c. c < count) (param_cell f g) (run 0 (params_of f g)) (λ k d h. let b = run_below 0 (params_of f g) (params_of f g) (omega arith) k d h in let w = param_within f g _ lt b in let r = system.room in omega arith))
        (All-map P x operands (all_of _ all operands)))
        (all_zip (λ c. c < count) P results (map x (out_cells f g)) rs (All-map P x (out_cells f g) (all_of _ all (out_cells f g))))

    calls_proper : (a : Content) (ty : ℕ) (operands results : List ℕ) → All (λ c. c < count) results → All IsProper (flat_map (call f operands results x) (callees f links a ty))
    unfolding callees
    calls_proper a ty operands results rs =
        all_kept_from (λ (g : ℕ). Unit {0}) (λ g. list_any (names g) links && is_callee f a ty g) IsProper (call f operands results x)
        (λ g u e. call_proper operands results g rs (named_func f longs count g links system.fit (and_parts (list_any (names g) links) _ e).0).is_func)
        (run 0 (length f.funcs)) (λ k d h. tt)

    pub gives_proper : (link : Link) → Fits f longs count link → All IsProper (gives f links link x)
    unfolding gives
    gives_proper (L.Root give to) fit = one to give fit.1 (of give fit.0)
    gives_proper (L.Copy from to) fit = one to (x from) fit.1 (all from)
    gives_proper (L.NonNull from to) fit = one to _ fit.1 (kept.non_null_is (x from) (all from))
    gives_proper (L.Filter from by to) fit = one to _ fit.1 (kept.filter_is by fit.2 (x from) (all from))
    gives_proper (L.Minus from by to) fit = one to _ fit.1 (kept.minus_is by fit.2 (x from) (all from))
    gives_proper (L.Test from by to) fit = one to _ fit.1 (kept.test_is by (x from))
    gives_proper (L.IsNull from to) fit = one to _ fit.1 (kept.is_null_is (x from))
    gives_proper (L.Equal left right to) fit = one to _ fit.2 (kept.equal_is (x left) (x right))
    gives_proper (L.Pack storage from to) fit = one to _ fit.1 (kept.pack_is storage (x from) (all from))
    gives_proper (L.SlotGet object ty slot storage signed to) fit = gets_proper (over f (x object) ty slot) to slot storage signed fit.1
    gives_proper (L.SlotSet object ty slot storage from) fit = slots_proper (x object) _ ty slot (kept.pack_is storage (x from) (all from))
    gives_proper (L.SlotFill object ty slot give) fit = slots_proper (x object) _ ty slot (of give fit.1)
    gives_proper (L.SlotCopy target to_ty source from_ty) fit = slots_proper (x target) _ to_ty 0 (joined_kept (over f (x source) from_ty 0))
    gives_proper (L.CallBy callee ty operands results) fit = calls_proper (x callee) ty operands results fit.3
    gives_proper (L.Internalise from to) fit = one to _ fit.1 (kept.internalised_is (x from) (all from))
    gives_proper (L.Externalise from to) fit = one to _ fit.1 (kept.externalised_is (x from) (all from))
    gives_proper (L.Callable function) fit = All-nil IsProper
