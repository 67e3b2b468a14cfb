-- Links are listed one after another.
use Rattle.std.proofs.Common.{◌≡◌, ◌∙◌, ℕ, ◌+◌, ◌<◌, ◌≤◌, ◌||◌, Bool, true, false, cond, Option, Some, None, List, [], ◌∷◌, ◌++◌, length, get_or, take, sym, ap, subst, ⊎_elim, arith}
use Rattle.std.specs.Prelude.{All, Contains, IfSome, nat_eq}
use Rattle.std.proofs.lemmas.Bool.{cases_lt}
use Rattle.std.proofs.lemmas.List.Elements.{All-nil, All-append, All-cons, All-contains, Contains-get_or}
use Rattle.std.proofs.lemmas.List.Folds.{list_any-append}
use Rattle.gu_contents.specs.declared.facts.Facts.{Facts}
use Rattle.gu_links.specs.declared.link.Link.{Link}
use Rattle.gu_links.specs.declared.index.Cells.{Cells}
use Rattle.gu_links.specs.declared.readers.Place.{Place}
use Rattle.gu_links.specs.declared.readers.Place.TheVariants as P
use Rattle.gu_links.specs.declared.readers.Readers.{Readers}
use Rattle.gu_links.specs.Kept.{has, fixed_reads, fixed_once, once_onto}
use Rattle.gu_links.specs.Known.{link_at}
use Rattle.gu_links.specs.Listed.{listed_at, fixed_place, below_place, Adds, HasLists, IsListedAt}
use Rattle.gu_types.specs.declared.types.HeapType.TheVariants as H
use Rattle.gu_contents.proofs.Heights.{least_in_range}
use Rattle.gu_links.specs.declared.link.Link.TheVariants as L
use Rattle.gu_links.specs.Cells.{own_cells, slot_cell}
use Rattle.gu_links.specs.Listed.{IsPlace, IsListAt, IsBelowType, slot_place, type_place}
use Rattle.gu_links.proofs.Distinct.{has_from, from_has}
use Rattle.gu_links.proofs.Firsts.{has_once}
use Rattle.gu_links.proofs.Sized.{least_slots}
use Rattle.gu_links.proofs.Within.{slot_least_within}
use Rattle.std.proofs.lemmas.List.{take_more}

-- a list with a number more at its end, if at all, has what it had, and numbers that are as small
more_has : (b : Bool) (xs : List ℕ) (n k : ℕ) → has xs k ≡ true → has (cond b (xs ++ n ∷ []) xs) k ≡ true
more_has true xs n k h = list_any-append (λ (d : ℕ). nat_eq d k) xs (n ∷ []) ∙ ap (λ (c : Bool). c || (nat_eq n k || false)) h
more_has false xs n k h = h

more_below : (b : Bool) (xs : List ℕ) (n end : ℕ) → n < end → All (λ k. k < end) xs → All (λ k. k < end) (cond b (xs ++ n ∷ []) xs)
more_below true xs n end lt h = All-append (λ k. k < end) xs (n ∷ []) h (All-cons (λ k. k < end) n [] lt (All-nil (λ k. k < end)))
more_below false xs n end lt h = h

-- a number is put at the end of one of some lists
abbrev pub IsPut : List (List ℕ) → List (List ℕ) → ℕ → ℕ → Type 0
IsPut old new own number = (h : ℕ) → get_or new h [] ≡ cond (nat_eq own h) (get_or old h [] ++ number ∷ []) (get_or old h [])

module _ (number own : ℕ) (old new : Readers) where
  pub adds_cell : IsPut old.at_cells.items new.at_cells.items own number → length new.at_cells.items ≡ length old.at_cells.items → old.at_types.items ≡ new.at_types.items → Adds number old new
  adds_cell put long same = record {
    cells = long;
    types = sym (ap length same);
    kept = kept;
    below = λ n lt h place. below n lt h place;
  }
    where
      kept : (place : Place) (k : ℕ) → has (listed_at old place) k ≡ true → has (listed_at new place) k ≡ true
      kept (P.Cell c) k h = ap (λ (xs : List ℕ). has xs k) (put c) ∙ more_has (nat_eq own c) (get_or old.at_cells.items c []) number k h
      kept (P.Type t) k h = ap (λ (xs : List (List ℕ)). has (get_or xs t []) k) (sym same) ∙ h

      below : (n : ℕ) → number < n → ((place : Place) → All (λ k. k < n) (listed_at old place)) → (place : Place) → All (λ k. k < n) (listed_at new place)
      below n lt h (P.Cell c) = subst (λ (xs : List ℕ). All (λ k. k < n) xs) (sym (put c)) (more_below (nat_eq own c) (get_or old.at_cells.items c []) number n lt (h (P.Cell c)))
      below n lt h (P.Type t) = subst (λ (xs : List (List ℕ)). All (λ k. k < n) (get_or xs t [])) same (h (P.Type t))

  pub adds_type : IsPut old.at_types.items new.at_types.items own number → length new.at_types.items ≡ length old.at_types.items → old.at_cells.items ≡ new.at_cells.items → Adds number old new
  adds_type put long same = record {
    cells = sym (ap length same);
    types = long;
    kept = kept;
    below = λ n lt h place. below n lt h place;
  }
    where
      kept : (place : Place) (k : ℕ) → has (listed_at old place) k ≡ true → has (listed_at new place) k ≡ true
      kept (P.Cell c) k h = ap (λ (xs : List (List ℕ)). has (get_or xs c []) k) (sym same) ∙ h
      kept (P.Type t) k h = ap (λ (xs : List ℕ). has xs k) (put t) ∙ more_has (nat_eq own t) (get_or old.at_types.items t []) number k h

      below : (n : ℕ) → number < n → ((place : Place) → All (λ k. k < n) (listed_at old place)) → (place : Place) → All (λ k. k < n) (listed_at new place)
      below n lt h (P.Cell c) = subst (λ (xs : List (List ℕ)). All (λ k. k < n) (get_or xs c [])) same (h (P.Cell c))
      below n lt h (P.Type t) = subst (λ (xs : List ℕ). All (λ k. k < n) xs) (sym (put t)) (more_below (nat_eq own t) (get_or old.at_types.items t []) number n lt (h (P.Type t)))

module _ (number : ℕ) where
  pub adds_more : (a b c : Readers) → Adds number a b → Adds number b c → Adds number a c
  adds_more a b c x y = record {
    cells = y.cells ∙ x.cells;
    types = y.types ∙ x.types;
    kept = λ place k h. y.kept place k (x.kept place k h);
    below = λ n lt h. y.below n lt (x.below n lt h);
  }

-- there are as many lists as before
pub adds_lists : (f : Facts) (number count : ℕ) (a b : Readers) → Adds number a b → HasLists f count a → HasLists f count b
adds_lists f number count a b x h = record { cells = x.cells ∙ h.cells; types = x.types ∙ h.types }

-- a place has a list
pub place_listed : (f : Facts) (count : ℕ) (readers : Readers) → HasLists f count readers → (place : Place) → IsPlace f count place → IsListAt readers place
place_listed f count readers h (P.Cell c) lt = subst (λ (n : ℕ). c < n) (sym h.cells) lt
place_listed f count readers h (P.Type t) lt = subst (λ (n : ℕ). t < n) (sym h.types) lt

pub below_within : (f : Facts) (count : ℕ) (link : Link) → own_cells f ≤ count → IsBelowType f link → (place : Place) → below_place f link ≡ Some place → IsPlace f count place
below_within f count (L.SlotGet object ty slot storage signed to) room h place e =
    let s : slot_place f ty slot ≡ place = cc in
    let n = least_slots f.types ty in
    let more = h.1 in
    let w = slot_least_within f ty slot h.0 (omega arith) in
    subst (IsPlace f count) s (let lt : slot_cell f ty slot < count = omega arith in lt)
below_within f count (L.SlotCopy target to_ty source from_ty) room h place e =
    let s : slot_place f from_ty 0 ≡ place = cc in
    let n = least_slots f.types from_ty in
    let more = h.1 in
    let w = slot_least_within f from_ty 0 h.0 (omega arith) in
    subst (IsPlace f count) s (let lt : slot_cell f from_ty 0 < count = omega arith in lt)
below_within f count (L.CallBy callee ty operands results) room h place e =
    let s : type_place f ty ≡ place = cc in
    subst (IsPlace f count) s (least_in_range f.types (H.Idx ty) h)
below_within f count _ room h place e = absurd cc

-- the cells on which a link rests whatever they have, each once
once_contains : (link : Link) (c : ℕ) → Contains (fixed_reads link) c → Contains (fixed_once link) c
unfolding fixed_once
once_contains link c h = from_has (once_onto [] (fixed_reads link)) c (has_once [] (fixed_reads link) c ∙ has_from (fixed_reads link) c h)

pub all_once : (count : ℕ) (link : Link) → All (λ c. c < count) (fixed_reads link) → All (λ c. c < count) (fixed_once link)
unfolding fixed_once
all_once count link h =
    λ k d lt.
    let cells : List ℕ = once_onto [] (fixed_reads link) in
    let in_once = has_from cells (get_or cells k d) (Contains-get_or cells k d lt) in
    All-contains (λ c. c < count) (fixed_reads link) (get_or cells k d) h (from_has (fixed_reads link) (get_or cells k d) (sym (has_once [] (fixed_reads link) (get_or cells k d)) ∙ in_once))

-- one more of some cells
pub all_more : (P : ℕ → Type 0) (xs : List ℕ) (i d : ℕ) → i < length xs → All P (take i xs) → P (get_or xs i d) → All P (take (i + 1) xs)
all_more P xs i d lt h p = subst (λ (ys : List ℕ). All P ys) (sym (take_more xs i d lt)) (All-append P (take i xs) (get_or xs i d ∷ []) h (All-cons P (get_or xs i d) [] p (All-nil P)))

some_at : (o : Option Place) (p : Place) (Q : Place → Type 0) → o ≡ Some p → IfSome o Q → Q p
some_at None p Q e h = absurd cc
some_at (Some q) p Q e h = let same : q ≡ p = cc in subst Q same h

-- a link is listed, after those before it
pub listed_next : (f : Facts) (cells : Cells) (links : List Link) (n : ℕ) (a b c : Readers) (fixed : List ℕ)
    → ((k : ℕ) → k < n → IsListedAt f cells a (link_at links k) k) → Adds n a b → Adds n b c → fixed ≡ fixed_once (link_at links n)
    → All (λ d. has (listed_at b (fixed_place f cells d)) n ≡ true) fixed → IfSome (below_place f (link_at links n)) (λ place. has (listed_at c place) n ≡ true)
    → (k : ℕ) → k < n + 1 → IsListedAt f cells c (link_at links k) k
listed_next f cells links n a b c fixed before x y is here below k lt = ⊎_elim
    (λ (l : k < n). let w = before k l in record {
      fixed = λ d h. y.kept (fixed_place f cells d) k (x.kept (fixed_place f cells d) k (w.fixed d h));
      below = λ place e. y.kept place k (x.kept place k (w.below place e));
    })
    (λ (l : n ≤ k). let same : n ≡ k = omega arith in subst (λ (m : ℕ). IsListedAt f cells c (link_at links m) m) same (record {
      fixed = λ d h.
          y.kept (fixed_place f cells d) n
          (All-contains (λ d. has (listed_at b (fixed_place f cells d)) n ≡ true) fixed d here (subst (λ (ds : List ℕ). Contains ds d) (sym is) (once_contains (link_at links n) d h)));
      below = λ place e. some_at (below_place f (link_at links n)) place (λ p. has (listed_at c p) n ≡ true) e below;
    }))
    (cases_lt k n)
