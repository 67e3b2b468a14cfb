-- Workers before and after their run, and what their records show.
use Rattle.std.proofs.Common.{ℕ, zero, suc, ◌≡◌, ◌+◌, ◌<◌, ◌≤◌, Bool, true, List, [], ◌∷◌, ◌++◌, map, length, get_or, sym, refl, ap, ◌∙◌, subst, arith}
use Rattle.std.specs.Prelude.{All, Some, slice_get, slice_index_or}
use Rattle.std.specs.List.{range_with_len}
use Rattle.std.proofs.lemmas.Option.{none-some, same_Some}
use Rattle.std.proofs.lemmas.List.Elements.{All-nil, All-cons, All-head, All-tail, All-push}
use Rattle.std.proofs.lemmas.List.{map-append, length-append}
use Rattle.std.proofs.lemmas.List.FromFn.{length-range_with_len}
use Rattle.atomic_table.specs.Seated.{TableId}
use Rattle.gu_contents.specs.declared.content.Content.{Content}
use Rattle.gu_contents.specs.declared.facts.Facts.{Facts}
use Rattle.gu_contents.specs.Order.{AtMost}
use Rattle.gu_contents.specs.Belongs.{Belongs}
use Rattle.gu_contents.specs.declared.content.Content.TheVariants.{Empty}
use Rattle.gu_contents.proofs.Law.{lattice}
use Rattle.gu_contents.proofs.Belonging.{answers_belong}
use Rattle.gu_cells.specs.declared.record.Entry.{Entry}
use Rattle.gu_cells.specs.Record.{BelongsTo, RecordsBelong, CoversAll, Settled}
use Rattle.gu_cells.specs.Views.{SeatView}
use Rattle.gu_links.specs.declared.link.Link.{Link}
use Rattle.gu_links.specs.Solutions.{at, Least}
use Rattle.gu_workers.specs.Work.{IsWork}
use Rattle.gu_workers.proofs.Settling.{settled_contents_are_least}
use Rattle.gu_fixpoint.specs.Hands.{AreBusy, IsReady, HasRun, Pairs}
use Rattle.gu_fixpoint.specs.Track.{IsTrack}
use Rattle.gu_fixpoint.proofs.Busy.{idle_work}
use Rattle.gu_fixpoint.proofs.Bounding.{all_leave_joins, records_bounded}

pub long_map : {A B : Type 0} (g : A → B) (xs : List A) → length (map g xs) ≡ length xs
long_map g [] = refl
long_map g (x ∷ xs) = ap suc (long_map g xs)

pub unmapped : {A B : Type 0} (P : B → Type 0) (g : A → B) (xs : List A) → All P (map g xs) → All (λ x. P (g x)) xs
unmapped P g [] h = All-nil (λ x. P (g x))
unmapped P g (x ∷ xs) h = All-cons (λ y. P (g y)) x xs (All-head P (g x) (map g xs) h) (unmapped P g xs (All-tail P (g x) (map g xs) h))

pub mapped : {A B : Type 0} (P : B → Type 0) (g : A → B) (xs : List A) → All (λ x. P (g x)) xs → All P (map g xs)
mapped P g [] h = All-nil P
mapped P g (x ∷ xs) h = All-cons P (g x) (map g xs) (All-head (λ y. P (g y)) x xs h) (mapped P g xs (All-tail (λ y. P (g y)) x xs h))

map_twice : {A B C : Type 0} (h : B → C) (g : A → B) (xs : List A) → map h (map g xs) ≡ map (λ x. h (g x)) xs
map_twice h g [] = refl
map_twice h g (x ∷ xs) = ap (λ ys. h (g x) ∷ ys) (map_twice h g xs)

module _ {X : Type 0} (R : X → X → Type 0) where
  first_pair : (x y : X) (xs ys : List X) → Pairs R (x ∷ xs) (y ∷ ys) → R x y
  first_pair x y xs ys p = p.each 0 x (omega arith)

  other_pairs : (x y : X) (xs ys : List X) → Pairs R (x ∷ xs) (y ∷ ys) → Pairs R xs ys
  other_pairs x y xs ys p = record { long = (let e = p.long in omega arith); each = λ k d lt. p.each (suc k) d (omega arith) }

  -- what each pair has alike
  pub pairs_alike : {Y : Type 0} (g : X → Y) → ((x y : X) → R x y → g y ≡ g x) → (xs ys : List X) → Pairs R xs ys → map g ys ≡ map g xs
  pairs_alike g same [] [] p = refl
  pairs_alike g same [] (y ∷ ys) p = absurd (let e = p.long in omega arith)
  pairs_alike g same (x ∷ xs) [] p = absurd (let e = p.long in omega arith)
  pairs_alike g same (x ∷ xs) (y ∷ ys) p = let e = same x y (first_pair x y xs ys p) in let es = pairs_alike g same xs ys (other_pairs x y xs ys p) in cc

pairs_more : {X : Type 0} (R : X → X → Type 0) (x y : X) (xs ys : List X) → R x y → Pairs R xs ys → Pairs R (x ∷ xs) (y ∷ ys)
pairs_more {X} R x y xs ys r p = record { long = ap suc p.long; each = each }
  where
    each : (k : ℕ) (d : X) → k < length (x ∷ xs) → R (slice_index_or (x ∷ xs) k d) (slice_index_or (y ∷ ys) k d)
    each zero d lt = r
    each (suc k) d lt = p.each k d (omega arith)

-- pairs of the first parts of two lists whose last parts are the same
pairs_front : {X : Type 0} (R : X → X → Type 0) (xs ys zs : List X) → Pairs R xs ys → All (λ x. R x x) zs → Pairs R (xs ++ zs) (ys ++ zs)
pairs_front R [] [] zs p h = record { long = refl; each = h }
pairs_front R [] (y ∷ ys) zs p h = absurd (let e = p.long in omega arith)
pairs_front R (x ∷ xs) [] zs p h = absurd (let e = p.long in omega arith)
pairs_front R (x ∷ xs) (y ∷ ys) zs p h = pairs_more R x y (xs ++ zs) (ys ++ zs) (first_pair R x y xs ys p) (pairs_front R xs ys zs (other_pairs R x y xs ys p) h)

all_last : {X : Type 0} (P : X → Type 0) (xs zs : List X) → All P (xs ++ zs) → All P zs
all_last P [] zs h = h
all_last P (x ∷ xs) zs h = all_last P xs zs (All-tail P x (xs ++ zs) h)

-- one item more
pub map_push : {A B : Type 0} (g : A → B) (xs ys : List A) (y : A) (zs : List B) → ys ≡ xs ++ y ∷ [] → map g xs ≡ zs → map g ys ≡ zs ++ g y ∷ []
map_push g xs ys y zs e h = ap (map g) e ∙ (map-append g xs (y ∷ []) ∙ ap (λ us. us ++ g y ∷ []) h)

range_push : (a n : ℕ) → range_with_len a n ++ (a + n) ∷ [] ≡ range_with_len a (suc n)
range_push a zero = let e : a + 0 ≡ a = omega arith in ap (λ (b : ℕ). b ∷ []) e
range_push a (suc n) = let e : a + suc n ≡ (a + 1) + n = omega arith in ap (λ (us : List ℕ). a ∷ us) (ap (λ (b : ℕ). range_with_len (a + 1) n ++ b ∷ []) e ∙ range_push (a + 1) n)

pub index_push : {A : Type 0} (g : A → ℕ) (xs ys : List A) (y : A) → ys ≡ xs ++ y ∷ [] → map g xs ≡ range_with_len 0 (length xs) → g y ≡ length xs → map g ys ≡ range_with_len 0 (length ys)
index_push g xs ys y e h i =
    let long : length ys ≡ suc (length xs) = ap length e ∙ (length-append xs (y ∷ []) ∙ one_more (length xs)) in
    let last : g y ≡ 0 + length xs = i ∙ none_plus (length xs) in
    map_push g xs ys y (range_with_len 0 (length xs)) e h ∙ (ap (λ (b : ℕ). range_with_len 0 (length xs) ++ b ∷ []) last ∙ (range_push 0 (length xs) ∙ ap (range_with_len 0) (sym long)))
  where
    one_more : (a : ℕ) → a + 1 ≡ suc a
    one_more a = omega arith

    none_plus : (a : ℕ) → a ≡ 0 + a
    none_plus a = omega arith

pub all_push : {A : Type 0} (P : A → Type 0) (xs ys : List A) (y : A) → ys ≡ xs ++ y ∷ [] → All P xs → P y → All P ys
all_push P xs ys y e h p = subst (All P) (sym e) (All-push P xs y h p)

-- as many as there are numbers
pub long_as : {A : Type 0} (g : A → ℕ) (n : ℕ) (xs : List A) → map g xs ≡ range_with_len 0 n → length xs ≡ n
long_as g n xs e = sym (long_map g xs) ∙ (ap length e ∙ length-range_with_len 0 n)

-- as many seats as numbers
pub numbers_long : (n : ℕ) (seats : List SeatView) → map (λ (s : SeatView). s.number) seats ≡ range_with_len 0 n → length seats ≡ n
numbers_long n seats e = sym (long_map (λ (s : SeatView). s.number) seats) ∙ (ap length e ∙ length-range_with_len 0 n)

module _ {W : Type 0} (seat : W → SeatView) (index of : W → ℕ) (done : W → Bool) (f : Facts) (links : List Link) (n : ℕ) (id : TableId) where
  -- workers that have seats of the cells, which did nothing yet, are ready
  pub all_ready : (ws : List W) (seats : List SeatView) → map seat ws ≡ seats → All (λ w. of w ≡ n) ws → All (λ (s : SeatView). s.of ≡ id) seats → All (λ (s : SeatView). s.entries ≡ []) seats
      → All (λ w. IsReady n id (of w) (seat w)) ws
  all_ready ws seats e ofs own none =
      let own' = unmapped (λ (s : SeatView). s.of ≡ id) seat ws (subst (All (λ (s : SeatView). s.of ≡ id)) (sym e) own) in
      let none' = unmapped (λ (s : SeatView). s.entries ≡ []) seat ws (subst (All (λ (s : SeatView). s.entries ≡ [])) (sym e) none) in
      λ k d lt. record { of_is = ofs k d lt; seat_of = own' k d lt; empty = none' k d lt }

  abbrev Ran : W → W → Type 0
  Ran w v = HasRun f links n (index w) (seat w) (index v) (done v) (seat v)

  -- where the first ones ran and the others were done, all have run
  pub first_ran : (busy : ℕ) (ws firsts vs others : List W) → AreBusy links n busy → ws ≡ firsts ++ others → All (λ w. IsReady n id (of w) (seat w)) ws → All (λ w. done w ≡ true → busy ≤ index w) ws
      → Pairs Ran firsts vs → Pairs Ran ws (vs ++ others)
  first_ran busy ws firsts vs others h is ready idle ran =
      let ready' = all_last (λ w. IsReady n id (of w) (seat w)) firsts others (subst (All (λ w. IsReady n id (of w) (seat w))) is ready) in
      let idle' = all_last (λ w. done w ≡ true → busy ≤ index w) firsts others (subst (All (λ w. done w ≡ true → busy ≤ index w)) is idle) in
      subst (λ us. Pairs Ran us (vs ++ others)) (sym is) (pairs_front Ran firsts vs others ran (λ k d lt.
      let w = get_or others k d in record {
        index_is = refl;
        seat_is = refl;
        worked = λ e. idle_work links n f busy (index w) (seat w).entries h (idle' k d lt e) (ready' k d lt).empty;
      }))

  -- the seats have the numbers that they had, and are of the cells that they were of
  pub numbers_stay : (ws vs : List W) → Pairs Ran ws vs → map (λ (s : SeatView). s.number) (map seat vs) ≡ map (λ (s : SeatView). s.number) (map seat ws)
  numbers_stay ws vs p = map_twice (λ (s : SeatView). s.number) seat vs ∙ (pairs_alike Ran (λ w. (seat w).number) (λ x y r. ap (λ (s : SeatView). s.number) r.seat_is) ws vs p ∙ sym (map_twice (λ (s : SeatView). s.number) seat ws))

  pub cells_stay : (ws vs : List W) → Pairs Ran ws vs → map (λ (s : SeatView). s.of) (map seat vs) ≡ map (λ (s : SeatView). s.of) (map seat ws)
  cells_stay ws vs p = map_twice (λ (s : SeatView). s.of) seat vs ∙ (pairs_alike Ran (λ w. (seat w).of) (λ x y r. ap (λ (s : SeatView). s.of) r.seat_is) ws vs p ∙ sym (map_twice (λ (s : SeatView). s.of) seat ws))

  works_from : (m k : ℕ) (ws vs : List W) → map index ws ≡ range_with_len m k → Pairs Ran ws vs → All (λ w. done w ≡ true) vs
      → (j : ℕ) (entries : List Entry) → slice_get (map (λ w. (seat w).entries) vs) j ≡ Some entries → IsWork f links (m + j) n entries
  works_from m k ws [] e p all j entries at = absurd (none-some entries at)
  works_from m k [] (v ∷ vs) e p all j entries at = absurd (let l = p.long in omega arith)
  works_from m zero (w ∷ ws) (v ∷ vs) e p all j entries at = cc
  works_from m (suc k) (w ∷ ws) (v ∷ vs) e p all zero entries at =
      let i : index w ≡ m = cc in
      let is = same_Some (seat v).entries entries at in
      let worked = (first_pair Ran w v ws vs p).worked (All-head (λ u. done u ≡ true) v vs all) in
      subst (λ (es : List Entry). IsWork f links (m + 0) n es) is (subst (λ (h : ℕ). IsWork f links h n (seat v).entries) (i ∙ plus_none m) worked)
    where
      plus_none : (a : ℕ) → a ≡ a + 0
      plus_none a = omega arith
  works_from m (suc k) (w ∷ ws) (v ∷ vs) e p all (suc j) entries at =
      let es : map index ws ≡ range_with_len (m + 1) k = cc in
      subst (λ (h : ℕ). IsWork f links h n entries) (onward m j) (works_from (m + 1) k ws vs es (other_pairs Ran w v ws vs p) (All-tail (λ u. done u ≡ true) v vs all) j entries at)
    where
      onward : (a b : ℕ) → (a + 1) + b ≡ a + suc b
      onward a b = omega arith

  -- the records of the seats show the whole work of each worker
  pub all_worked : (ws vs : List W) (seats : List SeatView) → map index ws ≡ range_with_len 0 n → Pairs Ran ws vs → All (λ w. done w ≡ true) vs → map seat vs ≡ seats
      → (j : ℕ) (entries : List Entry) → slice_get (map (λ (s : SeatView). s.entries) seats) j ≡ Some entries → IsWork f links j n entries
  all_worked ws vs seats e p all is j entries at =
      subst (λ (h : ℕ). IsWork f links h n entries) (none_plus j)
      (works_from 0 n ws vs e p all j entries (ap (λ (es : List (List Entry)). slice_get es j) (sym (map_twice (λ (s : SeatView). s.entries) seat vs) ∙ ap (map (λ (s : SeatView). s.entries)) is) ∙ at))
    where
      none_plus : (a : ℕ) → 0 + a ≡ a
      none_plus a = omega arith

all_belong : (f : Facts) (longs : List ℕ) (xs : List Content) → All (BelongsTo f longs) xs → (c : ℕ) → Belongs f (get_or xs c Empty)
all_belong f longs [] h c = tt
all_belong f longs (x ∷ xs) h zero = (All-head (BelongsTo f longs) x xs h).0
all_belong f longs (x ∷ xs) h (suc c) = all_belong f longs xs (All-tail (BelongsTo f longs) x xs h) c

-- what closing gives is a track, and the least solution
module _ (f : Facts) (longs : List ℕ) (links : List Link) (n : ℕ) (z : List Content) (records : List (List Entry)) where
  pub is_track : All (BelongsTo f longs) z → length records ≡ n → ((j : ℕ) (entries : List Entry) → slice_get records j ≡ Some entries → IsWork f links j n entries) → RecordsBelong f longs records → CoversAll f records (at z) → Settled records (at z)
      → IsTrack f longs links n (at z) records
  is_track are long works belong covers settled = record {
    long = long;
    works = works;
    bounded = records_bounded f longs (at z) (record { at = all_belong f longs z are }) records belong covers (all_leave_joins f links n records works);
    belong = belong;
    covers = covers;
    settled = settled;
  }

  pub track_is_least : (ceilings : List Content) → 0 < n → Least f links (at ceilings) → ((c : ℕ) → AtMost f (at z c) (at ceilings c)) → All (BelongsTo f longs) z → IsTrack f longs links n (at z) records → Least f links (at z)
  track_is_least ceilings some least capped belong t =
      settled_contents_are_least f (lattice f) (answers_belong f) longs links (at z) records
      (record { belong = record { at = all_belong f longs z belong }; all_belong = t.belong; covers = t.covers; settled = t.settled })
      (record {
        some_worker = (let e = t.long in omega arith);
        works = λ index entries e. subst (λ (m : ℕ). IsWork f links index m entries) (sym t.long) (t.works index entries e);
      })
      (at ceilings) least (record { at = capped })
