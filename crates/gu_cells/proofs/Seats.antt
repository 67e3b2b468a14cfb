-- The numbers and the records of a list of seats.
use Rattle.std.proofs.Common.{◌≡◌, ℕ, zero, suc, ◌+◌, ◌-◌, ◌<◌, ◌≤◌, eqb, cond, Bool, List, [], ◌∷◌, ◌++◌, map, length, sym, refl, ap, ◌∙◌, subst, arith, eq-eqb, append-nil, length-append, Option, Some, None, MatchOption}
use Rattle.std.proofs.lemmas.List.{map-append, get_or_append_left}
use Rattle.std.specs.List.{range_with_len, All}
use Rattle.std.proofs.lemmas.List.Elements.{All-append, All-head, All-tail}
use mathlib.Core.Logic.{dite}
use native.Mathlib.Decide.{ℕ_discrete}
use Rattle.gu_cells.specs.declared.record.Entry.{Entry}
use Rattle.gu_cells.specs.declared.record.Part.{Part}
use Rattle.gu_cells.specs.declared.record.View.{View}
use Rattle.gu_cells.specs.Rule.{parts, records, times, both}
use Rattle.gu_cells.specs.Views.{SeatView}

-- the part that a seat's record is
abbrev pub part_of : SeatView → Part
part_of s = record { number = s.number; entries = s.entries }

snoc_range : (a n : ℕ) → range_with_len a (suc n) ≡ range_with_len a n ++ (a + n) ∷ []
snoc_range a zero = let e : a ≡ a + 0 = omega arith in ap (λ (x : ℕ). x ∷ []) e
snoc_range a (suc n) =
    let e : (a + 1) + n ≡ a + suc n = omega arith in
    ap (λ (xs : List ℕ). a ∷ xs) (snoc_range (a + 1) n ∙ ap (λ (x : ℕ). range_with_len (a + 1) n ++ x ∷ []) e)

-- one more seat at the end
pub numbers_more : (xs ys : List SeatView) (s : SeatView) (k : ℕ) → ys ≡ xs ++ s ∷ [] → map (λ (s : SeatView). s.number) xs ≡ range_with_len 1 (k - 1) → 1 ≤ k → s.number ≡ k
    → map (λ (s : SeatView). s.number) ys ≡ range_with_len 1 ((k + 1) - 1)
numbers_more xs ys s k e h pos is =
    let num = λ (s : SeatView). s.number in
    let d : (k + 1) - 1 ≡ suc (k - 1) = omega arith in
    let f : s.number ≡ 1 + (k - 1) = omega arith in
    ap (map num) e ∙ (map-append num xs (s ∷ []) ∙ (ap (λ (ns : List ℕ). ns ++ s.number ∷ []) h ∙ (ap (λ (n : ℕ). range_with_len 1 (k - 1) ++ n ∷ []) f ∙ (sym (snoc_range 1 (k - 1)) ∙ ap (range_with_len 1) (sym d)))))

-- the first seat before all others
pub numbers_first : (xs ys : List SeatView) (s : SeatView) (k n : ℕ) → ys ≡ s ∷ xs → map (λ (s : SeatView). s.number) xs ≡ range_with_len 1 (k - 1) → k ≡ n → 0 < n → s.number ≡ 0
    → map (λ (s : SeatView). s.number) ys ≡ range_with_len 0 n
numbers_first xs ys s k n e h kn pos is =
    let num = λ (s : SeatView). s.number in
    let d : n ≡ suc (k - 1) = omega arith in
    ap (map num) e ∙ (ap (λ (m : ℕ). m ∷ map num xs) is ∙ (ap (λ (ns : List ℕ). 0 ∷ ns) h ∙ ap (range_with_len 0) (sym d)))

all_one : (P : SeatView → Type 0) (s : SeatView) → P s → All P (s ∷ [])
all_one P s h zero d lt = h
all_one P s h (suc k) d lt = absurd (omega arith)

pub all_more : (P : SeatView → Type 0) (xs ys : List SeatView) (s : SeatView) → ys ≡ xs ++ s ∷ [] → All P xs → P s → All P ys
all_more P xs ys s e h p = subst (λ zs. All P zs) (sym e) (All-append P xs (s ∷ []) h (all_one P s p))

pub all_first : (P : SeatView → Type 0) (xs ys : List SeatView) (s : SeatView) → ys ≡ s ∷ xs → All P xs → P s → All P ys
all_first P xs ys s e h p = subst (λ zs. All P zs) (sym e) (All-append P (s ∷ []) xs (all_one P s p) h)

pub own_records : (xs : List SeatView) → records (map part_of xs) ≡ map (λ (s : SeatView). s.entries) xs
own_records [] = refl
own_records (s ∷ xs) = ap (λ (rs : List (List Entry)). s.entries ∷ rs) (own_records xs)

own_numbers : (xs : List SeatView) → map (λ (p : Part). p.number) (map part_of xs) ≡ map (λ (s : SeatView). s.number) xs
own_numbers [] = refl
own_numbers (s ∷ xs) = ap (λ (ns : List ℕ). s.number ∷ ns) (own_numbers xs)

times_range : (ps : List Part) (a k n : ℕ) → map (λ (p : Part). p.number) ps ≡ range_with_len a k → a ≤ n → n < a + k → 1 ≤ times n ps
times_range [] a zero n e lo hi = absurd (omega arith)
times_range [] a (suc k) n e lo hi = cc
times_range (p ∷ ps) a zero n e lo hi = cc
times_range (p ∷ ps) a (suc k) n e lo hi =
    let first : p.number ≡ a = cc in
    let rest : map (λ (q : Part). q.number) ps ≡ range_with_len (a + 1) k = cc in
    dite (ℕ_discrete p.number n)
    (λ d. let one : cond {A = ℕ} (eqb p.number n) 1 0 ≡ 1 = ap (λ (b : Bool). cond {A = ℕ} b 1 0) (eq-eqb p.number n d) in omega arith)
    (λ d. let more = times_range ps (a + 1) k n rest (omega arith) (omega arith) in omega arith)

-- each number below the count of seats is carried by one of their parts
pub all_carried : (ps : List Part) (xs : List SeatView) (count : ℕ) → ps ≡ map part_of xs → map (λ (s : SeatView). s.number) xs ≡ range_with_len 0 count → (n : ℕ) → n < count → 1 ≤ times n ps
all_carried ps xs count is numbers n lt = times_range ps 0 count n (ap (map (λ (p : Part). p.number)) is ∙ (own_numbers xs ∙ numbers)) (omega arith) (omega (arith, lt))

-- as many seats as numbers
pub count_is : (xs : List SeatView) (a n : ℕ) → map (λ (s : SeatView). s.number) xs ≡ range_with_len a n → length xs ≡ n
count_is [] a zero e = refl
count_is [] a (suc n) e = cc
count_is (s ∷ xs) a zero e = cc
count_is (s ∷ xs) a (suc n) e = let rest : map (λ (s : SeatView). s.number) xs ≡ range_with_len (a + 1) n = cc in ap suc (count_is xs (a + 1) n rest)

-- a seat whose record has its own part alone, and as which contracts see it
pub record Shows (w : View) (s : SeatView) : Type 0 where
  pub no_others : w.others ≡ []
  pub number_is : w.number ≡ s.number
  pub own_is : w.own ≡ s.entries

one_part : (w : View) (s : SeatView) → Shows w s → parts w ≡ part_of s ∷ []
one_part w s h =
    ap (λ (ps : List Part). record { number = w.number; entries = w.own } ∷ ps) h.no_others
    ∙ (ap (λ (n : ℕ). record { number = n; entries = w.own } ∷ []) h.number_is ∙ ap (λ (es : List Entry). record { number = s.number; entries = es } ∷ []) h.own_is)

snoc_append : (ps : List Part) (p : Part) (qs : List Part) → (ps ++ p ∷ []) ++ qs ≡ ps ++ p ∷ qs
snoc_append [] p qs = refl
snoc_append (x ∷ ps) p qs = ap (λ (rs : List Part). x ∷ rs) (snoc_append ps p qs)

-- a seat of those that are left is joined into the first
pub gathered : (v w : View) (s : SeatView) (left left' : List SeatView) (all : List Part) → left ≡ s ∷ left' → Shows w s → parts v ++ map part_of left ≡ all → parts (both v w) ++ map part_of left' ≡ all
gathered v w s left left' all e h is =
    ap (λ (ps : List Part). (record { number = v.number; entries = v.own } ∷ (v.others ++ ps)) ++ map part_of left') (one_part w s h)
    ∙ (ap (λ (ps : List Part). record { number = v.number; entries = v.own } ∷ ps) (snoc_append v.others (part_of s) (map part_of left'))
    ∙ (ap (λ (xs : List SeatView). parts v ++ map part_of xs) (sym e) ∙ is))

pub none_left : (left : List SeatView) → length left ≡ 0 → left ≡ []
none_left [] e = refl
none_left (s ∷ left) e = absurd (omega arith)

pub all_gathered : (v : View) (left all : List SeatView) → left ≡ [] → parts v ++ map part_of left ≡ map part_of all → parts v ≡ map part_of all
all_gathered v left all e is = sym (append-nil (parts v)) ∙ (ap (λ (xs : List SeatView). parts v ++ map part_of xs) (sym e) ∙ is)

pub first_of_left : (P : SeatView → Type 0) (left left' : List SeatView) (s : SeatView) → left ≡ s ∷ left' → All P left → P s
first_of_left P left left' s e h = All-head P s left' (subst (λ zs. All P zs) e h)

pub rest_of_left : (P : SeatView → Type 0) (left left' : List SeatView) (s : SeatView) → left ≡ s ∷ left' → All P left → All P left'
rest_of_left P left left' s e h = All-tail P s left' (subst (λ zs. All P zs) e h)

all_front : (P : SeatView → Type 0) (xs : List SeatView) (s : SeatView) → All P (xs ++ s ∷ []) → All P xs
all_front P xs s h k d lt = subst P (get_or_append_left xs (s ∷ []) d k lt) (h k d (omega (arith, lt, length-append xs (s ∷ []))))

-- what holds of all seats of a list holds of those that are left when the last is taken off
pub all_popped : (P : SeatView → Type 0) (old new : List SeatView) (last : Option SeatView) → MatchOption last ((old ≡ []) × (new ≡ [])) (λ s. old ≡ new ++ s ∷ []) → All P old → All P new
all_popped P old new None m h = subst (λ zs. All P zs) (m.0 ∙ sym m.1) h
all_popped P old new (Some s) m h = all_front P new s (subst (λ zs. All P zs) m h)
