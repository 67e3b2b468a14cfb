-- Links that are left, and their marks.
use Rattle.std.proofs.Common.{ℕ, zero, suc, ◌≡◌, ◌+◌, ◌<◌, ◌≤◌, Bool, true, false, List, [], ◌∷◌, ◌++◌, set, take, drop, length, get_or, cond, inl, inr, ⊎_elim, sym, ap, ◌∙◌, subst, arith}
use Rattle.std.specs.Prelude.{All, Contains, Some, slice_get}
use Rattle.std.proofs.lemmas.List.{length-set, length_push, take_more, take-append-drop, get_or-set_same, get_or-set_other}
use Rattle.std.proofs.lemmas.List.Elements.{All-push, All-more, All-weaker, All-contains, Contains-push, Contains-push_cases, Contains-append_left, Contains-append_right}
use Rattle.gu_links.proofs.Lists.{all_front}
use Rattle.std.proofs.lemmas.Option.{slice_get_within, get_or_from_slice_get}
use mathlib.Core.Logic.{dite}
use native.Mathlib.Decide.{ℕ_discrete}
use Rattle.gu_contents.specs.declared.facts.Facts.{Facts}
use Rattle.gu_links.specs.declared.link.Link.{Link}
use Rattle.gu_links.specs.Solutions.{IsSystem, IsReader}
use Rattle.gu_links.specs.Known.{link_at}
use Rattle.gu_links.specs.Ways.{IsReadBy}
use Rattle.gu_links.proofs.Ways.{every_reader}
use Rattle.gu_worklist.specs.Left.{marks, IsLeft, AddsOnly, Keeps}

pub marks_few : (flags : List Bool) → marks flags ≤ length flags
marks_few [] = omega arith
marks_few (true ∷ flags) = omega (arith, marks_few flags)
marks_few (false ∷ flags) = omega (arith, marks_few flags)

pub marks_set : (flags : List Bool) (k : ℕ) → k < length flags → get_or flags k false ≡ false → marks (set flags k true) ≡ marks flags + 1
marks_set [] k lt e = absurd (omega arith)
marks_set (b ∷ flags) zero lt e = let n : ℕ = marks flags in subst (λ (c : Bool). 1 + n ≡ (cond {A = ℕ} c 1 0 + n) + 1) (sym e) (omega arith)
marks_set (b ∷ flags) (suc k) lt e = let n : ℕ = cond {A = ℕ} b 1 0 in omega (arith, marks_set flags k (omega arith) e)

pub marks_unset : (flags : List Bool) (k : ℕ) → marks flags ≤ marks (set flags k false) + 1
marks_unset [] k = omega arith
marks_unset (true ∷ flags) zero = omega arith
marks_unset (false ∷ flags) zero = omega arith
marks_unset (b ∷ flags) (suc k) = let n : ℕ = cond {A = ℕ} b 1 0 in omega (arith, marks_unset flags k)

pub left_few : (waiting : List ℕ) (flags : List Bool) → IsLeft waiting flags → length waiting ≤ length flags
left_few waiting flags h = omega (arith, h.few, marks_few flags)

pub is_left_added : (waiting new : List ℕ) (flags : List Bool) (k : ℕ) → IsLeft waiting flags → k < length flags → get_or flags k false ≡ false → new ≡ waiting ++ k ∷ [] → IsLeft new (set flags k true)
is_left_added waiting new flags k h lt off e =
    let long = length-set flags k true in
    subst (λ (xs : List ℕ). IsLeft xs (set flags k true)) (sym e) (record {
      below = subst (λ (n : ℕ). All (λ j. j < n) (waiting ++ k ∷ [])) (sym long) (All-push (λ j. j < length flags) waiting k h.below lt);
      are_left = λ j at on. dite (ℕ_discrete j k)
          (λ is. subst (Contains (waiting ++ k ∷ [])) (sym is) (Contains-push waiting k))
          (λ ne. Contains-append_left waiting (k ∷ []) j (h.are_left j (omega (arith, long)) (sym (get_or-set_other flags k j true false ne) ∙ on)));
      few = omega (arith, length_push waiting k, h.few, marks_set flags k lt off);
    })

pub off_on : (b : Bool) → b ≡ false → b ≡ true → ⊥
off_on b p q = cc

pub is_left_taken : (waiting new : List ℕ) (flags : List Bool) (k : ℕ) → IsLeft waiting flags → waiting ≡ new ++ k ∷ [] → IsLeft new (set flags k false)
is_left_taken waiting new flags k h e =
    let long = length-set flags k false in
    let below : All (λ j. j < length flags) (new ++ k ∷ []) = subst (All (λ j. j < length flags)) e h.below in
    let size : length waiting ≡ length new + 1 = ap length e ∙ length_push new k in
    record {
      below = subst (λ (n : ℕ). All (λ j. j < n) new) (sym long) (all_front (λ j. j < length flags) new (k ∷ []) below);
      are_left = λ j at on. dite (ℕ_discrete j k)
          (λ is. absurd (off_on (get_or (set flags k false) j false) (ap (λ i. get_or (set flags k false) i false) is ∙ get_or-set_same flags k false false (omega (arith, long))) on))
          (λ ne. ⊎_elim (λ at_new. at_new) (λ (is : k ≡ j). absurd (ne (sym is)))
          (Contains-push_cases new k j (subst (λ (xs : List ℕ). Contains xs j) e (h.are_left j (omega (arith, long)) (sym (get_or-set_other flags k j false false ne) ∙ on)))));
      few = omega (arith, size, h.few, marks_unset flags k);
    }

pub taken_below : (waiting new : List ℕ) (flags : List Bool) (k : ℕ) → IsLeft waiting flags → waiting ≡ new ++ k ∷ [] → k < length flags
taken_below waiting new flags k h e = let all : All (λ j. j < length flags) (new ++ k ∷ []) = subst (All (λ j. j < length flags)) e h.below in
    let at = Contains-push new k in let size = length_push new k in subst (λ (j : ℕ). j < length flags) at.2 (all at.0 k at.1)

pub keeps_all : (waiting : List ℕ) → Keeps waiting waiting
keeps_all waiting = record { kept = λ k h. h }

pub keeps_added : (waiting new : List ℕ) (k : ℕ) → new ≡ waiting ++ k ∷ [] → Keeps waiting new
keeps_added waiting new k e = record { kept = λ j h. subst (λ (xs : List ℕ). Contains xs j) (sym e) (Contains-append_left waiting (k ∷ []) j h) }

pub keeps_on : (a b c : List ℕ) → Keeps a b → Keeps b c → Keeps a c
keeps_on a b c p q = record { kept = λ k h. q.kept k (p.kept k h) }

-- nothing is left but what was, and what was added
pub only_same : (links waiting new : List ℕ) → new ≡ waiting → AddsOnly links waiting new
only_same links waiting new e = record { only = λ k h. inl (subst (λ (xs : List ℕ). Contains xs k) e h) }

pub only_added : (waiting new : List ℕ) (k : ℕ) → new ≡ waiting ++ k ∷ [] → AddsOnly (k ∷ []) waiting new
only_added waiting new k e = record {
  only = λ j h. ⊎_elim (λ (old : Contains waiting j). inl old) (λ (is : k ≡ j). inr (0, omega arith, is)) (Contains-push_cases waiting k j (subst (λ (xs : List ℕ). Contains xs j) e h));
}

pub only_more : (links : List ℕ) (i d : ℕ) (P Q R : List ℕ) → i < length links → AddsOnly (take i links) P Q → AddsOnly (get_or links i d ∷ []) Q R → AddsOnly (take (i + 1) links) P R
only_more links i d P Q R lt one two = record {
  only = λ k h. let grown = take_more links i d lt in ⊎_elim
      (λ (mid : Contains Q k). ⊎_elim
      (λ (old : Contains P k). inl old)
      (λ (new : Contains (take i links) k). inr (subst (λ (xs : List ℕ). Contains xs k) (sym grown) (Contains-append_left (take i links) (get_or links i d ∷ []) k new)))
      (one.only k mid))
      (λ (new : Contains (get_or links i d ∷ []) k). inr (subst (λ (xs : List ℕ). Contains xs k) (sym grown) (Contains-append_right (take i links) (get_or links i d ∷ []) k new)))
      (two.only k h);
}

pub only_of : (links : List ℕ) (i : ℕ) (P Q : List ℕ) → AddsOnly (take i links) P Q → AddsOnly links P Q
only_of links i P Q h = record {
  only = λ k at. ⊎_elim (λ (old : Contains P k). inl old)
      (λ (new : Contains (take i links) k). inr (subst (λ (xs : List ℕ). Contains xs k) (take-append-drop i links) (Contains-append_left (take i links) (drop i links) k new)))
      (h.only k at);
}

-- one link more of a list is left
pub added_more : (links : List ℕ) (i d : ℕ) (P Q : List ℕ) → Keeps P Q → All (Contains P) (take i links) → i < length links → Contains Q (get_or links i d) → All (Contains Q) (take (i + 1) links)
added_more links i d P Q keeps h lt at = All-more (Contains Q) links i d lt (All-weaker (Contains P) (Contains Q) keeps.kept (take i links) h) at

-- one supertype more
pub readers_more : (f : Facts) (links : List Link) (cell up : ℕ) (found P Q : List ℕ) → Keeps P Q → All (Contains Q) found
    → ((number : ℕ) → number < length links → IsReadBy f links cell up (link_at links number) → Contains found number)
    → ((u number : ℕ) (link : Link) → u < up → slice_get links number ≡ Some link → IsReadBy f links cell u link → Contains P number)
    → (u number : ℕ) (link : Link) → u < up + 1 → slice_get links number ≡ Some link → IsReadBy f links cell u link → Contains Q number
readers_more f links cell up found P Q keeps all new old u number link lt at r = dite (ℕ_discrete u up)
    (λ e. All-contains (Contains Q) found number all (new number (slice_get_within links number link at)
    (subst (λ (l : Link). IsReadBy f links cell up l) (sym (get_or_from_slice_get links number link _ at)) (subst (λ (v : ℕ). IsReadBy f links cell v link) e r))))
    (λ ne. keeps.kept number (old u number link (omega arith) at r))

-- with all supertypes all readers
pub readers_all : (f : Facts) (longs : List ℕ) (count : ℕ) (links : List Link) → IsSystem f longs count links → (cell : ℕ) (Q : List ℕ)
    → ((u number : ℕ) (link : Link) → u < 64 → slice_get links number ≡ Some link → IsReadBy f links cell u link → Contains Q number)
    → (number : ℕ) (link : Link) → slice_get links number ≡ Some link → IsReader f links cell link → Contains Q number
readers_all f longs count links system cell Q h number link at r =
    let listed : Contains links link = (number, slice_get_within links number link at, get_or_from_slice_get links number link link at) in
    let t = every_reader f longs count links system cell link listed r in
    let low = t.1 in
    h t.0 number link (omega arith) at t.2
