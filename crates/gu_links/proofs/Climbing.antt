-- The least solution exists, and there is no other.
use Rattle.std.proofs.Common.{◌≡◌, ℕ, zero, suc, ◌+◌, ◌*◌, ◌<◌, ◌≤◌, List, map, sym, refl, ap, ◌∙◌, subst, ⊎_elim, arith}
use Rattle.std.specs.Prelude.{All}
use Rattle.std.specs.List.{range_with_len}
use Rattle.std.proofs.lemmas.Bool.{cases_lt}
use Rattle.std.proofs.lemmas.List.Elements.{All-map}
use Rattle.std.proofs.lemmas.List.FromFn.{get_or-map-range_with_len, length-map-range_with_len}
use Rattle.std.proofs.lemmas.List.{get_or_past}
use Rattle.gu_contents.specs.declared.content.Content.{Content}
use Rattle.gu_contents.specs.declared.content.Content.TheVariants.{Empty}
use Rattle.gu_contents.specs.declared.facts.Facts.{Facts}
use Rattle.gu_contents.specs.Belongs.{Belongs, IsListed}
use Rattle.gu_contents.specs.Laws.{ContentsAreALattice, AnswersBelong, AnswersAreListed}
use Rattle.gu_links.specs.declared.link.Link.{Link}
use Rattle.gu_links.specs.Gives.{Contents, Asked, gives}
use Rattle.gu_links.specs.Solutions.{at, AllBelong, IsBelow, IsMet, IsClosed, Solves, IsUnderAll, Least, IsOf, Fits, IsSystem}
use Rattle.gu_links.specs.Laws.{SomeLeast}
use Rattle.gu_links.proofs.Given.{belonging_is_kept, listed_is_kept, gives_proper, all_of}
use Rattle.gu_links.proofs.Monotone.{gives_down}
use Rattle.gu_links.proofs.Rounds.{same_contents, all_flat, all_pieces, raise, all_given, ranks, raise_kept, raise_belongs, raise_up, raise_least, raise_met, raise_beyond, ranks_most, stays_or_up}

-- the contents after so many rounds of all that the links ask for
unfoldable pub rounds : Facts → List Link → ℕ → Contents → Contents
rounds f links zero x = x
rounds f links (suc n) x = rounds f links n (raise f (all_given f links x) x)

-- the least solution, as a list of which nothing is asked
abbrev pub least_contents : Facts → ℕ → List Link → List Content
least_contents f count links = map (rounds f links (70 * count) (λ c. Empty)) (range_with_len 0 count)

module _ (f : Facts) (lattice : ContentsAreALattice f) (answers : AnswersBelong f) where
  -- contents that are each at most the other are the same
  pub least_is_one : (links : List Link) (x y : Contents) → Least f links x → Least f links y → (c : ℕ) → x c ≡ y c
  least_is_one links x y p q c =
      lattice.order.antisymmetric (x c) (y c) (p.belong.at c) (q.belong.at c) ((p.least.at_most y q.belong q.solves).at c) ((q.least.at_most x p.belong p.solves).at c)

  module _ (longs : List ℕ) (listed : AnswersAreListed f longs) (count : ℕ) (links : List Link) (system : IsSystem f longs count links) where
    -- what links of the system ask for
    belongs_of : (a : Content) → IsOf f longs a → Belongs f a
    belongs_of a h = h.belongs

    listed_of : (a : Content) → IsOf f longs a → IsListed longs a
    listed_of a h = h.listed

    asked_belong : (x : Contents) → AllBelong f x → All (λ (asked : Asked). (asked.0 < count) × Belongs f asked.1) (all_given f links x)
    unfolding all_given
    asked_belong x hx = all_flat (Fits f longs count) (λ (asked : Asked). (asked.0 < count) × Belongs f asked.1) (λ link. gives f links link x)
        (gives_proper f (Belongs f) (belonging_is_kept f lattice answers) longs count links system belongs_of x hx.at) links system.fit

    asked_listed : (x : Contents) → ((c : ℕ) → IsListed longs (x c)) → All (λ (asked : Asked). (asked.0 < count) × IsListed longs asked.1) (all_given f links x)
    unfolding all_given
    asked_listed x hx = all_flat (Fits f longs count) (λ (asked : Asked). (asked.0 < count) × IsListed longs asked.1) (λ link. gives f links link x)
        (gives_proper f (IsListed longs) (listed_is_kept f longs lattice answers listed) longs count links system listed_of x hx) links system.fit

    have_contents : (x : Contents) → AllBelong f x → All (λ (asked : Asked). Belongs f asked.1) (all_given f links x)
    have_contents x hx k d lt = (asked_belong x hx k d lt).1

    -- all that is asked for on contents below a solution is met there
    asked_met : (x y : Contents) → AllBelong f x → AllBelong f y → IsBelow f x y → Solves f links y → All (IsMet f y) (all_given f links x)
    unfolding all_given
    asked_met x y hx hy below solves =
        all_flat (λ link. Fits f longs count link × IsClosed f links link y) (IsMet f y) (λ link. gives f links link x)
        (λ link h. gives_down f lattice answers longs count links system x y hx hy below link h.0 h.1.met) links (λ k d lt. (system.fit k d lt, solves.closed k d lt))

    solved : (x : Contents) → All (IsMet f x) (all_given f links x) → Solves f links x
    unfolding all_given
    solved x met = record { closed = λ k d lt. record { met = all_pieces (IsMet f x) (λ link. gives f links link x) links met k d lt } }

    -- contents of the system that are at most every solution, with nothing behind its cells
    record Low (x : Contents) : Type 0 where
      belong : AllBelong f x
      listed_all : (c : ℕ) → IsListed longs (x c)
      under : IsUnderAll f links x
      beyond : (c : ℕ) → count ≤ c → x c ≡ Empty

    round : Contents → Contents
    round x = raise f (all_given f links x) x

    low_first : Low (λ c. Empty)
    low_first = record {
      belong = record { at = λ c. tt };
      listed_all = λ c. tt;
      under = record { at_most = λ y hy s. record { at = λ c. lattice.order.least (y c) } };
      beyond = λ c far. refl;
    }

    low_round : (x : Contents) → Low x → Low (round x)
    unfolding round
    low_round x h = record {
      belong = raise_belongs f lattice answers (all_given f links x) x h.belong (have_contents x h.belong);
      listed_all = raise_kept f (IsListed longs) (listed_is_kept f longs lattice answers listed) (all_given f links x) x h.listed_all (λ k d lt. (asked_listed x h.listed_all k d lt).1);
      under = record {
        at_most = λ y hy s. raise_least f lattice answers (all_given f links x) x y h.belong hy (have_contents x h.belong) (h.under.at_most y hy s) (asked_met x y h.belong hy (h.under.at_most y hy s) s);
      };
      beyond = λ c far. raise_beyond f lattice answers count (all_given f links x) x (λ k d lt. (asked_belong x h.belong k d lt).0) c far (h.beyond c far);
    }

    record Still (x : Contents) : Type 0 where
      low : Low x
      same : (c : ℕ) → c < count → x c ≡ round x c

    round_up : (x : Contents) → Low x → IsBelow f x (round x)
    unfolding round
    round_up x h = raise_up f lattice answers (all_given f links x) x h.belong (have_contents x h.belong)

    -- what a round leaves as it was
    still_same : (x : Contents) → Low x → ((c : ℕ) → c < count → x c ≡ round x c) → x ≡ round x
    still_same x h s = same_contents x (round x) (λ c. ⊎_elim (λ (lt : c < count). s c lt) (λ (far : count ≤ c). h.beyond c far ∙ sym ((low_round x h).beyond c far)) (cases_lt c count))

    rounds_same : (n : ℕ) (x : Contents) → x ≡ round x → rounds f links n x ≡ x
    unfolding round rounds
    rounds_same zero x e = refl
    rounds_same (suc n) x e = ap (rounds f links n) (sym e) ∙ rounds_same n x e

    -- going up ends, since the ranks are bounded
    climb : (fuel : ℕ) (x : Contents) → Low x → 70 * count ≤ ranks count x + fuel → Still (rounds f links fuel x)
    unfolding round rounds
    climb zero x h room = ⊎_elim
        (λ (s : (c : ℕ) → c < count → x c ≡ round x c). record { low = h; same = s })
        (λ (l : ranks count x < ranks count (round x)). absurd (omega (arith, ranks_most f lattice answers count (round x) (low_round x h).belong)))
        (stays_or_up f lattice answers count x (round x) h.belong (low_round x h).belong (round_up x h))
    climb (suc fuel) x h room = ⊎_elim
        (λ (s : (c : ℕ) → c < count → x c ≡ round x c). let e = still_same x h s in let st : Still x = record { low = h; same = s } in subst Still (sym (ap (rounds f links fuel) (sym e) ∙ rounds_same fuel x e)) st)
        (λ (l : ranks count x < ranks count (round x)). climb fuel (round x) (low_round x h) (omega arith))
        (stays_or_up f lattice answers count x (round x) h.belong (low_round x h).belong (round_up x h))

    still_is_least : (z : Contents) → Still z → Least f links z
    unfolding round
    still_is_least z s =
        let same : z ≡ round z = still_same z s.low s.same in
        let met : All (IsMet f (round z)) (all_given f links z) = raise_met f lattice answers (all_given f links z) z s.low.belong (have_contents z s.low.belong) in
        record {
          belong = s.low.belong;
          solves = solved z (subst (λ (y : Contents). All (IsMet f y) (all_given f links z)) (sym same) met);
          least = s.low.under;
        }

    tabulated : (z : Contents) → ((c : ℕ) → count ≤ c → z c ≡ Empty) → (c : ℕ) → at (map z (range_with_len 0 count)) c ≡ z c
    tabulated z far c = ⊎_elim
        (λ (lt : c < count). get_or-map-range_with_len z 0 count c c Empty lt (omega arith))
        (λ (l : count ≤ c). get_or_past (map z (range_with_len 0 count)) c Empty (omega (arith, length-map-range_with_len z 0 count)) ∙ sym (far c l))
        (cases_lt c count)

    pub some_least : SomeLeast f longs count links
    some_least =
        let z = rounds f links (70 * count) (λ c. Empty) in
        let s : Still z = climb (70 * count) (λ c. Empty) low_first (omega arith) in
        let table = least_contents f count links in
        let same : z ≡ at table = same_contents z (at table) (λ c. sym (tabulated z s.low.beyond c)) in
        record {
          contents = table;
          long = length-map-range_with_len z 0 count;
          is_of = All-map (IsOf f longs) z (range_with_len 0 count) (all_of (λ c. IsOf f longs (z c)) (λ c. record { belongs = s.low.belong.at c; listed = s.low.listed_all c }) (range_with_len 0 count));
          least = subst (λ (y : Contents). Least f links y) same (still_is_least z s);
        }

    -- the same, of the list itself
    pub least_contents_are : Least f links (at (least_contents f count links))
    unfolding some_least
    least_contents_are = some_least.least
