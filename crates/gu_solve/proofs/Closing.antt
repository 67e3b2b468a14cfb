-- One cell rises: which links may then be open, and how far cells may still rise.
use Rattle.std.proofs.Common.{◌≡◌, ◌≢◌, ◌⊎◌, ℕ, zero, suc, ◌<◌, ◌≤◌, eqb, List, [], ◌∷◌, length, get_or, sym, refl, ap, subst, inl, inr, ⊎_elim, arith}
use Rattle.std.specs.Prelude.{All, Contains, Some, slice_get}
use Rattle.std.proofs.lemmas.Bool.{cond_both, cond-true, cond-false, eq-eqb, ne_eqb, cases_eq}
use Rattle.std.proofs.lemmas.List.Elements.{All-nil, All-cons, Contains-append_right}
use Rattle.std.proofs.lemmas.Option.{slice_get-get_or}
use Rattle.gu_contents.specs.declared.content.Content.{Content}
use Rattle.gu_contents.specs.declared.facts.Facts.{Facts}
use Rattle.gu_contents.specs.Order.{AtMost}
use Rattle.gu_contents.specs.Join.{join}
use Rattle.gu_contents.specs.Rank.{rank}
use Rattle.gu_contents.specs.Belongs.{Belongs}
use Rattle.gu_contents.specs.Laws.{ContentsAreALattice, AnswersBelong}
use Rattle.gu_links.specs.declared.link.Link.{Link}
use Rattle.gu_links.specs.Gives.{Contents, gives, reads}
use Rattle.gu_links.specs.Solutions.{AllBelong, IsBelow, IsClosed, IsUnderAll, Least, IsReader}
use Rattle.gu_links.specs.States.{raised}
use Rattle.gu_links.proofs.Local.{same_on}
use Rattle.gu_links.proofs.Rounds.{alike, rank_le}
use Rattle.gu_solve.specs.Steps.{room}

-- each link of a system is closed, or waits
pub record ClosedBut (f : Facts) (links : List Link) (waiting : List ℕ) (x : Contents) : Type 0 where
  pub at : (k : ℕ) (link : Link) → slice_get links k ≡ Some link → IsClosed f links link x ⊎ Contains waiting k

-- a number is in a list, or each of the list is another
has_or_not : (xs : List ℕ) (c : ℕ) → Contains xs c ⊎ All (λ d. d ≢ c) xs
has_or_not [] c = inr (All-nil (λ d. d ≢ c))
has_or_not (d ∷ xs) c = ⊎_elim
    (λ (e : d ≡ c). inl (0, omega arith, e))
    (λ (ne : d ≡ c → ⊥). ⊎_elim
    (λ (h : Contains xs c). inl (Contains-append_right (d ∷ []) xs c h))
    (λ (h : All (λ e. e ≢ c) xs). inr (All-cons (λ e. e ≢ c) d xs ne h))
    (has_or_not xs c))
    (cases_eq d c)

module _ (f : Facts) (lattice : ContentsAreALattice f) (answers : AnswersBelong f) (links : List Link) (x : Contents) (hx : AllBelong f x) (to : ℕ) (a : Content) (ha : Belongs f a) where
  pub raised_belong : AllBelong f (raised f x to a)
  raised_belong = record { at = λ c. cond_both (eqb to c) (join f (x c) a) (x c) (Belongs f) (λ e. answers.join_does (x c) a (hx.at c) ha) (λ e. hx.at c) }

  pub raised_up : IsBelow f x (raised f x to a)
  raised_up = record { at = λ c. cond_both (eqb to c) (join f (x c) a) (x c) (AtMost f (x c)) (λ e. lattice.joins.first (x c) a (hx.at c) ha) (λ e. lattice.order.reflexive (x c)) }

  pub raised_is : raised f x to a to ≡ join f (x to) a
  raised_is = cond-true (eqb to to) (join f (x to) a) (x to) (eq-eqb to to refl)

  raised_else : (c : ℕ) → c ≢ to → raised f x to a c ≡ x c
  raised_else c ne = cond-false (eqb to c) (join f (x c) a) (x c) (ne_eqb to c (λ e. ne (sym e)))

  pub raised_met : AtMost f a (raised f x to a to)
  raised_met = subst (λ (b : Content). AtMost f a b) (sym raised_is) (lattice.joins.second (x to) a (hx.at to) ha)

  -- a link asks for the same, or reads the cell
  pub same_or_reads : (link : Link) → (gives f links link (raised f x to a) ≡ gives f links link x) ⊎ IsReader f links to link
  same_or_reads link = ⊎_elim
      (λ (h : Contains (reads f links link x) to). inr (record { contents = x; belong = hx; read = h }))
      (λ (h : All (λ d. d ≢ to) (reads f links link x)).
      inl (sym (same_on f links x (raised f x to a) link (record { at = λ k d lt. sym (raised_else (get_or (reads f links link x) k d) (h k d lt)) })).gives_are))
      (has_or_not (reads f links link x) to)

  -- a cell that does not have a content yet stands higher with it
  pub rank_rises : (AtMost f a (x to) → ⊥) → rank (x to) < rank (raised f x to a to)
  rank_rises no' = ⊎_elim
      (λ (e : x to ≡ raised f x to a to). absurd (no' (subst (λ (b : Content). AtMost f a b) (sym e) raised_met)))
      (λ (l : rank (x to) < rank (raised f x to a to)). l)
      (alike f lattice answers (x to) (raised f x to a to) (hx.at to) (raised_belong.at to) (raised_up.at to))

module _ (f : Facts) (lattice : ContentsAreALattice f) (answers : AnswersBelong f) (x y : Contents) (hx : AllBelong f x) (hy : AllBelong f y) (below : IsBelow f x y) where
  room_le : (n : ℕ) → room n y ≤ room n x
  unfolding room
  room_le zero = omega arith
  room_le (suc n) = omega (arith, rank_le f lattice answers (x n) (y n) (hx.at n) (hy.at n) (below.at n), room_le n)

  -- where a cell stands higher there is less room
  pub room_less : (n c : ℕ) → c < n → rank (x c) < rank (y c) → room n y < room n x
  unfolding room
  room_less zero c lt up = absurd (omega arith)
  room_less (suc n) c lt up = ⊎_elim
      (λ (e : c ≡ n).
      let s : rank (x n) < rank (y n) = subst (λ (k : ℕ). rank (x k) < rank (y k)) e up in omega (arith, room_le n, lattice.ranks.most (y n) (hy.at n)))
      (λ (ne : c ≡ n → ⊥). omega (arith, room_less n c (omega arith) up, rank_le f lattice answers (x n) (y n) (hx.at n) (hy.at n) (below.at n)))
      (cases_eq c n)

-- where no link waits, contents that are at most every solution are the least
pub closed_is_least : (f : Facts) (links : List Link) (waiting : List ℕ) (x : Contents) → AllBelong f x → waiting ≡ [] → ClosedBut f links waiting x → IsUnderAll f links x → Least f links x
closed_is_least f links waiting x hx none but under = record {
  belong = hx;
  solves = record {
    closed = λ k d lt. ⊎_elim (λ (c : IsClosed f links (get_or links k d) x). c)
        (λ (w : Contains waiting k). let bad : length waiting ≡ 0 = ap length none in absurd (let l = w.1 in omega arith))
        (but.at k (get_or links k d) (slice_get-get_or links k d lt));
  };
  least = under;
}
