-- What events lead to is at most every solution.
use Rattle.std.proofs.Common.{◌≡◌, ℕ, ◌<◌, true, false, eqb, List, get_or, subst, ⊎_elim}
use Rattle.std.specs.Prelude.{◌↔◌}
use Rattle.std.proofs.lemmas.Bool.{eqb-true, cond_both, cases_Bool, both_ways}
use Rattle.std.proofs.lemmas.List.Elements.{All-contains, Contains-get_or}
use Rattle.gu_contents.specs.declared.content.Content.{Content}
use Rattle.gu_contents.specs.declared.facts.Facts.{Facts}
use Rattle.gu_contents.specs.Order.{AtMost, at_most}
use Rattle.gu_contents.specs.Join.{join}
use Rattle.gu_contents.specs.Belongs.{Belongs}
use Rattle.gu_contents.specs.Laws.{ContentsAreALattice, AnswersBelong}
use Rattle.gu_links.specs.declared.link.Link.{Link}
use Rattle.gu_links.specs.Gives.{Contents, Asked, gives}
use Rattle.gu_links.specs.Solutions.{AllBelong, IsBelow, IsMet, IsOpen, IsClosed, Solves, IsUnderAll, Least, IsOf, Fits, IsSystem}
use Rattle.gu_links.specs.States.{raised, IsEvent, CoreState, at_first, after}
use Rattle.gu_links.proofs.Given.{belonging_is_kept, gives_proper}
use Rattle.gu_links.proofs.Monotone.{gives_down}

-- a link is closed exactly where it is not open
pub closed_is_not_open : (f : Facts) (links : List Link) (link : Link) (x : Contents) → IsClosed f links link x ↔ (IsOpen f links link x → ⊥)
closed_is_not_open f links link x = (
  λ (c : IsClosed f links link x) (o : IsOpen f links link x). o.unmet (All-contains (IsMet f x) (gives f links link x) o.asked c.met o.given),
  λ (h : IsOpen f links link x → ⊥). record {
    met = λ k d lt.
        let p = get_or (gives f links link x) k d in
        ⊎_elim (λ (e : at_most f p.1 (x p.0) ≡ true). record { holds = e })
        (λ (e : at_most f p.1 (x p.0) ≡ false). absurd (h (record { asked = p; given = Contains-get_or (gives f links link x) k d lt; unmet = λ (m : IsMet f x p). both_ways (at_most f p.1 (x p.0)) e m.holds })))
        (cases_Bool (at_most f p.1 (x p.0)));
  },
)

module _ (f : Facts) (lattice : ContentsAreALattice f) (answers : AnswersBelong f) (longs : List ℕ) (count : ℕ) (links : List Link) (system : IsSystem f longs count links) where
  belongs_of : (a : Content) → IsOf f longs a → Belongs f a
  belongs_of a h = h.belongs

  -- what a link asks for belongs, and is met by each solution above the contents
  given_belongs : (x : Contents) (to : ℕ) (a : Content) → AllBelong f x → (e : IsEvent f links x to a) → Belongs f e.whole
  given_belongs x to a hx e =
      (All-contains (λ (asked : Asked). (asked.0 < count) × Belongs f asked.1) (gives f links e.link x) (to, e.whole)
      (gives_proper f (Belongs f) (belonging_is_kept f lattice answers) longs count links system belongs_of x hx.at e.link (All-contains (Fits f longs count) links e.link system.fit e.listed))
      e.given).1

  given_met : (x y : Contents) (to : ℕ) (a : Content) → AllBelong f x → AllBelong f y → IsBelow f x y → Solves f links y → (e : IsEvent f links x to a) → AtMost f e.whole (y to)
  given_met x y to a hx hy below solves e =
      All-contains (IsMet f y) (gives f links e.link x) (to, e.whole)
      (gives_down f lattice answers longs count links system x y hx hy below e.link (All-contains (Fits f longs count) links e.link system.fit e.listed)
      (All-contains (λ link. IsClosed f links link y) links e.link solves.closed e.listed).met)
      e.given

  raised_belong : (x : Contents) (to : ℕ) (a : Content) → AllBelong f x → Belongs f a → AllBelong f (raised f x to a)
  raised_belong x to a hx ha = record {
    at = λ c. cond_both (eqb to c) (join f (x c) a) (x c) (Belongs f) (λ e. answers.join_does (x c) a (hx.at c) ha) (λ e. hx.at c);
  }

  pub raised_below : (x y : Contents) (to : ℕ) (a : Content) → AllBelong f x → AllBelong f y → Belongs f a → IsBelow f x y → AtMost f a (y to) → IsBelow f (raised f x to a) y
  raised_below x y to a hx hy ha below le = record {
    at = λ c. cond_both (eqb to c) (join f (x c) a) (x c) (λ b. AtMost f b (y c))
        (λ e. lattice.joins.least (x c) a (y c) (hx.at c) ha (hy.at c) (below.at c) (subst (λ (d : ℕ). AtMost f a (y d)) (eqb-true to c e) le)) (λ e. below.at c);
  }

  pub states_belong : (x : Contents) → CoreState f links x → AllBelong f x
  states_belong _ at_first = record { at = λ c. tt }
  states_belong _ (after x to a s e) = raised_belong x to a (states_belong x s) e.belongs

  pub states_below : (x : Contents) → CoreState f links x → IsUnderAll f links x
  states_below _ at_first = record { at_most = λ y hy s. record { at = λ c. lattice.order.least (y c) } }
  states_below _ (after x to a s e) = record {
    at_most = λ y hy solves.
        let hx = states_belong x s in
        let below = (states_below x s).at_most y hy solves in
        raised_below x y to a hx hy e.belongs below
        (lattice.order.transitive a e.whole (y to) e.belongs (given_belongs x to a hx e) (hy.at to) e.part (given_met x y to a hx hy below solves e));
  }

  pub solved_state : (x : Contents) → CoreState f links x → Solves f links x → Least f links x
  solved_state x s solves = record { belong = states_belong x s; solves = solves; least = states_below x s }
