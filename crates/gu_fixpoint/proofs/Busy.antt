-- The first workers that have all roots in their shares, and the others, which have nothing to do.
use Rattle.std.proofs.Common.{ℕ, ◌≡◌, ◌+◌, ◌<◌, ◌≤◌, ◌%◌, Some, List, [], ◌++◌, length, take, drop, get_or, sym, ap, ◌∙◌, subst, ⊎_elim, arith}
use Rattle.std.specs.Prelude.{slice_get}
use Rattle.std.proofs.lemmas.Bool.{cases_eq}
use Rattle.std.proofs.lemmas.Nat.{mod_below}
use Rattle.std.proofs.lemmas.List.{take_all, drop_all, append-nil, length-append}
use Rattle.std.proofs.lemmas.Option.{slice_get_within, get_or_from_slice_get}
use Rattle.gu_contents.specs.declared.content.Content.{Content}
use Rattle.gu_contents.specs.declared.facts.Facts.{Facts}
use Rattle.gu_cells.specs.declared.record.Entry.{Entry}
use Rattle.gu_links.specs.declared.link.Link.{Link}
use Rattle.gu_links.specs.declared.link.Link.TheVariants.{Root}
use Rattle.gu_workers.specs.Work.{IsWork}
use Rattle.gu_workers.proofs.Splits.{no_join, are_of_none}
use Rattle.gu_workers.proofs.Records.{asks_reads}
use Rattle.gu_fixpoint.specs.Hands.{AreBusy}

-- the roots among the first links, so many, are in the shares of the first workers
pub record FirstBusy (links : List Link) (workers busy count : ℕ) : Type 0 where
  pub few : busy ≤ workers
  pub shares : (number : ℕ) (give : Content) (to : ℕ) → number < count → slice_get links number ≡ Some (Root give to) → number % workers < busy

module _ (links : List Link) (workers : ℕ) where
  pub busy_none : FirstBusy links workers 0 0
  busy_none = record { few = omega arith; shares = λ number give to lt. absurd (omega arith) }

  pub busy_more : (busy more count : ℕ) (link : Link) → FirstBusy links workers busy count → link ≡ get_or links count link → more ≤ workers → busy ≤ more
      → ((give : Content) (to : ℕ) → link ≡ Root give to → count % workers < more) → FirstBusy links workers more (count + 1)
  busy_more busy more count link h is few up enough = record {
    few = few;
    shares = λ number give to lt at. ⊎_elim
        (λ (e : number ≡ count).
        let there : slice_get links count ≡ Some (Root give to) = subst (λ (n : ℕ). slice_get links n ≡ Some (Root give to)) e at in
        let low : count % workers < more = enough give to (is ∙ get_or_from_slice_get links count (Root give to) link there) in
        subst (λ (n : ℕ). n % workers < more) (sym e) low)
        (λ (ne : number ≡ count → ⊥). below (number % workers) busy more (h.shares number give to (omega arith) at) up)
        (cases_eq number count);
  }
    where
      below : (a b c : ℕ) → a < b → b ≤ c → a < c
      below a b c p q = omega arith

  pub all_busy : (busy count : ℕ) → FirstBusy links workers busy count → length links ≤ count → AreBusy links workers busy
  all_busy busy count h all = record { shares = λ number give to at. h.shares number give to (omega (arith, all, slice_get_within links number (Root give to) at)) at }

  pub all_are : 0 < workers → AreBusy links workers workers
  all_are some = record { shares = λ number give to at. mod_below number workers some }

  -- a worker that is not among them has done its work before it begins
  pub idle_work : (f : Facts) (busy index : ℕ) (entries : List Entry) → AreBusy links workers busy → busy ≤ index → entries ≡ [] → IsWork f links index workers entries
  idle_work f busy index entries h idle none = subst (IsWork f links index workers) (sym none) (record {
    roots = record { roots = λ number give to at is. absurd (above (number % workers) (h.shares number give to at) is) };
    follows = record { readers = λ newer older cell asked before after is. absurd (no_join f [] newer older cell asked before after (are_of_none f []) is) };
    asks = asks_reads f links [] (are_of_none f []);
  })
    where
      above : (a : ℕ) → a < busy → a ≡ index → ⊥
      above a lt is = omega arith

-- a list whose first part was written
pub first_written : {X : Type 0} (n : ℕ) (old a b a' : List X) → old ≡ a ++ b → length a' ≡ length a → length old ≤ n → take n ((a' ++ b) ++ drop (length (a' ++ b)) old) ≡ a' ++ b
first_written n old a b a' is long few =
    let same : length (a' ++ b) ≡ length old = length-append a' b ∙ (ap (λ (k : ℕ). k + length b) long ∙ (sym (length-append a b) ∙ ap length (sym is))) in
    let none : drop (length (a' ++ b)) old ≡ [] = drop_all (length (a' ++ b)) old (omega (arith, same)) in
    let all : (a' ++ b) ++ drop (length (a' ++ b)) old ≡ a' ++ b = ap (λ ys. (a' ++ b) ++ ys) none ∙ append-nil (a' ++ b) in
    ap (take n) all ∙ take_all n (a' ++ b) (omega (arith, same, few))
