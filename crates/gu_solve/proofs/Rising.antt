-- One cell rises, where contents are on their way to the least solution.
use Rattle.std.proofs.Common.{◌≡◌, ℕ, zero, suc, ◌+◌, ◌*◌, ◌<◌, ◌≤◌, ◌++◌, eqb, List, [], ◌∷◌, length, get_or, set, sym, refl, ap, ◌∙◌, subst, take, drop, inl, inr, ⊎_elim, arith, add-one, mul-le-mul_right, suc-mul}
use Rattle.std.specs.Prelude.{All, Contains, Some, slice_get}
use Rattle.std.proofs.lemmas.Bool.{cond-true, cond-false, eq-eqb, ne_eqb, cases_eq, cases_lt}
use Rattle.std.proofs.lemmas.List.{get_or_past, get_or-set_same, get_or-set_other, length-set, take_more, take-append-drop}
use Rattle.std.proofs.lemmas.List.Elements.{All-nil, All-cons, All-append, All-weaker, All-contains, All-push, Contains-push_cases}
use Rattle.std.proofs.lemmas.Option.{slice_get_within, get_or_from_slice_get}
use Rattle.gu_contents.specs.declared.content.Content.{Content}
use Rattle.gu_contents.specs.declared.content.Content.TheVariants.{Empty}
use Rattle.gu_contents.specs.declared.facts.Facts.{Facts}
use Rattle.gu_contents.specs.Order.{AtMost}
use Rattle.gu_contents.specs.Join.{join}
use Rattle.gu_contents.specs.Belongs.{Belongs, IsListed}
use Rattle.gu_contents.proofs.Belonging.{answers_belong}
use Rattle.gu_contents.proofs.Law.{lattice}
use Rattle.gu_contents.proofs.Listed.{answers_listed}
use Rattle.gu_links.specs.declared.link.Link.{Link}
use Rattle.gu_links.specs.declared.link.Link.TheVariants.{Callable}
use Rattle.gu_links.specs.Gives.{Contents, Asked, gives}
use Rattle.gu_links.specs.Known.{Item, Has, IsKnown, link_at}
use Rattle.gu_links.specs.Solutions.{at, AllBelong, IsBelow, IsMet, IsClosed, IsUnderAll, IsOf, IsReader, Fits, IsSystem}
use Rattle.gu_links.specs.States.{raised}
use Rattle.gu_solve.proofs.Closing.{ClosedBut, raised_belong, raised_up, raised_met, same_or_reads, rank_rises, room_less}
use Rattle.gu_links.proofs.Given.{belonging_is_kept, listed_is_kept, gives_proper}
use Rattle.gu_links.proofs.Lists.{all_front}
use Rattle.gu_links.proofs.Monotone.{gives_down}
use Rattle.gu_links.proofs.Reached.{raised_below}
use Rattle.gu_links.proofs.Rounds.{same_contents, below_trans}
use Rattle.gu_worklist.specs.Left.{Keeps}
use Rattle.gu_solve.specs.Steps.{IsOnTheWay, IsDue, Rises, room, weight}

-- which content stands behind the last one does not count
pub any_default : (xs : List Content) (k : ℕ) (d e : Content) → k < length xs → get_or xs k d ≡ get_or xs k e
any_default [] k d e lt = absurd (omega arith)
any_default (x ∷ xs) zero d e lt = refl
any_default (x ∷ xs) (suc k) d e lt = any_default xs k d e (omega arith)

-- contents of the system are of it at each cell
pub is_of_at : (f : Facts) (longs : List ℕ) (xs : List Content) → All (IsOf f longs) xs → (c : ℕ) → IsOf f longs (at xs c)
is_of_at f longs xs h c = ⊎_elim
    (λ (lt : c < length xs). h c Empty lt)
    (λ (ge : length xs ≤ c). subst (IsOf f longs) (sym (get_or_past xs c Empty ge)) (record { belongs = tt; listed = tt }))
    (cases_lt c (length xs))

pub belong_at : (f : Facts) (longs : List ℕ) (xs : List Content) → All (IsOf f longs) xs → AllBelong f (at xs)
belong_at f longs xs h = record { at = λ c. (is_of_at f longs xs h c).belongs }

-- the content of one cell more is known
pub known_more : (f : Facts) (longs : List ℕ) (links : List Link) (link : Link) (xs : List Content) (known new : List Item) (c : ℕ) (a : Content) → All (IsOf f longs) xs → a ≡ at xs c → new ≡ known ++ (c, a) ∷ []
    → Has known (at xs) → ((b : Content) → IsOf f longs b → IsKnown f longs links link (known ++ (c, b) ∷ [])) → Has new (at xs) × IsKnown f longs links link new
known_more f longs links link xs known new c a are_of is e has onward =
    subst (λ (ks : List Item). Has ks (at xs) × IsKnown f longs links link ks) (sym e)
    (record { at = All-push (λ (k : Item). at xs k.0 ≡ k.1) known (c, a) has.at (sym is) }, onward a (subst (IsOf f longs) (sym is) (is_of_at f longs xs are_of c)))

-- writing the join is raising
pub set_is_raised : (f : Facts) (xs : List Content) (to : ℕ) (a : Content) → to < length xs → at (set xs to (join f (at xs to) a)) ≡ raised f (at xs) to a
set_is_raised f xs to a lt = same_contents _ _ (λ c. ⊎_elim
    (λ (e : to ≡ c). subst (λ (d : ℕ). at (set xs to (join f (at xs to) a)) d ≡ raised f (at xs) to a d) e
    (get_or-set_same xs to (join f (at xs to) a) Empty lt ∙ sym (cond-true (eqb to to) (join f (at xs to) a) (at xs to) (eq-eqb to to refl))))
    (λ (ne : to ≡ c → ⊥). get_or-set_other xs to c (join f (at xs to) a) Empty (λ e. ne (sym e)) ∙ sym (cond-false (eqb to c) (join f (at xs c) a) (at xs c) (ne_eqb to c ne)))
    (cases_eq to c))

-- each content of the list is one of the system after a write too
pub set_are_of : (P : Content → Type 0) (xs : List Content) (to : ℕ) (v : Content) → All P xs → P v → All P (set xs to v)
set_are_of P xs to v h p k d lt =
    let long = length-set xs to v in ⊎_elim
    (λ (e : k ≡ to). subst P (sym (ap (λ (i : ℕ). get_or (set xs to v) i d) e ∙ get_or-set_same xs to v d (omega (arith, long)))) p)
    (λ (ne : k ≡ to → ⊥). subst P (sym (get_or-set_other xs to k v d ne)) (h k d (omega (arith, long))))
    (cases_eq k to)

module _ (f : Facts) (longs : List ℕ) (count : ℕ) (links : List Link) (xs : List Content) (way : IsOnTheWay f longs count links xs) where
  abbrev belong : AllBelong f (at xs)
  belong = belong_at f longs xs way.are_of

  -- what a link asks for may be joined
  pub given_due : (k : ℕ) (asked : List Asked) → k < length links → IsSystem f longs count links → asked ≡ gives f links (link_at links k) (at xs) → All (IsDue f longs count links) asked
  given_due k asked lt system is =
      let link = link_at links k in
      let fit : Fits f longs count link = system.fit k _ lt in
      let ones = gives_proper f (Belongs f) (belonging_is_kept f (lattice f) (answers_belong f)) longs count links system (λ a h. h.belongs) (at xs) belong.at link fit in
      let twos = gives_proper f (IsListed longs) (listed_is_kept f longs (lattice f) (answers_belong f) (answers_listed f longs)) longs count links system (λ a h. h.listed) (at xs) (λ c. (is_of_at f longs xs way.are_of c).listed) link fit in
      subst (All (IsDue f longs count links)) (sym is)
      (λ i d h. let one = ones i d h in let two = twos i d h in record {
        cell = one.0;
        content = record { belongs = one.1; listed = two.1 };
        met = λ y hy solves. gives_down f (lattice f) (answers_belong f) longs count links system (at xs) y belong hy (way.below.at_most y hy solves) link fit (solves.closed k _ lt).met i d h;
      })

  -- what is asked for belongs to the facts
  pub given_belong : IsSystem f longs count links → (link : Link) → Contains links link → All (λ (p : Asked). Belongs f p.1) (gives f links link (at xs))
  given_belong system link listed =
      let fit = All-contains (Fits f longs count) links link system.fit listed in
      let ones = gives_proper f (Belongs f) (belonging_is_kept f (lattice f) (answers_belong f)) longs count links system (λ a h. h.belongs) (at xs) belong.at link fit in
      λ i d h. let one = ones i d h in one.1

  module _ (system : IsSystem f longs count links) (to : ℕ) (a : Content) (due : IsDue f longs count links (to, a)) where
    abbrev y : Contents
    y = raised f (at xs) to a

    short : to < length xs
    short = let lt = due.cell in let e = way.long in omega arith

    raised_way : (v : Content) → v ≡ join f (at xs to) a → at (set xs to v) ≡ y
    raised_way v e = ap (λ (w : Content). at (set xs to w)) e ∙ set_is_raised f xs to a short

    -- after the write the contents are still on their way
    pub set_way : (v : Content) → v ≡ join f (at xs to) a → IsOnTheWay f longs count links (set xs to v)
    set_way v e = record {
      long = length-set xs to v ∙ way.long;
      are_of = set_are_of (IsOf f longs) xs to v way.are_of (subst (IsOf f longs) (sym e) (record {
        belongs = (answers_belong f).join_does (at xs to) a (belong.at to) due.content.belongs;
        listed = (answers_listed f longs).join_is (at xs to) a (is_of_at f longs xs way.are_of to).listed due.content.listed;
      }));
      below = subst (IsUnderAll f links) (sym (raised_way v e)) (record {
        at_most = λ z hz solves. raised_below f (lattice f) (answers_belong f) longs count links system (at xs) z to a belong hz due.content.belongs (way.below.at_most z hz solves) (due.met z hz solves);
      });
    }

    -- where the readers of the cell are left
    pub set_rises : (v : Content) (waiting : List ℕ) → v ≡ join f (at xs to) a → ((k : ℕ) (link : Link) → slice_get links k ≡ Some link → IsReader f links to link → Contains waiting k) → Rises f links waiting ((to, a) ∷ []) (at xs) (at (set xs to v))
    set_rises v waiting e readers = subst (Rises f links waiting ((to, a) ∷ []) (at xs)) (sym (raised_way v e)) (record {
      up = raised_up f (lattice f) (answers_belong f) links (at xs) belong to a due.content.belongs;
      met = All-cons (IsMet f y) (to, a) [] (raised_met f (lattice f) (answers_belong f) links (at xs) belong to a due.content.belongs) (All-nil (IsMet f y));
      same = λ k link found. ⊎_elim
          (λ (s : gives f links link y ≡ gives f links link (at xs)). inl s)
          (λ (r : IsReader f links to link). inr (readers k link found r))
          (same_or_reads f (lattice f) (answers_belong f) links (at xs) belong to a due.content.belongs link);
    })

    -- and where the cell had the content already
    pub stays : (waiting : List ℕ) → AtMost f a (at xs to) → Rises f links waiting ((to, a) ∷ []) (at xs) (at xs)
    stays waiting le = record {
      up = record { at = λ c. (lattice f).order.reflexive (at xs c) };
      met = All-cons (IsMet f (at xs)) (to, a) [] le (All-nil (IsMet f (at xs)));
      same = λ k link found. inl refl;
    }

    -- a write leaves less to do, whatever it leaves
    pub set_weighs : (v : Content) (p q : ℕ) → v ≡ join f (at xs to) a → (AtMost f a (at xs to) → ⊥) → q ≤ length links → weight count (length links) (at (set xs to v)) q ≤ weight count (length links) (at xs) p
    set_weighs v p q e not_yet few =
        let up = rank_rises f (lattice f) (answers_belong f) links (at xs) belong to a due.content.belongs not_yet in
        let less : room count y < room count (at xs) = room_less f (lattice f) (answers_belong f) (at xs) y belong (raised_belong f (lattice f) (answers_belong f) links (at xs) belong to a due.content.belongs) (raised_up f (lattice f) (answers_belong f) links (at xs) belong to a due.content.belongs) count to due.cell up in
        subst (λ (z : Contents). weight count (length links) z q ≤ weight count (length links) (at xs) p) (sym (raised_way v e)) (lighter (length links) (room count y) (room count (at xs)) p q less few)
      where
        lighter : (n r s p q : ℕ) → r < s → q ≤ n → r * (n + 1) + q ≤ s * (n + 1) + p
        lighter n r s p q lt le =
            let m : (r + 1) * (n + 1) ≤ s * (n + 1) = mul-le-mul_right (n + 1) (omega arith) in
            let e = suc-mul r (n + 1) in
            let d : (r + 1) * (n + 1) ≡ suc r * (n + 1) = ap (λ (z : ℕ). z * (n + 1)) (add-one r) in
            let x : ℕ = r * (n + 1) in omega arith

-- one join after another
pub rises_none : (f : Facts) (links : List Link) (waiting : List ℕ) (x : Contents) → Rises f links waiting [] x x
rises_none f links waiting x = record {
  up = record { at = λ c. (lattice f).order.reflexive (x c) };
  met = All-nil (IsMet f x);
  same = λ k link found. inl refl;
}

pub met_up : (f : Facts) (ps : List Asked) (x y : Contents) → AllBelong f x → AllBelong f y → All (λ (p : Asked). Belongs f p.1) ps → IsBelow f x y → All (IsMet f x) ps → All (IsMet f y) ps
met_up f ps x y hx hy hs below met k d lt =
    let p = get_or ps k d in (lattice f).order.transitive p.1 (x p.0) (y p.0) (hs k d lt) (hx.at p.0) (hy.at p.0) (met k d lt) (below.at p.0)

pub rises_twice : (f : Facts) (links : List Link) (P Q : List ℕ) (ps qs : List Asked) (x y z : Contents) → AllBelong f x → AllBelong f y → AllBelong f z → All (λ (p : Asked). Belongs f p.1) ps → Keeps P Q
    → Rises f links P ps x y → Rises f links Q qs y z → Rises f links Q (ps ++ qs) x z
rises_twice f links P Q ps qs x y z hx hy hz hs keeps one two = record {
  up = below_trans f (lattice f) (answers_belong f) x y z hx hy hz one.up two.up;
  met = All-append (IsMet f z) ps qs (met_up f ps y z hy hz hs two.up one.met) two.met;
  same = λ k link found. ⊎_elim
      (λ (t : gives f links link z ≡ gives f links link y). ⊎_elim
      (λ (s : gives f links link y ≡ gives f links link x). inl (t ∙ s))
      (λ (w : Contains P k). inr (keeps.kept k w))
      (one.same k link found))
      (λ (w : Contains Q k). inr w)
      (two.same k link found);
}

-- one join of a list more
pub rises_more : (f : Facts) (longs : List ℕ) (count : ℕ) (links : List Link) (P Q : List ℕ) (asked : List Asked) (i : ℕ) (d : Asked) (x y z : Contents) → AllBelong f x → AllBelong f y → AllBelong f z → All (IsDue f longs count links) asked → Keeps P Q → i < length asked
    → Rises f links P (take i asked) x y → Rises f links Q (get_or asked i d ∷ []) y z → Rises f links Q (take (i + 1) asked) x z
rises_more f longs count links P Q asked i d x y z hx hy hz due keeps lt one two =
    let first : All (IsDue f longs count links) (take i asked) = all_front (IsDue f longs count links) (take i asked) (drop i asked) (subst (All (IsDue f longs count links)) (sym (take-append-drop i asked)) due) in
    subst (λ (ps : List Asked). Rises f links Q ps x z) (sym (take_more asked i d lt))
    (rises_twice f links P Q (take i asked) (get_or asked i d ∷ []) x y z hx hy hz (All-weaker (IsDue f longs count links) (λ (p : Asked). Belongs f p.1) (λ p h. h.content.belongs) (take i asked) first) keeps one two)

-- a link that was left is served: each link is closed or left
pub served : (f : Facts) (links : List Link) (k : ℕ) (old rest new : List ℕ) (x y : Contents) → AllBelong f x → AllBelong f y → ((link : Link) → Contains links link → All (λ (p : Asked). Belongs f p.1) (gives f links link x))
    → old ≡ rest ++ k ∷ [] → Keeps rest new → Rises f links new (gives f links (link_at links k) x) x y → ClosedBut f links old x → ClosedBut f links new y
served f links k old rest new x y hx hy hs taken keeps rises but = record {
  at = λ j link found.
      let same : link_at links j ≡ link = get_or_from_slice_get links j link (Callable 0) found in
      let listed : Contains links link = (j, slice_get_within links j link found, get_or_from_slice_get links j link link found) in
      ⊎_elim
      (λ (s : gives f links link y ≡ gives f links link x). ⊎_elim
      (λ (c : IsClosed f links link x). inl (record { met = subst (All (IsMet f y)) (sym s) (met_up f (gives f links link x) x y hx hy (hs link listed) rises.up c.met) }))
      (λ (w : Contains old j). ⊎_elim
      (λ (r : Contains rest j). inr (keeps.kept j r))
      (λ (e : k ≡ j).
      let is : link_at links k ≡ link = ap (link_at links) e ∙ same in
      inl (record { met = subst (All (IsMet f y)) (ap (λ (l : Link). gives f links l x) is ∙ sym s) rises.met }))
      (Contains-push_cases rest k j (subst (λ (ws : List ℕ). Contains ws j) taken w)))
      (but.at j link found))
      (λ (w : Contains new j). inr w)
      (rises.same j link found);
}
