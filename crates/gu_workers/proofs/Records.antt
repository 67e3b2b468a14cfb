-- What the steps of a worker add to its record, put together.
use Rattle.std.proofs.Common.{ℕ, zero, suc, ◌≡◌, ◌≢◌, ◌⊎◌, ◌+◌, ◌%◌, ◌<◌, ◌≤◌, List, [], ◌∷◌, ◌++◌, length, take, drop, get_or, append_assoc, inl, inr, ⊎_elim, sym, refl, ap, ◌∙◌, subst, arith}
use Rattle.std.specs.Prelude.{All, Contains, Some, slice_get}
use Rattle.std.proofs.lemmas.List.{take_more, take_all, take-append-drop}
use Rattle.std.proofs.lemmas.Option.{slice_get-get_or, slice_get_within, get_or_from_slice_get}
use Rattle.std.proofs.lemmas.List.Elements.{All-nil, All-cons, All-head, All-append, Contains-get_or, Contains-push_cases, Contains-append_left, Contains-append_right}
use mathlib.Core.Logic.{dite}
use native.Mathlib.Decide.{ℕ_discrete}
use Rattle.gu_contents.specs.declared.content.Content.{Content}
use Rattle.gu_contents.specs.declared.facts.Facts.{Facts}
use Rattle.gu_contents.specs.Join.{join}
use Rattle.gu_cells.specs.declared.record.Entry.{Entry}
use Rattle.gu_cells.specs.declared.record.Entry.TheVariants.{Join}
use Rattle.gu_links.specs.declared.link.Link.{Link}
use Rattle.gu_links.specs.declared.link.Link.TheVariants.{Root}
use Rattle.gu_links.specs.Gives.{Asked, gives, reads}
use Rattle.gu_links.specs.Solutions.{IsReader}
use Rattle.gu_links.specs.Known.{link_at}
use Rattle.gu_workers.specs.Work.{WasJoined, IsServed, IsAskedFor, LeavesJoin, AsksGiven, IsWork}
use Rattle.gu_worklist.specs.Left.{Keeps}
use Rattle.gu_workers.specs.Steps.{Adds, AreOf, Asks, LeavesReaders, Makes, Serves, Starts}
use Rattle.gu_workers.proofs.Splits.{split, no_join, asked_is, leave_joins, are_of_wider, are_of_reads, are_of_both, are_of_none, are_of_more, read_behind, joined_in_front, joined_behind, all_joined_in_front, all_joined_behind, served_in_front, served_behind, asked_for_in_front}

-- a record with entries in front, twice
pub adds_twice : (P Q R : List Entry → Type 0) (a b c : List Entry) → ((xs ys : List Entry) → Q xs → P ys → R (xs ++ ys)) → Adds P a b → Adds Q b c → Adds R a c
adds_twice P Q R a b c both p q = record {
  more = q.more ++ p.more;
  added = q.added ∙ (ap (λ (es : List Entry). q.more ++ es) p.added ∙ sym (append_assoc q.more p.more a));
  holds = both q.more p.more q.holds p.holds;
}

pub adds_none : (P : List Entry → Type 0) (a : List Entry) → P [] → Adds P a a
adds_none P a h = record { more = []; added = refl; holds = h }

pub adds_as : (P Q : List Entry → Type 0) (a b : List Entry) → ((xs : List Entry) → P xs → Q xs) → Adds P a b → Adds Q a b
adds_as P Q a b h p = record { more = p.more; added = p.added; holds = h p.more p.holds }

pub adds_from : (P : List Entry → Type 0) (a a' b b' : List Entry) → a' ≡ a → b' ≡ b → Adds P a b → Adds P a' b'
adds_from P a a' b b' e d p = record { more = p.more; added = d ∙ (p.added ∙ ap (λ (es : List Entry). p.more ++ es) (sym e)); holds = p.holds }

module _ (f : Facts) (links : List Link) where
  -- the joins of two records
  pub asks_both : (xs ys : List Entry) → AsksGiven f links xs → AsksGiven f links ys → AsksGiven f links (xs ++ ys)
  asks_both xs ys p q = record {
    asks = λ newer older cell asked before after is. ⊎_elim
        (λ (t : (rest : List Entry) × (xs ≡ newer ++ Join cell asked before after ∷ rest) × (older ≡ rest ++ ys)).
        subst (λ (es : List Entry). IsAskedFor f links es (cell, asked)) (sym t.2) (asked_for_in_front t.0 ys f links (cell, asked) (p.asks newer t.0 cell asked before after t.1)))
        (λ (t : (front : List Entry) × (newer ≡ xs ++ front) × (ys ≡ front ++ Join cell asked before after ∷ older)). q.asks t.0 older cell asked before after t.2)
        (split xs ys newer older (Join cell asked before after) is);
    joins = All-append (LeavesJoin f) xs ys p.joins q.joins;
  }

  pub asks_reads : (xs : List Entry) → AreOf f [] xs → AsksGiven f links xs
  asks_reads xs h = record { asks = λ newer older cell asked before after is. absurd (no_join f xs newer older cell asked before after h is); joins = leave_joins f [] xs h }

  -- joins that a link asks for on what was read before
  pub asks_made : (link : Link) (asks : List Asked) (js rs : List Entry) → Contains links link → AreOf f asks js → Asks f links link asks rs → AsksGiven f links (js ++ rs)
  asks_made link asks js rs listed h a = record {
    asks = λ newer older cell asked before after is. ⊎_elim
        (λ (t : (rest : List Entry) × (js ≡ newer ++ Join cell asked before after ∷ rest) × (older ≡ rest ++ rs)).
        subst (λ (es : List Entry). IsAskedFor f links es (cell, asked)) (sym t.2) (record {
          link = link;
          listed = listed;
          contents = a.contents;
          were_read = read_behind t.0 rs (reads f links link a.contents) a.contents a.were_read;
          given = subst (λ (given : List Asked). Contains given (cell, asked)) a.given (asked_is f asks js newer t.0 cell asked before after h t.1);
        }))
        (λ (t : (front : List Entry) × (newer ≡ js ++ front) × (rs ≡ front ++ Join cell asked before after ∷ older)). absurd (no_join f rs t.0 older cell asked before after a.reads_alone t.2))
        (split js rs newer older (Join cell asked before after) is);
    joins = All-append (LeavesJoin f) js rs (leave_joins f asks js h) (leave_joins f [] rs a.reads_alone);
  }

  -- what is left after more was done
  pub leaves_keeps : (P Q : List ℕ) (xs : List Entry) → Keeps P Q → LeavesReaders f links P xs → LeavesReaders f links Q xs
  leaves_keeps P Q xs k h = record { readers = λ newer older cell asked before after is ne number link at r. k.kept number (h.readers newer older cell asked before after is ne number link at r) }

  pub leaves_both : (Q : List ℕ) (xs ys : List Entry) → LeavesReaders f links Q xs → LeavesReaders f links Q ys → LeavesReaders f links Q (xs ++ ys)
  leaves_both Q xs ys p q = record {
    readers = λ newer older cell asked before after is ne number link at r. ⊎_elim
        (λ (t : (rest : List Entry) × (xs ≡ newer ++ Join cell asked before after ∷ rest) × (older ≡ rest ++ ys)). p.readers newer t.0 cell asked before after t.1 ne number link at r)
        (λ (t : (front : List Entry) × (newer ≡ xs ++ front) × (ys ≡ front ++ Join cell asked before after ∷ older)). q.readers t.0 older cell asked before after t.2 ne number link at r)
        (split xs ys newer older (Join cell asked before after) is);
  }

  pub leaves_reads : (Q : List ℕ) (xs : List Entry) → AreOf f [] xs → LeavesReaders f links Q xs
  leaves_reads Q xs h = record { readers = λ newer older cell asked before after is ne number link at r. absurd (no_join f xs newer older cell asked before after h is) }

  -- one join, with the reads that led to it
  pub leaves_join : (Q : List ℕ) (cell : ℕ) (asked before after : Content) (xs : List Entry) → AreOf f [] xs
      → (before ≢ after → (number : ℕ) (link : Link) → slice_get links number ≡ Some link → IsReader f links cell link → Contains Q number) → LeavesReaders f links Q (Join cell asked before after ∷ xs)
  leaves_join Q cell asked before after xs h left = record { readers = readers }
    where
      readers : (newer older : List Entry) (c : ℕ) (a b x : Content) → Join cell asked before after ∷ xs ≡ newer ++ Join c a b x ∷ older → b ≢ x
          → (number : ℕ) (link : Link) → slice_get links number ≡ Some link → IsReader f links c link → Contains Q number
      readers [] older c a b x is ne number link at r =
          let head : Join cell asked before after ≡ Join c a b x = cc in
          let same_cell : cell ≡ c = cc in
          let same_before : before ≡ b = cc in
          let same_after : after ≡ x = cc in
          left (λ e. ne (sym same_before ∙ (e ∙ same_after))) number link at (subst (λ (d : ℕ). IsReader f links d link) (sym same_cell) r)
      readers (n ∷ newer) older c a b x is ne number link at r = let tail : xs ≡ newer ++ Join c a b x ∷ older = cc in absurd (no_join f xs newer older c a b x h tail)

  -- what a join makes
  pub makes_join : (Q : List ℕ) (cell : ℕ) (asked before after : Content) (xs : List Entry) → AreOf f [] xs → after ≡ join f before asked
      → (before ≢ after → (number : ℕ) (link : Link) → slice_get links number ≡ Some link → IsReader f links cell link → Contains Q number) → Makes f links Q ((cell, asked) ∷ []) (Join cell asked before after ∷ xs)
  makes_join Q cell asked before after xs h is left = record {
    joined = All-cons (WasJoined f (Join cell asked before after ∷ xs)) (cell, asked) [] (record { before = before; after = after; made = (0, omega arith, refl); after_is = is }) (All-nil (WasJoined f (Join cell asked before after ∷ xs)));
    are_of = are_of_more f ((cell, asked) ∷ []) (Join cell asked before after) xs ((0, omega arith, refl), is) (are_of_reads f ((cell, asked) ∷ []) xs h);
    leaves = leaves_join Q cell asked before after xs h left;
  }

  pub makes_none : (Q : List ℕ) → Makes f links Q [] []
  makes_none Q = record { joined = All-nil (WasJoined f []); are_of = are_of_none f []; leaves = leaves_reads Q [] (are_of_none f []) }

  -- one join more
  pub makes_more : (P Q : List ℕ) (firsts lasts : List Asked) (xs ys : List Entry) → Keeps P Q → Makes f links Q lasts xs → Makes f links P firsts ys → Makes f links Q (firsts ++ lasts) (xs ++ ys)
  makes_more P Q firsts lasts xs ys k p q = record {
    joined = All-append (WasJoined f (xs ++ ys)) firsts lasts (all_joined_behind xs ys f firsts q.joined) (all_joined_in_front xs ys f lasts p.joined);
    are_of = are_of_both f (firsts ++ lasts) xs ys (are_of_wider f lasts (firsts ++ lasts) xs (λ a at. Contains-append_right firsts lasts a at) p.are_of) (are_of_wider f firsts (firsts ++ lasts) ys (λ a at. Contains-append_left firsts lasts a at) q.are_of);
    leaves = leaves_both Q xs ys p.leaves (leaves_keeps P Q ys k q.leaves);
  }

  -- a link is served by what it asks for and the joins
  pub serves : (Q : List ℕ) (link : Link) (asks : List Asked) (js rs : List Entry) → Contains links link → Makes f links Q asks js → Asks f links link asks rs → Serves f links Q link (js ++ rs)
  serves Q link asks js rs listed m a = record {
    served = record {
      contents = a.contents;
      were_read = read_behind js rs (reads f links link a.contents) a.contents a.were_read;
      joined = subst (λ (given : List Asked). All (WasJoined f (js ++ rs)) given) a.given (all_joined_in_front js rs f asks m.joined);
    };
    asks = asks_made link asks js rs listed m.are_of a;
    leaves = leaves_both Q js rs m.leaves (leaves_reads Q rs a.reads_alone);
  }

  -- the link with a number
  pub link_listed : (k : ℕ) → k < length links → Contains links (link_at links k)
  link_listed k lt = Contains-get_or links k _ lt

  pub link_is : (k : ℕ) (link : Link) → slice_get links k ≡ Some link → link_at links k ≡ link
  link_is k link e = get_or_from_slice_get links k link _ e

  -- a root of the share that is served
  pub starts : (Q : List ℕ) (index of k : ℕ) (xs : List Entry) → Serves f links Q (link_at links k) xs → Starts f links Q index of k xs
  unfolding gives
  starts Q index of k xs s = record {
    root = λ give to at is. root give to (link_at links k) (link_is k (Root give to) at) s.served;
    asks = s.asks;
    leaves = s.leaves;
  }
    where
      root : (give : Content) (to : ℕ) (link : Link) → link ≡ Root give to → IsServed f links xs link → WasJoined f xs (to, give)
      root give to link e served =
          let s : IsServed f links xs (Root give to) = subst (λ (l : Link). IsServed f links xs l) e served in
          All-head (WasJoined f xs) (to, give) [] s.joined

  pub starts_none : (Q : List ℕ) (index of k : ℕ) → ((give : Content) (to : ℕ) → slice_get links k ≡ Some (Root give to) → k % of ≡ index → ⊥) → Starts f links Q index of k []
  starts_none Q index of k h = record {
    root = λ give to at is. absurd (h give to at is);
    asks = asks_reads [] (are_of_none f []);
    leaves = leaves_reads Q [] (are_of_none f []);
  }

  -- behind each raise every reader is served or left
  pub record FollowsOr (left : List ℕ) (entries : List Entry) : Type 0 where
    pub readers : (newer older : List Entry) (cell : ℕ) (asked before after : Content) → entries ≡ newer ++ Join cell asked before after ∷ older → before ≢ after
        → (number : ℕ) (link : Link) → slice_get links number ≡ Some link → IsReader f links cell link → IsServed f links newer link ⊎ Contains left number

  -- where each link that was left is served by what was done, or is left
  pub follows_on : (P Q : List ℕ) (more es : List Entry) → FollowsOr P es → LeavesReaders f links Q more
      → ((number : ℕ) (link : Link) → slice_get links number ≡ Some link → Contains P number → IsServed f links more link ⊎ Contains Q number) → FollowsOr Q (more ++ es)
  follows_on P Q more es f' new done = record {
    readers = λ newer older cell asked before after is ne number link at r. ⊎_elim
        (λ (t : (rest : List Entry) × (more ≡ newer ++ Join cell asked before after ∷ rest) × (older ≡ rest ++ es)). inr (new.readers newer t.0 cell asked before after t.1 ne number link at r))
        (λ (t : (front : List Entry) × (newer ≡ more ++ front) × (es ≡ front ++ Join cell asked before after ∷ older)). ⊎_elim
        (λ (s : IsServed f links t.0 link). inl (subst (λ (zs : List Entry). IsServed f links zs link) (sym t.1) (served_behind more t.0 f links link s)))
        (λ (m : Contains P number). ⊎_elim
        (λ (s : IsServed f links more link). inl (subst (λ (zs : List Entry). IsServed f links zs link) (sym t.1) (served_in_front more t.0 f links link s)))
        (λ (q : Contains Q number). inr q)
        (done number link at m))
        (f'.readers t.0 older cell asked before after t.2 ne number link at r))
        (split more es newer older (Join cell asked before after) is);
  }

  pub record RootsBelow (index of n : ℕ) (entries : List Entry) : Type 0 where
    pub roots : (number : ℕ) (give : Content) (to : ℕ) → number < n → slice_get links number ≡ Some (Root give to) → number % of ≡ index → WasJoined f entries (to, give)

  -- what a worker has done so far
  pub record IsGoing (index of n : ℕ) (left : List ℕ) (entries : List Entry) : Type 0 where
    pub follows : FollowsOr left entries
    pub roots : RootsBelow index of n entries
    pub asks : AsksGiven f links entries

  pub going_none : (index of : ℕ) (left : List ℕ) → IsGoing index of 0 left []
  going_none index of left = record {
    follows = record { readers = λ newer older cell asked before after is ne number link at r. absurd (no_join f [] newer older cell asked before after (are_of_none f []) is) };
    roots = record { roots = λ number give to lt. absurd (omega arith) };
    asks = asks_reads [] (are_of_none f []);
  }

  pub going_start : (index of k : ℕ) (P Q : List ℕ) (more es : List Entry) → Keeps P Q → Starts f links Q index of k more → IsGoing index of k P es → IsGoing index of (k + 1) Q (more ++ es)
  going_start index of k P Q more es keeps s g = record {
    follows = follows_on P Q more es g.follows s.leaves (λ number link at m. inr (keeps.kept number m));
    roots = record {
      roots = λ number give to lt at is. dite (ℕ_discrete number k)
          (λ e. joined_in_front more es f (to, give) (s.root give to (subst (λ (j : ℕ). slice_get links j ≡ Some (Root give to)) e at) (subst (λ (j : ℕ). j % of ≡ index) e is)))
          (λ ne. joined_behind more es f (to, give) (g.roots.roots number give to (omega arith) at is));
    };
    asks = asks_both more es s.asks g.asks;
  }

  pub going_step : (index of n k : ℕ) (P R Q : List ℕ) (more es : List Entry) → P ≡ R ++ k ∷ [] → Keeps R Q → Serves f links Q (link_at links k) more → IsGoing index of n P es → IsGoing index of n Q (more ++ es)
  going_step index of n k P R Q more es is keeps s g = record {
    follows = follows_on P Q more es g.follows s.leaves (λ number link at m. ⊎_elim
        (λ (c : Contains R number). inr (keeps.kept number c))
        (λ (e : k ≡ number). inl (subst (λ (l : Link). IsServed f links more l) (link_is k link (subst (λ (j : ℕ). slice_get links j ≡ Some link) (sym e) at)) s.served))
        (Contains-push_cases R k number (subst (λ (xs : List ℕ). Contains xs number) is m)));
    roots = record { roots = λ number give to lt at is. joined_behind more es f (to, give) (g.roots.roots number give to lt at is) };
    asks = asks_both more es s.asks g.asks;
  }

  pub going_end : (index of n : ℕ) (left : List ℕ) (entries : List Entry) → n ≡ length links → left ≡ [] → IsGoing index of n left entries → IsWork f links index of entries
  going_end index of n left entries all none g = record {
    roots = record { roots = λ number give to at is. g.roots.roots number give to (omega (arith, slice_get_within links number (Root give to) at, all)) at is };
    follows = record {
      readers = λ newer older cell asked before after is ne link listed r. let k = listed.0 in let lt = listed.1 in ⊎_elim
          (λ (s : IsServed f links newer link). s)
          (λ (at : Contains left k). let c : Contains [] k = subst (λ (xs : List ℕ). Contains xs k) none at in let bad = c.1 in absurd (omega arith))
          (g.follows.readers newer older cell asked before after is ne k link (slice_get-get_or links k link lt ∙ ap Some listed.2) r);
    };
    asks = g.asks;
  }

-- of a list of joins one more was made
pub made_more : (f : Facts) (links : List Link) (P Q : List ℕ) (asked : List Asked) (i : ℕ) (d : Asked) (old mid new : List Entry) → Keeps P Q → i < length asked
    → Adds (Makes f links P (take i asked)) old mid → Adds (Makes f links Q (get_or asked i d ∷ [])) mid new → Adds (Makes f links Q (take (i + 1) asked)) old new
made_more f links P Q asked i d old mid new keeps lt p q =
    subst (λ (xs : List Asked). Adds (Makes f links Q xs) old new) (sym (take_more asked i d lt))
    (adds_twice (Makes f links P (take i asked)) (Makes f links Q (get_or asked i d ∷ [])) (Makes f links Q (take i asked ++ get_or asked i d ∷ [])) old mid new
    (λ xs ys h k. makes_more f links P Q (take i asked) (get_or asked i d ∷ []) xs ys keeps h k) p q)

-- and where one was not, what was made is of those asked for
pub made_part : (f : Facts) (links : List Link) (P : List ℕ) (asked : List Asked) (i : ℕ) (d : Asked) (old mid new : List Entry) → i < length asked
    → Adds (Makes f links P (take i asked)) old mid → Adds (AreOf f (get_or asked i d ∷ [])) mid new → Adds (AreOf f asked) old new
made_part f links P asked i d old mid new lt p q =
    adds_twice (Makes f links P (take i asked)) (AreOf f (get_or asked i d ∷ [])) (AreOf f asked) old mid new
    (λ xs ys h k. are_of_both f asked xs ys
    (are_of_wider f (get_or asked i d ∷ []) asked xs (λ a at. subst (Contains asked) (only (get_or asked i d) a at) (Contains-get_or asked i d lt)) h)
    (are_of_wider f (take i asked) asked ys (λ a at. subst (λ (zs : List Asked). Contains zs a) (take-append-drop i asked) (Contains-append_left (take i asked) (drop i asked) a at)) k.are_of)) p q
  where
    only : (b a : Asked) → Contains (b ∷ []) a → b ≡ a
    only b a at = only_at at.0 at.1 at.2
      where
        only_at : (k : ℕ) → k < 1 → get_or (b ∷ []) k a ≡ a → b ≡ a
        only_at zero lt e = e
        only_at (suc k) lt e = absurd (omega arith)

-- all that was asked for was made
pub made_all : (f : Facts) (links : List Link) (P : List ℕ) (asked : List Asked) (i : ℕ) (old new : List Entry) → length asked ≤ i → Adds (Makes f links P (take i asked)) old new → Adds (Makes f links P asked) old new
made_all f links P asked i old new le h = subst (λ (xs : List Asked). Adds (Makes f links P xs) old new) (take_all i asked le) h

pub made_are_of : (f : Facts) (links : List Link) (P : List ℕ) (asked : List Asked) (old new : List Entry) → Adds (Makes f links P asked) old new → Adds (AreOf f asked) old new
made_are_of f links P asked old new h = record { more = h.more; added = h.added; holds = h.holds.are_of }
