-- Records that settle contents which are at most the least solution make them the least solution.
use Rattle.std.proofs.Common.{ℕ, zero, suc, ◌≡◌, ◌≢◌, ◌⊎◌, ◌%◌, ◌<◌, Bool, true, false, List, [], ◌∷◌, ◌++◌, length, get_or, cond, eqb, inl, inr, ⊎_elim, sym, refl, ap, ◌∙◌, subst, arith}
use Rattle.std.specs.Prelude.{All, Contains, Some, slice_get}
use Rattle.std.specs.Cmp.{nat_eq_equiv}
use Rattle.std.proofs.lemmas.Option.{slice_get-get_or}
use Rattle.std.proofs.lemmas.List.Elements.{All-nil, All-cons, All-weaker, All-contains, Contains-get_or, Contains-append_left, All-contains_itself}
use Rattle.std.proofs.lemmas.Map.Views.{list_any-from_Contains, Contains-from_any}
use Rattle.std.proofs.Math.Nat.{mod-lt}
use Rattle.std.proofs.lemmas.Bool.Decides.{nat_tests}
use Rattle.gu_contents.specs.declared.content.Content.{Content}
use Rattle.gu_contents.specs.declared.content.Content.TheVariants as C
use Rattle.gu_contents.specs.declared.facts.Facts.{Facts}
use Rattle.gu_contents.specs.Order.{AtMost}
use Rattle.gu_contents.specs.Laws.{AnswersBelong, ContentsAreALattice}
use Rattle.gu_cells.specs.declared.record.Entry.{Entry}
use Rattle.gu_cells.specs.declared.record.Entry.TheVariants.{Read, Join}
use Rattle.gu_cells.specs.Record.{RecordBelongs, RecordsBelong, CoversSeen, CoversAll, is_among, Raises, IsCurrent, Fresh, SomeFresh}
use Rattle.gu_links.specs.declared.link.Link.{Link}
use Rattle.gu_links.specs.declared.link.Link.TheVariants.{Root}
use Rattle.gu_links.specs.Gives.{Contents, Asked, gives, reads, IsRoot}
use Rattle.gu_links.specs.Solutions.{IsBelow, IsMet, Solves, Least, IsReader}
use Rattle.gu_links.specs.Laws.{Agree}
use Rattle.gu_links.proofs.Local.{same_on}
use Rattle.gu_links.proofs.Nothing.{gives_nothing}
use Rattle.gu_workers.specs.Work.{WasJoined, WereRead, IsServed}
use Rattle.gu_workers.specs.Laws.{AllWork, AreSettled}
use Rattle.gu_workers.proofs.Seen.{joined_is_met}

-- the last raise of one of some cells, where all reads of them since are up to date
record Last (cells : List ℕ) (z : Contents) (entries : List Entry) : Type 0 where
  pub newer : List Entry
  pub older : List Entry
  pub cell : ℕ
  pub asked : Content
  pub before : Content
  pub after : Content
  pub stands : entries ≡ newer ++ Join cell asked before after ∷ older
  pub among : is_among cells cell ≡ true
  pub raised : before ≢ after
  pub current : All (IsCurrent cells z) newer

here : (cells : List ℕ) (z : Contents) (entry : Entry) (entries : List Entry) → Raises cells entry → Last cells z (entry ∷ entries)
here cells z (Read cell content) entries h = absurd h
here cells z (Join cell asked before after) entries h = record {
  newer = [];
  older = entries;
  cell = cell;
  asked = asked;
  before = before;
  after = after;
  stands = refl;
  among = h.0;
  raised = h.1;
  current = All-nil (IsCurrent cells z);
}

earlier : (cells : List ℕ) (z : Contents) (entry : Entry) (entries : List Entry) → IsCurrent cells z entry → Last cells z entries → Last cells z (entry ∷ entries)
earlier cells z entry entries h last = record {
  newer = entry ∷ last.newer;
  older = last.older;
  cell = last.cell;
  asked = last.asked;
  before = last.before;
  after = last.after;
  stands = ap (λ (es : List Entry). entry ∷ es) last.stands;
  among = last.among;
  raised = last.raised;
  current = All-cons (IsCurrent cells z) entry last.newer h last.current;
}

last_of : (cells : List ℕ) (z : Contents) (entries : List Entry) → Fresh cells z entries → Last cells z entries
last_of cells z [] h = absurd h
last_of cells z (entry ∷ entries) h = ⊎_elim
    (λ (r : Raises cells entry). here cells z entry entries r)
    (λ (t : IsCurrent cells z entry × Fresh cells z entries). earlier cells z entry entries t.0 (last_of cells z entries t.1))
    h

-- one record among all, with what holds of it
record Worker (f : Facts) (longs : List ℕ) (records : List (List Entry)) (z : Contents) (index : ℕ) (entries : List Entry) : Type 0 where
  pub stands : slice_get records index ≡ Some entries
  pub belongs : RecordBelongs f longs entries
  pub covers : CoversSeen f entries z

module _ (f : Facts) (longs : List ℕ) (z : Contents) where
  next : (first : List Entry) (records : List (List Entry)) (index : ℕ) (entries : List Entry) → Worker f longs records z index entries → Worker f longs (first ∷ records) z (suc index) entries
  next first records index entries w = record { stands = w.stands; belongs = w.belongs; covers = w.covers }

  worker_at : (records : List (List Entry)) (index : ℕ) → RecordsBelong f longs records → CoversAll f records z → index < length records → (entries : List Entry) × Worker f longs records z index entries
  worker_at [] index h c lt = absurd (omega arith)
  worker_at (first ∷ records) zero h c lt = (first, record { stands = refl; belongs = h.0; covers = c.0 })
  worker_at (first ∷ records) (suc index) h c lt = let t = worker_at records index h.1 c.1 (omega arith) in (t.0, next first records index t.0 t.1)

  fresh_worker : (cells : List ℕ) (records : List (List Entry)) → RecordsBelong f longs records → CoversAll f records z → SomeFresh cells z records
      → (index : ℕ) × (entries : List Entry) × Worker f longs records z index entries × Fresh cells z entries
  fresh_worker cells [] h c s = absurd s
  fresh_worker cells (first ∷ records) h c s = ⊎_elim
      (λ (fresh : Fresh cells z first). (0, first, record { stands = refl; belongs = h.0; covers = c.0 }, fresh))
      (λ (later : SomeFresh cells z records). let t = fresh_worker cells records h.1 c.1 later in (suc t.0, t.1, next first records t.0 t.1 t.2, t.3))
      s

-- the cells that were read have what the reads show, where these are up to date
module _ (cells : List ℕ) (z x : Contents) where
  abbrev merged : Contents
  merged c = cond (is_among cells c) (z c) (x c)

  read_same : (entries : List Entry) (c : ℕ) → All (IsCurrent cells z) entries → Contains entries (Read c (x c)) → (is : Bool) → is_among cells c ≡ is → x c ≡ cond is (z c) (x c)
  read_same entries c current at true e = All-contains (IsCurrent cells z) entries (Read c (x c)) current at e
  read_same entries c current at false e = refl

  agrees_with_read : (entries : List Entry) (read : List ℕ) → All (IsCurrent cells z) entries → WereRead entries read x → Agree read x merged
  agrees_with_read entries read current were = record {
    at = All-weaker (λ c. Contains entries (Read c (x c))) (λ c. x c ≡ merged c) (λ c at. read_same entries c current at (is_among cells c) refl) read were.shown;
  }

  agrees_among : Agree cells z merged
  agrees_among = record {
    at = All-weaker (Contains cells) (λ c. z c ≡ merged c)
        (λ c at. let e : is_among cells c ≡ true = list_any-from_Contains nat_eq_equiv c cells at in ap (λ (b : Bool). cond b (z c) (x c)) (sym e))
        cells (All-contains_itself cells);
  }

-- the link asks on what was read for what it asks for on the contents
asks_the_same : (f : Facts) (links : List Link) (link : Link) (z x : Contents) (newer : List Entry) → All (IsCurrent (reads f links link z) z) newer → WereRead newer (reads f links link x) x
    → gives f links link x ≡ gives f links link z
asks_the_same f links link z x newer current were =
    let cells = reads f links link z in
    (same_on f links x (merged cells z x) link (agrees_with_read cells z x newer (reads f links link x) current were)).gives_are
    ∙ sym (same_on f links z (merged cells z x) link (agrees_among cells z x)).gives_are

same_number : (a b : ℕ) → eqb a b ≡ true → a ≡ b
same_number a b e = grind (arith, nat_tests)

is_empty : (a : Content) → (a ≡ C.Empty) ⊎ (a ≢ C.Empty)
is_empty C.Empty = inl refl
is_empty (C.I32 n) = inr (λ e. cc)
is_empty (C.I64 n) = inr (λ e. cc)
is_empty (C.NumGlobal g) = inr (λ e. cc)
is_empty C.Many = inr (λ e. cc)
is_empty (C.Ref n c) = inr (λ e. cc)
is_empty C.Top = inr (λ e. cc)

-- either there is nothing in all of some cells, or there is something in one
wakes : (z : Contents) (cells : List ℕ) → All (λ c. z c ≡ C.Empty) cells ⊎ ((c : ℕ) × Contains cells c × (z c ≢ C.Empty))
wakes z [] = inl (All-nil (λ c. z c ≡ C.Empty))
wakes z (c ∷ cells) = ⊎_elim
    (λ (e : z c ≡ C.Empty). ⊎_elim
    (λ (es : All (λ d. z d ≡ C.Empty) cells). inl (All-cons (λ d. z d ≡ C.Empty) c cells e es))
    (λ (t : (d : ℕ) × Contains cells d × (z d ≢ C.Empty)). let at = t.1 in let lt = at.1 in inr (t.0, (suc at.0, omega arith, at.2), t.2))
    (wakes z cells))
    (λ (ne : z c ≢ C.Empty). inr (c, (0, omega arith, refl), ne))
    (is_empty (z c))

root_or_not : (link : Link) → ((give : Content) × (to : ℕ) × (link ≡ Root give to)) ⊎ (IsRoot link → ⊥)
root_or_not (Root give to) = inl (give, to, refl)
root_or_not link = inr (λ h. h)

module _ (f : Facts) (lattice : ContentsAreALattice f) (answers : AnswersBelong f) (longs : List ℕ) (links : List Link) (z : Contents) (records : List (List Entry)) (settled : AreSettled f longs records z) (work : AllWork f links records) where
  met_by : (index : ℕ) (entries : List Entry) → Worker f longs records z index entries → (asked : Asked) → WasJoined f entries asked → IsMet f z asked
  met_by index entries w asked joined = joined_is_met f lattice answers longs entries z asked w.belongs settled.belong w.covers joined

  root_is_met : (number : ℕ) (give : Content) (to : ℕ) → slice_get links number ≡ Some (Root give to) → IsMet f z (to, give)
  root_is_met number give to at =
      let of = length records in
      let index = number % of in
      let t = worker_at f longs z records index settled.all_belong settled.covers (mod-lt number work.some_worker) in
      let w = t.1 in
      met_by index t.0 w (to, give) ((work.works index t.0 w.stands).roots.roots number give to at refl)

  served_is_met : (entries newer older : List Entry) (index cell : ℕ) (asked before after : Content) (link : Link) → Worker f longs records z index entries → entries ≡ newer ++ Join cell asked before after ∷ older
      → All (IsCurrent (reads f links link z) z) newer → IsServed f links newer link → All (IsMet f z) (gives f links link z)
  served_is_met entries newer older index cell asked before after link w stands current served =
      let x = served.contents in
      let same = asks_the_same f links link z x newer current served.were_read in
      subst (λ (given : List Asked). All (IsMet f z) given) same
      (All-weaker (WasJoined f newer) (IsMet f z) (λ a j. met_by index entries w a (record {
        before = j.before;
        after = j.after;
        made = subst (λ (es : List Entry). Contains es (Join a.0 a.1 j.before j.after)) (sym stands) (Contains-append_left newer (Join cell asked before after ∷ older) (Join a.0 a.1 j.before j.after) j.made);
        after_is = j.after_is;
      })) (gives f links link x) served.joined)

  woken_is_met : (link : Link) (c : ℕ) → Contains links link → Contains (reads f links link z) c → z c ≢ C.Empty → All (IsMet f z) (gives f links link z)
  woken_is_met link c listed at ne =
      let cells = reads f links link z in
      let t = fresh_worker f longs z cells records settled.all_belong settled.covers (settled.settled.somebody cells c (list_any-from_Contains nat_eq_equiv c cells at) ne) in
      let last = last_of cells z t.1 t.3 in
      let w = t.2 in
      let reader : IsReader f links last.cell link = record { contents = z; belong = settled.belong; read = Contains-from_any same_number last.cell cells last.among } in
      served_is_met t.1 last.newer last.older t.0 last.cell last.asked last.before last.after link w last.stands last.current
      ((work.works t.0 t.1 w.stands).follows.readers last.newer last.older last.cell last.asked last.before last.after last.stands last.raised link listed reader)

  nothing_is_met : (asked : Asked) → asked.1 ≡ C.Empty → IsMet f z asked
  nothing_is_met asked e = subst (λ (a : Content). AtMost f a (z asked.0)) (sym e) (lattice.order.least (z asked.0))

  other_is_met : (link : Link) → Contains links link → (IsRoot link → ⊥) → All (IsMet f z) (gives f links link z)
  other_is_met link listed root = ⊎_elim
      (λ (none : All (λ c. z c ≡ C.Empty) (reads f links link z)). All-weaker (λ (asked : Asked). asked.1 ≡ C.Empty) (IsMet f z) nothing_is_met (gives f links link z) (gives_nothing f links z link root none))
      (λ (t : (c : ℕ) × Contains (reads f links link z) c × (z c ≢ C.Empty)). woken_is_met link t.0 listed t.1 t.2)
      (wakes z (reads f links link z))

  link_is_met : (number : ℕ) (link : Link) → slice_get links number ≡ Some link → Contains links link → All (IsMet f z) (gives f links link z)
  unfolding gives
  link_is_met number link at listed = ⊎_elim
      (λ (t : (give : Content) × (to : ℕ) × (link ≡ Root give to)).
      subst (λ (l : Link). All (IsMet f z) (gives f links l z)) (sym t.2)
      (All-cons (IsMet f z) (t.1, t.0) [] (root_is_met number t.0 t.1 (at ∙ ap Some t.2)) (All-nil (IsMet f z))))
      (λ (root : IsRoot link → ⊥). other_is_met link listed root)
      (root_or_not link)

  solved : Solves f links z
  solved = record { closed = λ k d lt. record { met = link_is_met k (get_or links k d) (slice_get-get_or links k d lt) (Contains-get_or links k d lt) } }

  pub settled_contents_are_least : (least : Contents) → Least f links least → IsBelow f z least → Least f links z
  settled_contents_are_least least is below = record {
    belong = settled.belong;
    solves = solved;
    least = record {
      at_most = λ y belongs solves. record {
        at = λ c. lattice.order.transitive (z c) (least c) (y c) (settled.belong.at c) (is.belong.at c) (belongs.at c) (below.at c) ((is.least.at_most y belongs solves).at c);
      };
    };
  }
