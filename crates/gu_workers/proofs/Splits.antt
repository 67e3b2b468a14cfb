-- Entries in front of a record: what each part shows, both show.
use Rattle.std.proofs.Common.{ℕ, ◌≡◌, ◌⊎◌, List, [], ◌∷◌, ◌++◌, inl, inr, ⊎_elim, sym, refl, ap, subst, arith}
use Rattle.std.specs.Prelude.{All, Contains}
use Rattle.std.proofs.lemmas.List.Elements.{All-nil, All-cons, All-append, All-weaker, All-contains, Contains-append_left, Contains-append_right}
use Rattle.gu_contents.specs.declared.content.Content.{Content}
use Rattle.gu_contents.specs.declared.facts.Facts.{Facts}
use Rattle.gu_cells.specs.declared.record.Entry.{Entry}
use Rattle.gu_cells.specs.declared.record.Entry.TheVariants.{Read, Join}
use Rattle.gu_cells.specs.Record.{reads_of}
use Rattle.gu_links.specs.declared.link.Link.{Link}
use Rattle.gu_links.specs.Gives.{Contents, Asked, gives, reads}
use Rattle.gu_workers.specs.Work.{WereRead, WasJoined, IsServed, IsAskedFor, LeavesJoin}
use Rattle.gu_workers.specs.Steps.{IsOneOf, AreOf}

-- an entry of two records, one in front of the other, stands in one of them
pub split : (xs ys newer older : List Entry) (e : Entry) → xs ++ ys ≡ newer ++ e ∷ older
    → ((rest : List Entry) × (xs ≡ newer ++ e ∷ rest) × (older ≡ rest ++ ys)) ⊎ ((front : List Entry) × (newer ≡ xs ++ front) × (ys ≡ front ++ e ∷ older))
split [] ys newer older e h = inr (newer, refl, h)
split (x ∷ xs) ys [] older e h = let head : x ≡ e = cc in let tail : xs ++ ys ≡ older = cc in inl (xs, ap (λ (y : Entry). y ∷ xs) head, sym tail)
split (x ∷ xs) ys (n ∷ newer) older e h =
    let head : x ≡ n = cc in
    let tail : xs ++ ys ≡ newer ++ e ∷ older = cc in
    ⊎_elim
    (λ (t : (rest : List Entry) × (xs ≡ newer ++ e ∷ rest) × (older ≡ rest ++ ys)). inl (t.0, (let u = t.1 in cc), t.2))
    (λ (t : (front : List Entry) × (newer ≡ xs ++ front) × (ys ≡ front ++ e ∷ older)). inr (t.0, (let u = t.1 in cc), t.2))
    (split xs ys newer older e tail)

pub stands : (newer older : List Entry) (e : Entry) → Contains (newer ++ e ∷ older) e
stands newer older e = Contains-append_right newer (e ∷ older) e (0, omega arith, refl)

-- what holds of each entry holds of one that stands there
pub holds_of : (P : Entry → Type 0) (entries newer older : List Entry) (e : Entry) → All P entries → entries ≡ newer ++ e ∷ older → P e
holds_of P entries newer older e h is = All-contains P entries e h (subst (λ (es : List Entry). Contains es e) (sym is) (stands newer older e))

-- reads alone are no joins
none_in : (A : Asked) → Contains [] A → ⊥
none_in a at = let lt = at.1 in omega arith

module _ (f : Facts) where
  pub no_join : (entries newer older : List Entry) (cell : ℕ) (asked before after : Content) → AreOf f [] entries → entries ≡ newer ++ Join cell asked before after ∷ older → ⊥
  no_join entries newer older cell asked before after h is = none_in (cell, asked) (holds_of (IsOneOf f []) entries newer older (Join cell asked before after) h.each is).0

  pub asked_is : (asks : List Asked) (entries newer older : List Entry) (cell : ℕ) (asked before after : Content) → AreOf f asks entries → entries ≡ newer ++ Join cell asked before after ∷ older → Contains asks (cell, asked)
  asked_is asks entries newer older cell asked before after h is = (holds_of (IsOneOf f asks) entries newer older (Join cell asked before after) h.each is).0

  leaves_join : (asked : List Asked) (e : Entry) → IsOneOf f asked e → LeavesJoin f e
  leaves_join asked (Read cell content) p = tt
  leaves_join asked (Join cell content before after) p = p.1

  -- each of them leaves what it found joined with what was asked
  pub leave_joins : (asked : List Asked) (entries : List Entry) → AreOf f asked entries → All (LeavesJoin f) entries
  leave_joins asked entries h = All-weaker (IsOneOf f asked) (LeavesJoin f) (leaves_join asked) entries h.each

  wider : (xs ys : List Asked) → ((a : Asked) → Contains xs a → Contains ys a) → (e : Entry) → IsOneOf f xs e → IsOneOf f ys e
  wider xs ys h (Read cell content) p = tt
  wider xs ys h (Join cell content before after) p = (h (cell, content) p.0, p.1)

  pub are_of_wider : (xs ys : List Asked) (entries : List Entry) → ((a : Asked) → Contains xs a → Contains ys a) → AreOf f xs entries → AreOf f ys entries
  are_of_wider xs ys entries h p = record { each = All-weaker (IsOneOf f xs) (IsOneOf f ys) (wider xs ys h) entries p.each }

  pub are_of_reads : (asked : List Asked) (entries : List Entry) → AreOf f [] entries → AreOf f asked entries
  are_of_reads asked entries p = are_of_wider [] asked entries (λ a at. absurd (none_in a at)) p

  pub are_of_both : (asked : List Asked) (xs ys : List Entry) → AreOf f asked xs → AreOf f asked ys → AreOf f asked (xs ++ ys)
  are_of_both asked xs ys p q = record { each = All-append (IsOneOf f asked) xs ys p.each q.each }

  pub are_of_none : (asked : List Asked) → AreOf f asked []
  are_of_none asked = record { each = All-nil (IsOneOf f asked) }

  pub are_of_more : (asked : List Asked) (e : Entry) (entries : List Entry) → IsOneOf f asked e → AreOf f asked entries → AreOf f asked (e ∷ entries)
  are_of_more asked e entries p q = record { each = All-cons (IsOneOf f asked) e entries p q.each }

  pub reads_are_of : (asked : List Asked) (cell : ℕ) (found : List Content) → AreOf f asked (reads_of cell found)
  reads_are_of asked cell [] = are_of_none asked
  reads_are_of asked cell (x ∷ found) = are_of_more asked (Read cell x) (reads_of cell found) tt (reads_are_of asked cell found)

-- more entries show no less
module _ (xs ys : List Entry) where
  pub read_in_front : (cells : List ℕ) (x : Contents) → WereRead xs cells x → WereRead (xs ++ ys) cells x
  read_in_front cells x h = record { shown = All-weaker (λ c. Contains xs (Read c (x c))) (λ c. Contains (xs ++ ys) (Read c (x c))) (λ c at. Contains-append_left xs ys (Read c (x c)) at) cells h.shown }

  pub read_behind : (cells : List ℕ) (x : Contents) → WereRead ys cells x → WereRead (xs ++ ys) cells x
  read_behind cells x h = record { shown = All-weaker (λ c. Contains ys (Read c (x c))) (λ c. Contains (xs ++ ys) (Read c (x c))) (λ c at. Contains-append_right xs ys (Read c (x c)) at) cells h.shown }

  module _ (f : Facts) where
    pub joined_in_front : (asked : Asked) → WasJoined f xs asked → WasJoined f (xs ++ ys) asked
    joined_in_front asked j = record {
      before = j.before;
      after = j.after;
      made = Contains-append_left xs ys (Join asked.0 asked.1 j.before j.after) j.made;
      after_is = j.after_is;
    }

    pub joined_behind : (asked : Asked) → WasJoined f ys asked → WasJoined f (xs ++ ys) asked
    joined_behind asked j = record {
      before = j.before;
      after = j.after;
      made = Contains-append_right xs ys (Join asked.0 asked.1 j.before j.after) j.made;
      after_is = j.after_is;
    }

    pub all_joined_in_front : (asked : List Asked) → All (WasJoined f xs) asked → All (WasJoined f (xs ++ ys)) asked
    all_joined_in_front asked h = All-weaker (WasJoined f xs) (WasJoined f (xs ++ ys)) joined_in_front asked h

    pub all_joined_behind : (asked : List Asked) → All (WasJoined f ys) asked → All (WasJoined f (xs ++ ys)) asked
    all_joined_behind asked h = All-weaker (WasJoined f ys) (WasJoined f (xs ++ ys)) joined_behind asked h

    module _ (links : List Link) where
      pub served_in_front : (link : Link) → IsServed f links xs link → IsServed f links (xs ++ ys) link
      served_in_front link s = record {
        contents = s.contents;
        were_read = read_in_front (reads f links link s.contents) s.contents s.were_read;
        joined = all_joined_in_front (gives f links link s.contents) s.joined;
      }

      pub served_behind : (link : Link) → IsServed f links ys link → IsServed f links (xs ++ ys) link
      served_behind link s = record {
        contents = s.contents;
        were_read = read_behind (reads f links link s.contents) s.contents s.were_read;
        joined = all_joined_behind (gives f links link s.contents) s.joined;
      }

      pub asked_for_in_front : (asked : Asked) → IsAskedFor f links xs asked → IsAskedFor f links (xs ++ ys) asked
      asked_for_in_front asked a = record {
        link = a.link;
        listed = a.listed;
        contents = a.contents;
        were_read = read_in_front (reads f links a.link a.contents) a.contents a.were_read;
        given = a.given;
      }
