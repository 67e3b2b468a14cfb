-- What is known of a link's cells, and the next of them.
use Rattle.std.proofs.Common.{◌≡◌, ◌∙◌, ℕ, zero, suc, ◌+◌, ◌-◌, ◌<◌, ◌≤◌, Bool, cond, List, [], ◌∷◌, ◌++◌, Option, Some, None, length, get_or, take, sym, ap, subst, ⊎_elim, arith}
use Rattle.std.specs.Prelude.{All, Contains, IfSome, IfNone, nat_eq, not, slice_get}
use Rattle.std.specs.List.{filter as keep}
use Rattle.std.proofs.lemmas.Bool.{both_ways, cases_lt, cond-true, cond-false, eq-eqb, ne_eqb}
use Rattle.std.proofs.lemmas.Option.{none-some, slice_get_within, slice_get-get_or, get_or_from_slice_get}
use Rattle.std.proofs.lemmas.List.{length-take, length-map, length_push, get_or-take, get_or-map, get_or_append_left, get_or_default, take_all, take_more, map_push}
use Rattle.std.proofs.lemmas.List.Elements.{All-contains, All-push, filter_agree}
use Rattle.gu_contents.specs.declared.content.Content.{Content}
use Rattle.gu_contents.specs.declared.facts.Facts.{Facts}
use Rattle.gu_links.specs.declared.link.Link.{Link}
use Rattle.gu_links.specs.declared.link.Link.TheVariants.{Callable}
use Rattle.gu_links.specs.Cells.{own_cells}
use Rattle.gu_links.specs.Gives.{Contents, reads}
use Rattle.gu_links.specs.Solutions.{Fits, IsOf}
use Rattle.gu_links.specs.Kept.{has, fixed_reads, fixed_once, further_reads}
use Rattle.gu_links.specs.Known.{Has, Item, IsKnown, IsEnough, cells_of, link_at, asked_for}
use Rattle.gu_links.specs.Next.{first_of, is_rest}
use Rattle.gu_links.proofs.Lists.{all_front}
use Rattle.gu_links.proofs.Firsts.{first_behind, next_behind, has_once}
use Rattle.gu_links.proofs.Distinct.{has_from, before_new, all_once}
use Rattle.gu_links.proofs.Asking.{further_rises, asked_within, asked_once, asked_read, read_asked, asked_at}

-- the elements of two lists, one behind the other
pub behind_both : (xs ys : List ℕ) (n k : ℕ) → n ≡ length xs + k → slice_get (xs ++ ys) n ≡ slice_get ys k
behind_both [] ys n k e = ap (slice_get ys) (let z : n ≡ k = omega arith in z)
behind_both (x ∷ xs) ys zero k e = absurd (omega arith)
behind_both (x ∷ xs) ys (suc n) k e = behind_both xs ys n k (omega arith)

first_within : (xs ys : List ℕ) (n d : ℕ) → n < length xs → slice_get (xs ++ ys) n ≡ Some (get_or xs n d)
first_within [] ys n d lt = absurd (omega arith)
first_within (x ∷ xs) ys zero d lt = ap Some (let z : x ≡ x = omega arith in z)
first_within (x ∷ xs) ys (suc n) d lt = first_within xs ys n d (omega arith)

all_taken : (xs ys : List ℕ) (n : ℕ) → length xs ≤ n → All (Contains (take n (xs ++ ys))) xs
all_taken xs ys n le k d lt =
    let c : ℕ = get_or xs k d in
    let at : get_or (xs ++ ys) k c ≡ c = get_or_append_left xs ys c k lt ∙ get_or_default xs k c d lt in
    let within : k < length (xs ++ ys) = slice_get_within (xs ++ ys) k c (first_within xs ys k d lt) in
    let long = length-take n (xs ++ ys) in
    let h : k < n = omega arith in
    (k, omega arith, get_or-take n (xs ++ ys) k c h ∙ at)

module _ (f : Facts) (longs : List ℕ) (links : List Link) (link : Link) (known : List Item) (is : IsKnown f longs links link known) where
  -- the known cells are those asked for first
  known_within : (x : Contents) → Has known x → length known ≤ length (asked_for f links link x)
  known_within x h =
      let all = ap length (is.in_order x h) in
      let cells = length-map known (λ (k : Item). k.0) in
      let long = length-take (length known) (asked_for f links link x) in omega arith

  pub known_at : (x : Contents) → Has known x → (i : ℕ) (d : Item) → i < length known → slice_get (asked_for f links link x) i ≡ Some (get_or known i d).0
  known_at x h i d lt =
      let all = known_within x h in
      let asked : List ℕ = asked_for f links link x in
      let within : i < length asked = omega arith in
      slice_get-get_or asked i (get_or known i d).0 within
      ∙ ap Some (sym (get_or-take (length known) asked i (get_or known i d).0 lt) ∙ ap (λ (cs : List ℕ). get_or cs i (get_or known i d).0) (sym (is.in_order x h)) ∙ get_or-map (λ (k : Item). k.0) known i d (get_or known i d).0 lt)

  -- a known cell is one of the system
  pub known_below : (count : ℕ) → own_cells f ≤ count → Fits f longs count link → (i : ℕ) (d : Item) → i < length known → (get_or known i d).0 < count
  known_below count room fits i d lt =
      let x : Contents = is.contents in
      All-contains (λ c. c < count) (asked_for f links link x) (get_or known i d).0 (asked_within f links longs count room link x fits) (asked_at f links link x i (get_or known i d).0 (known_at x is.has i d lt))

  -- the fixed cells are known, where so many cells are
  pub fixed_known : (fixed : List ℕ) → fixed ≡ fixed_once link → length fixed ≤ length known → All (Contains (cells_of known)) (fixed_reads link)
  unfolding fixed_once asked_for
  fixed_known fixed e le k d lt =
      let x : Contents = is.contents in
      let rest : List ℕ = keep (λ c. not (has (fixed_reads link) c)) (further_reads f links link x) in
      let once : length (fixed_once link) ≤ length known = subst (λ (cs : List ℕ). length cs ≤ length known) e le in
      subst (λ (cs : List ℕ). Contains cs (get_or (fixed_reads link) k d)) (sym (is.in_order x is.has))
      (All-contains (Contains (take (length known) (fixed_once link ++ rest))) (fixed_once link) (get_or (fixed_reads link) k d) (all_taken (fixed_once link) rest (length known) once) (all_once (fixed_reads link) k d lt))

  -- a fixed cell is asked for next
  pub fixed_next : (fixed : List ℕ) (d : ℕ) → fixed ≡ fixed_once link → length known < length fixed → (x : Contents) → Some (get_or fixed (length known) d) ≡ slice_get (asked_for f links link x) (length known)
  unfolding asked_for
  fixed_next fixed d e lt x =
      let rest : List ℕ = keep (λ c. not (has (fixed_reads link) c)) (further_reads f links link x) in
      sym (first_within fixed rest (length known) d lt) ∙ ap (λ (cs : List ℕ). slice_get (cs ++ rest) (length known)) e

  module _ (fixed : List ℕ) (fixed_is : fixed ≡ fixed_once link) (x : Contents) (hx : Has known x) where
    abbrev others : ℕ → Bool
    others c = not (has fixed c)

    others_are : keep others (further_reads f links link x) ≡ keep (λ c. not (has (fixed_reads link) c)) (further_reads f links link x)
    unfolding fixed_once
    others_are = filter_agree others (λ c. not (has (fixed_reads link) c)) (λ c. ap not (ap (λ (cs : List ℕ). has cs c) fixed_is ∙ has_once [] (fixed_reads link) c)) (further_reads f links link x)

    asked_behind : (n k : ℕ) → n ≡ length fixed + k → slice_get (asked_for f links link x) n ≡ slice_get (keep others (further_reads f links link x)) k
    unfolding asked_for
    asked_behind n k e =
        let rest : List ℕ = keep (λ c. not (has (fixed_reads link) c)) (further_reads f links link x) in
        ap (λ (cs : List ℕ). slice_get (cs ++ rest) n) (sym fixed_is) ∙ behind_both fixed rest n k e ∙ ap (λ (cs : List ℕ). slice_get cs k) (sym others_are)

    -- of the others the first, where no other is known
    pub other_first : length known ≡ length fixed → first_of (is_rest fixed 0) (further_reads f links link x) ≡ slice_get (asked_for f links link x) (length known)
    other_first e =
        first_behind others 0 (further_reads f links link x) (λ k d lt. omega arith)
        ∙ sym (asked_behind (length known) 0 (let z : length known ≡ length fixed + 0 = omega arith in z))

    -- and else the next behind the last that is known
    pub other_next : (d : Item) → length fixed < length known → first_of (is_rest fixed ((get_or known (length known - 1) d).0 + 1)) (further_reads f links link x) ≡ slice_get (asked_for f links link x) (length known)
    other_next d lt =
        let last : ℕ = (get_or known (length known - 1) d).0 in
        let k : ℕ = length known - 1 - length fixed in
        let at : slice_get (keep others (further_reads f links link x)) k ≡ Some last =
        sym (asked_behind (length known - 1) k (let z : length known - 1 ≡ length fixed + k = omega arith in z)) ∙ known_at x hx (length known - 1) d (let z : length known - 1 < length known = omega arith in z) in
        next_behind others (further_reads f links link x) k last (further_rises f links link x) at
        ∙ sym (asked_behind (length known) (suc k) (let z : length known ≡ length fixed + suc k = omega arith in z))

  -- the next cell is what is asked for behind what is known
  abbrev pub IsNext : Option ℕ → Type 0
  IsNext o = (x : Contents) → Has known x → o ≡ slice_get (asked_for f links link x) (length known)

  module _ (c : ℕ) (next : IsNext (Some c)) where
    next_at : (x : Contents) → Has known x → Contains (asked_for f links link x) c
    next_at x h = asked_at f links link x (length known) c (sym (next x h))

    read_one : (x : Contents) → Has known x → Contains (reads f links link x) c
    read_one x h = All-contains (Contains (reads f links link x)) (asked_for f links link x) c (asked_read f links link x) (next_at x h)

    new_one : Contains (cells_of known) c → ⊥
    new_one there =
        let x : Contents = is.contents in
        both_ways (has (take (length known) (asked_for f links link x)) c)
        (before_new (asked_for f links link x) (length known) c (asked_once f links link x) (sym (next x is.has)))
        (has_from (take (length known) (asked_for f links link x)) c (subst (λ (cs : List ℕ). Contains cs c) (is.in_order x is.has) there))

    below_one : (count : ℕ) → own_cells f ≤ count → Fits f longs count link → c < count
    below_one count room fits = All-contains (λ d. d < count) (asked_for f links link is.contents) c (asked_within f links longs count room link is.contents fits) (next_at is.contents is.has)

    known_cell : (k : ℕ) (d : Item) → k < length known → Contains (cells_of known) (get_or known k d).0
    known_cell k d lt = (k, let l = length-map known (λ (i : Item). i.0) in omega arith, get_or-map (λ (i : Item). i.0) known k d (get_or known k d).0 lt)

    onward_one : (a : Content) → IsOf f longs a → IsKnown f longs links link (known ++ (c, a) ∷ [])
    onward_one a of =
        let x : Contents = λ (d : ℕ). cond (nat_eq c d) a (is.contents d) in
        let P : Item → Type 0 = λ (k : Item). x k.0 ≡ k.1 in
        let last : Item = (c, a) in
        record {
          contents = x;
          has = record {
            at = All-push P known last
                (λ k d lt. cond-false (nat_eq c (get_or known k d).0) a (is.contents (get_or known k d).0) (ne_eqb c (get_or known k d).0 (λ e. new_one (subst (Contains (cells_of known)) (sym e) (known_cell k d lt)))) ∙ is.has.at k d lt)
                (cond-true (nat_eq c c) a (is.contents c) (eq-eqb c c (let z : c ≡ c = omega arith in z)));
          };
          are_of = All-push (λ (k : Item). IsOf f longs k.1) known last is.are_of of;
          in_order = λ y h.
              let hk : Has known y = record { at = all_front (λ (k : Item). y k.0 ≡ k.1) known (last ∷ []) h.at } in
              let asked : List ℕ = asked_for f links link y in
              let e : slice_get asked (length known) ≡ Some c = sym (next y hk) in
              map_push (λ (k : Item). k.0) known last
              ∙ ap (λ (cs : List ℕ). cs ++ c ∷ []) (is.in_order y hk)
              ∙ ap (λ (d : ℕ). take (length known) asked ++ d ∷ []) (sym (get_or_from_slice_get asked (length known) c c e))
              ∙ sym (take_more asked (length known) c (slice_get_within asked (length known) c e))
              ∙ ap (λ (m : ℕ). take m asked) (sym (length_push known last));
        }

  pub is_read : (o : Option ℕ) → IsNext o → IfSome o (λ c. (x : Contents) → Has known x → Contains (reads f links link x) c)
  is_read None next = tt
  is_read (Some c) next = read_one c next

  pub is_new : (o : Option ℕ) → IsNext o → IfSome o (λ c. Contains (cells_of known) c → ⊥)
  is_new None next = tt
  is_new (Some c) next = new_one c next

  pub is_below : (count : ℕ) → own_cells f ≤ count → Fits f longs count link → (o : Option ℕ) → IsNext o → IfSome o (λ c. c < count)
  is_below count room fits None next = tt
  is_below count room fits (Some c) next = below_one c next count room fits

  pub is_onward : (o : Option ℕ) → IsNext o → IfSome o (λ c. (a : Content) → IsOf f longs a → IsKnown f longs links link (known ++ (c, a) ∷ []))
  is_onward None next = tt
  is_onward (Some c) next = onward_one c next

  all_asked : (x : Contents) → Has known x → None ≡ slice_get (asked_for f links link x) (length known) → All (Contains (cells_of known)) (reads f links link x)
  all_asked x h e =
      let asked : List ℕ = asked_for f links link x in
      ⊎_elim
      (λ (lt : length known < length asked). absurd (none-some (get_or asked (length known) 0) (e ∙ slice_get-get_or asked (length known) 0 lt)))
      (λ (le : length asked ≤ length known). subst (λ (cs : List ℕ). All (Contains cs) (reads f links link x)) (sym (is.in_order x h ∙ take_all (length known) asked le)) (read_asked f links link x))
      (cases_lt (length known) (length asked))

  pub is_enough : (o : Option ℕ) → IsNext o → IfNone o (IsEnough f links link known)
  is_enough None next = record { all = λ x h. all_asked x h (next x h) }
  is_enough (Some c) next = tt

  pub is_end : (o : Option ℕ) → IsNext o → IsEnough f links link known → o ≡ None
  is_end None next enough = let none : ◌≡◌ {A = Option ℕ} None None = cc in none
  is_end (Some c) next enough = absurd (new_one c next (All-contains (Contains (cells_of known)) (reads f links link is.contents) c (enough.all is.contents is.has) (read_one c next is.contents is.has)))

-- the link that is read at a place
pub link_read : (links items : List Link) (k : ℕ) (link : Link) → k < length links → items ≡ links → link ≡ get_or items k link → link_at links k ≡ link
link_read links items k link lt e is = get_or_default links k (Callable 0) link lt ∙ ap (λ (ls : List Link). get_or ls k link) (sym e) ∙ sym is

pub next_for : (f : Facts) (links : List Link) (known : List Item) (link other : Link) (o : Option ℕ) → link ≡ other
    → ((x : Contents) → Has known x → o ≡ slice_get (asked_for f links other x) (length known)) → (x : Contents) → Has known x → o ≡ slice_get (asked_for f links link x) (length known)
next_for f links known link other o e next x h = next x h ∙ ap (λ (l : Link). slice_get (asked_for f links l x) (length known)) (sym e)
