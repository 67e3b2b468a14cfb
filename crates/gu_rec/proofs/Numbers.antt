-- The table of least indices, group by group: how it grows, and what it says of the closed types so far.
use Rattle.std.proofs.Common.{◌≡◌, ℕ, zero, suc, ◌+◌, ◌-◌, ◌<◌, ◌≤◌, true, ◌⊎◌, List, [], ◌∷◌, ◌++◌, map, length, get_or, take, slice_get, Some, refl, ap, ap₂, sym, ◌∙◌, subst, inl, inr, arith, length-append, length-take-le, get_or-take, get_or-append-add, suc-add, add-zero, add-one}
use Rattle.std.specs.List.{list_all}
use Rattle.std.proofs.lemmas.Bool.{cases_lt}
use Rattle.std.proofs.lemmas.List.{get_or_append_left, take-append-le, length-map, take_all}
use Rattle.std.proofs.lemmas.Option.{slice_get_within}
use Rattle.gu_types.specs.declared.types.SubType.{SubType}
use Rattle.gu_types.specs.declared.types.RecGroup.{RecGroup}
use Rattle.gu_rec.specs.Names.{names, rename}
use Rattle.gu_rec.specs.Closed.{ClosedGroup, Closed, close_group, close_types, positions}
use Rattle.gu_rec.specs.Keys.{number_of, run}
use Rattle.gu_rec.specs.Validity.{all_below}
use Rattle.gu_rec.proofs.Closing.{Agree, group_to, group_from}

pub slice_get-left : {X : Type 0} (xs ys : List X) (i : ℕ) → i < length xs → slice_get (xs ++ ys) i ≡ slice_get xs i
slice_get-left [] ys i h = absurd (omega arith)
slice_get-left (x ∷ xs) ys zero h = refl
slice_get-left (x ∷ xs) ys (suc i) h = slice_get-left xs ys i (omega arith)

pub slice_get-right : {X : Type 0} (xs ys : List X) (k : ℕ) → slice_get (xs ++ ys) (length xs + k) ≡ slice_get ys k
slice_get-right [] ys k = ap (slice_get ys) (omega arith)
slice_get-right (x ∷ xs) ys k = ap (slice_get (x ∷ (xs ++ ys))) (suc-add (length xs) k) ∙ slice_get-right xs ys k

pub slice_get-take : {X : Type 0} (n : ℕ) (xs : List X) (i : ℕ) → i < n → slice_get (take n xs) i ≡ slice_get xs i
slice_get-take zero xs i h = absurd (omega arith)
slice_get-take (suc n) [] i h = refl
slice_get-take (suc n) (x ∷ xs) zero h = refl
slice_get-take (suc n) (x ∷ xs) (suc i) h = slice_get-take n xs i (omega arith)

pub length-run : (first count : ℕ) → length (run first count) ≡ count
length-run first zero = refl
length-run first (suc count) = ap suc (length-run (suc first) count)

pub get_or-run : (first count k : ℕ) → k < count → get_or (run first count) k 0 ≡ first + k
get_or-run first zero k h = absurd (omega arith)
get_or-run first (suc count) zero h = omega arith
get_or-run first (suc count) (suc k) h = get_or-run (suc first) count k (omega arith) ∙ omega arith

pub run_more : (first count : ℕ) → run first (count + 1) ≡ run first count ++ (first + count) ∷ []
run_more first count = ap (run first) (add-one count) ∙ more first count
  where
    more : (f c : ℕ) → run f (suc c) ≡ run f c ++ (f + c) ∷ []
    more f zero = ap (λ n. n ∷ []) (sym (add-zero f))
    more f (suc c) = ap (λ l. f ∷ l) (more (suc f) c ∙ ap (λ n. run (suc f) c ++ n ∷ []) (omega arith))

pub length-positions : (group : ClosedGroup) (first count : ℕ) → length (positions group first count) ≡ count
length-positions group first zero = refl
length-positions group first (suc count) = ap suc (length-positions group (suc first) count)

abbrev pub position_in : ClosedGroup → ℕ → Closed
position_in group k = record { group = group; position = k }

pub slice_get-positions : (group : ClosedGroup) (first count k : ℕ) → k < count → slice_get (positions group first count) k ≡ Some (position_in group (first + k))
slice_get-positions group first zero k h = absurd (omega arith)
slice_get-positions group first (suc count) zero h = ap (λ n. Some (position_in group n)) (omega arith)
slice_get-positions group first (suc count) (suc k) h = slice_get-positions group (suc first) count k (omega arith) ∙ ap (λ n. Some (position_in group n)) (omega arith)

group_long : (E F : List Closed) (ts us : List SubType) → close_group E ts ≡ close_group F us → length ts ≡ length us
group_long E F [] [] h = refl
group_long E F [] (u ∷ us) h = cc
group_long E F (t ∷ ts) [] h = cc
group_long E F (t ∷ ts) (u ∷ us) h = let k : close_group E ts ≡ close_group F us = cc in ap suc (group_long E F ts us k)

-- a key, the group that it was made of, and where that group stands
pub record KeyAt (B : List Closed) (canon : List ℕ) (key : RecGroup) (first : ℕ) : Type 0 where
  pub types : List SubType
  pub within : first + length types ≤ length B
  pub key_is : key.types ≡ map (rename (number_of (take first canon) (length types))) types
  pub below : list_all (λ ty. all_below (first + length types) (names ty)) types ≡ true
  pub closed : (k : ℕ) → k < length types → slice_get B (first + k) ≡ Some (position_in (close_group (take first B) types) k)
  pub own : (k : ℕ) → k < length types → get_or canon (first + k) 0 ≡ first + k

-- a type is one of a group that has a key
pub record Among (B : List Closed) (canon : List ℕ) (keys : List RecGroup) (firsts : List ℕ) (i : ℕ) : Type 0 where
  pub number : ℕ
  pub key : RecGroup
  pub found : slice_get keys number ≡ Some key
  pub at : KeyAt B canon key (get_or firsts number 0)
  pub position : ℕ
  pub in_group : position < length at.types
  pub same : slice_get B i ≡ slice_get B (get_or firsts number 0 + position)

-- what the tables say of the closed types so far
pub record Seen (B : List Closed) (canon : List ℕ) (keys : List RecGroup) (firsts : List ℕ) : Type 0 where
  pub long : length canon ≡ length B
  pub as_many : length firsts ≡ length keys
  pub faithful : (i j : ℕ) → i < length B → j < length B → slice_get B i ≡ slice_get B j → get_or canon i 0 ≡ get_or canon j 0
  pub least : (i : ℕ) → i < length B → get_or canon i 0 ≤ i
  pub back : (i : ℕ) → i < length B → slice_get B (get_or canon i 0) ≡ slice_get B i
  pub at : (m : ℕ) (key : RecGroup) → slice_get keys m ≡ Some key → KeyAt B canon key (get_or firsts m 0)
  pub among : (i : ℕ) → i < length B → Among B canon keys firsts i

pub seen_none : Seen [] [] [] []
seen_none = record {
  long = refl;
  as_many = refl;
  faithful = λ i j h k e. absurd (omega arith);
  least = λ i h. absurd (omega arith);
  back = λ i h. absurd (omega arith);
  at = λ m key e. cc;
  among = λ i h. absurd (omega arith);
}

module _ {B : List Closed} {canon : List ℕ} {keys : List RecGroup} {firsts : List ℕ} (seen : Seen B canon keys firsts) where
  -- the fronts of the tables agree where two groups begin
  agree : (f g : ℕ) → f ≤ length B → g ≤ length B → Agree (take f B) (take f canon) (take g B) (take g canon)
  agree f g a b =
      let lf : length (take f B) ≡ f = length-take-le f B a in
      let lg : length (take g B) ≡ g = length-take-le g B b in
      let e = seen.long in
      record {
        long = length-take-le f canon (omega arith) ∙ sym lf;
        as_long = length-take-le g canon (omega arith) ∙ sym lg;
        to = λ i j h k s.
            let hi : i < f = omega arith in
            let hj : j < g = omega arith in
            let t : slice_get B i ≡ slice_get B j = sym (slice_get-take f B i hi) ∙ (s ∙ slice_get-take g B j hj) in
            get_or-take f canon i 0 hi ∙ (seen.faithful i j (omega arith) (omega arith) t ∙ sym (get_or-take g canon j 0 hj));
        from = λ i j h k s.
            let hi : i < f = omega arith in
            let hj : j < g = omega arith in
            let t : get_or canon i 0 ≡ get_or canon j 0 = sym (get_or-take f canon i 0 hi) ∙ (s ∙ get_or-take g canon j 0 hj) in
            slice_get-take f B i hi ∙ (sym (seen.back i (omega arith)) ∙ (ap (slice_get B) t ∙ (seen.back j (omega arith) ∙ sym (slice_get-take g B j hj))));
      }

  kept : (X : List Closed) (Y : List ℕ) (key : RecGroup) (f : ℕ) → KeyAt B canon key f → KeyAt (B ++ X) (canon ++ Y) key f
  kept X Y key f at =
      let w = at.within in
      let e = seen.long in
      let tb : take f (B ++ X) ≡ take f B = take-append-le f B X (omega arith) in
      let tc : take f (canon ++ Y) ≡ take f canon = take-append-le f canon Y (omega arith) in
      record {
        types = at.types;
        within = omega (arith, length-append B X);
        key_is = at.key_is ∙ ap (λ c. map (rename (number_of c (length at.types))) at.types) (sym tc);
        below = at.below;
        closed = λ k h. slice_get-left B X (f + k) (omega arith) ∙ (at.closed k h ∙ ap (λ b. Some (position_in (close_group b at.types) k)) (sym tb));
        own = λ k h. get_or_append_left canon Y 0 (f + k) (omega arith) ∙ at.own k h;
      }

  whole : take (length B) B ≡ B
  whole = take_all (length B) B (omega arith)

  whole_canon : take (length B) canon ≡ canon
  whole_canon = let e = seen.long in take_all (length B) canon (omega arith)

  agree_now : (f : ℕ) → f ≤ length B → Agree (take f B) (take f canon) B canon
  agree_now f h =
      subst (λ c. Agree (take f B) (take f canon) B c) whole_canon
      (subst (λ b. Agree (take f B) (take f canon) b (take (length B) canon)) whole (agree f (length B) h (omega arith)))

-- an index of the longer tables stands for an earlier one
record Stands (B : List Closed) (canon : List ℕ) (C : List Closed) (more : List ℕ) (i : ℕ) : Type 0 where
  old : ℕ
  before : old < length B
  small : old ≤ i
  same : slice_get C i ≡ slice_get B old
  number : get_or more i 0 ≡ get_or canon old 0

module _ {B : List Closed} {canon : List ℕ} {keys : List RecGroup} {firsts : List ℕ} (seen : Seen B canon keys firsts)
    (types : List SubType) (key : RecGroup) (key_is : key.types ≡ map (rename (number_of canon (length types))) types)
    (below : list_all (λ ty. all_below (length B + length types) (names ty)) types ≡ true) where
  long_keys : (other : RecGroup) (f : ℕ) (at : KeyAt B canon other f) → other.types ≡ key.types → length at.types ≡ length types
  long_keys other f at e =
      sym (length-map at.types (rename (number_of (take f canon) (length at.types)))) ∙ (ap length (sym at.key_is ∙ (e ∙ key_is)) ∙ length-map types (rename (number_of canon (length types))))

  same_key : (other : RecGroup) (f : ℕ) (at : KeyAt B canon other f) → other.types ≡ key.types → close_group (take f B) at.types ≡ close_group B types
  same_key other f at e =
      let l : length at.types ≡ length types = long_keys other f at e in
      let w = at.within in
      let t : length (take f B) ≡ f = length-take-le f B (omega arith) in
      group_from (agree_now seen f (omega arith)) (length types) at.types types
      (subst (λ n. list_all (λ ty. all_below n (names ty)) at.types ≡ true) (omega arith) at.below)
      below
      (ap (λ n. map (rename (number_of (take f canon) n)) at.types) (sym l) ∙ (sym at.key_is ∙ (e ∙ key_is)))

  stands : (m : ℕ) (other : RecGroup) → slice_get keys m ≡ Some other → other.types ≡ key.types → (i : ℕ) → i < length (B ++ close_types B types) → Stands B canon (B ++ close_types B types) (canon ++ run (get_or firsts m 0) (length types)) i
  stands m other found e i h =
      let f : ℕ = get_or firsts m 0 in
      let at : KeyAt B canon other f = seen.at m other found in
      let l : length at.types ≡ length types = long_keys other f at e in
      let w = at.within in
      let long = seen.long in
      let size : length (B ++ close_types B types) ≡ length B + length types = length-append B (close_types B types) ∙ ap (λ n. length B + n) (length-positions (close_group B types) 0 (length types)) in
      elim (cases_lt i (length B)) as (λ _. Stands B canon (B ++ close_types B types) (canon ++ run f (length types)) i) [
        | inl x ↦ record { old = i; before = x; small = omega arith; same = slice_get-left B (close_types B types) i x; number = get_or_append_left canon (run f (length types)) 0 i (omega arith) }
        | inr x ↦
            let k : ℕ = i - length B in
            let s : i ≡ length B + k = omega arith in
            let c : i ≡ length canon + k = omega arith in
            let y : k < length types = omega arith in
            let z : k < length at.types = omega arith in
            record {
              old = f + k;
              before = omega arith;
              small = omega arith;
              same =
                  ap (slice_get (B ++ close_types B types)) s ∙ (slice_get-right B (close_types B types) k
                  ∙ (slice_get-positions (close_group B types) 0 (length types) k y
                  ∙ (ap (λ n. Some (position_in (close_group B types) n)) (omega arith)
                  ∙ (ap (λ g. Some (position_in g k)) (sym (same_key other f at e)) ∙ sym (at.closed k z)))));
              number =
                  ap (λ n. get_or (canon ++ run f (length types)) n 0) c ∙ (get_or-append-add canon (run f (length types)) k 0
                  ∙ (get_or-run f (length types) k y ∙ sym (at.own k z)));
            }
      ]

  -- a group that was seen before: its types have the numbers of that group's types
  pub seen_again : (m : ℕ) (other : RecGroup) → slice_get keys m ≡ Some other → other.types ≡ key.types → Seen (B ++ close_types B types) (canon ++ run (get_or firsts m 0) (length types)) keys firsts
  unfolding kept
  seen_again m other found e =
      let f : ℕ = get_or firsts m 0 in
      let C : List Closed = B ++ close_types B types in
      let more : List ℕ = canon ++ run f (length types) in
      let rep : (i : ℕ) → i < length C → Stands B canon C more i = stands m other found e in
      let long = seen.long in
      record {
        long = length-append canon (run f (length types)) ∙ (ap₂ (λ a b. a + b) long (length-run f (length types) ∙ sym (length-positions (close_group B types) 0 (length types))) ∙ sym (length-append B (close_types B types)));
        as_many = seen.as_many;
        faithful = λ i j h k s.
            let p = rep i h in
            let q = rep j k in
            p.number ∙ (seen.faithful p.old q.old p.before q.before (sym p.same ∙ (s ∙ q.same)) ∙ sym q.number);
        least = λ i h. let p = rep i h in let a = p.number in let b = p.small in let c = seen.least p.old p.before in omega arith;
        back = λ i h.
            let p = rep i h in
            let c = seen.least p.old p.before in
            let d = p.before in
            ap (slice_get C) p.number ∙ (slice_get-left B (close_types B types) (get_or canon p.old 0) (omega arith) ∙ (seen.back p.old p.before ∙ sym p.same));
        at = λ n k s. kept seen (close_types B types) (run f (length types)) k (get_or firsts n 0) (seen.at n k s);
        among = λ i h.
            let p = rep i h in
            let a = seen.among p.old p.before in
            let w = a.at.within in
            let z = a.in_group in
            record {
              number = a.number;
              key = a.key;
              found = a.found;
              at = kept seen (close_types B types) (run f (length types)) a.key (get_or firsts a.number 0) a.at;
              position = a.position;
              in_group = a.in_group;
              same = p.same ∙ (a.same ∙ sym (slice_get-left B (close_types B types) (get_or firsts a.number 0 + a.position) (omega arith)));
            };
      }

  -- the tables that a new group is put behind
  abbrev pub more_types : List Closed
  more_types = B ++ close_types B types

  abbrev pub more_canon : List ℕ
  more_canon = canon ++ run (length B) (length types)

  abbrev pub more_keys : List RecGroup
  more_keys = keys ++ key ∷ []

  abbrev pub more_firsts : List ℕ
  more_firsts = firsts ++ length B ∷ []

  size : length more_types ≡ length B + length types
  size = length-append B (close_types B types) ∙ ap (λ n. length B + n) (length-positions (close_group B types) 0 (length types))

  new_type : (k : ℕ) → k < length types → slice_get more_types (length B + k) ≡ Some (position_in (close_group B types) k)
  new_type k h = slice_get-right B (close_types B types) k ∙ (slice_get-positions (close_group B types) 0 (length types) k h ∙ ap (λ n. Some (position_in (close_group B types) n)) (omega arith))

  new_number : (k : ℕ) → k < length types → get_or more_canon (length B + k) 0 ≡ length B + k
  new_number k h = ap (λ n. get_or more_canon (n + k) 0) (sym seen.long) ∙ (get_or-append-add canon (run (length B) (length types)) k 0 ∙ get_or-run (length B) (length types) k h)

  -- the new group's key with what it stands for
  new_at : KeyAt more_types more_canon key (length B)
  new_at =
      let tb : take (length B) more_types ≡ B = take-append-le (length B) B (close_types B types) (omega arith) ∙ whole seen in
      let e = seen.long in
      let tc : take (length B) more_canon ≡ canon = take-append-le (length B) canon (run (length B) (length types)) (omega arith) ∙ whole_canon seen in
      record {
        types = types;
        within = let s = size in omega arith;
        key_is = key_is ∙ ap (λ c. map (rename (number_of c (length types))) types) (sym tc);
        below = below;
        closed = λ k h. new_type k h ∙ ap (λ b. Some (position_in (close_group b types) k)) (sym tb);
        own = new_number;
      }

  -- an index of the longer tables is an earlier one, or a position of the new group
  abbrev OldOrNew : ℕ → Type 0
  OldOrNew i = (i < length B) ⊎ ((k : ℕ) × (k < length types) × (i ≡ length B + k))

  old_or_new : (i : ℕ) → i < length more_types → OldOrNew i
  old_or_new i h =
      let s = size in
      elim (cases_lt i (length B)) as (λ _. OldOrNew i) [ inl x ↦ inl x | inr x ↦ inr (i - length B, omega arith, omega arith) ]

  module _ (fresh : (m : ℕ) (other : RecGroup) → slice_get keys m ≡ Some other → other.types ≡ key.types → ⊥) where
    -- no earlier type is one of the new group
    apart : (i k : ℕ) → i < length B → k < length types → slice_get B i ≡ Some (position_in (close_group B types) k) → ⊥
    apart i k h z s =
        let a = seen.among i h in
        let f : ℕ = get_or firsts a.number 0 in
        let t : Some (position_in (close_group (take f B) a.at.types) a.position) ≡ Some (position_in (close_group B types) k) = sym (a.at.closed a.position a.in_group) ∙ (sym a.same ∙ s) in
        let c : position_in (close_group (take f B) a.at.types) a.position ≡ position_in (close_group B types) k = cc in
        let g : close_group (take f B) a.at.types ≡ close_group B types = ap (λ (d : Closed). d.group) c in
        let w = a.at.within in
        let l : length a.at.types ≡ length types = group_long (take f B) B a.at.types types g in
        fresh a.number a.key a.found
        (a.at.key_is ∙ (ap (λ n. map (rename (number_of (take f canon) n)) a.at.types) l ∙ (group_to (agree_now seen f (omega arith)) (length types) a.at.types types g ∙ sym key_is)))

    faithful_here : (i j : ℕ) → OldOrNew i → OldOrNew j → slice_get more_types i ≡ slice_get more_types j → get_or more_canon i 0 ≡ get_or more_canon j 0
    faithful_here i j (inl a) (inl b) s =
        let e = seen.long in
        get_or_append_left canon (run (length B) (length types)) 0 i (omega arith)
        ∙ (seen.faithful i j a b (sym (slice_get-left B (close_types B types) i a) ∙ (s ∙ slice_get-left B (close_types B types) j b))
        ∙ sym (get_or_append_left canon (run (length B) (length types)) 0 j (omega arith)))
    faithful_here i j (inl a) (inr w) s =
        absurd (apart i w.0 a w.1 (sym (slice_get-left B (close_types B types) i a) ∙ (s ∙ (ap (slice_get more_types) w.2 ∙ new_type w.0 w.1))))
    faithful_here i j (inr v) (inl b) s =
        absurd (apart j v.0 b v.1 (sym (slice_get-left B (close_types B types) j b) ∙ (sym s ∙ (ap (slice_get more_types) v.2 ∙ new_type v.0 v.1))))
    faithful_here i j (inr v) (inr w) s =
        let t : Some (position_in (close_group B types) v.0) ≡ Some (position_in (close_group B types) w.0) = sym (new_type v.0 v.1) ∙ (ap (slice_get more_types) (sym v.2) ∙ (s ∙ (ap (slice_get more_types) w.2 ∙ new_type w.0 w.1))) in
        let c : position_in (close_group B types) v.0 ≡ position_in (close_group B types) w.0 = cc in
        let k : v.0 ≡ w.0 = ap (λ (d : Closed). d.position) c in
        ap (λ n. get_or more_canon n 0) (v.2 ∙ (ap (λ n. length B + n) k ∙ sym w.2))

    least_here : (i : ℕ) → OldOrNew i → get_or more_canon i 0 ≤ i
    least_here i (inl a) = let e = seen.long in let n = get_or_append_left canon (run (length B) (length types)) 0 i (omega arith) in let l = seen.least i a in omega arith
    least_here i (inr w) = let n = new_number w.0 w.1 in let e = w.2 in let m : get_or more_canon i 0 ≡ get_or more_canon (length B + w.0) 0 = ap (λ x. get_or more_canon x 0) e in omega arith

    back_here : (i : ℕ) → OldOrNew i → slice_get more_types (get_or more_canon i 0) ≡ slice_get more_types i
    back_here i (inl a) =
        let e = seen.long in
        let n = get_or_append_left canon (run (length B) (length types)) 0 i (omega arith) in
        let l = seen.least i a in
        ap (slice_get more_types) n ∙ (slice_get-left B (close_types B types) (get_or canon i 0) (omega arith) ∙ (seen.back i a ∙ sym (slice_get-left B (close_types B types) i a)))
    back_here i (inr w) = ap (slice_get more_types) (ap (λ x. get_or more_canon x 0) w.2 ∙ (new_number w.0 w.1 ∙ sym w.2))

    at_last : (m : ℕ) (other : RecGroup) → m ≡ length keys → slice_get more_keys m ≡ Some other → KeyAt more_types more_canon other (get_or more_firsts m 0)
    at_last m other e s =
        let t : Some key ≡ Some other = sym (slice_get-right keys (key ∷ []) 0) ∙ (ap (slice_get more_keys) (omega arith) ∙ s) in
        let k : key ≡ other = cc in
        let n = seen.as_many in
        let f : get_or more_firsts m 0 ≡ length B = ap (λ x. get_or more_firsts x 0) (omega arith) ∙ get_or-append-add firsts (length B ∷ []) 0 0 in
        subst (λ x. KeyAt more_types more_canon x (get_or more_firsts m 0)) k (subst (KeyAt more_types more_canon key) (sym f) new_at)

    at_here : (m : ℕ) (other : RecGroup) → slice_get more_keys m ≡ Some other → KeyAt more_types more_canon other (get_or more_firsts m 0)
    at_here m other s =
        let bound = slice_get_within more_keys m other s in
        let long = length-append keys (key ∷ []) in
        elim (cases_lt m (length keys)) as (λ _. KeyAt more_types more_canon other (get_or more_firsts m 0)) [
          | inl h ↦
              let n = seen.as_many in
              let f : get_or more_firsts m 0 ≡ get_or firsts m 0 = get_or_append_left firsts (length B ∷ []) 0 m (omega arith) in
              subst (KeyAt more_types more_canon other) (sym f) (kept seen (close_types B types) (run (length B) (length types)) other (get_or firsts m 0) (seen.at m other (sym (slice_get-left keys (key ∷ []) m h) ∙ s)))
          | inr h ↦ at_last m other (omega arith) s
        ]

    among_here : (i : ℕ) → OldOrNew i → Among more_types more_canon more_keys more_firsts i
    unfolding kept
    among_here i (inl a) =
        let m = seen.among i a in
        let w = m.at.within in
        let z = m.in_group in
        let b : m.number < length keys = slice_get_within keys m.number m.key m.found in
        let n = seen.as_many in
        let f : get_or more_firsts m.number 0 ≡ get_or firsts m.number 0 = get_or_append_left firsts (length B ∷ []) 0 m.number (omega arith) in
        let was : KeyAt more_types more_canon m.key (get_or firsts m.number 0) = kept seen (close_types B types) (run (length B) (length types)) m.key (get_or firsts m.number 0) m.at in
        record {
          number = m.number;
          key = m.key;
          found = slice_get-left keys (key ∷ []) m.number b ∙ m.found;
          at = record { types = was.types; within = omega (arith, was.within, f); key_is = was.key_is ∙ ap (λ x. map (rename (number_of (take x more_canon) (length was.types))) was.types) (sym f); below = subst (λ x. list_all (λ ty. all_below (x + length was.types) (names ty)) was.types ≡ true) (sym f) was.below; closed = λ k h. ap (λ x. slice_get more_types (x + k)) f ∙ (was.closed k h ∙ ap (λ x. Some (position_in (close_group (take x more_types) was.types) k)) (sym f)); own = λ k h. ap (λ x. get_or more_canon (x + k) 0) f ∙ (was.own k h ∙ ap (λ x. x + k) (sym f)) };
          position = m.position;
          in_group = m.in_group;
          same = slice_get-left B (close_types B types) i a ∙ (m.same ∙ (sym (slice_get-left B (close_types B types) (get_or firsts m.number 0 + m.position) (omega arith)) ∙ ap (λ x. slice_get more_types (x + m.position)) (sym f)));
        }
    among_here i (inr v) =
        let n = seen.as_many in
        let f : get_or more_firsts (length keys) 0 ≡ length B = ap (λ x. get_or more_firsts x 0) (omega arith) ∙ get_or-append-add firsts (length B ∷ []) 0 0 in
        let was : KeyAt more_types more_canon key (length B) = new_at in
        record {
          number = length keys;
          key = key;
          found = ap (slice_get more_keys) (omega arith) ∙ slice_get-right keys (key ∷ []) 0;
          at = record { types = types; within = let s = size in omega arith; key_is = key_is ∙ (ap (λ c. map (rename (number_of c (length types))) types) (sym (take-append-le (length B) canon (run (length B) (length types)) (let e = seen.long in omega arith) ∙ whole_canon seen)) ∙ ap (λ x. map (rename (number_of (take x more_canon) (length types))) types) (sym f)); below = subst (λ x. list_all (λ ty. all_below (x + length types) (names ty)) types ≡ true) (sym f) below; closed = λ k h. ap (λ x. slice_get more_types (x + k)) f ∙ (new_type k h ∙ (ap (λ b. Some (position_in (close_group b types) k)) (sym (take-append-le (length B) B (close_types B types) (omega arith) ∙ whole seen)) ∙ ap (λ x. Some (position_in (close_group (take x more_types) types) k)) (sym f))); own = λ k h. ap (λ x. get_or more_canon (x + k) 0) f ∙ (new_number k h ∙ ap (λ x. x + k) (sym f)) };
          position = v.0;
          in_group = v.1;
          same = ap (slice_get more_types) (v.2 ∙ ap (λ x. x + v.0) (sym f));
        }

    -- a group that was not seen before: its types have their own numbers
    pub seen_new : Seen more_types more_canon more_keys more_firsts
    seen_new =
        let e = seen.long in
        record {
          long = length-append canon (run (length B) (length types)) ∙ (ap₂ (λ a b. a + b) e (length-run (length B) (length types)) ∙ sym size);
          as_many = length-append firsts (length B ∷ []) ∙ (ap (λ n. n + 1) seen.as_many ∙ sym (length-append keys (key ∷ [])));
          faithful = λ i j h k s. faithful_here i j (old_or_new i h) (old_or_new j k) s;
          least = λ i h. least_here i (old_or_new i h);
          back = λ i h. back_here i (old_or_new i h);
          at = at_here;
          among = λ i h. among_here i (old_or_new i h);
        }
