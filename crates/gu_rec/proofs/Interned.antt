-- One group after another is numbered: the steps of that walk.
use Rattle.std.proofs.Common.{◌≡◌, ℕ, zero, suc, ◌+◌, ◌<◌, ◌≤◌, ◌^◌, true, List, [], ◌∷◌, ◌++◌, map, length, get_or, take, slice_get, Some, None, refl, ap, sym, ◌∙◌, subst, inl, inr, arith}
use mathlib.Core.List.{map-append}
use Rattle.std.specs.List.{list_all}
use Rattle.std.proofs.lemmas.Option.{slice_get-get_or, slice_get_past, slice_get_within}
use Rattle.std.proofs.lemmas.List.{take_all, take-append-le, length-map}
use Rattle.std.proofs.lemmas.Bool.{cases_lt}
use Rattle.gu_types.specs.declared.types.SubType.{SubType}
use Rattle.gu_types.specs.declared.types.RecGroup.{RecGroup}
use Rattle.gu_types.specs.declared.types.TypeList.{TypeList}
use Rattle.gu_types.specs.Depth.{types_in, types_of}
use Rattle.gu_rec.specs.declared.distinct.Distinct.{Distinct}
use Rattle.gu_rec.specs.Names.{names}
use Rattle.gu_rec.specs.Closed.{Closed, done, close_on, close_types, closed_types, closed_type, SameType}
use Rattle.gu_rec.specs.Keys.{key, key_at, types_at, run, Chains, IsFoundAt, IsAdded, FirstIs, LeastIndices}
use Rattle.gu_rec.specs.Validity.{IndicesHold, all_below}
use Rattle.gu_rec.proofs.Chained.{last_item}
use Rattle.gu_rec.proofs.Numbers.{Seen, seen_none, seen_again, seen_new, slice_get-left}
use Rattle.gu_rec.proofs.Groups.{Step, step_fits, step_below, close_next, length-close_on}

-- where the distinct groups begin
abbrev pub starts : List Distinct → List ℕ
starts distinct = map (λ (entry : Distinct). entry.start) distinct

starts_at : (distinct : List Distinct) (m : ℕ) (entry : Distinct) → slice_get distinct m ≡ Some entry → get_or (starts distinct) m 0 ≡ entry.start
starts_at [] m entry h = cc
starts_at (e ∷ distinct) zero entry h = let f : e ≡ entry = cc in ap (λ (x : Distinct). x.start) f
starts_at (e ∷ distinct) (suc m) entry h = starts_at distinct m entry h

-- the tables so far, with the keys of the distinct groups
pub record Kept (groups : List RecGroup) (B : List Closed) (numbers : List ℕ) (distinct : List Distinct) : Type 0 where
  pub keys : List RecGroup
  pub seen : Seen B numbers keys (starts distinct)
  pub keys_are : (m : ℕ) (entry : Distinct) (k : RecGroup) → slice_get distinct m ≡ Some entry → slice_get keys m ≡ Some k → k.types ≡ key_at groups numbers entry

pub kept_none : (groups : List RecGroup) → Kept groups [] [] []
kept_none groups = record { keys = []; seen = seen_none; keys_are = λ m entry k h. cc }

-- a key stays as types are given numbers
key_stays : (groups : List RecGroup) (numbers more : List ℕ) (entry : Distinct) → entry.start ≤ length numbers → key_at groups numbers entry ≡ key_at groups (numbers ++ more) entry
key_stays groups numbers more entry h = ap (λ front. key front (types_at groups entry.group)) (sym (take-append-le entry.start numbers more h))

module _ {gs : List RecGroup} (i : ℕ) {numbers : List ℕ} {distinct : List Distinct} (kept : Kept gs (close_on [] (take i gs)) numbers distinct) where
  pub length_so_far : length numbers ≡ length (types_in (take i gs))
  length_so_far = kept.seen.long ∙ (length-close_on [] (take i gs) ∙ omega arith)

  as_many : length distinct ≡ length kept.keys
  as_many = sym (length-map distinct (λ (entry : Distinct). entry.start)) ∙ kept.seen.as_many

  module _ {list : TypeList} {g : RecGroup} {types : List SubType} (step : Step list gs i g types (length numbers)) (fit : length (types_of list) < 2 ^ 32) where
    pub numbers_fit : (k : ℕ) → k < length numbers → get_or numbers k 0 + length types < 2 ^ 32
    numbers_fit k h = let s = kept.seen.long in let a = kept.seen.least k (omega arith) in omega (arith, step_fits step)

    pub first_fits : {first : ℕ} {new : List Distinct} {lasts : List ℕ} → Chains gs numbers distinct lasts → FirstIs gs numbers distinct i first new → first + length types < 2 ^ 32
    first_fits chains (inl p) = let w = p.0 in let a = (chains.linked w.number w.entry w.found).start in let f = w.first_is in omega (arith, step_fits step)
    first_fits chains (inr w) = let f = w.first_is in omega (arith, step_fits step)

    module _ (hold : IndicesHold list) (at : types_at gs i ≡ types) where
      -- the key of the group
      abbrev own : RecGroup
      own = record { types = key numbers types }

      below : list_all (λ ty. all_below (length (close_on [] (take i gs)) + length types) (names ty)) types ≡ true
      below = subst (λ n. list_all (λ ty. all_below (n + length types) (names ty)) types ≡ true) kept.seen.long (step_below step hold)

      again : {first : ℕ} {lasts : List ℕ} → Chains gs numbers distinct lasts → IsFoundAt gs numbers distinct (key numbers types) first →
          Kept gs (close_on [] (take i gs) ++ close_types (close_on [] (take i gs)) types) (numbers ++ run first (length types)) distinct
      again {first} chains w =
          let B : List Closed = close_on [] (take i gs) in
          let l : w.number < length kept.keys = omega (arith, as_many, slice_get_within distinct w.number w.entry w.found) in
          let other : RecGroup = get_or kept.keys w.number own in
          let s : slice_get kept.keys w.number ≡ Some other = slice_get-get_or kept.keys w.number own l in
          let same : other.types ≡ own.types = kept.keys_are w.number w.entry other w.found s ∙ w.same in
          let f : first ≡ get_or (starts distinct) w.number 0 = w.first_is ∙ sym (starts_at distinct w.number w.entry w.found) in
          record {
            keys = kept.keys;
            seen = subst (λ a. Seen (B ++ close_types B types) (numbers ++ run a (length types)) kept.keys (starts distinct)) (sym f) (seen_again kept.seen types own refl below w.number other s same);
            keys_are = λ m entry k e h. kept.keys_are m entry k e h ∙ key_stays gs numbers (run first (length types)) entry (chains.linked m entry e).start;
          }

      -- the entry of the group has its key
      own_key : (entry : Distinct) (more : List ℕ) → entry.group ≡ i → entry.start ≡ length numbers → own.types ≡ key_at gs (numbers ++ more) entry
      own_key entry more e s =
          let a : numbers ≡ take entry.start (numbers ++ more) = sym (ap (λ n. take n (numbers ++ more)) s ∙ (take-append-le (length numbers) numbers more (omega arith) ∙ take_all (length numbers) numbers (omega arith))) in
          let b : types ≡ types_at gs entry.group = sym at ∙ ap (types_at gs) (sym e) in
          λ j. key (a j) (b j)

      anew : {first : ℕ} {new : List Distinct} {lasts : List ℕ} → Chains gs numbers distinct lasts → (w : IsAdded gs numbers distinct i first new) →
          Kept gs (close_on [] (take i gs) ++ close_types (close_on [] (take i gs)) types) (numbers ++ run first (length types)) (distinct ++ w.entry ∷ [])
      anew {first} chains w =
          let B : List Closed = close_on [] (take i gs) in
          let more : List ℕ = run first (length types) in
          let f : length B ≡ first = sym (w.first_is ∙ kept.seen.long) in
          let n : starts distinct ++ length B ∷ [] ≡ starts (distinct ++ w.entry ∷ []) = ap (λ x. starts distinct ++ x ∷ []) (sym (w.start_is ∙ kept.seen.long)) ∙ sym (map-append (λ (entry : Distinct). entry.start) distinct (w.entry ∷ [])) in
          let fresh : (m : ℕ) (other : RecGroup) → slice_get kept.keys m ≡ Some other → other.types ≡ own.types → ⊥ =
          λ m other s t.
          let l : m < length distinct = omega (arith, as_many, slice_get_within kept.keys m other s) in
          let e : slice_get distinct m ≡ Some (get_or distinct m w.entry) = slice_get-get_or distinct m w.entry l in
          w.fresh m (get_or distinct m w.entry) e (sym (kept.keys_are m (get_or distinct m w.entry) other e s) ∙ (t ∙ ap (key numbers) (sym at))) in
          record {
            keys = kept.keys ++ own ∷ [];
            seen = subst (Seen (B ++ close_types B types) (numbers ++ more) (kept.keys ++ own ∷ [])) n
                (subst (λ a. Seen (B ++ close_types B types) (numbers ++ run a (length types)) (kept.keys ++ own ∷ []) (starts distinct ++ length B ∷ [])) f
                (seen_new kept.seen types own refl below fresh));
            keys_are = λ m entry k e h. elim (cases_lt m (length distinct)) as (λ _. k.types ≡ key_at gs (numbers ++ more) entry) [
              | inl x ↦
                  let y : m < length kept.keys = omega (arith, as_many) in
                  let was : slice_get distinct m ≡ Some entry = sym (slice_get-left distinct (w.entry ∷ []) m x) ∙ e in
                  kept.keys_are m entry k was (sym (slice_get-left kept.keys (own ∷ []) m y) ∙ h) ∙ key_stays gs numbers more entry (chains.linked m entry was).start
              | inr x ↦
                  let y : length kept.keys ≤ m = omega (arith, as_many) in
                  let p = last_item distinct w.entry m entry x e in
                  let q = last_item kept.keys own m k y h in
                  ap (λ (z : RecGroup). z.types) (sym q.1) ∙ (own_key w.entry more w.group_is w.start_is ∙ ap (key_at gs (numbers ++ more)) p.1)
            ];
          }

      pub kept_next : {first : ℕ} {new : List Distinct} {lasts new_numbers : List ℕ} → Chains gs numbers distinct lasts → FirstIs gs numbers distinct i first new → new_numbers ≡ numbers ++ run first (length types) → Kept gs (close_on [] (take (i + 1) gs)) new_numbers new
      kept_next {first} {new} {lasts} {new_numbers} chains w e =
          let B : List Closed = close_on [] (take i gs) in
          let next : B ++ close_types B types ≡ close_on [] (take (i + 1) gs) = ap (λ t. B ++ close_types B t) step.types_are ∙ sym (close_next gs i g step.at step.is) in
          subst (λ n. Kept gs (close_on [] (take (i + 1) gs)) n new) (sym e)
          (subst (λ b. Kept gs b (numbers ++ run first (length types)) new) next
          (elim w as (λ _. Kept gs (B ++ close_types B types) (numbers ++ run first (length types)) new) [
            | inl p ↦ subst (Kept gs (B ++ close_types B types) (numbers ++ run first (length types))) (sym p.1) (again chains (subst (λ t. IsFoundAt gs numbers distinct (key numbers t) first) at p.0))
            | inr p ↦ subst (Kept gs (B ++ close_types B types) (numbers ++ run first (length types))) (sym p.grown) (anew chains p)
          ]))

-- the tables of all groups have the least index of each type
pub all_least : (list : TypeList) (gs : List RecGroup) (i : ℕ) (numbers : List ℕ) (keys : List RecGroup) (firsts : List ℕ) → gs ≡ list.groups → length gs ≤ i → Seen (close_on [] (take i gs)) numbers keys firsts → LeastIndices list numbers
unfolding closed_types closed_type SameType
all_least list gs i numbers keys firsts e h seen =
    let B : List Closed = close_on [] list.groups in
    let b : close_on [] (take i gs) ≡ B = ap (close_on []) (take_all i gs h ∙ e) in
    let all : Seen B numbers keys firsts = subst (λ x. Seen x numbers keys firsts) b seen in
    let long = all.long in
    record {
      long = long ∙ (length-close_on [] list.groups ∙ omega arith);
      same = λ j k. sym (all.back j (omega arith));
      least = λ j k l s.
          let in_range : k < length B = elim (cases_lt k (length B)) as (λ _. k < length B) [
            | inl x ↦ x
            | inr x ↦ let z : None ≡ Some _ = sym (slice_get_past B k x) ∙ (sym s ∙ slice_get-get_or B j (record { group = done; position = zero }) (omega arith)) in cc
          ] in
          let a : get_or numbers j 0 ≡ get_or numbers k 0 = all.faithful j k (omega arith) in_range s in
          let c = all.least k in_range in
          omega arith;
    }
