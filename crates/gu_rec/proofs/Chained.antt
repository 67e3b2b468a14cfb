-- The table of distinct groups: how a bucket is searched, and how a group is put into it.
use Rattle.std.proofs.Common.{◌≡◌, ◌↔◌, ℕ, zero, suc, ◌+◌, ◌*◌, ◌/◌, ◌<◌, ◌≤◌, Bool, IsTrue, List, [], ◌∷◌, ◌++◌, map, length, get_or, set, slice_get, Some, refl, ap, sym, ◌∙◌, subst, inl, inr, arith, length-append}
use Rattle.std.proofs.lemmas.List.{length-map, length-set, get_or-set_same, get_or-set_other, take-append-le}
use Rattle.std.proofs.lemmas.Option.{slice_get_within}
use Rattle.std.proofs.lemmas.Bool.{cases_lt}
use Rattle.std.proofs.lemmas.Nat.{div_below}
use Rattle.std.proofs.Math.Nat.{mul-lt-mul_of_pos_right, mul_comm}
use Rattle.gu_types.specs.declared.types.SubType.{SubType}
use Rattle.gu_types.specs.declared.types.RecGroup.{RecGroup}
use Rattle.gu_rec.specs.declared.distinct.Distinct.{Distinct}
use Rattle.gu_rec.specs.Names.{rename}
use Rattle.gu_rec.specs.Alike.{alike_lists}
use Rattle.gu_rec.specs.Hashes.{hash_of}
use Rattle.gu_rec.specs.Keys.{number_of, key, key_at, types_at, bucket_of, IsLast, Linked, Chains, IsAbsent, FirstIs}
use Rattle.gu_rec.proofs.Same.{tells_decides}
use Rattle.gu_rec.proofs.Keys.{keys_tell}
use Rattle.gu_rec.proofs.Numbers.{slice_get-left}

pub types_at_read : (groups : List RecGroup) (i : ℕ) (g : RecGroup) → i < length groups → g ≡ get_or groups i g → types_at groups i ≡ g.types
types_at_read [] i g h e = absurd (omega arith)
types_at_read (f ∷ groups) zero g h e = ap (λ (x : RecGroup). x.types) (sym e)
types_at_read (f ∷ groups) (suc i) g h e = types_at_read groups i g (omega arith) e

-- keys are the same exactly where they are found alike
pub same_keys : (own types : List SubType) (earlier numbers : List ℕ) (found : Bool) →
    found ≡ alike_lists (map (rename (number_of earlier (length types))) own) (map (rename (number_of numbers (length types))) types) →
    IsTrue found ↔ (key earlier own ≡ key numbers types)
same_keys own types earlier numbers found e =
    let mine : List SubType = map (rename (number_of earlier (length types))) own in (
      λ t.
          let s : mine ≡ key numbers types = keys_tell.sound mine (key numbers types) (sym e ∙ t) in
          let l : length own ≡ length types = sym (length-map own (rename (number_of earlier (length types)))) ∙ (ap length s ∙ length-map types (rename (number_of numbers (length types)))) in
          ap (λ n. map (rename (number_of earlier n)) own) l ∙ s,
      λ s.
          let l : length own ≡ length types = sym (length-map own (rename (number_of earlier (length own)))) ∙ (ap length s ∙ length-map types (rename (number_of numbers (length types)))) in
          e ∙ (tells_decides keys_tell mine (key numbers types)).1 (ap (λ n. map (rename (number_of earlier n)) own) (sym l) ∙ s),
    )

-- a share is one of those that there are
pub share_within : (hash buckets hashes : ℕ) → 0 < buckets → hash < hashes → hash * buckets / hashes < buckets
share_within hash buckets hashes some low = div_below (hash * buckets) hashes buckets (omega arith) (subst (λ n. hash * buckets < n) (mul_comm hashes buckets) (mul-lt-mul_of_pos_right low some))

-- where a search of a bucket for a key stands
pub record Searching (groups : List RecGroup) (numbers : List ℕ) (distinct : List Distinct) (buckets bucket : ℕ) (types : List SubType) (up_to : ℕ) : Type 0 where
  pub within : up_to ≤ length distinct
  pub there : (m : ℕ) (entry : Distinct) → up_to ≡ suc m → slice_get distinct m ≡ Some entry → bucket_of buckets entry.hash ≡ bucket
  pub none_above : (m : ℕ) (entry : Distinct) → up_to ≤ m → slice_get distinct m ≡ Some entry → key_at groups numbers entry ≡ types → ⊥

module _ {groups : List RecGroup} {numbers : List ℕ} {distinct : List Distinct} {lasts : List ℕ} (chains : Chains groups numbers distinct lasts) where
  -- a key is found by its hash
  pub hash_same : (m : ℕ) (entry : Distinct) (types : List SubType) (hash : ℕ) → hash ≡ hash_of types → slice_get distinct m ≡ Some entry → key_at groups numbers entry ≡ types → entry.hash ≡ hash
  hash_same m entry types hash h s k = (chains.linked m entry s).hashed ∙ (ap hash_of k ∙ sym h)

  pub search_starts : (types : List SubType) (hash : ℕ) → hash ≡ hash_of types → (bucket : ℕ) → bucket ≡ bucket_of (length lasts) hash → bucket < length lasts → Searching groups numbers distinct (length lasts) bucket types (get_or lasts bucket 0)
  search_starts types hash h bucket b l =
      let last = chains.last bucket l in
      record {
        within = last.before;
        there = last.there;
        none_above = λ m entry le s k. last.none_between m entry le (slice_get_within distinct m entry s) s (ap (bucket_of (length lasts)) (hash_same m entry types hash h s k) ∙ sym b);
      }

  pub search_next : {bucket : ℕ} {types : List SubType} {up_to : ℕ} → Searching groups numbers distinct (length lasts) bucket types up_to →
      (m : ℕ) (entry : Distinct) → up_to ≡ suc m → slice_get distinct m ≡ Some entry → (key_at groups numbers entry ≡ types → ⊥) → (hash : ℕ) → hash ≡ hash_of types → bucket ≡ bucket_of (length lasts) hash → Searching groups numbers distinct (length lasts) bucket types entry.before
  search_next {bucket} {types} {up_to} at m entry u s differs hash h b =
      let here : bucket_of (length lasts) entry.hash ≡ bucket = at.there m entry u s in
      let last : IsLast distinct (length lasts) bucket m entry.before = subst (λ n. IsLast distinct (length lasts) n m entry.before) here (chains.linked m entry s).last in
      let low = last.before in
      let high = slice_get_within distinct m entry s in
      record {
        within = omega arith;
        there = last.there;
        none_above = λ k other le t same.
            elim (cases_lt k m) as (λ _. ⊥) [
              | inl x ↦ last.none_between k other le x t (ap (bucket_of (length lasts)) (hash_same k other types hash h t same) ∙ sym b)
              | inr x ↦ elim (cases_lt m k) as (λ _. ⊥) [
                | inl y ↦ at.none_above k other (omega arith) t same
                | inr y ↦
                    let z : k ≡ m = omega arith in
                    let t' : slice_get distinct m ≡ Some other = ap (slice_get distinct) (sym z) ∙ t in
                    let e : entry ≡ other = cc in
                    differs (ap (key_at groups numbers) e ∙ same)
              ]
            ];
      }

pub search_ends : {groups : List RecGroup} {numbers : List ℕ} {distinct : List Distinct} {buckets bucket : ℕ} {types : List SubType} {up_to : ℕ} → Searching groups numbers distinct buckets bucket types up_to → up_to ≤ 0 → IsAbsent groups numbers distinct types
search_ends at z m entry s k = at.none_above m entry (omega arith) s k

pub last_item : {X : Type 0} (xs : List X) (x : X) (m : ℕ) (y : X) → length xs ≤ m → slice_get (xs ++ x ∷ []) m ≡ Some y → (m ≡ length xs) × (x ≡ y)
last_item [] x zero y h s = (refl, cc)
last_item [] x (suc m) y h s = cc
last_item (z ∷ xs) x zero y h s = absurd (omega arith)
last_item (z ∷ xs) x (suc m) y h s = let r = last_item xs x m y (omega arith) s in (ap suc r.0, r.1)

-- at most one distinct group more
pub one_more : (groups : List RecGroup) (numbers : List ℕ) (old : List Distinct) (group first : ℕ) (new : List Distinct) → FirstIs groups numbers old group first new → length new ≤ length old + 1
one_more groups numbers old group first new (inl p) = omega (arith, ap length p.1)
one_more groups numbers old group first new (inr w) = omega (arith, ap length w.grown, length-append old (w.entry ∷ []))

-- what is last up to an end stays so where groups are put behind it
last_kept : (distinct more : List Distinct) (buckets bucket end last : ℕ) → end ≤ length distinct → IsLast distinct buckets bucket end last → IsLast (distinct ++ more) buckets bucket end last
last_kept distinct more buckets bucket end last h at =
    let low = at.before in
    record {
      before = at.before;
      there = λ m entry e s. at.there m entry e (sym (slice_get-left distinct more m (omega arith)) ∙ s);
      none_between = λ m entry le lt s b. at.none_between m entry le lt (sym (slice_get-left distinct more m (omega arith)) ∙ s) b;
    }

module _ {groups : List RecGroup} {numbers : List ℕ} {distinct : List Distinct} {lasts : List ℕ} (chains : Chains groups numbers distinct lasts) where
  -- the table as types are given numbers
  pub chains_grow : (more : List ℕ) → Chains groups (numbers ++ more) distinct lasts
  chains_grow more = record {
    some = chains.some;
    few = chains.few;
    linked = λ m entry s.
        let was = chains.linked m entry s in
        let b = was.start in
        record {
          at = was.at;
          start = omega (arith, length-append numbers more);
          hashed = was.hashed ∙ ap (λ front. hash_of (key front (types_at groups entry.group))) (sym (take-append-le entry.start numbers more b));
          last = was.last;
        };
    last = chains.last;
  }

  module _ (entry : Distinct) (at : entry.group < length groups) (start : entry.start ≤ length numbers) (hashed : entry.hash ≡ hash_of (key_at groups numbers entry))
      (bucket : ℕ) (bucket_is : bucket ≡ bucket_of (length lasts) entry.hash) (in_range : bucket < length lasts) (before : entry.before ≡ get_or lasts bucket 0) where
    linked_now : (m : ℕ) (other : Distinct) → slice_get (distinct ++ entry ∷ []) m ≡ Some other → Linked groups numbers (distinct ++ entry ∷ []) (length lasts) m other
    linked_now m other s = elim (cases_lt m (length distinct)) as (λ _. Linked groups numbers (distinct ++ entry ∷ []) (length lasts) m other) [
      | inl x ↦
          let was = chains.linked m other (sym (slice_get-left distinct (entry ∷ []) m x) ∙ s) in
          record { at = was.at; start = was.start; hashed = was.hashed; last = last_kept distinct (entry ∷ []) (length lasts) (bucket_of (length lasts) other.hash) m other.before (omega arith) was.last }
      | inr x ↦
          let r = last_item distinct entry m other x s in
          let here : Linked groups numbers (distinct ++ entry ∷ []) (length lasts) (length distinct) entry = record {
            at = at;
            start = start;
            hashed = hashed;
            last = subst (λ b. IsLast (distinct ++ entry ∷ []) (length lasts) b (length distinct) entry.before) bucket_is
                (subst (IsLast (distinct ++ entry ∷ []) (length lasts) bucket (length distinct)) (sym before)
                (last_kept distinct (entry ∷ []) (length lasts) bucket (length distinct) (get_or lasts bucket 0) (omega arith) (chains.last bucket in_range)));
          } in
          subst (Linked groups numbers (distinct ++ entry ∷ []) (length lasts) m) r.1 (subst (λ n. Linked groups numbers (distinct ++ entry ∷ []) (length lasts) n entry) (sym r.0) here)
    ]

    last_here : IsLast (distinct ++ entry ∷ []) (length lasts) bucket (length distinct + 1) (length distinct + 1)
    last_here = record {
      before = omega arith;
      there = λ m other e s. let r = last_item distinct entry m other (omega arith) s in ap (λ (x : Distinct). bucket_of (length lasts) x.hash) (sym r.1) ∙ sym bucket_is;
      none_between = λ m other le lt s b. absurd (omega arith);
    }

    last_there : (b : ℕ) → b < length lasts → (b ≡ bucket → ⊥) → IsLast (distinct ++ entry ∷ []) (length lasts) b (length distinct + 1) (get_or lasts b 0)
    last_there b h differs =
        let was = chains.last b h in
        let low = was.before in
        record {
          before = omega arith;
          there = λ m other e s. was.there m other e (sym (slice_get-left distinct (entry ∷ []) m (omega arith)) ∙ s);
          none_between = λ m other le lt s e. elim (cases_lt m (length distinct)) as (λ _. ⊥) [
            | inl x ↦ was.none_between m other le x (sym (slice_get-left distinct (entry ∷ []) m x) ∙ s) e
            | inr x ↦ let r = last_item distinct entry m other x s in differs (sym e ∙ (ap (λ (y : Distinct). bucket_of (length lasts) y.hash) (sym r.1) ∙ sym bucket_is))
          ];
        }

    other_one : (b : ℕ) → b < length lasts → (b ≡ bucket → ⊥) → IsLast (distinct ++ entry ∷ []) (length lasts) b (length distinct + 1) (get_or (set lasts bucket (length distinct + 1)) b 0)
    other_one b h differs = subst (IsLast (distinct ++ entry ∷ []) (length lasts) b (length distinct + 1)) (sym (get_or-set_other lasts bucket b (length distinct + 1) 0 differs)) (last_there b h differs)

    -- the table with one group more
    pub chains_push : Chains groups numbers (distinct ++ entry ∷ []) (set lasts bucket (length distinct + 1))
    chains_push =
        let n : length (set lasts bucket (length distinct + 1)) ≡ length lasts = length-set lasts bucket (length distinct + 1) in
        let some = chains.some in
        let few = chains.few in
        record {
          some = omega arith;
          few = omega arith;
          linked = λ m other s. subst (λ k. Linked groups numbers (distinct ++ entry ∷ []) k m other) (sym n) (linked_now m other s);
          last = λ b h.
              let here : b < length lasts = omega arith in
              let long : length distinct + 1 ≡ length (distinct ++ entry ∷ []) = sym (length-append distinct (entry ∷ [])) in
              subst (λ k. IsLast (distinct ++ entry ∷ []) k b (length (distinct ++ entry ∷ [])) (get_or (set lasts bucket (length distinct + 1)) b 0)) (sym n)
              (subst (λ k. IsLast (distinct ++ entry ∷ []) (length lasts) b k (get_or (set lasts bucket (length distinct + 1)) b 0)) long
              (elim (cases_lt b bucket) as (λ _. IsLast (distinct ++ entry ∷ []) (length lasts) b (length distinct + 1) (get_or (set lasts bucket (length distinct + 1)) b 0)) [
                | inl x ↦ other_one b here (λ e. absurd (omega arith))
                | inr x ↦ elim (cases_lt bucket b) as (λ _. IsLast (distinct ++ entry ∷ []) (length lasts) b (length distinct + 1) (get_or (set lasts bucket (length distinct + 1)) b 0)) [
                  | inl y ↦ other_one b here (λ e. absurd (omega arith))
                  | inr y ↦
                      let z : bucket ≡ b = omega arith in
                      subst (λ k. IsLast (distinct ++ entry ∷ []) (length lasts) k (length distinct + 1) (get_or (set lasts bucket (length distinct + 1)) k 0)) z
                      (subst (IsLast (distinct ++ entry ∷ []) (length lasts) bucket (length distinct + 1)) (sym (get_or-set_same lasts bucket (length distinct + 1) 0 in_range)) last_here)
                ]
              ]));
        }
