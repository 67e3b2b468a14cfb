-- Closed groups are equal exactly where their keys are.
use Rattle.std.proofs.Common.{◌≡◌, ℕ, ◌+◌, ◌-◌, ◌<◌, ◌≤◌, true, ◌⊎◌, List, [], ◌∷◌, map, length, get_or, slice_get, slice_index, nat_lt, if◌then◌else◌, Option, Some, None, refl, ap, ap₂, sym, ◌∙◌, inl, inr, arith, lt-ltb, le-ltb, ltb-true}
use Rattle.std.specs.List.{list_all}
use Rattle.std.proofs.lemmas.Option.{slice_get_cases}
use Rattle.gu_types.specs.declared.types.SubType.{SubType}
use Rattle.gu_rec.specs.Names.{names, rename, blank}
use Rattle.gu_rec.specs.Closed.{entry, References, none, inside, outside, Closed, close_name, close_names, close_group}
use Rattle.gu_rec.specs.Keys.{number_of}
use Rattle.gu_rec.specs.Validity.{all_below}
use Rattle.gu_rec.proofs.Same.{left_of, right_of}
use Rattle.gu_rec.proofs.Fill.{names-rename, blank-rename, same_renamed}

-- numbers are equal exactly where the closed types are
pub record Agree (E : List Closed) (N : List ℕ) (F : List Closed) (O : List ℕ) : Type 0 where
  pub long : length N ≡ length E
  pub as_long : length O ≡ length F
  pub to : (i j : ℕ) → i < length E → j < length F → slice_get E i ≡ slice_get F j → get_or N i 0 ≡ get_or O j 0
  pub from : (i j : ℕ) → i < length E → j < length F → get_or N i 0 ≡ get_or O j 0 → slice_get E i ≡ slice_get F j

record Early (E : List Closed) (N : List ℕ) (l n : ℕ) : Type 0 where
  at : n < length E
  type : Closed
  found : slice_get E n ≡ Some type
  number : number_of N l n ≡ l + get_or N n 0

record Own (E : List Closed) (N : List ℕ) (l n : ℕ) : Type 0 where
  at : length E ≤ n
  found : slice_get E n ≡ None
  number : number_of N l n ≡ n - length E

find : (E : List Closed) (N : List ℕ) (l n : ℕ) → length N ≡ length E → Early E N l n ⊎ Own E N l n
find E N l n e =
    elim (slice_get_cases E n).1 as (λ _. Early E N l n ⊎ Own E N l n) [
      | inl w ↦ let h : n < length N = omega (arith, e, w.1) in inl (record { at = w.1; type = w.0; found = w.2; number = ap (λ b. if b then (l + slice_index N n) else (n - length N)) (lt-ltb n (length N) h) })
      | inr w ↦ let h : length N ≤ n = omega (arith, e, w.0) in inr (record { at = w.0; found = w.1; number = ap (λ b. if b then (l + slice_index N n) else (n - length N)) (le-ltb n (length N) h) ∙ ap (λ k. n - k) e })
    ]

pub record HeadsAgree (E : List Closed) (N : List ℕ) (F : List Closed) (O : List ℕ) (l n m : ℕ) (r s : References) : Type 0 where
  pub number : number_of N l n ≡ number_of O l m
  pub rest : r ≡ s

module _ {E : List Closed} {N : List ℕ} {F : List Closed} {O : List ℕ} (agree : Agree E N F O) (l : ℕ) where
  both_early : (n m : ℕ) (r s : References) → Early E N l n → Early F O l m → close_name (slice_get E n) (n - length E) r ≡ close_name (slice_get F m) (m - length F) s → HeadsAgree E N F O l n m r s
  both_early n m r s p q h =
      let k : outside p.type.group p.type.position r ≡ outside q.type.group q.type.position s = sym (ap (λ o. close_name o (n - length E) r) p.found) ∙ (h ∙ ap (λ o. close_name o (m - length F) s) q.found) in
      let g : p.type.group ≡ q.type.group = cc in
      let a : p.type.position ≡ q.type.position = cc in
      let t : p.type ≡ q.type = λ i. record { group = g i; position = a i } in
      record {
        number = p.number ∙ (ap (λ x. l + x) (agree.to n m p.at q.at (p.found ∙ (ap (λ x. Some x) t ∙ sym q.found))) ∙ sym q.number);
        rest = cc;
      }

  both_own : (n m : ℕ) (r s : References) → Own E N l n → Own F O l m → close_name (slice_get E n) (n - length E) r ≡ close_name (slice_get F m) (m - length F) s → HeadsAgree E N F O l n m r s
  both_own n m r s p q h =
      let k : inside (n - length E) r ≡ inside (m - length F) s = sym (ap (λ o. close_name o (n - length E) r) p.found) ∙ (h ∙ ap (λ o. close_name o (m - length F) s) q.found) in
      let a : (n - length E) ≡ (m - length F) = cc in
      record { number = p.number ∙ (a ∙ sym q.number); rest = cc }

  early_own : (n m : ℕ) (r s : References) → Early E N l n → Own F O l m → close_name (slice_get E n) (n - length E) r ≡ close_name (slice_get F m) (m - length F) s → ⊥
  early_own n m r s p q h =
      let k : outside p.type.group p.type.position r ≡ inside (m - length F) s = sym (ap (λ o. close_name o (n - length E) r) p.found) ∙ (h ∙ ap (λ o. close_name o (m - length F) s) q.found) in cc

  own_early : (n m : ℕ) (r s : References) → Own E N l n → Early F O l m → close_name (slice_get E n) (n - length E) r ≡ close_name (slice_get F m) (m - length F) s → ⊥
  own_early n m r s p q h =
      let k : inside (n - length E) r ≡ outside q.type.group q.type.position s = sym (ap (λ o. close_name o (n - length E) r) p.found) ∙ (h ∙ ap (λ o. close_name o (m - length F) s) q.found) in cc

  heads : (n m : ℕ) (r s : References) → close_name (slice_get E n) (n - length E) r ≡ close_name (slice_get F m) (m - length F) s → HeadsAgree E N F O l n m r s
  heads n m r s h =
      elim (find E N l n agree.long) as (λ _. HeadsAgree E N F O l n m r s) [
        | inl p ↦ elim (find F O l m agree.as_long) as (λ _. HeadsAgree E N F O l n m r s) [ inl q ↦ both_early n m r s p q h | inr q ↦ absurd (early_own n m r s p q h) ]
        | inr p ↦ elim (find F O l m agree.as_long) as (λ _. HeadsAgree E N F O l n m r s) [ inl q ↦ absurd (own_early n m r s p q h) | inr q ↦ both_own n m r s p q h ]
      ]

  no_name : (o : Option Closed) (k : ℕ) (r : References) → none ≡ close_name o k r → ⊥
  no_name None k r h = cc
  no_name (Some c) k r h = cc

  names_to : (ns ms : List ℕ) → close_names E ns ≡ close_names F ms → map (number_of N l) ns ≡ map (number_of O l) ms
  names_to [] [] h = refl
  names_to [] (m ∷ ms) h = absurd (no_name (slice_get F m) (m - length F) (close_names F ms) h)
  names_to (n ∷ ns) [] h = absurd (no_name (slice_get E n) (n - length E) (close_names E ns) (sym h))
  names_to (n ∷ ns) (m ∷ ms) h =
      let both = heads n m (close_names E ns) (close_names F ms) h in
      ap₂ (λ x xs. x ∷ xs) both.number (names_to ns ms both.rest)

  same_head : (n m : ℕ) (r s : References) → n < length E + l → m < length F + l → number_of N l n ≡ number_of O l m → r ≡ s → close_name (slice_get E n) (n - length E) r ≡ close_name (slice_get F m) (m - length F) s
  same_head n m r s a b h e =
      let Goal : Type 0 = close_name (slice_get E n) (n - length E) r ≡ close_name (slice_get F m) (m - length F) s in
      elim (find E N l n agree.long) as (λ _. Goal) [
        | inl p ↦ elim (find F O l m agree.as_long) as (λ _. Goal) [
          | inl q ↦
              let x : get_or N n 0 ≡ get_or O m 0 = omega (arith, h, p.number, q.number) in
              let y : Some p.type ≡ Some q.type = sym p.found ∙ (agree.from n m p.at q.at x ∙ q.found) in
              ap₂ (λ o t. close_name o (n - length E) t) p.found e ∙ (ap (λ o. close_name o (n - length E) s) y ∙ sym (ap (λ o. close_name o (m - length F) s) q.found))
          | inr q ↦ absurd (omega (arith, h, p.number, q.number, q.at, b))
        ]
        | inr p ↦ elim (find F O l m agree.as_long) as (λ _. Goal) [
          | inl q ↦ absurd (omega (arith, h, p.number, q.number, p.at, a))
          | inr q ↦
              let x : (n - length E) ≡ (m - length F) = omega (arith, h, p.number, q.number) in
              ap₂ (λ o t. close_name o (n - length E) t) p.found e ∙ (ap (λ k. inside k s) x ∙ sym (ap (λ o. close_name o (m - length F) s) q.found))
        ]
      ]

  names_from : (ns ms : List ℕ) → all_below (length E + l) ns ≡ true → all_below (length F + l) ms ≡ true → map (number_of N l) ns ≡ map (number_of O l) ms → close_names E ns ≡ close_names F ms
  names_from [] [] a b h = refl
  names_from [] (m ∷ ms) a b h = cc
  names_from (n ∷ ns) [] a b h = cc
  names_from (n ∷ ns) (m ∷ ms) a b h =
      let x : number_of N l n ≡ number_of O l m = cc in
      let y : map (number_of N l) ns ≡ map (number_of O l) ms = cc in
      same_head n m (close_names E ns) (close_names F ms)
      (ltb-true n (length E + l) (left_of (nat_lt n (length E + l)) (all_below (length E + l) ns) a))
      (ltb-true m (length F + l) (left_of (nat_lt m (length F + l)) (all_below (length F + l) ms) b))
      x
      (names_from ns ms (right_of (nat_lt n (length E + l)) (all_below (length E + l) ns) a) (right_of (nat_lt m (length F + l)) (all_below (length F + l) ms) b) y)

  -- equal closed groups have equal keys
  pub group_to : (ts us : List SubType) → close_group E ts ≡ close_group F us → map (rename (number_of N l)) ts ≡ map (rename (number_of O l)) us
  group_to [] [] h = refl
  group_to [] (u ∷ us) h = cc
  group_to (t ∷ ts) [] h = cc
  group_to (t ∷ ts) (u ∷ us) h =
      let x : blank t ≡ blank u = cc in
      let y : close_names E (names t) ≡ close_names F (names u) = cc in
      let z : close_group E ts ≡ close_group F us = cc in
      ap₂ (λ v vs. v ∷ vs) (same_renamed (number_of N l) (number_of O l) t u x (names_to (names t) (names u) y)) (group_to ts us z)

  -- and equal keys stand for equal closed groups
  pub group_from : (ts us : List SubType) → list_all (λ ty. all_below (length E + l) (names ty)) ts ≡ true → list_all (λ ty. all_below (length F + l) (names ty)) us ≡ true → map (rename (number_of N l)) ts ≡ map (rename (number_of O l)) us → close_group E ts ≡ close_group F us
  group_from [] [] a b h = refl
  group_from [] (u ∷ us) a b h = cc
  group_from (t ∷ ts) [] a b h = cc
  group_from (t ∷ ts) (u ∷ us) a b h =
      let x : rename (number_of N l) t ≡ rename (number_of O l) u = cc in
      let y : map (rename (number_of N l)) ts ≡ map (rename (number_of O l)) us = cc in
      let c : blank t ≡ blank u = sym (blank-rename (number_of N l) t) ∙ (ap blank x ∙ blank-rename (number_of O l) u) in
      let d : map (number_of N l) (names t) ≡ map (number_of O l) (names u) = sym (names-rename (number_of N l) t) ∙ (ap names x ∙ names-rename (number_of O l) u) in
      let e : close_names E (names t) ≡ close_names F (names u) =
      names_from (names t) (names u)
      (left_of (all_below (length E + l) (names t)) (list_all (λ ty. all_below (length E + l) (names ty)) ts) a)
      (left_of (all_below (length F + l) (names u)) (list_all (λ ty. all_below (length F + l) (names ty)) us) b) d in
      let rest = group_from ts us
      (right_of (all_below (length E + l) (names t)) (list_all (λ ty. all_below (length E + l) (names ty)) ts) a)
      (right_of (all_below (length F + l) (names u)) (list_all (λ ty. all_below (length F + l) (names ty)) us) b) y in
      λ i. entry (c i) (e i) (rest i)
