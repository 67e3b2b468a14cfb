-- How the heights of types grow, from the last type to the first.
use Rattle.std.proofs.Common.{◌≡◌, ◌≢◌, ℕ, suc, ◌+◌, ◌<◌, ◌≤◌, Bool, true, false, ◌||◌, ◌⊎◌, List, length, get_or, set, nat_eq, replicate, if◌then◌else◌, Option, Some, None, option_map, is_some, unwrap_or, refl, ap, sym, ◌∙◌, subst, inl, inr, arith}
use Rattle.std.proofs.lemmas.Bool.{cases_lt}
use Rattle.std.proofs.lemmas.Option.{slice_get_cases, get_or_from_slice_get}
use Rattle.std.proofs.lemmas.List.{get_or-set_same, get_or-set_other, length-replicate, get_or-replicate}
use Rattle.gu_types.specs.declared.types.Abs.{Abs}
use Rattle.gu_types.specs.declared.types.HeapType.TheVariants as H
use Rattle.gu_types.specs.declared.types.TypeList.{TypeList}
use Rattle.gu_types.specs.Depth.{types_of, parent, depth}
use Rattle.gu_rec.specs.declared.types.Entry.{Entry}
use Rattle.gu_rec.specs.Closed.{SameType}
use Rattle.gu_rec.specs.Tests.{same_type}
use Rattle.gu_rec.specs.Sub.{kind_of, abs_line, line, same_heap, distance}
use Rattle.gu_rec.specs.Table.{IsTable, place}
use Rattle.gu_rec.specs.Heights.{far, HeightsFrom, HeightsAre, Raise}
use Rattle.gu_rec.specs.Validity.{IndicesHold}
use Rattle.gu_rec.proofs.Same.{same_type_decides, numbers_tell, tells_decides}
use Rattle.gu_rec.proofs.Seats.{same_there}
use Rattle.gu_rec.proofs.Lines.{along, parent_below, depth_root, depth_step}
use Rattle.gu_rec.proofs.Order.{there, on, either, or_right, idx_steps, idx_root, lines_pass, same_root, same_parent}
use Rattle.gu_rec.proofs.Decided.{own_on}
use Rattle.gu_rec.proofs.Antisymmetric.{idx_line, same_first}
use Rattle.gu_rec.proofs.Places.{same_is, index_root, index_step, any_is}
use Rattle.gu_rec.proofs.Queries.{distance_is}
use Rattle.gu_rec.proofs.Heights.{far_is, height_is}

not_above : (list : TypeList) (t : ℕ) (k : Abs) → on list (H.Idx t) (H.Abs k) ≡ false
unfolding line
not_above list t k = idx_line list t (abs_line k)

module _ (list : TypeList) (hold : IndicesHold list) where
  same_depth : (i j : ℕ) → i < length (types_of list) → SameType list i list j → depth (types_of list) i ≡ depth (types_of list) j
  same_depth i = along (types_of list) (λ i. (j : ℕ) → i < length (types_of list) → SameType list i list j → depth (types_of list) i ≡ depth (types_of list) j)
      (λ i e j h s. depth_root (types_of list) i e ∙ sym (depth_root (types_of list) j (same_root list hold i j h s e)))
      (λ i p e next j h s.
      let q = same_parent list hold i j p h s e in
      let b = parent_below (types_of list) i p e in
      depth_step (types_of list) i p e ∙ (ap suc (next q.other (omega arith) q.same) ∙ sym (depth_step (types_of list) j q.other q.is)))
      i

  abbrev Deep : ℕ → ℕ → Type 0
  Deep t i = (k : ℕ) → place (same_heap list (H.Idx t)) (line list (H.Idx i)) ≡ Some k → k + depth (types_of list) t ≡ depth (types_of list) i

  here_deep : (t i k : ℕ) → t < length (types_of list) → same_type list t list i ≡ true → Some 0 ≡ Some k → k + depth (types_of list) t ≡ depth (types_of list) i
  here_deep t i k h e f =
      let s : SameType list t list i = (same_type_decides list list t i).0 e in
      let d = same_depth t i h s in
      let g : 0 ≡ k = cc in
      omega arith

  place_deep : (t : ℕ) → t < length (types_of list) → (i : ℕ) → Deep t i
  place_deep t h = along (types_of list) (Deep t) at_root at_step
    where
      root_test : (i : ℕ) (b : Bool) → same_type list t list i ≡ b → (k : ℕ) → (if b then Some 0 else None) ≡ Some k → k + depth (types_of list) t ≡ depth (types_of list) i
      root_test i true e k f = here_deep t i k h e f
      root_test i false e k f = let g : ◌≡◌ {A = Option ℕ} None (Some k) = f in cc

      at_root : (i : ℕ) → parent (types_of list) i ≡ None → Deep t i
      at_root i e k f = root_test i (same_type list t list i) refl k (sym (index_root list t i e) ∙ f)

      step_map : (i p : ℕ) → parent (types_of list) i ≡ Some p → (o : Option ℕ) → ((k : ℕ) → o ≡ Some k → k + depth (types_of list) t ≡ depth (types_of list) p) → (k : ℕ) → option_map suc o ≡ Some k → k + depth (types_of list) t ≡ depth (types_of list) i
      step_map i p e None next k f = let g : ◌≡◌ {A = Option ℕ} None (Some k) = f in cc
      step_map i p e (Some m) next k f =
          let n = next m refl in
          let g : suc m ≡ k = cc in
          let d = depth_step (types_of list) i p e in
          omega arith

      step_test : (i p : ℕ) → parent (types_of list) i ≡ Some p → Deep t p → (b : Bool) → same_type list t list i ≡ b → (k : ℕ) → (if b then Some 0 else option_map suc (place (same_heap list (H.Idx t)) (line list (H.Idx p)))) ≡ Some k → k + depth (types_of list) t ≡ depth (types_of list) i
      step_test i p e next true s k f = here_deep t i k h s f
      step_test i p e next false s k f = step_map i p e (place (same_heap list (H.Idx t)) (line list (H.Idx p))) next k f

      at_step : (i p : ℕ) → parent (types_of list) i ≡ Some p → Deep t p → Deep t i
      at_step i p e next k f = step_test i p e next (same_type list t list i) refl k (sym (index_step list t i p e) ∙ f)

  far_on : (t i : ℕ) → t < length (types_of list) → on list (H.Idx t) (H.Idx i) ≡ true → far list (H.Idx t) (H.Idx i) + depth (types_of list) t ≡ depth (types_of list) i
  far_on t i h e = by_place (place (same_heap list (H.Idx t)) (line list (H.Idx i))) refl
    where
      by_place : (o : Option ℕ) → place (same_heap list (H.Idx t)) (line list (H.Idx i)) ≡ o → far list (H.Idx t) (H.Idx i) + depth (types_of list) t ≡ depth (types_of list) i
      by_place None f = let g : false ≡ true = sym (ap is_some f) ∙ (sym (any_is (same_heap list (H.Idx t)) (line list (H.Idx i))) ∙ e) in cc
      by_place (Some k) f = let a = far_is list (H.Idx t) (H.Idx i) (Some k) (sym f) in let d = place_deep t h i k f in omega arith

  on_distance : (t i n : ℕ) → t < length (types_of list) → on list (H.Idx t) (H.Idx i) ≡ true → n + depth (types_of list) t ≡ depth (types_of list) i → distance list (H.Idx t) (H.Idx i) ≡ Some n
  on_distance t i n h e d = distance_is list (H.Idx t) (H.Idx i) ∙ by_place (place (same_heap list (H.Idx t)) (line list (H.Idx i))) refl
    where
      by_place : (o : Option ℕ) → place (same_heap list (H.Idx t)) (line list (H.Idx i)) ≡ o → o ≡ Some n
      by_place None f = let g : false ≡ true = sym (ap is_some f) ∙ (sym (any_is (same_heap list (H.Idx t)) (line list (H.Idx i))) ∙ e) in cc
      by_place (Some k) f = let a = place_deep t h i k f in ap (λ x. Some x) (let g : k ≡ n = omega arith in g)

  far_off : (t i : ℕ) → on list (H.Idx t) (H.Idx i) ≡ false → far list (H.Idx t) (H.Idx i) ≡ 0
  far_off t i e = by_place (place (same_heap list (H.Idx t)) (line list (H.Idx i))) refl
    where
      by_place : (o : Option ℕ) → place (same_heap list (H.Idx t)) (line list (H.Idx i)) ≡ o → far list (H.Idx t) (H.Idx i) ≡ 0
      by_place None f = far_is list (H.Idx t) (H.Idx i) None (sym f)
      by_place (Some k) f = let g : true ≡ false = sym (ap is_some f) ∙ (sym (any_is (same_heap list (H.Idx t)) (line list (H.Idx i))) ∙ e) in cc

own_type : (list : TypeList) (p : ℕ) → SameType list p list p
unfolding SameType
own_type list p = refl

pub raise_none : (heights : List ℕ) (own steps : ℕ) → steps ≤ get_or heights own 0 → Raise heights heights own steps
raise_none heights own steps h = record { long = refl; more = omega arith; enough = h; one_of = inl refl; others = λ j d. refl }

pub raise_set : (heights : List ℕ) (own steps : ℕ) → own < length heights → get_or heights own 0 < steps → length (set heights own steps) ≡ length heights → Raise heights (set heights own steps) own steps
raise_set heights own steps l h n =
    let e = get_or-set_same heights own steps 0 l in
    record { long = n; more = omega arith; enough = omega arith; one_of = inr e; others = λ j d. get_or-set_other heights own j steps 0 d }

pub own_below : {list : TypeList} {least : List ℕ} {entries : List Entry} → IsTable list least entries → (at : ℕ) → at < length least → get_or least at 0 < length least
own_below {list = list} table at h =
    let l = table.least_are.long in
    let b = same_there list at _ (omega arith) (table.least_are.same at h) in
    omega arith

module _ {list : TypeList} {least : List ℕ} {entries : List Entry} (table : IsTable list least entries) where
  same_number : (t p : ℕ) → t < length (types_of list) → p < length (types_of list) → same_type list t list p ≡ nat_eq (get_or least t 0) (get_or least p 0)
  same_number t p h k = let l = table.least_are.long in same_is list least table.least_are t p (omega arith) (omega arith)

  one_number : (t p : ℕ) → t < length (types_of list) → p < length (types_of list) → same_type list t list p ≡ true → get_or least t 0 ≡ get_or least p 0
  one_number t p h k e = (tells_decides numbers_tell (get_or least t 0) (get_or least p 0)).0 (sym (same_number t p h k) ∙ e)

  other_number : (t p : ℕ) → t < length (types_of list) → p < length (types_of list) → same_type list t list p ≡ false → get_or least t 0 ≢ get_or least p 0
  other_number t p h k e = λ f. let g : false ≡ true = sym e ∙ (same_number t p h k ∙ (tells_decides numbers_tell (get_or least t 0) (get_or least p 0)).1 f) in cc

  least_below : (p : ℕ) → p < length (types_of list) → get_or least p 0 ≤ p
  least_below p h = let l = table.least_are.long in table.least_are.least p p (omega arith) (own_type list p)

  abbrev Met : List ℕ → ℕ → Type 0
  Met xs t = (i : ℕ) × (i < length (types_of list)) × (distance list (H.Idx t) (H.Idx i) ≡ Some (get_or xs (get_or least t 0) 0))

  meets : (heights new : List ℕ) (t : ℕ) → get_or new (get_or least t 0) 0 ≡ get_or heights (get_or least t 0) 0 → Met heights t → Met new t
  meets heights new t e m = (m.0, m.1, m.2 ∙ ap (λ n. Some n) (sym e))

  pub low_height : {heights : List ℕ} {from : ℕ} → HeightsFrom list least heights from → (t : ℕ) → t < length (types_of list) → get_or least t 0 ≡ t → get_or heights t 0 ≤ 63
  low_height {heights = heights} to t h own =
      let m = to.met t h in
      let d = place_deep list table.hold t h m.0 (get_or heights (get_or least t 0) 0) (sym (distance_is list (H.Idx t) (H.Idx m.0)) ∙ m.2) in
      let s = table.shallow m.0 in
      let e : get_or heights (get_or least t 0) 0 ≡ get_or heights t 0 = ap (λ n. get_or heights n 0) own in
      omega arith

  module _ {heights new : List ℕ} {from p own : ℕ} (to : HeightsFrom list least heights (from + 1)) (raise : Raise heights new own (get_or heights from 0 + 1)) (own_is : own ≡ get_or least p 0) (from_in : from < length (types_of list)) (from_own : get_or least from 0 ≡ from) (above : parent (types_of list) from ≡ Some p) where
    own_before : own < from
    own_before = let b = parent_below (types_of list) from p above in let l = least_below p (omega arith) in omega arith

    grows : (j : ℕ) → get_or heights j 0 ≤ get_or new j 0
    grows j = by_test (nat_eq j own) refl
      where
        by_test : (b : Bool) → nat_eq j own ≡ b → get_or heights j 0 ≤ get_or new j 0
        by_test true e = subst (λ n. get_or heights n 0 ≤ get_or new n 0) (sym ((tells_decides numbers_tell j own).0 e)) raise.more
        by_test false e = let o = raise.others j (λ f. let g : false ≡ true = sym e ∙ (tells_decides numbers_tell j own).1 f in cc) in omega arith

    stays : (k : ℕ) → from ≤ k → get_or new k 0 ≡ get_or heights k 0
    stays k h = raise.others k (λ e. let b = own_before in absurd (omega arith))

    rises : (k q : ℕ) → from ≤ k → k < length (types_of list) → get_or least k 0 ≡ k → parent (types_of list) k ≡ Some q → get_or new k 0 < get_or new (get_or least q 0) 0
    rises k q f h o e =
        let s = stays k f in
        elim (cases_lt from k) as (λ _. get_or new k 0 < get_or new (get_or least q 0) 0) [
          | inl l ↦ let r = to.rise k q (omega arith) h o e in let g = grows (get_or least q 0) in omega arith
          | inr l ↦
              let n : k ≡ from = omega arith in
              let m : Some q ≡ Some p = sym e ∙ (ap (parent (types_of list)) n ∙ above) in
              let u : q ≡ p = cc in
              let v : get_or new (get_or least q 0) 0 ≡ get_or new own 0 = ap (λ x. get_or new (get_or least x 0) 0) u ∙ ap (λ x. get_or new x 0) (sym own_is) in
              let w : get_or heights k 0 ≡ get_or heights from 0 = ap (λ x. get_or heights x 0) n in
              let r = raise.enough in
              omega arith
        ]

    -- one step more down to the same type
    met_below : (t : ℕ) → t < length (types_of list) → same_type list t list p ≡ true → (i : ℕ) × (i < length (types_of list)) × (distance list (H.Idx t) (H.Idx i) ≡ Some (get_or heights from 0 + 1))
    met_below t h e =
        let s : SameType list t list p = (same_type_decides list list t p).0 e in
        let m = to.met from from_in in
        let n : get_or heights (get_or least from 0) 0 ≡ get_or heights from 0 = ap (λ x. get_or heights x 0) from_own in
        let f : place (same_heap list (H.Idx from)) (line list (H.Idx m.0)) ≡ Some (get_or heights from 0) = sym (distance_is list (H.Idx from) (H.Idx m.0)) ∙ (m.2 ∙ ap (λ x. Some x) n) in
        let on_from : on list (H.Idx from) (H.Idx m.0) ≡ true = any_is (same_heap list (H.Idx from)) (line list (H.Idx m.0)) ∙ ap is_some f in
        let on_line : on list (H.Idx t) (H.Idx from) ≡ true =
        same_first list t p s (line list (H.Idx from)) ∙ ((idx_steps list from p above).is (H.Idx p) ∙ or_right (same_heap list (H.Idx p) (H.Idx from)) (on list (H.Idx p) (H.Idx p)) (own_on list (H.Idx p))) in
        let d = place_deep list table.hold from from_in m.0 (get_or heights from 0) f in
        let u = depth_step (types_of list) from p above in
        let v = same_depth list table.hold t p h s in
        (m.0, m.1, on_distance list table.hold t m.0 (get_or heights from 0 + 1) h (lines_pass list table.hold (H.Idx m.0) (H.Idx from) (H.Idx t) m.1 on_from on_line) (omega arith))

    still_met : (t : ℕ) → t < length (types_of list) → Met new t
    still_met t h = by_test (same_type list t list p) refl
      where
        in_range : p < length (types_of list)
        in_range = let b = parent_below (types_of list) from p above in omega arith

        is_own : same_type list t list p ≡ true → get_or least t 0 ≡ own
        is_own e = one_number t p h in_range e ∙ sym own_is

        by_one : same_type list t list p ≡ true → (get_or new own 0 ≡ get_or heights own 0) ⊎ (get_or new own 0 ≡ get_or heights from 0 + 1) → Met new t
        by_one e (inl f) = meets heights new t (let o = is_own e in ap (λ n. get_or new n 0) o ∙ (f ∙ ap (λ n. get_or heights n 0) (sym o))) (to.met t h)
        by_one e (inr f) = let m = met_below t h e in (m.0, m.1, m.2 ∙ ap (λ n. Some n) (sym (ap (λ n. get_or new n 0) (is_own e) ∙ f)))

        by_test : (b : Bool) → same_type list t list p ≡ b → Met new t
        by_test true e = by_one e raise.one_of
        by_test false e = meets heights new t (raise.others (get_or least t 0) (λ f. other_number t p h in_range e (f ∙ own_is))) (to.met t h)

    pub handed_on : HeightsFrom list least new from
    handed_on = record { long = raise.long ∙ to.long; rise = rises; met = still_met }

  module _ {heights : List ℕ} (to : HeightsFrom list least heights 0) where
    -- from each type on to its supertype, the heights rise
    rise_on : (k p : ℕ) → k < length (types_of list) → parent (types_of list) k ≡ Some p → get_or heights (get_or least k 0) 0 < get_or heights (get_or least p 0) 0
    rise_on k p h e =
        let l = table.least_are.long in
        let b = parent_below (types_of list) k p e in
        let c : ℕ = get_or least k 0 in
        let s : SameType list k list c = table.least_are.same k (omega arith) in
        let c_in : c < length (types_of list) = same_there list k c h s in
        let q = same_parent list table.hold k c p h s e in
        let q_in : q.other < length (types_of list) = same_there list p q.other (omega arith) q.same in
        let o : c ≡ get_or least c 0 = one_number k c h c_in ((same_type_decides list list k c).1 s) in
        let r = to.rise c q.other (omega arith) c_in (sym o) q.is in
        let m : get_or least p 0 ≡ get_or least q.other 0 = one_number p q.other (omega arith) q_in ((same_type_decides list list p q.other).1 q.same) in
        subst (λ n. get_or heights c 0 < get_or heights n 0) (sym m) r

    abbrev High : ℕ → Type 0
    High i = (t : ℕ) → i < length (types_of list) → t < length (types_of list) → on list (H.Idx t) (H.Idx i) ≡ true → depth (types_of list) i + get_or heights (get_or least i 0) 0 ≤ get_or heights (get_or least t 0) 0 + depth (types_of list) t

    high_here : (t i : ℕ) → i < length (types_of list) → t < length (types_of list) → same_type list t list i ≡ true → depth (types_of list) i + get_or heights (get_or least i 0) 0 ≤ get_or heights (get_or least t 0) 0 + depth (types_of list) t
    high_here t i h k e =
        let d = same_depth list table.hold t i k ((same_type_decides list list t i).0 e) in
        let n : get_or heights (get_or least t 0) 0 ≡ get_or heights (get_or least i 0) 0 = ap (λ x. get_or heights x 0) (one_number t i k h e) in
        omega arith

    high : (i : ℕ) → High i
    high = along (types_of list) High at_root at_step
      where
        at_root : (i : ℕ) → parent (types_of list) i ≡ None → High i
        at_root i e t h k o =
            let a = there list i h in
            high_here t i h k (only (same_type list t list i) (sym (ap (λ b. same_type list t list i || b) (not_above list t (kind_of a.type.comp))) ∙ (sym ((idx_root list i a.type a.found e).is (H.Idx t)) ∙ o)))
          where
            only : (b : Bool) → (b || false) ≡ true → b ≡ true
            only true f = refl
            only false f = f

        at_step : (i p : ℕ) → parent (types_of list) i ≡ Some p → High p → High i
        at_step i p e next t h k o =
            elim (either (same_type list t list i) (on list (H.Idx t) (H.Idx p)) (sym ((idx_steps list i p e).is (H.Idx t)) ∙ o)) as (λ _. depth (types_of list) i + get_or heights (get_or least i 0) 0 ≤ get_or heights (get_or least t 0) 0 + depth (types_of list) t) [
              | inl s ↦ high_here t i h k s
              | inr s ↦
                  let b = parent_below (types_of list) i p e in
                  let n = next t (omega arith) k s in
                  let r = rise_on i p h e in
                  let d = depth_step (types_of list) i p e in
                  omega arith
            ]

    far_below : (t i : ℕ) → t < length (types_of list) → i < length (types_of list) → far list (H.Idx t) (H.Idx i) ≤ get_or heights (get_or least t 0) 0
    far_below t i h k = by_test (on list (H.Idx t) (H.Idx i)) refl
      where
        by_test : (b : Bool) → on list (H.Idx t) (H.Idx i) ≡ b → far list (H.Idx t) (H.Idx i) ≤ get_or heights (get_or least t 0) 0
        by_test true e = let f = far_on list table.hold t i h e in let u = high i t k h e in omega arith
        by_test false e = let f = far_off list table.hold t i e in omega arith

    pub heights_end : HeightsAre list least heights
    heights_end = record {
      long = to.long;
      at = λ t h.
          let m = to.met t h in
          height_is list (H.Idx t) (length (types_of list)) (get_or heights (get_or least t 0) 0) (record { start = omega arith; each = λ i k. far_below t i h k; met = inr (m.0, m.1, ap (λ o. unwrap_or o 0) m.2) }) (omega arith);
    }

pub heights_start : {list : TypeList} {least : List ℕ} {entries : List Entry} → IsTable list least entries → (n : ℕ) → n ≡ length least → HeightsFrom list least (replicate n 0) n
heights_start {list = list} {least = least} table n e =
    let l = table.least_are.long in
    record {
      long = length-replicate n 0 ∙ e;
      rise = λ k p f h own g. absurd (omega arith);
      met = λ t h. (
        t,
        h,
        on_distance list table.hold t t 0 h (own_on list (H.Idx t)) (omega arith)
            ∙ ap (λ x. Some x) (sym (get_or-replicate n (get_or least t 0) 0 0 (let b = own_below table t (omega arith) in omega arith))),
      );
    }

pub parent_at : {list : TypeList} {least : List ℕ} {entries : List Entry} → IsTable list least entries → (at : ℕ) (d : Entry) (o : Option ℕ) → at < length least → (get_or entries at d).parent ≡ o → parent (types_of list) at ≡ o
parent_at {list = list} {entries = entries} table at d o h e =
    elim (slice_get_cases entries at).1 as (λ _. parent (types_of list) at ≡ o) [
      | inl w ↦
          let k = table.entries_are.at at w.0 w.2 in
          sym k.parent_is ∙ (ap (λ (x : Entry). x.parent) (sym (get_or_from_slice_get entries at w.0 d w.2)) ∙ e)
      | inr w ↦ absurd (let l = w.0 in let m = table.entries_are.long in let n = table.least_are.long in omega arith)
    ]

pub canon_is : {list : TypeList} {least : List ℕ} {entries : List Entry} → IsTable list least entries → (i c : ℕ) → i < length least → SameType list i list c → ((j : ℕ) → SameType list i list j → c ≤ j) → c ≡ get_or least i 0
canon_is {least = least} table i c h s below =
    let a = below (get_or least i 0) (table.least_are.same i h) in
    let b = table.least_are.least i c h s in
    omega arith
