-- Where the types stand, one after another.
use Rattle.std.proofs.Common.{◌≡◌, ℕ, ◌+◌, ◌<◌, List, [], ◌∷◌, ◌++◌, length, slice_get, Some, refl, ap, sym, ◌∙◌, subst, inl, inr, arith, length-append}
use Rattle.std.proofs.lemmas.Bool.{cases_lt}
use Rattle.std.proofs.lemmas.Option.{slice_get_within, slice_get_read, slice_get_cases}
use Rattle.gu_types.specs.declared.types.SubType.{SubType}
use Rattle.gu_types.specs.declared.types.RecGroup.{RecGroup}
use Rattle.gu_types.specs.declared.types.TypeList.{TypeList}
use Rattle.gu_rec.specs.declared.place.Seat.{Seat}
use Rattle.gu_rec.specs.Sub.{StandsAt}
use Rattle.gu_rec.specs.Table.{PlacesTo}
use Rattle.gu_rec.proofs.Numbers.{slice_get-left, slice_get-right}
use Rattle.gu_rec.proofs.Groups.{Step, step_type, begins}

record Found {X : Type 0} (xs : List X) (k : ℕ) : Type 0 where
  item : X
  is : slice_get xs k ≡ Some item

found : {X : Type 0} (xs : List X) (k : ℕ) → k < length xs → Found xs k
found xs k h = elim (slice_get_cases xs k).1 as (λ _. Found xs k) [ inl w ↦ record { item = w.0; is = w.2 } | inr w ↦ absurd (let l = w.0 in omega arith) ]

-- a type of a group that is read in a walk over the groups
pub stands : {list : TypeList} {gs : List RecGroup} {i : ℕ} {g : RecGroup} {types : List SubType} {start : ℕ} → Step list gs i g types start → (k : ℕ) → k < length types → StandsAt list (start + k) i k
stands {list = list} {gs = gs} {i = i} {g = g} {types = types} {start = start} step k h =
    let f = found types k h in
    record {
      its_group = g;
      type = f.item;
      group_is = ap (λ l. slice_get l i) (sym step.groups_are) ∙ slice_get_read gs (length gs) i g refl step.at step.is;
      found = ap (λ l. slice_get l k) (sym step.types_are) ∙ f.is;
      is = step_type step k h ∙ f.is;
      counted = ap (λ n. n + k) (begins step);
    }

pub places_next : (list : TypeList) (count : ℕ) (places : List Seat) (seat : Seat) → PlacesTo list count places → StandsAt list count seat.group seat.position → PlacesTo list (count + 1) (places ++ seat ∷ [])
places_next list count places seat so here = record {
  long = length-append places (seat ∷ []) ∙ ap (λ n. n + 1) so.long;
  at = λ j x s.
      let bound = slice_get_within (places ++ seat ∷ []) j x s in
      let l = length-append places (seat ∷ []) in
      let n = so.long in
      elim (cases_lt j (length places)) as (λ _. StandsAt list j x.group x.position) [
        | inl h ↦ so.at j x (sym (slice_get-left places (seat ∷ []) j h) ∙ s)
        | inr h ↦
            let k : j ≡ length places + 0 = omega arith in
            let t : Some seat ≡ Some x = sym (slice_get-right places (seat ∷ []) 0) ∙ (ap (slice_get (places ++ seat ∷ [])) (sym k) ∙ s) in
            let f : seat ≡ x = cc in
            let g : count ≡ j = omega arith in
            subst (λ (y : Seat). StandsAt list j y.group y.position) f (subst (λ m. StandsAt list m seat.group seat.position) g here)
      ];
}
