-- A list of groups, split at one of them.
use Rattle.std.proofs.Common.{◌≡◌, ℕ, zero, suc, ◌+◌, ◌-◌, ◌<◌, ◌≤◌, Bool, true, false, ◌&&◌, List, [], ◌∷◌, ◌++◌, length, get_or, take, drop, slice_get, nat_lt, if◌then◌else◌, Some, refl, ap, ap₂, sym, ◌∙◌, subst, inl, inr, arith, append_assoc, append-nil, length-append, lt-ltb, le-ltb, take-append-drop, drop-cons}
use Rattle.std.specs.List.{list_all}
use Rattle.std.proofs.lemmas.Bool.{cases_lt}
use Rattle.std.proofs.lemmas.List.{take_more, take_all}
use Rattle.std.proofs.lemmas.Option.{slice_get_past, slice_get_within}
use Rattle.gu_types.specs.declared.types.SubType.{SubType}
use Rattle.gu_types.specs.declared.types.RecGroup.{RecGroup}
use Rattle.gu_types.specs.declared.types.TypeList.{TypeList}
use Rattle.gu_types.specs.Depth.{types_in, types_of}
use Rattle.gu_rec.specs.Names.{names}
use Rattle.gu_rec.specs.Closed.{Closed, close_on, close_types, close_group}
use Rattle.gu_rec.specs.Validity.{group_end, all_below, indices_hold, indices_hold_at, IndicesHold, IsFirstBadRef}
use Rattle.gu_rec.proofs.Same.{left_of}
use Rattle.gu_rec.proofs.Numbers.{slice_get-left, slice_get-right, length-positions}

pub types_in-append : (gs hs : List RecGroup) → types_in (gs ++ hs) ≡ types_in gs ++ types_in hs
types_in-append [] hs = refl
types_in-append (g ∷ gs) hs = ap (λ l. g.types ++ l) (types_in-append gs hs) ∙ sym (append_assoc g.types (types_in gs) (types_in hs))

end_past : (g : RecGroup) (gs : List RecGroup) (i : ℕ) → group_end (g ∷ gs) (length g.types + i) ≡ length g.types + group_end gs i
end_past g gs i =
    ap (λ b. if b then length g.types else length g.types + group_end gs (length g.types + i - length g.types)) (le-ltb (length g.types + i) (length g.types) (omega arith))
    ∙ ap (λ n. length g.types + group_end gs n) (omega arith)

pub end_at : (before : List RecGroup) (g : RecGroup) (rest : List RecGroup) (k : ℕ) → k < length g.types → group_end (before ++ g ∷ rest) (length (types_in before) + k) ≡ length (types_in before) + length g.types
end_at [] g rest k h =
    ap (group_end (g ∷ rest)) (omega arith)
    ∙ (ap (λ b. if b then length g.types else length g.types + group_end rest (k - length g.types)) (lt-ltb k (length g.types) h) ∙ omega arith)
end_at (f ∷ before) g rest k h =
    ap (group_end (f ∷ (before ++ g ∷ rest))) (ap (λ n. n + k) (length-append f.types (types_in before)) ∙ omega arith)
    ∙ (end_past f (before ++ g ∷ rest) (length (types_in before) + k)
    ∙ (ap (λ n. length f.types + n) (end_at before g rest k h) ∙ (omega arith ∙ ap (λ n. n + length g.types) (sym (length-append f.types (types_in before))))))

pub type_at : (before : List RecGroup) (g : RecGroup) (rest : List RecGroup) (k : ℕ) → k < length g.types → slice_get (types_in (before ++ g ∷ rest)) (length (types_in before) + k) ≡ slice_get g.types k
type_at before g rest k h =
    ap (λ l. slice_get l (length (types_in before) + k)) (types_in-append before (g ∷ rest))
    ∙ (slice_get-right (types_in before) (g.types ++ types_in rest) k ∙ slice_get-left g.types (types_in rest) k h)

-- the groups, split at the one with a place
pub split_at : (gs : List RecGroup) (i : ℕ) (g : RecGroup) → i < length gs → g ≡ get_or gs i g → gs ≡ take i gs ++ g ∷ drop (suc i) gs
split_at gs i g h e = sym (take-append-drop i gs) ∙ ap (λ l. take i gs ++ l) (drop-cons gs i g h ∙ ap (λ x. x ∷ drop (suc i) gs) (sym e))

pub take_next : (gs : List RecGroup) (i : ℕ) (g : RecGroup) → i < length gs → g ≡ get_or gs i g → take (i + 1) gs ≡ take i gs ++ g ∷ []
take_next gs i g h e = take_more gs i g h ∙ ap (λ x. take i gs ++ x ∷ []) (sym e)

pub types_next : (gs : List RecGroup) (i : ℕ) (g : RecGroup) → i < length gs → g ≡ get_or gs i g → types_in (take (i + 1) gs) ≡ types_in (take i gs) ++ g.types
types_next gs i g h e = ap types_in (take_next gs i g h e) ∙ (types_in-append (take i gs) (g ∷ []) ∙ ap (λ l. types_in (take i gs) ++ l) (append-nil g.types))

pub length_next : (gs : List RecGroup) (i : ℕ) (g : RecGroup) → i < length gs → g ≡ get_or gs i g → length (types_in (take (i + 1) gs)) ≡ length (types_in (take i gs)) + length g.types
length_next gs i g h e = ap length (types_next gs i g h e) ∙ length-append (types_in (take i gs)) g.types

-- what holds of an index is said by its group
pub holds_at_group : (list : TypeList) (i : ℕ) (g : RecGroup) → i < length list.groups → g ≡ get_or list.groups i g → (k : ℕ) → k < length g.types →
    indices_hold_at list (length (types_in (take i list.groups)) + k) ≡ indices_hold (length (types_in (take i list.groups)) + length g.types) (length (types_in (take i list.groups)) + k) (slice_get g.types k)
unfolding indices_hold_at
holds_at_group list i g h e k l =
    let gs : List RecGroup = list.groups in
    let n : ℕ = length (types_in (take i gs)) in
    let s = split_at gs i g h e in
    ap₂ (λ m o. indices_hold m (n + k) o)
    (ap (λ x. group_end x (n + k)) s ∙ end_at (take i gs) g (drop (suc i) gs) k l)
    (ap (λ x. slice_get (types_in x) (n + k)) s ∙ type_at (take i gs) g (drop (suc i) gs) k l)

-- past the last type all indices hold
pub holds_past : (list : TypeList) (i : ℕ) → length (types_of list) ≤ i → indices_hold_at list i ≡ true
unfolding indices_hold_at
holds_past list i h = ap (indices_hold (group_end list.groups i) i) (slice_get_past (types_of list) i h)

from_each : {X : Type 0} (p : X → Bool) (xs : List X) → ((k : ℕ) (x : X) → slice_get xs k ≡ Some x → p x ≡ true) → list_all p xs ≡ true
from_each p [] h = refl
from_each p (x ∷ xs) h = λ i. h zero x refl i && from_each p xs (λ k y e. h (suc k) y e) i

-- the indices in a group are below its end
pub group_below : (list : TypeList) → IndicesHold list → (i : ℕ) (g : RecGroup) → i < length list.groups → g ≡ get_or list.groups i g →
    list_all (λ ty. all_below (length (types_in (take i list.groups)) + length g.types) (names ty)) g.types ≡ true
group_below list hold i g h e =
    from_each (λ ty. all_below (length (types_in (take i list.groups)) + length g.types) (names ty)) g.types
    (λ k ty f.
    let n : ℕ = length (types_in (take i list.groups)) in
    let l : k < length g.types = slice_get_within g.types k ty f in
    let a : indices_hold (n + length g.types) (n + k) (Some ty) ≡ true = sym (ap (indices_hold (n + length g.types) (n + k)) f) ∙ (sym (holds_at_group list i g h e k l) ∙ hold.at (n + k)) in
    left_of (all_below (n + length g.types) (names ty)) (nat_lt (length ty.supers) 2 && all_below (n + k) ty.supers) a)

pub close_on-append : (E : List Closed) (gs hs : List RecGroup) → close_on E (gs ++ hs) ≡ close_on (close_on E gs) hs
close_on-append E [] hs = refl
close_on-append E (g ∷ gs) hs = close_on-append (E ++ close_types E g.types) gs hs

pub close_next : (gs : List RecGroup) (i : ℕ) (g : RecGroup) → i < length gs → g ≡ get_or gs i g → close_on [] (take (i + 1) gs) ≡ close_on [] (take i gs) ++ close_types (close_on [] (take i gs)) g.types
close_next gs i g h e = ap (close_on []) (take_next gs i g h e) ∙ close_on-append [] (take i gs) (g ∷ [])

pub length-close_on : (E : List Closed) (gs : List RecGroup) → length (close_on E gs) ≡ length E + length (types_in gs)
length-close_on E [] = omega arith
length-close_on E (g ∷ gs) =
    length-close_on (E ++ close_types E g.types) gs
    ∙ (ap (λ n. n + length (types_in gs)) (length-append E (close_types E g.types) ∙ ap (λ n. length E + n) (length-positions (close_group E g.types) 0 (length g.types)))
    ∙ (omega arith ∙ ap (λ n. length E + n) (sym (length-append g.types (types_in gs)))))

pub length_below : (gs : List RecGroup) (i : ℕ) → length (types_in (take i gs)) ≤ length (types_in gs)
length_below gs i =
    let e : length (types_in gs) ≡ length (types_in (take i gs)) + length (types_in (drop i gs)) = ap (λ l. length (types_in l)) (sym (take-append-drop i gs)) ∙ (ap length (types_in-append (take i gs) (drop i gs)) ∙ length-append (types_in (take i gs)) (types_in (drop i gs))) in
    omega arith

-- one step of a walk over the groups, whose list and types are held in variables of their own
pub record Step (list : TypeList) (gs : List RecGroup) (i : ℕ) (g : RecGroup) (types : List SubType) (start : ℕ) : Type 0 where
  pub groups_are : gs ≡ list.groups
  pub at : i < length gs
  pub is : g ≡ get_or gs i g
  pub types_are : types ≡ g.types
  pub start_is : start ≡ length (types_in (take i gs))

module _ {list : TypeList} {gs : List RecGroup} {i : ℕ} {g : RecGroup} {types : List SubType} {start : ℕ} (step : Step list gs i g types start) where
  within : i < length list.groups
  within = let h = step.at in omega (arith, ap length step.groups_are)

  item : g ≡ get_or list.groups i g
  item = step.is ∙ ap (λ l. get_or l i g) step.groups_are

  pub begins : start ≡ length (types_in (take i list.groups))
  begins = step.start_is ∙ ap (λ l. length (types_in (take i l))) step.groups_are

  pub step_length : start + length types ≡ length (types_in (take (i + 1) gs))
  step_length = ap₂ (λ a b. a + length b) step.start_is step.types_are ∙ sym (length_next gs i g step.at step.is)

  pub step_fits : start + length types ≤ length (types_of list)
  step_fits = omega (arith, step_length, length_below gs (i + 1), ap (λ l. length (types_in l)) step.groups_are)

  pub step_holds : (k : ℕ) → k < length types → indices_hold_at list (start + k) ≡ indices_hold (start + length types) (start + k) (slice_get types k)
  step_holds k h =
      let l : k < length g.types = omega (arith, h, ap length step.types_are) in
      ap (λ n. indices_hold_at list (n + k)) begins
      ∙ (holds_at_group list i g within item k l
      ∙ (ap (λ n. indices_hold (n + length g.types) (n + k) (slice_get g.types k)) (sym begins)
      ∙ ap (λ l. indices_hold (start + length l) (start + k) (slice_get l k)) (sym step.types_are)))

  pub step_type : (k : ℕ) → k < length types → slice_get (types_of list) (start + k) ≡ slice_get types k
  step_type k h =
      let l : k < length g.types = omega (arith, h, ap length step.types_are) in
      let n : ℕ = length (types_in (take i list.groups)) in
      ap (λ m. slice_get (types_of list) (m + k)) begins
      ∙ (ap (λ x. slice_get (types_in x) (n + k)) (split_at list.groups i g within item)
      ∙ (type_at (take i list.groups) g (drop (suc i) list.groups) k l
      ∙ ap (λ x. slice_get x k) (sym step.types_are)))

  pub step_below : IndicesHold list → list_all (λ ty. all_below (start + length types) (names ty)) types ≡ true
  step_below hold =
      subst (λ l. list_all (λ ty. all_below (start + length l) (names ty)) l ≡ true) (sym step.types_are)
      (subst (λ n. list_all (λ ty. all_below (n + length g.types) (names ty)) g.types ≡ true) (sym begins) (group_below list hold i g within item))

  pub step_before : ((k : ℕ) → k < length types → indices_hold (start + length types) (start + k) (slice_get types k) ≡ true) → ((j : ℕ) → j < start → indices_hold_at list j ≡ true) → (j : ℕ) → j < start + length types → indices_hold_at list j ≡ true
  step_before here before j h =
      elim (cases_lt j start) as (λ _. indices_hold_at list j ≡ true) [
        | inl x ↦ before j x
        | inr x ↦
            let k : ℕ = j - start in
            let e : j ≡ start + k = omega arith in
            let l : k < length types = omega arith in
            ap (indices_hold_at list) e ∙ (step_holds k l ∙ here k l)
      ]

  pub step_bad : (ty : ℕ) → ((k : ℕ) × (k < length types) × (ty ≡ start + k) × (indices_hold (start + length types) (start + k) (slice_get types k) ≡ false) × ((j : ℕ) → j < k → indices_hold (start + length types) (start + j) (slice_get types j) ≡ true)) → ((j : ℕ) → j < start → indices_hold_at list j ≡ true) → IsFirstBadRef list ty
  step_bad ty w before = record {
    bad = ap (indices_hold_at list) w.2 ∙ (step_holds w.0 w.1 ∙ w.3);
    first = λ j h.
        elim (cases_lt j start) as (λ _. indices_hold_at list j ≡ true) [
          | inl x ↦ before j x
          | inr x ↦
              let k : ℕ = j - start in
              let e : j ≡ start + k = omega arith in
              let a = w.1 in
              let b = w.2 in
              let l : k < length types = omega arith in
              ap (indices_hold_at list) e ∙ (step_holds k l ∙ w.4 k (omega arith))
        ];
  }

-- the end of such a walk
pub all_types : (list : TypeList) (gs : List RecGroup) (i start : ℕ) → gs ≡ list.groups → length gs ≤ i → start ≡ length (types_in (take i gs)) → start ≡ length (types_of list)
all_types list gs i start e h s = s ∙ (ap (λ l. length (types_in l)) (take_all i gs h) ∙ ap (λ l. length (types_in l)) e)

pub all_hold : (list : TypeList) (gs : List RecGroup) (i start : ℕ) → gs ≡ list.groups → length gs ≤ i → start ≡ length (types_in (take i gs)) → ((j : ℕ) → j < start → indices_hold_at list j ≡ true) → IndicesHold list
all_hold list gs i start e h s before =
    let n = all_types list gs i start e h s in
    record {
      at = λ j. elim (cases_lt j start) as (λ _. indices_hold_at list j ≡ true) [ inl x ↦ before j x | inr x ↦ holds_past list j (omega arith) ];
    }
