-- One item more at the type of an item and at those above it.
use Rattle.std.proofs.Common.{◌≡◌, ℕ, suc, ◌<◌, ◌&&◌, ◌||◌, Bool, true, false, not, cond, List, [], ◌∷◌, ◌++◌, Option, Some, None, option_map, length, is_some, get_or, set, sym, refl, ap, ◌∙◌, subst, ⊎_elim, arith}
use Rattle.std.specs.Prelude.{nat_eq}
use Rattle.std.proofs.lemmas.Bool.{cases_Bool, eqb-true, eq-eqb}
use Rattle.std.proofs.lemmas.List.{get_or-set_other}
use Rattle.std.proofs.lemmas.Grind.{get_or-set_at}
use Rattle.gu_types.specs.declared.types.HeapType.TheVariants as H
use Rattle.gu_types.specs.Depth.{types_of, parent}
use Rattle.gu_rec.specs.Closed.{SameType}
use Rattle.gu_rec.specs.Tests.{same_type}
use Rattle.gu_rec.specs.Sub.{distance, same_heap, line}
use Rattle.gu_rec.specs.Table.{place}
use Rattle.gu_rec.proofs.Places.{index_root, index_step}
use Rattle.gu_rec.proofs.Queries.{distance_is}
use Rattle.gu_rec.proofs.Same.{same_type_decides}
use Rattle.gu_contents.specs.declared.facts.Facts.{Facts}
use Rattle.gu_contents.specs.Contents.{least_of}
use Rattle.gu_contents.proofs.Heaps.{distance_tall, step_tall, same_back, same_through}
use Rattle.gu_contents.proofs.Heights.{least_same, least_least}
use Rattle.gu_links.specs.Cells.{is_least}
use Rattle.gu_links.specs.Kept.{is_below}

same_bool : (a b : Bool) → (a ≡ true → b ≡ true) → (b ≡ true → a ≡ true) → a ≡ b
same_bool true b h k = sym (h refl)
same_bool false true h k = k refl
same_bool false false h k = refl

some_root : (t : Bool) → is_some (cond t (Some 0) (let o : Option ℕ = None in o)) ≡ t
some_root true = refl
some_root false = refl

some_suc : (o : Option ℕ) → is_some (option_map suc o) ≡ is_some o
some_suc None = refl
some_suc (Some n) = refl

some_step : (t : Bool) (o : Option ℕ) → is_some (cond t (Some 0) (option_map suc o)) ≡ (t || is_some o)
some_step true o = refl
some_step false o = some_suc o

found : (o : Option ℕ) → is_some o ≡ true → (k : ℕ) × (o ≡ Some k)
found None e = absurd (let bad : false ≡ true = e in cc)
found (Some k) e = (k, refl)

module _ (f : Facts) (h : ℕ) (least : is_least f.types h ≡ true) where
  own_is : (i : ℕ) → same_type f.types h f.types i ≡ nat_eq (least_of f.types i) h
  own_is i =
      let d = same_type_decides f.types f.types h i in
      let l = eqb-true (least_of f.types h) h least in
      same_bool (same_type f.types h f.types i) (nat_eq (least_of f.types i) h)
      (λ e.
      let s = d.0 e in
      let up = least_least f.types i h (same_back f.types h i s) in
      let down = least_least f.types h (least_of f.types i) (same_through f.types h i (least_of f.types i) s (least_same f.types i)) in
      eq-eqb (least_of f.types i) h (omega arith))
      (λ e. d.1 (subst (λ (j : ℕ). SameType f.types j f.types i) (eqb-true (least_of f.types i) h e) (same_back f.types i (least_of f.types i) (least_same f.types i))))

  pub below_root : (i : ℕ) → parent (types_of f.types) i ≡ None → is_below f.types h i ≡ nat_eq (least_of f.types i) h
  below_root i e = ap is_some (distance_is f.types (H.Idx h) (H.Idx i) ∙ index_root f.types h i e) ∙ some_root (same_type f.types h f.types i) ∙ own_is i

  pub below_step : (i p : ℕ) → parent (types_of f.types) i ≡ Some p → is_below f.types h i ≡ (nat_eq (least_of f.types i) h || is_below f.types h p)
  below_step i p e =
      ap is_some (distance_is f.types (H.Idx h) (H.Idx i) ∙ index_step f.types h i p e)
      ∙ some_step (same_type f.types h f.types i) (place (same_heap f.types (H.Idx h)) (line f.types (H.Idx p)))
      ∙ ap (λ o. same_type f.types h f.types i || is_some o) (sym (distance_is f.types (H.Idx h) (H.Idx p)))
      ∙ ap (λ b. b || is_below f.types h p) (own_is i)

  -- no type has its supertype's supertypes among its own names
  pub below_once : (i p : ℕ) → parent (types_of f.types) i ≡ Some p → is_below f.types h p ≡ true → nat_eq (least_of f.types i) h ≡ false
  below_once i p e b = ⊎_elim
      (λ (same : nat_eq (least_of f.types i) h ≡ true).
      let at : distance f.types (H.Idx h) (H.Idx i) ≡ Some 0 = distance_is f.types (H.Idx h) (H.Idx i) ∙ index_step f.types h i p e ∙ ap (λ (t : Bool). cond t (Some 0) (option_map suc (place (same_heap f.types (H.Idx h)) (line f.types (H.Idx p))))) (own_is i ∙ same) in
      let k = found (distance f.types (H.Idx h) (H.Idx p)) b in
      let here = distance_tall f.types f.hold (H.Idx h) (H.Idx i) 0 at in
      let there = distance_tall f.types f.hold (H.Idx h) (H.Idx p) k.0 k.1 in
      let up = step_tall f.types i p e in
      absurd (omega arith))
      (λ (other : nat_eq (least_of f.types i) h ≡ false). other)
      (cases_Bool (nat_eq (least_of f.types i) h))

pub or_false : (b : Bool) → (b || false) ≡ b
or_false true = refl
or_false false = refl

or_true : (b : Bool) → (b || true) ≡ true
or_true true = refl
or_true false = refl

-- what is above a supertype is above the type
pub below_up : (f : Facts) (h i p : ℕ) → parent (types_of f.types) i ≡ Some p → is_below f.types h p ≡ true → is_below f.types h i ≡ true
below_up f h i p e b =
    ap is_some (distance_is f.types (H.Idx h) (H.Idx i) ∙ index_step f.types h i p e)
    ∙ some_step (same_type f.types h f.types i) (place (same_heap f.types (H.Idx h)) (line f.types (H.Idx p)))
    ∙ ap (λ (c : Bool). same_type f.types h f.types i || c) (ap is_some (sym (distance_is f.types (H.Idx h) (H.Idx p))) ∙ b)
    ∙ or_true (same_type f.types h f.types i)

append_nil : (xs : List ℕ) → xs ++ [] ≡ xs
append_nil [] = refl
append_nil (x ∷ xs) = ap (λ ys. x ∷ ys) (append_nil xs)

-- one step up: the item is put at this type, and is then at all types from the first on up to it
pub advance : (e up at all : Bool) (item : ℕ) (first old new : List ℕ) → at ≡ (e || up) → (up ≡ true → e ≡ false) → (at ≡ true → all ≡ true)
    → old ≡ first ++ cond (all && not at) (item ∷ []) [] → new ≡ cond e (old ++ item ∷ []) old → new ≡ first ++ cond (all && not up) (item ∷ []) []
advance true true at all item first old new i once within o n = absurd (let bad : true ≡ false = once refl in cc)
advance true false at false item first old new i once within o n = absurd (let bad : false ≡ true = within i in cc)
advance true false true true item first old new i once within o n = n ∙ ap (λ (xs : List ℕ). xs ++ item ∷ []) (o ∙ append_nil first)
advance true false false true item first old new i once within o n = absurd (let bad : false ≡ true = i in cc)
advance false up at all item first old new i once within o n = n ∙ o ∙ ap (λ (b : Bool). first ++ cond (all && not b) (item ∷ []) []) i

pub put_here : (lists : List (List ℕ)) (own h item : ℕ) (new : List ℕ) → own < length lists → new ≡ get_or lists own [] ++ item ∷ []
    → get_or (set lists own new) h [] ≡ cond (nat_eq own h) (get_or lists h [] ++ item ∷ []) (get_or lists h [])
put_here lists own h item new lt e = ⊎_elim
    (λ (same : nat_eq own h ≡ true).
    let o = eqb-true own h same in
    get_or-set_at lists own h new [] (sym o) lt ∙ e ∙ ap (λ (i : ℕ). get_or lists i [] ++ item ∷ []) o
    ∙ sym (ap (λ b. cond b (get_or lists h [] ++ item ∷ []) (get_or lists h [])) same))
    (λ (other : nat_eq own h ≡ false).
    get_or-set_other lists own h new [] (λ s. let bad : true ≡ false = sym (eq-eqb own h (sym s)) ∙ other in cc)
    ∙ sym (ap (λ b. cond b (get_or lists h [] ++ item ∷ []) (get_or lists h [])) other))
    (cases_Bool (nat_eq own h))
