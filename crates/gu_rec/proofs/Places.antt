-- Places on a line, and whether two indices are found the same.
use Rattle.std.proofs.Common.{◌≡◌, ℕ, suc, ◌+◌, ◌<◌, Bool, true, false, not, cond, ◌||◌, List, [], ◌∷◌, map, length, get_or, slice_get, nat_lt, nat_eq, if◌then◌else◌, Option, Some, None, option_map, is_some, position, refl, ap, ap₂, sym, ◌∙◌, inl, inr, arith, lt-ltb, le-ltb}
use Rattle.std.specs.List.{position_or_len, list_any}
use Rattle.std.proofs.lemmas.Bool.{cases_lt}
use Rattle.std.proofs.lemmas.Option.{slice_get_cases}
use Rattle.std.specs.Bool.{one_answer}
use Rattle.gu_types.specs.declared.types.Abs.{Abs}
use Rattle.gu_types.specs.declared.types.HeapType.TheVariants as H
use Rattle.gu_types.specs.declared.types.SubType.{SubType}
use Rattle.gu_types.specs.declared.types.TypeList.{TypeList}
use Rattle.gu_types.specs.Depth.{types_of, parent, depth}
use Rattle.gu_rec.specs.Closed.{SameType, closed_type}
use Rattle.gu_rec.specs.Tests.{eq_abs, same_type}
use Rattle.gu_rec.specs.Keys.{LeastIndices}
use Rattle.gu_rec.specs.Sub.{kind_of, abs_line, root_line, line, same_heap}
use Rattle.gu_rec.specs.Table.{kind_at, root_kind, place}
use Rattle.gu_rec.proofs.Same.{same_type_decides, numbers_tell, tells_decides}
use Rattle.gu_rec.proofs.Lines.{parent_below, along, line_root, line_step, kind_root, kind_step, depth_root, depth_step}

abbrev first_place : (q n : ℕ) → Option ℕ
first_place q n = cond (nat_lt q n) (Some q) None

one_on : (q n : ℕ) → first_place (1 + q) (suc n) ≡ option_map suc (first_place q n)
one_on q n =
    elim (cases_lt q n) as (λ _. first_place (1 + q) (suc n) ≡ option_map suc (first_place q n)) [
      | inl h ↦ ap (λ b. cond b (Some (1 + q)) None) (lt-ltb (1 + q) (suc n) (omega arith)) ∙ (ap (λ m. Some m) (omega arith) ∙ ap (λ b. option_map suc (cond b (Some q) None)) (sym (lt-ltb q n h)))
      | inr h ↦ ap (λ b. cond b (Some (1 + q)) None) (le-ltb (1 + q) (suc n) (omega arith)) ∙ ap (λ b. option_map suc (cond b (Some q) None)) (sym (le-ltb q n h))
    ]

pub place_is : {X : Type 0} (p : X → Bool) (xs : List X) → position p xs ≡ place p xs
place_is p [] = refl
place_is p (x ∷ xs) = by_test (p x) ∙ ap (λ o. if p x then Some 0 else option_map suc o) (place_is p xs)
  where
    by_test : (b : Bool) → first_place (cond (not b) (1 + position_or_len p xs) 0) (suc (length xs)) ≡ (if b then Some 0 else option_map suc (position p xs))
    by_test true = ap (λ t. cond t (Some 0) None) (lt-ltb 0 (suc (length xs)) (omega arith))
    by_test false = one_on (position_or_len p xs) (length xs)

pub any_is : {X : Type 0} (p : X → Bool) (xs : List X) → list_any p xs ≡ is_some (place p xs)
any_is p [] = refl
any_is p (x ∷ xs) = by_test (p x) (any_is p xs)
  where
    some_map : (o : Option ℕ) → is_some (option_map suc o) ≡ is_some o
    some_map None = refl
    some_map (Some n) = refl

    by_test : (b : Bool) → list_any p xs ≡ is_some (place p xs) → (b || list_any p xs) ≡ is_some (if b then Some 0 else option_map suc (place p xs))
    by_test true h = refl
    by_test false h = h ∙ sym (some_map (place p xs))

-- the same type has the same least index
pub same_is : (list : TypeList) (least : List ℕ) → LeastIndices list least → (i j : ℕ) → i < length least → j < length least → same_type list i list j ≡ nat_eq (get_or least i 0) (get_or least j 0)
unfolding SameType
same_is list least table i j h k =
    one_answer (same_type list i list j) (nat_eq (get_or least i 0) (get_or least j 0))
    (same_type_decides list list i j)
    (let d = tells_decides numbers_tell (get_or least i 0) (get_or least j 0) in (
      λ e. table.same i h ∙ (ap (closed_type list) (d.0 e) ∙ sym (table.same j k)),
      λ s. d.1 (let a = table.least i (get_or least j 0) h (s ∙ table.same j k) in let b = table.least j (get_or least i 0) k (sym s ∙ table.same i h) in omega arith),
    ))

pub no_index : (list : TypeList) (t : ℕ) (ks : List Abs) → place (same_heap list (H.Idx t)) (map H.Abs ks) ≡ None
no_index list t [] = refl
no_index list t (k ∷ ks) = ap (option_map suc) (no_index list t ks)

no_root : (list : TypeList) (t : ℕ) (o : Option SubType) → place (same_heap list (H.Idx t)) (root_line o) ≡ None
no_root list t None = refl
no_root list t (Some ty) = no_index list t (abs_line (kind_of ty.comp))

-- an index on the line of another, one step at a time
pub index_root : (list : TypeList) (t x : ℕ) → parent (types_of list) x ≡ None → place (same_heap list (H.Idx t)) (line list (H.Idx x)) ≡ (if same_type list t list x then Some 0 else None)
index_root list t x e =
    ap (place (same_heap list (H.Idx t))) (line_root list x e)
    ∙ ap (λ o. if same_type list t list x then Some 0 else option_map suc o) (no_root list t (slice_get (types_of list) x))

pub index_step : (list : TypeList) (t x p : ℕ) → parent (types_of list) x ≡ Some p → place (same_heap list (H.Idx t)) (line list (H.Idx x)) ≡ (if same_type list t list x then Some 0 else option_map suc (place (same_heap list (H.Idx t)) (line list (H.Idx p))))
index_step list t x p e = ap (place (same_heap list (H.Idx t))) (line_step list x p e)

pub abs_place : (list : TypeList) (a : Abs) (ks : List Abs) → place (same_heap list (H.Abs a)) (map H.Abs ks) ≡ place (eq_abs a) ks
abs_place list a [] = refl
abs_place list a (k ∷ ks) = ap (λ o. if eq_abs a k then Some 0 else option_map suc o) (abs_place list a ks)

pub roots_are : (list : TypeList) (i : ℕ) → i < length (types_of list) → root_line (slice_get (types_of list) i) ≡ map H.Abs (abs_line (kind_at (slice_get (types_of list) i)))
roots_are list i h =
    by_type (slice_get (types_of list) i) ((elim (slice_get_cases (types_of list) i).1 as (λ _. (ty : SubType) × (slice_get (types_of list) i ≡ Some ty)) [ inl w ↦ (w.0, w.2) | inr w ↦ absurd (let z = w.0 in omega arith) ]))
  where
    by_type : (o : Option SubType) → ((ty : SubType) × (o ≡ Some ty)) → root_line o ≡ map H.Abs (abs_line (kind_at o))
    by_type None w = absurd (let e = w.1 in cc)
    by_type (Some ty) w = refl

map_further : (n : ℕ) (o : Option ℕ) → option_map suc (option_map (λ k. n + k) o) ≡ option_map (λ k. suc n + k) o
map_further n None = refl
map_further n (Some k) = ap (λ m. Some m) (omega arith)

map_one : (o : Option ℕ) → option_map suc o ≡ option_map (λ k. 1 + k) o
map_one None = refl
map_one (Some k) = ap (λ m. Some m) (omega arith)

-- an abstract heap type on the line of a type stands behind all the supertypes there
pub abs_far : (list : TypeList) (a : Abs) (i : ℕ) → i < length (types_of list) → place (same_heap list (H.Abs a)) (line list (H.Idx i)) ≡ option_map (λ k. suc (depth (types_of list) i) + k) (place (eq_abs a) (abs_line (root_kind (types_of list) i)))
abs_far list a = along (types_of list)
    (λ i. i < length (types_of list) → place (same_heap list (H.Abs a)) (line list (H.Idx i)) ≡ option_map (λ k. suc (depth (types_of list) i) + k) (place (eq_abs a) (abs_line (root_kind (types_of list) i))))
    (λ i e h.
    ap (place (same_heap list (H.Abs a))) (line_root list i e)
    ∙ (ap (λ l. option_map suc (place (same_heap list (H.Abs a)) l)) (roots_are list i h)
    ∙ (ap (option_map suc) (abs_place list a (abs_line (kind_at (slice_get (types_of list) i))))
    ∙ (map_one (place (eq_abs a) (abs_line (kind_at (slice_get (types_of list) i))))
    ∙ ap₂ (λ d k. option_map (λ n. suc d + n) (place (eq_abs a) (abs_line k))) (sym (depth_root (types_of list) i e)) (sym (kind_root (types_of list) i e))))))
    (λ i p e next h.
    let b = parent_below (types_of list) i p e in
    ap (place (same_heap list (H.Abs a))) (line_step list i p e)
    ∙ (ap (option_map suc) (next (omega arith))
    ∙ (map_further (suc (depth (types_of list) p)) (place (eq_abs a) (abs_line (root_kind (types_of list) p)))
    ∙ ap₂ (λ d k. option_map (λ n. suc d + n) (place (eq_abs a) (abs_line k))) (sym (depth_step (types_of list) i p e)) (sym (kind_step (types_of list) i p e)))))
