-- Subtyping where an index is of no type. No valid module has one; the definition still says what holds there.
use Rattle.std.proofs.Common.{ℕ, zero, suc, ◌≡◌, ◌+◌, ◌<◌, ◌≤◌, List, [], ◌∷◌, ◌++◌, ◌∙◌, ap, sym, refl, length, map, slice_get, Bool, true, false, not, ◌&&◌, ◌||◌, Option, Some, None, is_some, if◌then◌else◌, inl, inr, nat_lt, arith, length-append}
use Rattle.std.specs.List.{list_any}
use Rattle.std.proofs.lemmas.Bool.{cases_Bool}
use Rattle.std.proofs.lemmas.Option.{slice_get_past, slice_get_within}
use Rattle.gu_types.specs.declared.types.Comp.{Comp}
use Rattle.gu_types.specs.declared.types.Comp.TheVariants as C
use Rattle.gu_types.specs.declared.types.Abs.{Abs}
use Rattle.gu_types.specs.declared.types.Abs.TheVariants as A
use Rattle.gu_types.specs.declared.types.HeapType.{HeapType}
use Rattle.gu_types.specs.declared.types.HeapType.TheVariants as H
use Rattle.gu_types.specs.declared.types.RecGroup.{RecGroup}
use Rattle.gu_types.specs.declared.types.SubType.{SubType}
use Rattle.gu_types.specs.declared.types.TypeList.{TypeList}
use Rattle.gu_types.specs.declared.types.ValType.{ValType}
use Rattle.gu_types.specs.declared.types.ValType.TheVariants as V
use Rattle.gu_types.specs.Depth.{types_in, types_of, parent, smaller, first_super}
use Rattle.gu_rec.specs.Closed.{Closed, ClosedGroup, positions, close_group, close_types, close_on, closed_types, closed_type}
use Rattle.gu_rec.specs.Tests.{eq_found, same_type}
use Rattle.gu_rec.specs.Sub.{is_sub, IsHeapOf, IsValOf, kind_of, line, line_within, next_line, root_line, abs_line, same_heap}
use Rattle.gu_rec.proofs.Decided.{own_on}
use Rattle.gu_model.specs.Index.{comp_as}
use Rattle.gu_model.specs.TypingContext.{top_of_comp, is_valid_heap, is_valid_val}

length_positions : (g : ClosedGroup) (first count : ℕ) → length (positions g first count) ≡ count
length_positions g first zero = refl
length_positions g first (suc count) = ap suc (length_positions g (suc first) count)

length_close_on : (earlier : List Closed) (gs : List RecGroup) → length (close_on earlier gs) ≡ length earlier + length (types_in gs)
length_close_on earlier [] = omega arith
length_close_on earlier (g ∷ gs) =
    let rest = length_close_on (earlier ++ close_types earlier g.types) gs in
    let joined = length-append earlier (close_types earlier g.types) in
    let here = length_positions (close_group earlier g.types) zero (length g.types) in
    let types = length-append g.types (types_in gs) in
    omega (arith, rest, joined, here, types)

some_in : {X : Type 0} (xs : List X) (i : ℕ) → i < length xs → is_some (slice_get xs i) ≡ true
some_in [] i h = absurd (omega (arith, h))
some_in (x ∷ xs) zero h = refl
some_in (x ∷ xs) (suc i) h = some_in xs i (omega (arith, h))

not_found : (o : Option Closed) → is_some o ≡ true → (eq_found None o ≡ false) × (eq_found o None ≡ false)
not_found None h = absurd (let z : ⊥ = cc in z)
not_found (Some c) h = (refl, refl)

smaller_is : (i s : ℕ) (o : Option ℕ) → smaller i o ≡ Some s → s < i
smaller_is i s None h = absurd (let z : ⊥ = cc in z)
smaller_is i s (Some t) h = elim (cases_Bool (nat_lt t i)) [
  | inl before ↦ let e : Some t ≡ Some s = ap (λ b. if b then Some t else None) (sym before) ∙ h in let q : t ≡ s = cc in grind (arith, q, before)
  | inr behind ↦ absurd (let e : None ≡ Some s = ap (λ b. if b then Some t else None) (sym behind) ∙ h in let z : ⊥ = cc in z)
]

has_top : (c : Comp) → is_some (top_of_comp c) ≡ true
has_top (C.Func params results) = refl
has_top (C.Struct fields) = refl
has_top (C.Array field) = refl

clash : (b : Bool) → b ≡ true → b ≡ false → ⊥
clash b yes' no' = let z : ⊥ = grind (arith, yes', no') in z

within_on : (xs : List SubType) (i : ℕ) (o : Option SubType) → slice_get xs i ≡ o → is_some (comp_as top_of_comp o) ≡ true → i < length xs
within_on xs i None e h = absurd (let z : ⊥ = cc in z)
within_on xs i (Some ty) e h = slice_get_within xs i ty e

past_on : (xs : List SubType) (i : ℕ) (o : Option SubType) → slice_get xs i ≡ o → is_some (comp_as top_of_comp o) ≡ false → length xs ≤ i
past_on xs i None e h = elim (cases_Bool (nat_lt i (length xs))) [
  | inl before ↦ absurd (clash (is_some (slice_get xs i)) (some_in xs i (grind (arith, before))) (ap is_some e))
  | inr behind ↦ grind (arith, behind)
]
past_on xs i (Some ty) e h = absurd (clash (is_some (top_of_comp ty.comp)) (has_top ty.comp) h)

module _ (list : TypeList) where
  many : length (closed_types list) ≡ length (types_of list)
  unfolding closed_types
  many = length_close_on [] list.groups ∙ (let e : 0 + length (types_in list.groups) ≡ length (types_in list.groups) = omega arith in e)

  out : (i : ℕ) → length (types_of list) ≤ i → closed_type list i ≡ None
  unfolding closed_type
  out i h = slice_get_past (closed_types list) i (omega (arith, h, many))

  there : (i : ℕ) → i < length (types_of list) → is_some (closed_type list i) ≡ true
  unfolding closed_type
  there i h = some_in (closed_types list) i (omega (arith, h, many))

  -- a type and no type are not the same, and no type is the same as no type
  apart : (i j : ℕ) → i < length (types_of list) → length (types_of list) ≤ j → (same_type list j list i ≡ false) × (same_type list i list j ≡ false)
  unfolding same_type
  apart i j within past =
      let f = not_found (closed_type list i) (there i within) in
      (ap (λ (o : Option Closed). eq_found o (closed_type list i)) (out j past) ∙ f.0, ap (λ (o : Option Closed). eq_found (closed_type list i) o) (out j past) ∙ f.1)

  neither : (i j : ℕ) → length (types_of list) ≤ i → length (types_of list) ≤ j → same_type list j list i ≡ true
  unfolding same_type
  neither i j p q = ap (λ (o : Option Closed). eq_found (closed_type list j) o) (out i p) ∙ ap (λ (o : Option Closed). eq_found o None) (out j q)

  no_abs : (j : ℕ) (ks : List Abs) → list_any (same_heap list (H.Idx j)) (map H.Abs ks) ≡ false
  no_abs j [] = refl
  no_abs j (k ∷ ks) = no_abs j ks

  no_root : (j : ℕ) (o : Option SubType) → list_any (same_heap list (H.Idx j)) (root_line o) ≡ false
  no_root j None = refl
  no_root j (Some ty) = no_abs j (abs_line (kind_of ty.comp))

  mutual_line : (most i j : ℕ) → i < length (types_of list) → length (types_of list) ≤ j → list_any (same_heap list (H.Idx j)) (line_within most (types_of list) i) ≡ false
  mutual_line zero i j within past = ap (λ b. b || list_any (same_heap list (H.Idx j)) (root_line (slice_get (types_of list) i))) (apart i j within past).0 ∙ no_root j (slice_get (types_of list) i)
  mutual_line (suc most) i j within past =
      ap (λ b. b || list_any (same_heap list (H.Idx j)) (next_line (line_within most (types_of list)) (root_line (slice_get (types_of list) i)) (parent (types_of list) i))) (apart i j within past).0
      ∙ onward (λ k small. mutual_line most k j (omega (arith, small, within)) past) (parent (types_of list) i) refl
    where
      onward : ((k : ℕ) → k < i → list_any (same_heap list (H.Idx j)) (line_within most (types_of list) k) ≡ false) → (o : Option ℕ) → parent (types_of list) i ≡ o → list_any (same_heap list (H.Idx j)) (next_line (line_within most (types_of list)) (root_line (slice_get (types_of list) i)) o) ≡ false
      onward above None e = no_root j (slice_get (types_of list) i)
      onward above (Some k) e = above k (smaller_is i k (first_super (slice_get (types_of list) i)) e)

  bare_line : (most i : ℕ) → length (types_of list) ≤ i → line_within most (types_of list) i ≡ H.Idx i ∷ []
  bare_line zero i h = ap (λ (o : Option SubType). H.Idx i ∷ root_line o) (slice_get_past (types_of list) i h)
  bare_line (suc most) i h = ap (λ (o : Option SubType). H.Idx i ∷ next_line (line_within most (types_of list)) (root_line o) (smaller i (first_super o))) (slice_get_past (types_of list) i h)

  out_line : (i : ℕ) → length (types_of list) ≤ i → line list (H.Idx i) ≡ H.Idx i ∷ []
  unfolding line
  out_line i h = bare_line i i h

  from_abs : (k : Abs) (j : ℕ) → length (types_of list) ≤ j → is_sub list (H.Abs k) (H.Idx j) ≡ false
  unfolding is_sub line
  from_abs A.Bot j h = ap (λ (hs : List HeapType). list_any (same_heap list (H.Abs A.Any)) hs) (out_line j h)
  from_abs A.NoFunc j h = ap (λ (hs : List HeapType). list_any (same_heap list (H.Abs A.AnyFunc)) hs) (out_line j h)
  from_abs A.NoExtern j h = ap (λ (hs : List HeapType). list_any (same_heap list (H.Abs A.Extern)) hs) (out_line j h)
  from_abs A.NoExn j h = ap (λ (hs : List HeapType). list_any (same_heap list (H.Abs A.Exn)) hs) (out_line j h)
  from_abs A.Any j h = refl
  from_abs A.Eq j h = refl
  from_abs A.I31 j h = refl
  from_abs A.AnyStruct j h = refl
  from_abs A.AnyArray j h = refl
  from_abs A.AnyFunc j h = refl
  from_abs A.Extern j h = refl
  from_abs A.Exn j h = refl

  to_abs : (i : ℕ) (k : Abs) → length (types_of list) ≤ i → is_sub list (H.Idx i) (H.Abs k) ≡ false
  unfolding is_sub
  to_abs i k h = ap (λ (hs : List HeapType). list_any (same_heap list (H.Abs k)) hs) (out_line i h)

  to_out : (i j : ℕ) → i < length (types_of list) → length (types_of list) ≤ j → is_sub list (H.Idx i) (H.Idx j) ≡ false
  unfolding is_sub line
  to_out i j p q = mutual_line i i j p q

  from_out : (i j : ℕ) (b : Bool) → length (types_of list) ≤ i → same_type list j list i ≡ b → is_sub list (H.Idx i) (H.Idx j) ≡ b
  unfolding is_sub
  from_out i j b p e = ap (λ (hs : List HeapType). list_any (same_heap list (H.Idx j)) hs) (out_line i p) ∙ ap (λ c. c || false) e ∙ last b
    where
      last : (c : Bool) → c || false ≡ c
      last true = refl
      last false = refl

  pub in_range : (i : ℕ) → is_valid_heap list (H.Idx i) ≡ true → i < length (types_of list)
  in_range i h = within_on (types_of list) i (slice_get (types_of list) i) refl h

  past_range : (i : ℕ) → is_valid_heap list (H.Idx i) ≡ false → length (types_of list) ≤ i
  past_range i h = past_on (types_of list) i (slice_get (types_of list) i) refl h

  idx_stray : (i j : ℕ) (v w : Bool) → is_valid_heap list (H.Idx i) ≡ v → is_valid_heap list (H.Idx j) ≡ w → v && w ≡ false → is_sub list (H.Idx i) (H.Idx j) ≡ not v && not w
  idx_stray i j true true p q h = absurd (let z : ⊥ = cc in z)
  idx_stray i j true false p q h = to_out i j (in_range i p) (past_range j q)
  idx_stray i j false true p q h = from_out i j false (past_range i p) (apart j i (in_range j q) (past_range i p)).1
  idx_stray i j false false p q h = from_out i j true (past_range i p) (neither i j (past_range i p) (past_range j q))

  -- where one of two heap types is of no type, the first is below the second exactly where both are
  pub stray : (a b : HeapType) → is_valid_heap list a && is_valid_heap list b ≡ false → is_sub list a b ≡ not (is_valid_heap list a) && not (is_valid_heap list b)
  stray (H.Abs k) (H.Abs l) h = absurd (let z : ⊥ = cc in z)
  stray (H.Abs k) (H.Idx j) h = from_abs k j (past_range j h)
  stray (H.Idx i) (H.Abs l) h = one_stray (is_valid_heap list (H.Idx i)) refl h
    where
      one_stray : (v : Bool) → is_valid_heap list (H.Idx i) ≡ v → is_valid_heap list (H.Idx i) && true ≡ false → is_sub list (H.Idx i) (H.Abs l) ≡ not (is_valid_heap list (H.Idx i)) && false
      one_stray true e g = absurd (clash true refl (ap (λ b. b && true) (sym e) ∙ g))
      one_stray false e g = to_abs i l (past_range i e) ∙ ap (λ b. not b && false) (sym e)
  stray (H.Idx i) (H.Idx j) h = idx_stray i j _ _ refl refl h

  pub of_val : (t : ValType) → is_valid_val list t ≡ true → IsValOf list t
  of_val V.I32 h = tt
  of_val V.I64 h = tt
  of_val (V.Ref r) h = of_heap r.heap h
    where
      of_heap : (a : HeapType) → is_valid_heap list a ≡ true → IsHeapOf list a
      of_heap (H.Abs k) g = tt
      of_heap (H.Idx i) g = in_range i g

  -- a heap type is below itself
  pub itself : (a : HeapType) → is_sub list a a ≡ true
  unfolding is_sub line
  itself (H.Abs A.Any) = refl
  itself (H.Abs A.Eq) = refl
  itself (H.Abs A.I31) = refl
  itself (H.Abs A.AnyStruct) = refl
  itself (H.Abs A.AnyArray) = refl
  itself (H.Abs A.Bot) = refl
  itself (H.Abs A.AnyFunc) = refl
  itself (H.Abs A.NoFunc) = refl
  itself (H.Abs A.Extern) = refl
  itself (H.Abs A.NoExtern) = refl
  itself (H.Abs A.Exn) = refl
  itself (H.Abs A.NoExn) = refl
  itself (H.Idx i) = own_on list (H.Idx i)

  -- heap types that are alike are below each other
  pub alike : (a b : HeapType) → a ≡ b → is_sub list a b ≡ true
  alike a b e = ap (λ (c : HeapType). is_sub list a c) (sym e) ∙ itself a
