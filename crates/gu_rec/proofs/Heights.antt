-- The greatest distance from a heap type down.
use Rattle.std.proofs.Common.{◌≡◌, ℕ, zero, suc, ◌+◌, ◌<◌, ◌≤◌, ◌⊎◌, List, [], ◌∷◌, map, fold, max, length, Option, Some, None, unwrap_or, refl, ap, sym, ◌∙◌, subst, inl, inr, arith, slice_get, get_or, option_map, ap₂}
use Rattle.std.proofs.lemmas.Bool.{cases_lt}
use Rattle.std.proofs.lemmas.Option.{slice_get_cases, get_or_from_slice_get}
use Rattle.gu_types.specs.declared.types.Abs.{Abs}
use Rattle.gu_types.specs.declared.types.Abs.TheVariants as A
use Rattle.gu_types.specs.declared.types.Comp.{Comp}
use Rattle.gu_types.specs.declared.types.Comp.TheVariants as C
use Rattle.gu_types.specs.declared.types.SubType.{SubType}
use Rattle.gu_types.specs.declared.types.HeapType.{HeapType}
use Rattle.gu_types.specs.declared.types.HeapType.TheVariants as H
use Rattle.gu_types.specs.declared.types.TypeList.{TypeList}
use Rattle.gu_types.specs.Depth.{types_of, parent, depth}
use Rattle.gu_rec.specs.declared.types.Entry.{Entry}
use Rattle.gu_rec.specs.declared.height.Tops.{Tops}
use Rattle.gu_rec.specs.Tests.{eq_abs}
use Rattle.gu_rec.specs.Sub.{kind_of, abs_line, line, same_heap, distance, indices, height, IsNoBottom}
use Rattle.gu_rec.specs.Table.{place, kind_at, root_kind, EntriesAre}
use Rattle.gu_rec.specs.Heights.{abs_height, far, HeightTo, top_height, TopsAre}
use Rattle.gu_rec.proofs.Lines.{along, parent_below, kind_root, kind_step}
use Rattle.gu_rec.proofs.Places.{abs_far}
use Rattle.gu_rec.proofs.Queries.{distance_is}

module _ (f : HeapType → ℕ) where
  at_most : (first count a h : ℕ) → a ≤ h → ((i : ℕ) → i < first + count → f (H.Idx i) ≤ h) → fold max a (map f (indices first count)) ≤ h
  at_most first zero a h p each = p
  at_most first (suc count) a h p each = let e = each first (omega arith) in at_most (suc first) count (max a (f (H.Idx first))) h (omega arith) (λ i l. each i (omega arith))

  starts : (first count a : ℕ) → a ≤ fold max a (map f (indices first count))
  starts first zero a = omega arith
  starts first (suc count) a = let l = starts (suc first) count (max a (f (H.Idx first))) in omega arith

  has : (first count a i : ℕ) → first ≤ i → i < first + count → f (H.Idx i) ≤ fold max a (map f (indices first count))
  has first zero a i p q = absurd (omega arith)
  has first (suc count) a i p q =
      elim (cases_lt first i) as (λ _. f (H.Idx i) ≤ fold max a (map f (indices first (suc count)))) [
        | inl l ↦ has (suc first) count (max a (f (H.Idx first))) i (omega arith) (omega arith)
        | inr l ↦
            let e : i ≡ first = omega arith in
            let g : f (H.Idx i) ≡ f (H.Idx first) = ap (λ n. f (H.Idx n)) e in
            let u = starts (suc first) count (max a (f (H.Idx first))) in
            omega arith
      ]

-- how far the abstract heap types reach down
abbrev base : TypeList → HeapType → ℕ
base list above = fold max 0 (map (far list above) (map H.Abs (A.Any ∷ A.Eq ∷ A.I31 ∷ A.AnyStruct ∷ A.AnyArray ∷ A.AnyFunc ∷ A.Extern ∷ A.Exn ∷ [])))

base_is : (list : TypeList) (above : HeapType) → base list above ≡ abs_height above
unfolding distance line
base_is list (H.Abs A.Any) = refl
base_is list (H.Abs A.Eq) = refl
base_is list (H.Abs A.I31) = refl
base_is list (H.Abs A.AnyStruct) = refl
base_is list (H.Abs A.AnyArray) = refl
base_is list (H.Abs A.Bot) = refl
base_is list (H.Abs A.AnyFunc) = refl
base_is list (H.Abs A.NoFunc) = refl
base_is list (H.Abs A.Extern) = refl
base_is list (H.Abs A.NoExtern) = refl
base_is list (H.Abs A.Exn) = refl
base_is list (H.Abs A.NoExn) = refl
base_is list (H.Idx i) = refl

height_from : (list : TypeList) (above : HeapType) → height list above ≡ fold max (base list above) (map (far list above) (indices 0 (length (types_of list))))
unfolding height
height_from list above = refl

-- what bounds the distances and is one of them is the height
pub height_is : (list : TypeList) (above : HeapType) (count most : ℕ) → HeightTo list above count most → length (types_of list) ≤ count → most ≡ height list above
height_is list above count most to n =
    let b = base_is list above in
    let s = to.start in
    let u : fold max (base list above) (map (far list above) (indices 0 (length (types_of list)))) ≤ most = at_most (far list above) 0 (length (types_of list)) (base list above) most (omega arith) (λ i l. to.each i (omega arith)) in
    let v : most ≤ fold max (base list above) (map (far list above) (indices 0 (length (types_of list)))) = elim to.met as (λ _. most ≤ fold max (base list above) (map (far list above) (indices 0 (length (types_of list))))) [
      | inl e ↦ let l = starts (far list above) 0 (length (types_of list)) (base list above) in omega arith
      | inr w ↦ let g = w.2 in let k = w.1 in let l = has (far list above) 0 (length (types_of list)) (base list above) w.0 (omega arith) (omega arith) in omega arith
    ] in
    let e : most ≡ fold max (base list above) (map (far list above) (indices 0 (length (types_of list)))) = omega arith in
    e ∙ sym (height_from list above)

pub small_start : (most : ℕ) (top : Abs) → most ≡ abs_height (H.Abs top) → most ≤ 66
small_start most A.Any e = omega arith
small_start most A.Eq e = omega arith
small_start most A.I31 e = omega arith
small_start most A.AnyStruct e = omega arith
small_start most A.AnyArray e = omega arith
small_start most A.Bot e = omega arith
small_start most A.AnyFunc e = omega arith
small_start most A.NoFunc e = omega arith
small_start most A.Extern e = omega arith
small_start most A.NoExtern e = omega arith
small_start most A.Exn e = omega arith
small_start most A.NoExn e = omega arith

pub height_starts : (list : TypeList) (above : HeapType) → HeightTo list above 0 (abs_height above)
height_starts list above = record { start = omega arith; each = λ i l. absurd (omega arith); met = inl refl }

pub far_is : (list : TypeList) (above below : HeapType) (o : Option ℕ) → o ≡ place (same_heap list above) (line list below) → far list above below ≡ unwrap_or o 0
far_is list above below o e = ap (λ x. unwrap_or x 0) (distance_is list above below ∙ sym e)

-- one more type
one_more : (list : TypeList) (above : HeapType) (count most new : ℕ) → HeightTo list above count most → count < length (types_of list) → most ≤ new → far list above (H.Idx count) ≤ new → (new ≡ most) ⊎ (new ≡ far list above (H.Idx count)) → HeightTo list above (count + 1) new
one_more list above count most new to l p q w = record {
  start = let s = to.start in omega arith;
  each = λ i h. elim (cases_lt i count) as (λ _. far list above (H.Idx i) ≤ new) [
    | inl k ↦ let e = to.each i k in omega arith
    | inr k ↦ let e : i ≡ count = omega arith in subst (λ n. far list above (H.Idx n) ≤ new) (sym e) q
  ];
  met = elim w as (λ _. (new ≡ abs_height above) ⊎ ((i : ℕ) × (i < length (types_of list)) × (far list above (H.Idx i) ≡ new))) [
    | inl e ↦ subst (λ m. (m ≡ abs_height above) ⊎ ((i : ℕ) × (i < length (types_of list)) × (far list above (H.Idx i) ≡ m))) (sym e) to.met
    | inr e ↦ inr (count, l, sym e)
  ];
}

pub none_more : (list : TypeList) (above : HeapType) (count most : ℕ) (o : Option ℕ) → HeightTo list above count most → count < length (types_of list) → o ≡ place (same_heap list above) (line list (H.Idx count)) → unwrap_or o 0 ≤ most → HeightTo list above (count + 1) most
none_more list above count most o to l e p = let f = far_is list above (H.Idx count) o e in one_more list above count most most to l (omega arith) (omega arith) (inl refl)

pub some_more : (list : TypeList) (above : HeapType) (count most n : ℕ) → HeightTo list above count most → count < length (types_of list) → Some n ≡ place (same_heap list above) (line list (H.Idx count)) → most < n → HeightTo list above (count + 1) n
some_more list above count most n to l e p = let f = far_is list above (H.Idx count) (Some n) e in one_more list above count most n to l (omega arith) (omega arith) (inr (sym f))

-- each type stands below structures, arrays or functions
abbrev Rooted : Abs → Type 0
Rooted k = (k ≡ A.AnyStruct) ⊎ ((k ≡ A.AnyArray) ⊎ (k ≡ A.AnyFunc))

rooted : (types : List SubType) (i : ℕ) → i < length types → Rooted (root_kind types i)
rooted types = along types (λ i. i < length types → Rooted (root_kind types i)) at_root (λ i p e next h. let b = parent_below types i p e in subst Rooted (sym (kind_step types i p e)) (next (omega arith)))
  where
    by_comp : (comp : Comp) → Rooted (kind_of comp)
    by_comp (C.Func params results) = inr (inr refl)
    by_comp (C.Struct fields) = inl refl
    by_comp (C.Array field) = inr (inl refl)

    at_root : (i : ℕ) → parent types i ≡ None → i < length types → Rooted (root_kind types i)
    at_root i e h =
        elim (slice_get_cases types i).1 as (λ _. Rooted (root_kind types i)) [
          | inl w ↦ subst Rooted (sym (kind_root types i e ∙ ap kind_at w.2)) (by_comp w.0.comp)
          | inr w ↦ absurd (let l = w.0 in omega arith)
        ]

module _ (list : TypeList) where
  abbrev far_from : Abs → Abs → ℕ → ℕ
  far_from top kind deep = unwrap_or (option_map (λ k. suc deep + k) (place (eq_abs top) (abs_line kind))) 0

  far_of : (top kind : Abs) (i : ℕ) → i < length (types_of list) → root_kind (types_of list) i ≡ kind → far list (H.Abs top) (H.Idx i) ≡ far_from top kind (depth (types_of list) i)
  far_of top kind i h e = far_is list (H.Abs top) (H.Idx i) _ (sym (abs_far list top i h)) ∙ ap (λ k. far_from top k (depth (types_of list) i)) e

  abbrev Met : Abs → ℕ → Type 0
  Met top most = (most ≡ abs_height (H.Abs top)) ⊎ ((i : ℕ) × (i < length (types_of list)) × (far list (H.Abs top) (H.Idx i) ≡ most))

  pub eq_to : (count s a most : ℕ) → HeightTo list (H.Abs A.AnyStruct) count s → HeightTo list (H.Abs A.AnyArray) count a → count ≤ length (types_of list) → most ≡ max s a + 1 → HeightTo list (H.Abs A.Eq) count most
  eq_to count s a most structs arrays l m = record {
    start = omega arith;
    each = λ i h.
        let x = structs.each i h in
        let y = arrays.each i h in
        elim (rooted (types_of list) i (omega arith)) as (λ _. far list (H.Abs A.Eq) (H.Idx i) ≤ most) [
          | inl e ↦
              let f = far_of A.Eq A.AnyStruct i (omega arith) e in
              let g = far_of A.AnyStruct A.AnyStruct i (omega arith) e in
              omega arith
          | inr (inl e) ↦
              let f = far_of A.Eq A.AnyArray i (omega arith) e in
              let g = far_of A.AnyArray A.AnyArray i (omega arith) e in
              omega arith
          | inr (inr e) ↦ let f = far_of A.Eq A.AnyFunc i (omega arith) e in omega arith
        ];
    met = elim (cases_lt s a) as (λ _. Met A.Eq most) [ inl h ↦ by_arrays (omega arith) arrays.met | inr h ↦ by_structs (omega arith) structs.met ];
  }
    where
      by_structs : most ≡ s + 1 → Met A.AnyStruct s → Met A.Eq most
      by_structs n (inl e) = inl (omega arith)
      by_structs n (inr w) =
          let f = w.2 in
          elim (rooted (types_of list) w.0 w.1) as (λ _. Met A.Eq most) [
            | inl e ↦ let g = far_of A.AnyStruct A.AnyStruct w.0 w.1 e in let k = far_of A.Eq A.AnyStruct w.0 w.1 e in inr (w.0, w.1, omega arith)
            | inr (inl e) ↦ let g = far_of A.AnyStruct A.AnyArray w.0 w.1 e in inl (omega arith)
            | inr (inr e) ↦ let g = far_of A.AnyStruct A.AnyFunc w.0 w.1 e in inl (omega arith)
          ]

      by_arrays : most ≡ a + 1 → Met A.AnyArray a → Met A.Eq most
      by_arrays n (inl e) = inl (omega arith)
      by_arrays n (inr w) =
          let f = w.2 in
          elim (rooted (types_of list) w.0 w.1) as (λ _. Met A.Eq most) [
            | inl e ↦ let g = far_of A.AnyArray A.AnyStruct w.0 w.1 e in inl (omega arith)
            | inr (inl e) ↦ let g = far_of A.AnyArray A.AnyArray w.0 w.1 e in let k = far_of A.Eq A.AnyArray w.0 w.1 e in inr (w.0, w.1, omega arith)
            | inr (inr e) ↦ let g = far_of A.AnyArray A.AnyFunc w.0 w.1 e in inl (omega arith)
          ]

  one_further : (i : ℕ) → i < length (types_of list) → (far list (H.Abs A.Any) (H.Idx i) ≡ far list (H.Abs A.Eq) (H.Idx i) + 1) ⊎ ((far list (H.Abs A.Any) (H.Idx i) ≡ 0) × (far list (H.Abs A.Eq) (H.Idx i) ≡ 0))
  one_further i h =
      elim (rooted (types_of list) i h) as (λ _. (far list (H.Abs A.Any) (H.Idx i) ≡ far list (H.Abs A.Eq) (H.Idx i) + 1) ⊎ ((far list (H.Abs A.Any) (H.Idx i) ≡ 0) × (far list (H.Abs A.Eq) (H.Idx i) ≡ 0))) [
        | inl e ↦ let f = far_of A.Any A.AnyStruct i h e in let g = far_of A.Eq A.AnyStruct i h e in inl (omega arith)
        | inr (inl e) ↦ let f = far_of A.Any A.AnyArray i h e in let g = far_of A.Eq A.AnyArray i h e in inl (omega arith)
        | inr (inr e) ↦ inr (far_of A.Any A.AnyFunc i h e, far_of A.Eq A.AnyFunc i h e)
      ]

  pub any_to : (count e : ℕ) → HeightTo list (H.Abs A.Eq) count e → count ≤ length (types_of list) → HeightTo list (H.Abs A.Any) count (e + 1)
  any_to count e to l = record {
    start = let s = to.start in omega arith;
    each = λ i h.
        let x = to.each i h in
        elim (one_further i (omega arith)) as (λ _. far list (H.Abs A.Any) (H.Idx i) ≤ e + 1) [ inl f ↦ omega arith | inr w ↦ let f = w.0 in omega arith ];
    met = elim to.met as (λ _. Met A.Any (e + 1)) [
      | inl f ↦ inl (omega arith)
      | inr w ↦
          let g = w.2 in
          let s = to.start in
          elim (one_further w.0 w.1) as (λ _. Met A.Any (e + 1)) [ inl f ↦ inr (w.0, w.1, omega arith) | inr v ↦ absurd (let f = v.1 in omega arith) ]
    ];
  }

  none_to : (top : Abs) (count : ℕ) → abs_height (H.Abs top) ≡ 0 → far_from top A.AnyStruct ≡ (λ d. 0) → far_from top A.AnyArray ≡ (λ d. 0) → far_from top A.AnyFunc ≡ (λ d. 0) → count ≤ length (types_of list) → HeightTo list (H.Abs top) count 0
  none_to top count b s a f l = record {
    start = omega arith;
    each = λ i h.
        elim (rooted (types_of list) i (omega arith)) as (λ _. far list (H.Abs top) (H.Idx i) ≤ 0) [
          | inl e ↦ let g = far_of top A.AnyStruct i (omega arith) e ∙ ap (λ k. k (depth (types_of list) i)) s in omega arith
          | inr (inl e) ↦ let g = far_of top A.AnyArray i (omega arith) e ∙ ap (λ k. k (depth (types_of list) i)) a in omega arith
          | inr (inr e) ↦ let g = far_of top A.AnyFunc i (omega arith) e ∙ ap (λ k. k (depth (types_of list) i)) f in omega arith
        ];
    met = inl (sym b);
  }

  pub i31_to : (count : ℕ) → count ≤ length (types_of list) → HeightTo list (H.Abs A.I31) count 0
  i31_to count l = none_to A.I31 count refl refl refl refl l

  pub extern_to : (count : ℕ) → count ≤ length (types_of list) → HeightTo list (H.Abs A.Extern) count 0
  extern_to count l = none_to A.Extern count refl refl refl refl l

  pub exn_to : (count : ℕ) → count ≤ length (types_of list) → HeightTo list (H.Abs A.Exn) count 0
  exn_to count l = none_to A.Exn count refl refl refl refl l

pub read_some : {X : Type 0} (xs : List X) (i : ℕ) (d : X) → i < length xs → slice_get xs i ≡ Some (get_or xs i d)
read_some xs i d h =
    elim (slice_get_cases xs i).1 as (λ _. slice_get xs i ≡ Some (get_or xs i d)) [
      | inl w ↦ w.2 ∙ ap (λ x. Some x) (sym (get_or_from_slice_get xs i w.0 d w.2))
      | inr w ↦ absurd (let l = w.0 in omega arith)
    ]

pub entry_place : (list : TypeList) (entries : List Entry) (top : Abs) → EntriesAre (types_of list) entries → (i : ℕ) (d : Entry) (o : Option ℕ) → i < length entries → o ≡ option_map (λ k. suc (get_or entries i d).depth + k) (place (eq_abs top) (abs_line (get_or entries i d).kind)) → o ≡ place (same_heap list (H.Abs top)) (line list (H.Idx i))
entry_place list entries top are i d o h e =
    let x = are.at i (get_or entries i d) (read_some entries i d h) in
    let n = are.long in
    e ∙ sym (abs_far list top i (omega arith) ∙ ap₂ (λ m k. option_map (λ n. suc m + n) (place (eq_abs top) (abs_line k))) (sym x.depth_is) (sym x.kind_is))

pub top_is : (list : TypeList) (tops : Tops) → TopsAre list tops → (k : Abs) → IsNoBottom (H.Abs k) → top_height tops k ≡ height list (H.Abs k)
top_is list tops are A.Any e = are.any_is
top_is list tops are A.Eq e = are.eq_is
top_is list tops are A.I31 e = are.i31_is
top_is list tops are A.AnyStruct e = are.structs_is
top_is list tops are A.AnyArray e = are.arrays_is
top_is list tops are A.AnyFunc e = are.funcs_is
top_is list tops are A.Extern e = are.externs_is
top_is list tops are A.Exn e = are.exns_is
top_is list tops are A.Bot e = cc
top_is list tops are A.NoFunc e = cc
top_is list tops are A.NoExtern e = cc
top_is list tops are A.NoExn e = cc

abbrev pub Shallow : List Entry → Type 0
Shallow entries = (i : ℕ) (entry : Entry) → slice_get entries i ≡ Some entry → entry.depth ≤ 63

pub entries_shallow : (list : TypeList) (entries : List Entry) → EntriesAre (types_of list) entries → ((i : ℕ) → depth (types_of list) i ≤ 63) → Shallow entries
entries_shallow list entries are shallow i entry e = let x = are.at i entry e in let d = x.depth_is in let s = shallow i in omega arith
