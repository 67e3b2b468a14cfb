-- In a module within the limits no type has more than 63 supertypes above it.
use Rattle.std.proofs.Common.{ℕ, ◌<◌, ◌≤◌, ◌≡◌, refl, ap, ◌∙◌, sym, List, [], ◌∷◌, length, get_or, nat_lt, not, cond, Bool, true, false, Option, Some, None, arith, ltb-false, inl, inr}
use Rattle.std.specs.List.{AllByRecursion, range_with_len, position, position_or_len}
use Rattle.std.proofs.lemmas.Bool.{cases_lt}
use Rattle.std.proofs.lemmas.Option.{slice_get_past}
use Rattle.std.proofs.lemmas.List.Sums.{prefix_len_passes}
use Rattle.std.proofs.lemmas.List.FromFn.{get_or-range_with_len, length-range_with_len}
use Rattle.gu_types.specs.declared.types.SubType.{SubType}
use Rattle.gu_types.specs.Depth.{types_of, parent, smaller, first_super, depth}
use Rattle.gu_syntax.specs.declared.module.Module.{Module}
use Rattle.gu_read_parts.specs.declared.answer.Which.{Which}
use Rattle.gu_read.specs.Limits.{first_deeper, limits_on, exceeded_or, first_exceeded, exceeded}
use Rattle.gu_read.proofs.Depths.{depth_root}

row_holds : (which : Which) (o : Option ℕ) (later : Option (Which × ℕ)) → exceeded_or which o later ≡ None → o ≡ None
row_holds which None later h = refl
row_holds which (Some at) later h = cc

later_hold : (which : Which) (o : Option ℕ) (later : Option (Which × ℕ)) → exceeded_or which o later ≡ None → later ≡ None
later_hold which None later h = h
later_hold which (Some at) later h = cc

rows_hold : (rows : List (Which × Option ℕ)) → first_exceeded rows ≡ None → AllByRecursion (λ row. row.1 ≡ None) rows
rows_hold [] h = tt
rows_hold (row ∷ rows) h = (row_holds row.0 row.1 (first_exceeded rows) h, rows_hold rows (later_hold row.0 row.1 (first_exceeded rows) h))

depth_row : (types : List SubType) (m : Module) → first_exceeded (limits_on types m) ≡ None → first_deeper 63 types ≡ None
depth_row types m h = (rows_hold (limits_on types m) h).1.1.1.1.1.1.1.1.0

-- no item of a list passes where none is found
none_passes : {X : Type 0} (p : X → Bool) (xs : List X) (k : ℕ) (d : X) → position p xs ≡ None → k < length xs → p (get_or xs k d) ≡ false
none_passes p xs k d h below = untrue (p (get_or xs k d)) (prefix_len_passes (λ x. not (p x)) xs k d (all_before (position_or_len p xs) (length xs) h below refl))
  where
    untrue : (b : Bool) → not b ≡ true → b ≡ false
    untrue true e = cc
    untrue false e = refl

    by_test : (n most : ℕ) (b : Bool) → nat_lt n most ≡ b → cond b (Some n) None ≡ None → k < length xs → length xs ≡ most → k < n
    by_test n most true t e small is = cc
    by_test n most false t e small is = let over : most ≤ n = ltb-false n most t in omega arith

    all_before : (n most : ℕ) → cond (nat_lt n most) (Some n) None ≡ None → k < length xs → length xs ≡ most → k < n
    all_before n most e small is = by_test n most (nat_lt n most) refl e small is

not_deeper : (n : ℕ) → nat_lt 63 n ≡ false → n ≤ 63
not_deeper n h = ltb-false 63 n h

of_index : (types : List SubType) (i : ℕ) → first_deeper 63 types ≡ None → i < length types → depth types i ≤ 63
of_index types i h below =
    let at : get_or (range_with_len 0 (length types)) i 0 ≡ i = get_or-range_with_len 0 (length types) i 0 below ∙ omega arith in
    not_deeper (depth types i) (ap (λ k. nat_lt 63 (depth types k)) (sym at) ∙ none_passes (λ k. nat_lt 63 (depth types k)) (range_with_len 0 (length types)) i 0 h (omega (arith, length-range_with_len 0 (length types), below)))

-- an index that no type has
past : (types : List SubType) (i : ℕ) → length types ≤ i → depth types i ≤ 63
past types i over =
    let none : parent types i ≡ None = ap (λ ty. smaller i (first_super ty)) (slice_get_past types i over) in
    omega (arith, depth_root types i none)

pub types_are_shallow : (m : Module) → exceeded m ≡ None → (i : ℕ) → depth (types_of m.types) i ≤ 63
types_are_shallow m h i = elim (cases_lt i (length (types_of m.types))) [
  | inl below ↦ of_index (types_of m.types) i (depth_row (types_of m.types) m h) below
  | inr over ↦ past (types_of m.types) i over
]
