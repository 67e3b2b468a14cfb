-- What the check of supertypes reads of a list whose indices hold.
use Rattle.std.proofs.Common.{◌≡◌, ℕ, ◌+◌, ◌-◌, ◌<◌, ◌≤◌, Bool, true, false, ◌&&◌, List, [], ◌∷◌, ◌++◌, map, length, slice_get, nat_lt, if◌then◌else◌, Some, None, flat_map, get_or, option_map, Bor, refl, ap, sym, ◌∙◌, inl, inr, arith, length-append, lt-ltb, le-ltb, ltb-true}
use Rattle.std.specs.List.{list_all}
use Rattle.std.proofs.lemmas.Bool.{cases_lt}
use Rattle.std.proofs.lemmas.List.{length-map}
use Rattle.std.proofs.lemmas.Option.{slice_get-map, slice_get_read, slice_get_past}
use Rattle.std.proofs.lemmas.List.Folds.{list_all-append}
use Rattle.gu_types.specs.declared.types.ValType.{ValType}
use Rattle.gu_types.specs.declared.types.FieldType.{FieldType}
use Rattle.gu_types.specs.declared.types.Comp.{Comp}
use Rattle.gu_types.specs.declared.types.Comp.TheVariants as C
use Rattle.gu_types.specs.declared.types.SubType.{SubType}
use Rattle.gu_types.specs.declared.types.RecGroup.{RecGroup}
use Rattle.gu_types.specs.declared.types.TypeList.{TypeList}
use Rattle.gu_types.specs.Depth.{types_in, types_of}
use Rattle.gu_rec.specs.Names.{val_names, field_names, comp_names, names}
use Rattle.gu_rec.specs.Validity.{group_end, all_below, IndicesHold, may_extend, supers_hold, supers_hold_at, ValidTypes}
use Rattle.gu_rec.proofs.Same.{left_of, right_of}
use Rattle.gu_rec.proofs.Below.{list_all-flat_map}
use Rattle.gu_rec.proofs.Entries.{type_holds}

end_within : (gs : List RecGroup) (i : ℕ) → group_end gs i ≤ length (types_in gs)
end_within [] i = omega arith
end_within (g ∷ gs) i =
    let l : length (types_in (g ∷ gs)) ≡ length g.types + length (types_in gs) = length-append g.types (types_in gs) in
    elim (cases_lt i (length g.types)) as (λ _. group_end (g ∷ gs) i ≤ length (types_in (g ∷ gs))) [
      | inl h ↦
          let e : group_end (g ∷ gs) i ≡ length g.types = ap (λ b. if b then length g.types else length g.types + group_end gs (i - length g.types)) (lt-ltb i (length g.types) h) in
          omega arith
      | inr h ↦
          let e : group_end (g ∷ gs) i ≡ length g.types + group_end gs (i - length g.types) = ap (λ b. if b then length g.types else length g.types + group_end gs (i - length g.types)) (le-ltb i (length g.types) h) in
          let n = end_within gs (i - length g.types) in
          omega arith
    ]

below_more : (e n : ℕ) (xs : List ℕ) → e ≤ n → all_below e xs ≡ true → all_below n xs ≡ true
below_more e n [] h t = refl
below_more e n (x ∷ xs) h t =
    let a = ltb-true x e (left_of (nat_lt x e) (all_below e xs) t) in
    λ i. lt-ltb x n (omega arith) i && below_more e n xs h (right_of (nat_lt x e) (all_below e xs) t) i

-- the indices in a type name types of the module
pub comp_below : (list : TypeList) → IndicesHold list → (i : ℕ) (ty : SubType) → slice_get (types_of list) i ≡ Some ty → all_below (length (types_of list)) (comp_names ty.comp) ≡ true
comp_below list hold i ty e =
    let n : ℕ = length (types_of list) in
    let h = type_holds list hold i ty e in
    let a = below_more (group_end list.groups i) n (names ty) (end_within list.groups i) h.names_below in
    right_of (all_below n ty.supers) (all_below n (comp_names ty.comp)) (sym (list_all-append (λ x. nat_lt x n) ty.supers (comp_names ty.comp)) ∙ a)

no_super : (list : TypeList) (ty : SubType) (xs : List ℕ) → slice_get xs 0 ≡ None → list_all (λ s. may_extend list ty (slice_get (types_of list) s)) xs ≡ true
no_super list ty [] e = refl
no_super list ty (x ∷ xs) e = cc

one_super : (list : TypeList) (ty above : SubType) (xs : List ℕ) (s : ℕ) → length xs < 2 → slice_get xs 0 ≡ Some s → slice_get (types_of list) s ≡ Some above → list_all (λ t. may_extend list ty (slice_get (types_of list) t)) xs ≡ may_extend list ty (Some above)
one_super list ty above [] s h e f = cc
one_super list ty above (x ∷ []) s h e f =
    let g : x ≡ s = cc in
    ap (λ t. may_extend list ty (slice_get (types_of list) t) && true) g ∙ (ap (λ o. may_extend list ty o && true) f ∙ and_true (may_extend list ty (Some above)))
  where
    and_true : (b : Bool) → (b && true) ≡ b
    and_true true = refl
    and_true false = refl
one_super list ty above (x ∷ y ∷ xs) s h e f = absurd (omega arith)

pub holds_alone : (list : TypeList) (i : ℕ) (ty : SubType) → slice_get (types_of list) i ≡ Some ty → slice_get ty.supers 0 ≡ None → supers_hold_at list i ≡ true
unfolding supers_hold_at
holds_alone list i ty e n = ap (supers_hold list) e ∙ no_super list ty ty.supers n

pub holds_below : (list : TypeList) → IndicesHold list → (i s : ℕ) (ty above : SubType) → slice_get (types_of list) i ≡ Some ty → slice_get ty.supers 0 ≡ Some s → slice_get (types_of list) s ≡ Some above → supers_hold_at list i ≡ may_extend list ty (Some above)
unfolding supers_hold_at
holds_below list hold i s ty above e n f = ap (supers_hold list) e ∙ (let h = type_holds list hold i ty e in one_super list ty above ty.supers s h.few n f)

pub holds_past : (list : TypeList) (i : ℕ) → slice_get (types_of list) i ≡ None → supers_hold_at list i ≡ true
unfolding supers_hold_at
holds_past list i e = ap (supers_hold list) e

-- the indices in the parts of a composite type
pub func_params : (n : ℕ) (a : Comp) (ps rs : List ValType) → a ≡ C.Func ps rs → all_below n (comp_names a) ≡ true → list_all (λ ty. all_below n (val_names ty)) ps ≡ true
func_params n a ps rs e h =
    let t : all_below n (flat_map val_names ps ++ flat_map val_names rs) ≡ true = ap (λ x. all_below n (comp_names x)) (sym e) ∙ h in
    sym (list_all-flat_map (λ i. nat_lt i n) val_names ps)
    ∙ left_of (all_below n (flat_map val_names ps)) (all_below n (flat_map val_names rs)) (sym (list_all-append (λ i. nat_lt i n) (flat_map val_names ps) (flat_map val_names rs)) ∙ t)

pub func_results : (n : ℕ) (a : Comp) (ps rs : List ValType) → a ≡ C.Func ps rs → all_below n (comp_names a) ≡ true → list_all (λ ty. all_below n (val_names ty)) rs ≡ true
func_results n a ps rs e h =
    let t : all_below n (flat_map val_names ps ++ flat_map val_names rs) ≡ true = ap (λ x. all_below n (comp_names x)) (sym e) ∙ h in
    sym (list_all-flat_map (λ i. nat_lt i n) val_names rs)
    ∙ right_of (all_below n (flat_map val_names ps)) (all_below n (flat_map val_names rs)) (sym (list_all-append (λ i. nat_lt i n) (flat_map val_names ps) (flat_map val_names rs)) ∙ t)

pub struct_fields : (n : ℕ) (a : Comp) (fs : List FieldType) → a ≡ C.Struct fs → all_below n (comp_names a) ≡ true → list_all (λ field. all_below n (field_names field)) fs ≡ true
struct_fields n a fs e h = sym (list_all-flat_map (λ i. nat_lt i n) field_names fs) ∙ (ap (λ x. all_below n (comp_names x)) (sym e) ∙ h)

-- a type that is read in the table of all types
pub flat_read : (types : List SubType) (flat : List (Bor SubType)) (i : ℕ) (ty : Bor SubType) → map (λ t. t.now) flat ≡ types → i < length flat → ty ≡ get_or flat i ty → slice_get types i ≡ Some ty.now
flat_read types flat i ty e h r =
    ap (λ l. slice_get l i) (sym e) ∙ (slice_get-map (λ (t : Bor SubType). t.now) flat i ∙ ap (option_map (λ (t : Bor SubType). t.now)) (slice_get_read flat (length flat) i ty refl h r))

-- every type may declare what it declares where each one in the table may
pub all_hold : (list : TypeList) (flat : List (Bor SubType)) (n : ℕ) → IndicesHold list → map (λ t. t.now) flat ≡ types_of list → length flat ≤ n → ((j : ℕ) → j < n → supers_hold_at list j ≡ true) → ValidTypes list
all_hold list flat n hold e l before = record {
  indices = hold;
  supers = λ j.
      elim (cases_lt j n) as (λ _. supers_hold_at list j ≡ true) [
        | inl h ↦ before j h
        | inr h ↦
            let m : length (types_of list) ≡ length flat = ap length (sym e) ∙ length-map flat (λ (t : Bor SubType). t.now) in
            holds_past list j (slice_get_past (types_of list) j (omega arith))
      ];
}
