-- What is kept of each type, one type after another.
use Rattle.std.proofs.Common.{◌≡◌, ℕ, suc, ◌+◌, ◌<◌, true, ◌&&◌, List, [], ◌∷◌, ◌++◌, length, slice_get, get_or, nat_lt, if◌then◌else◌, Option, Some, None, refl, ap, sym, ◌∙◌, subst, inl, inr, arith, ltb-true, length-append}
use Rattle.std.proofs.lemmas.Bool.{cases_lt}
use Rattle.std.proofs.lemmas.Option.{slice_get_within, slice_get_read}
use Rattle.gu_types.specs.declared.types.SubType.{SubType}
use Rattle.gu_types.specs.declared.types.RecGroup.{RecGroup}
use Rattle.gu_types.specs.declared.types.TypeList.{TypeList}
use Rattle.gu_types.specs.Depth.{types_of, parent, smaller, first_of, first_super}
use Rattle.gu_rec.specs.declared.types.Entry.{Entry}
use Rattle.gu_rec.specs.Names.{names}
use Rattle.gu_rec.specs.Validity.{group_end, all_below, indices_hold, indices_hold_at, IndicesHold}
use Rattle.gu_rec.specs.Table.{kind_at, EntryIs, EntriesAre, SoFar, EntryFrom}
use Rattle.gu_rec.proofs.Same.{left_of, right_of}
use Rattle.gu_rec.proofs.Lines.{depth_root, depth_step, kind_root, kind_step}
use Rattle.gu_rec.proofs.Numbers.{slice_get-left, slice_get-right}
use Rattle.gu_rec.proofs.Groups.{Step, step_type}

-- what holds of the indices in a type
pub record TypeHolds (end i : ℕ) (ty : SubType) : Type 0 where
  pub names_below : all_below end (names ty) ≡ true
  pub few : length ty.supers < 2
  pub supers_below : all_below i ty.supers ≡ true

pub type_holds : (list : TypeList) → IndicesHold list → (i : ℕ) (ty : SubType) → slice_get (types_of list) i ≡ Some ty → TypeHolds (group_end list.groups i) i ty
unfolding indices_hold_at
type_holds list hold i ty e =
    let n : ℕ = group_end list.groups i in
    let h : indices_hold n i (Some ty) ≡ true = ap (indices_hold n i) (sym e) ∙ hold.at i in
    let r : (nat_lt (length ty.supers) 2 && all_below i ty.supers) ≡ true = right_of (all_below n (names ty)) (nat_lt (length ty.supers) 2 && all_below i ty.supers) h in
    record {
      names_below = left_of (all_below n (names ty)) (nat_lt (length ty.supers) 2 && all_below i ty.supers) h;
      few = ltb-true (length ty.supers) 2 (left_of (nat_lt (length ty.supers) 2) (all_below i ty.supers) r);
      supers_below = right_of (nat_lt (length ty.supers) 2) (all_below i ty.supers) r;
    }

first_below : (i : ℕ) (xs : List ℕ) (s : ℕ) → all_below i xs ≡ true → slice_get xs 0 ≡ Some s → s < i
first_below i [] s h e = cc
first_below i (x ∷ xs) s h e = let f : x ≡ s = cc in let g = ltb-true x i (left_of (nat_lt x i) (all_below i xs) h) in omega arith

first_parent : (i : ℕ) (xs : List ℕ) → all_below i xs ≡ true → smaller i (first_of xs) ≡ slice_get xs 0
first_parent i [] h = refl
first_parent i (x ∷ xs) h = ap (λ b. if b then Some x else None) (left_of (nat_lt x i) (all_below i xs) h)

-- the declared supertype, where the indices hold
pub parent_is : (list : TypeList) → IndicesHold list → (i : ℕ) (ty : SubType) → slice_get (types_of list) i ≡ Some ty → parent (types_of list) i ≡ slice_get ty.supers 0
parent_is list hold i ty e =
    let h = type_holds list hold i ty e in
    ap (λ o. smaller i (first_super o)) e ∙ first_parent i ty.supers h.supers_below

pub super_before : (list : TypeList) → IndicesHold list → (i : ℕ) (ty : SubType) → slice_get (types_of list) i ≡ Some ty → (s : ℕ) → slice_get ty.supers 0 ≡ Some s → s < i
super_before list hold i ty e s f = let h = type_holds list hold i ty e in first_below i ty.supers s h.supers_below f

entry_root : (types : List SubType) (i : ℕ) (ty : SubType) (entries : List Entry) (entry : Entry) → slice_get types i ≡ Some ty → parent types i ≡ None → EntryFrom ty entries None entry → EntryIs types i entry
entry_root types i ty entries entry e p w = record {
  parent_is = ap (λ (x : Entry). x.parent) w ∙ sym p;
  kind_is = ap (λ (x : Entry). x.kind) w ∙ (ap kind_at (sym e) ∙ sym (kind_root types i p));
  depth_is = ap (λ (x : Entry). x.depth) w ∙ sym (depth_root types i p);
}

entry_on : (types : List SubType) (i s : ℕ) (ty : SubType) (entries : List Entry) (entry : Entry) → ((j : ℕ) (x : Entry) → slice_get entries j ≡ Some x → EntryIs types j x) → parent types i ≡ Some s → EntryFrom ty entries (Some s) entry → EntryIs types i entry
entry_on types i s ty entries entry at p w =
    let u = at s w.0 w.1 in
    record {
      parent_is = ap (λ (x : Entry). x.parent) w.2 ∙ sym p;
      kind_is = ap (λ (x : Entry). x.kind) w.2 ∙ (u.kind_is ∙ sym (kind_step types i s p));
      depth_is = ap (λ (x : Entry). x.depth) w.2 ∙ (ap suc u.depth_is ∙ sym (depth_step types i s p));
    }

entry_is : (types : List SubType) (i : ℕ) (ty : SubType) (entries : List Entry) (entry : Entry) (o : Option ℕ) → ((j : ℕ) (x : Entry) → slice_get entries j ≡ Some x → EntryIs types j x) → slice_get types i ≡ Some ty → parent types i ≡ o → EntryFrom ty entries o entry → EntryIs types i entry
entry_is types i ty entries entry None at e p w = entry_root types i ty entries entry e p w
entry_is types i ty entries entry (Some s) at e p w = entry_on types i s ty entries entry at p w

pub entry_next : (list : TypeList) → IndicesHold list → (i : ℕ) (ty : SubType) (entries : List Entry) (entry : Entry) → slice_get (types_of list) i ≡ Some ty → SoFar (types_of list) i entries → EntryFrom ty entries (slice_get ty.supers 0) entry → SoFar (types_of list) (i + 1) (entries ++ entry ∷ [])
entry_next list hold i ty entries entry e so w = record {
  long = length-append entries (entry ∷ []) ∙ ap (λ n. n + 1) so.long;
  at = λ j x s.
      let bound = slice_get_within (entries ++ entry ∷ []) j x s in
      let l = length-append entries (entry ∷ []) in
      let n = so.long in
      elim (cases_lt j (length entries)) as (λ _. EntryIs (types_of list) j x) [
        | inl h ↦ so.at j x (sym (slice_get-left entries (entry ∷ []) j h) ∙ s)
        | inr h ↦
            let k : j ≡ length entries + 0 = omega arith in
            let t : Some entry ≡ Some x = sym (slice_get-right entries (entry ∷ []) 0) ∙ (ap (slice_get (entries ++ entry ∷ [])) (sym k) ∙ s) in
            let f : entry ≡ x = cc in
            let g : i ≡ j = omega arith in
            subst (λ y. EntryIs (types_of list) j y) f (subst (λ m. EntryIs (types_of list) m entry) g
            (entry_is (types_of list) i ty entries entry (slice_get ty.supers 0) so.at e (parent_is list hold i ty e) w))
      ];
}

-- a type that is read in a walk over a group that is read in a walk over the groups
pub type_read : {list : TypeList} {gs : List RecGroup} {i : ℕ} {g : RecGroup} {types : List SubType} {start : ℕ} → Step list gs i g types start → (k : ℕ) (ty : SubType) → k < length types → ty ≡ get_or types k ty → slice_get (types_of list) (start + k) ≡ Some ty
type_read {types = types} step k ty h e = step_type step k h ∙ slice_get_read types (length types) k ty refl h e

pub so_far_ends : {types : List SubType} {count : ℕ} {entries : List Entry} → SoFar types count entries → count ≡ length types → EntriesAre types entries
so_far_ends so e = record { long = so.long ∙ e; at = so.at }
