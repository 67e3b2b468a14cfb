-- What holds of the types of a valid module (core specification 3.0, 3.2 Types): first what their indices have to meet,
-- over all groups, then what a declared supertype has to meet (3.2, recursive types; 3.3, composite types).
use Rattle.std.specs.Prelude.{ℕ, ◌+◌, ◌-◌, ◌<◌, ◌≡◌, Bool, true, false, not, ◌&&◌, List, [], ◌∷◌, Option, Some, None, length, slice_get, nat_lt, if◌then◌else◌}
use Rattle.std.specs.List.{list_all}
use Rattle.std.specs.Cmp.Lexicographic.{pointwise}
use Rattle.gu_types.specs.declared.types.Storage.{Storage}
use Rattle.gu_types.specs.declared.types.Storage.TheVariants as S
use Rattle.gu_types.specs.declared.types.FieldType.{FieldType}
use Rattle.gu_types.specs.declared.types.Comp.{Comp}
use Rattle.gu_types.specs.declared.types.Comp.TheVariants as C
use Rattle.gu_types.specs.declared.types.SubType.{SubType}
use Rattle.gu_types.specs.declared.types.RecGroup.{RecGroup}
use Rattle.gu_types.specs.declared.types.TypeList.{TypeList}
use Rattle.gu_types.specs.Depth.{types_of}
use Rattle.gu_rec.specs.Names.{names}
use Rattle.gu_rec.specs.Sub.{is_sub_val}

-- the end of the group in which an index stands: one more than the group's last index
abbrev pub group_end : List RecGroup → ℕ → ℕ
group_end [] i = 0
group_end (group ∷ groups) i = if nat_lt i (length group.types) then length group.types else length group.types + group_end groups (i - length group.types)

abbrev pub all_below : ℕ → List ℕ → Bool
all_below end indices = list_all (λ index. nat_lt index end) indices

-- the indices in a type with an index, in a group with an end: it names only indices below the group's end, and declares
-- at most one supertype, whose index is smaller than its own
abbrev pub indices_hold : ℕ → ℕ → Option SubType → Bool
indices_hold end i None = true
indices_hold end i (Some ty) = all_below end (names ty) && (nat_lt (length ty.supers) 2 && all_below i ty.supers)

-- the indices in the type with an index hold
unfoldable pub indices_hold_at : TypeList → ℕ → Bool
indices_hold_at list i = indices_hold (group_end list.groups i) i (slice_get (types_of list) i)

-- the indices in every type hold
pub record IndicesHold (list : TypeList) : Type 0 where
  pub at : (i : ℕ) → indices_hold_at list i ≡ true

-- the first type whose indices do not hold
pub record IsFirstBadRef (list : TypeList) (ty : ℕ) : Type 0 where
  pub bad : indices_hold_at list ty ≡ false
  pub first : (i : ℕ) → i < ty → indices_hold_at list i ≡ true

-- a storage type is a subtype of another: packed types are subtypes of themselves alone (3.3, storage types)
abbrev pub is_sub_storage : TypeList → Storage → Storage → Bool
is_sub_storage list (S.Val a) (S.Val b) = is_sub_val list a b
is_sub_storage list S.I8 S.I8 = true
is_sub_storage list S.I16 S.I16 = true
is_sub_storage list _ _ = false

-- a field that may not be written is a subtype of another such field where what it stores is (covariant); one that may
-- be written, of another such field where what they store are subtypes of one another (invariant) (3.3, field types)
abbrev pub is_sub_stored : TypeList → Bool → Bool → Storage → Storage → Bool
is_sub_stored list false false a b = is_sub_storage list a b
is_sub_stored list true true a b = is_sub_storage list a b && is_sub_storage list b a
is_sub_stored list _ _ a b = false

abbrev pub is_sub_field : TypeList → FieldType → FieldType → Bool
is_sub_field list a b = is_sub_stored list a.mutable b.mutable a.storage b.storage

-- a structure has a subtype of each field of another at that field's place, and perhaps more behind
abbrev pub has_fields : TypeList → List FieldType → List FieldType → Bool
has_fields list fields [] = true
has_fields list [] (above ∷ others) = false
has_fields list (field ∷ fields) (above ∷ others) = is_sub_field list field above && has_fields list fields others

-- a composite type is a subtype of another: functions are contravariant in parameters and covariant in results (3.3,
-- composite types)
abbrev pub is_sub_comp : TypeList → Comp → Comp → Bool
is_sub_comp list (C.Func params results) (C.Func ps rs) = pointwise (is_sub_val list) ps params && pointwise (is_sub_val list) results rs
is_sub_comp list (C.Struct fields) (C.Struct others) = has_fields list fields others
is_sub_comp list (C.Array field) (C.Array above) = is_sub_field list field above
is_sub_comp list _ _ = false

-- a type may declare another as its supertype: that one is not final, and this one's composite type is a subtype of its
abbrev pub may_extend : TypeList → SubType → Option SubType → Bool
may_extend list ty None = false
may_extend list ty (Some above) = not above.is_final && is_sub_comp list ty.comp above.comp

abbrev pub supers_hold : TypeList → Option SubType → Bool
supers_hold list None = true
supers_hold list (Some ty) = list_all (λ super. may_extend list ty (slice_get (types_of list) super)) ty.supers

-- the type with an index may declare the supertypes that it declares
unfoldable pub supers_hold_at : TypeList → ℕ → Bool
supers_hold_at list i = supers_hold list (slice_get (types_of list) i)

-- the types of a module are valid
pub record ValidTypes (list : TypeList) : Type 0 where
  pub indices : IndicesHold list
  pub supers : (i : ℕ) → supers_hold_at list i ≡ true

-- all indices hold, and this is the first type that may not declare the supertype that it declares
pub record IsFirstBadSuper (list : TypeList) (ty : ℕ) : Type 0 where
  pub indices : IndicesHold list
  pub bad : supers_hold_at list ty ≡ false
  pub first : (i : ℕ) → i < ty → supers_hold_at list i ≡ true
