-- The type indices that a type has in it, and the type with others in their place (core specification 3.0, 2.3 Types).
use Rattle.std.specs.Prelude.{ℕ, zero, List, [], ◌∷◌, ◌++◌, map, flat_map}
use Rattle.gu_types.specs.declared.types.HeapType.{HeapType}
use Rattle.gu_types.specs.declared.types.HeapType.TheVariants as H
use Rattle.gu_types.specs.declared.types.ValType.{ValType}
use Rattle.gu_types.specs.declared.types.ValType.TheVariants as V
use Rattle.gu_types.specs.declared.types.Storage.{Storage}
use Rattle.gu_types.specs.declared.types.Storage.TheVariants as S
use Rattle.gu_types.specs.declared.types.FieldType.{FieldType}
use Rattle.gu_types.specs.declared.types.Comp.{Comp}
use Rattle.gu_types.specs.declared.types.Comp.TheVariants as C
use Rattle.gu_types.specs.declared.types.SubType.{SubType}

-- the indices in a type, in order: the declared supertypes come first
abbrev pub heap_names : HeapType → List ℕ
heap_names (H.Abs kind) = []
heap_names (H.Idx index) = index ∷ []

abbrev pub val_names : ValType → List ℕ
val_names V.I32 = []
val_names V.I64 = []
val_names (V.Ref ref) = heap_names ref.heap

abbrev pub storage_names : Storage → List ℕ
storage_names (S.Val ty) = val_names ty
storage_names S.I8 = []
storage_names S.I16 = []

abbrev pub field_names : FieldType → List ℕ
field_names field = storage_names field.storage

abbrev pub comp_names : Comp → List ℕ
comp_names (C.Func params results) = flat_map val_names params ++ flat_map val_names results
comp_names (C.Struct fields) = flat_map field_names fields
comp_names (C.Array field) = field_names field

abbrev pub names : SubType → List ℕ
names ty = ty.supers ++ comp_names ty.comp

-- the type with f of each index in its place
abbrev pub rename_heap : (ℕ → ℕ) → HeapType → HeapType
rename_heap f (H.Abs kind) = H.Abs kind
rename_heap f (H.Idx index) = H.Idx (f index)

abbrev pub rename_val : (ℕ → ℕ) → ValType → ValType
rename_val f V.I32 = V.I32
rename_val f V.I64 = V.I64
rename_val f (V.Ref ref) = V.Ref (record ref { heap = rename_heap f ref.heap })

abbrev pub rename_storage : (ℕ → ℕ) → Storage → Storage
rename_storage f (S.Val ty) = S.Val (rename_val f ty)
rename_storage f S.I8 = S.I8
rename_storage f S.I16 = S.I16

abbrev pub rename_field : (ℕ → ℕ) → FieldType → FieldType
rename_field f field = record field { storage = rename_storage f field.storage }

abbrev pub rename_comp : (ℕ → ℕ) → Comp → Comp
rename_comp f (C.Func params results) = C.Func (map (rename_val f) params) (map (rename_val f) results)
rename_comp f (C.Struct fields) = C.Struct (map (rename_field f) fields)
rename_comp f (C.Array field) = C.Array (rename_field f field)

abbrev pub rename : (ℕ → ℕ) → SubType → SubType
rename f ty = record ty { supers = map f ty.supers; comp = rename_comp f ty.comp }

-- the type with 0 for each index: what is left of it beside its indices
abbrev pub blank : SubType → SubType
blank ty = rename (λ _. zero) ty
