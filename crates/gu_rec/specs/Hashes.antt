-- What a hasher is fed for a type.
use Rattle.std.specs.Prelude.{ℕ, ◌%◌, ◌^◌, List, fold, length}
use Rattle.std.specs.declared.hash.FoldHasher.{FoldHasher}
use Rattle.std.specs.Hash as fed
use Rattle.std.specs.Hash.FoldHasher.{write, initial, finish}
use Rattle.gu_types.specs.declared.types.ValType.{ValType}
use Rattle.gu_types.specs.declared.types.FieldType.{FieldType}
use Rattle.gu_types.specs.declared.types.Comp.{Comp}
use Rattle.gu_types.specs.declared.types.Comp.TheVariants as C
use Rattle.gu_types.specs.declared.types.SubType.{SubType}
use Rattle.gu_types.specs.contracts.types.ValTypeHash.TheImpl as val
use Rattle.gu_types.specs.contracts.types.FieldTypeHash.TheImpl as field

-- the hasher after some writes
abbrev pub feed : FoldHasher → List (List ℕ) → FoldHasher
feed state writes = fold write state writes

abbrev pub feed_index : FoldHasher → ℕ → FoldHasher
feed_index state index = feed state (fed.u32 index)

abbrev pub feed_val : FoldHasher → ValType → FoldHasher
feed_val state ty = feed state ((val.hash_input-value).it ty)

abbrev pub feed_field : FoldHasher → FieldType → FoldHasher
feed_field state ty = feed state ((field.hash_input-value).it ty)

-- how many there are, and then each
abbrev pub feed_all : {X : Type 0} → (FoldHasher → X → FoldHasher) → FoldHasher → List X → FoldHasher
feed_all one state items = fold one (feed state (fed.usize (length items))) items

abbrev pub feed_indices : FoldHasher → List ℕ → FoldHasher
feed_indices state indices = feed_all feed_index state indices

abbrev pub feed_vals : FoldHasher → List ValType → FoldHasher
feed_vals state types = feed_all feed_val state types

abbrev pub feed_fields : FoldHasher → List FieldType → FoldHasher
feed_fields state fields = feed_all feed_field state fields

-- a composite type is fed behind a number for its kind
abbrev pub feed_comp : FoldHasher → Comp → FoldHasher
feed_comp state (C.Func params results) = feed_vals (feed_vals (feed state (fed.u8 0)) params) results
feed_comp state (C.Struct fields) = feed_fields (feed state (fed.u8 1)) fields
feed_comp state (C.Array element) = feed_field (feed state (fed.u8 2)) element

abbrev pub feed_type : FoldHasher → SubType → FoldHasher
feed_type state ty = feed_comp (feed_indices (feed state (fed.bool ty.is_final)) ty.supers) ty.comp

-- the hash of a key, of 32 bits
abbrev pub hash_of : List SubType → ℕ
hash_of types = finish (fold feed_type initial types) % 2 ^ 32
