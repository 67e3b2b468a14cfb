-- Worked examples, computed: what the definitions say of two small lists of types.
use Rattle.std.proofs.Common.{◌≡◌, ℕ, Bool, true, false, List, [], ◌∷◌, Some, None, refl}
use Rattle.gu_types.specs.declared.types.Abs.TheVariants as A
use Rattle.gu_types.specs.declared.types.HeapType.TheVariants as H
use Rattle.gu_types.specs.declared.types.ValType.TheVariants as V
use Rattle.gu_types.specs.declared.types.Storage.{Storage}
use Rattle.gu_types.specs.declared.types.Storage.TheVariants as S
use Rattle.gu_types.specs.declared.types.FieldType.{FieldType}
use Rattle.gu_types.specs.declared.types.Comp.TheVariants as C
use Rattle.gu_types.specs.declared.types.SubType.{SubType}
use Rattle.gu_types.specs.declared.types.RecGroup.{RecGroup}
use Rattle.gu_types.specs.declared.types.TypeList.{TypeList}
use Rattle.gu_rec.specs.Closed.{closed_type, closed_types}
use Rattle.gu_rec.specs.Tests.{same_type, eq_sub, eq_group}
use Rattle.gu_rec.specs.Sub.{is_sub, line, distance, height}
use Rattle.gu_rec.specs.Validity.{indices_hold_at, supers_hold_at}

abbrev struct : Bool → List ℕ → List FieldType → SubType
struct is_final supers fields = record { is_final = is_final; supers = supers; comp = C.Struct fields }

abbrev field : Storage → FieldType
field storage = record { storage = storage; mutable = false }

abbrev group : List SubType → RecGroup
group types = record { types = types }

abbrev plain : SubType
plain = struct true [] []

-- two types in a group, one alone, and a group as the first
abbrev alike : TypeList
alike = record { groups = group (plain ∷ plain ∷ []) ∷ group (plain ∷ []) ∷ group (plain ∷ plain ∷ []) ∷ [] }

first_and_fourth : same_type alike 0 alike 3 ≡ true
unfolding same_type eq_sub eq_group closed_type closed_types
first_and_fourth = refl

second_and_fifth : same_type alike 1 alike 4 ≡ true
unfolding same_type eq_sub eq_group closed_type closed_types
second_and_fifth = refl

two_positions : same_type alike 0 alike 1 ≡ false
unfolding same_type eq_sub eq_group closed_type closed_types
two_positions = refl

two_groups : same_type alike 0 alike 2 ≡ false
unfolding same_type eq_sub eq_group closed_type closed_types
two_groups = refl

places_count : same_type alike 1 alike 3 ≡ false
unfolding same_type eq_sub eq_group closed_type closed_types
places_count = refl

below_any : distance alike (H.Abs A.Any) (H.Idx 0) ≡ Some 3
unfolding distance line same_type eq_sub eq_group closed_type closed_types
below_any = refl

any_is_three_high : height alike (H.Abs A.Any) ≡ 3
unfolding height distance line same_type eq_sub eq_group closed_type closed_types
any_is_three_high = refl

not_upwards : distance alike (H.Idx 0) (H.Abs A.Any) ≡ None
unfolding distance line same_type eq_sub eq_group closed_type closed_types
not_upwards = refl

bottom_below : is_sub alike (H.Abs A.Bot) (H.Idx 2) ≡ true
unfolding is_sub line same_type eq_sub eq_group closed_type closed_types
bottom_below = refl

-- a group of: a final empty structure, an empty one that declares it, and one with a field
abbrev final_super : List ℕ → Storage → TypeList
final_super supers storage = record { groups = group (plain ∷ struct true supers [] ∷ struct true [] (field storage ∷ []) ∷ []) ∷ [] }

abbrev to_five : Storage
to_five = S.Val (V.Ref (record { null = false; heap = H.Idx 5 }))

bad_index : indices_hold_at (final_super (0 ∷ []) to_five) 2 ≡ false
unfolding indices_hold_at
bad_index = refl

good_index : indices_hold_at (final_super (0 ∷ []) to_five) 1 ≡ true
unfolding indices_hold_at
good_index = refl

own_super : indices_hold_at (final_super (1 ∷ []) to_five) 1 ≡ false
unfolding indices_hold_at
own_super = refl

bad_super : supers_hold_at (final_super (0 ∷ []) (S.Val V.I32)) 1 ≡ false
unfolding supers_hold_at is_sub line
bad_super = refl
