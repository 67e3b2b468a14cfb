-- A structure with fewer fields than another has not all its fields.
use Rattle.std.proofs.Common.{◌≡◌, ◌<◌, Bool, true, false, ◌&&◌, List, [], ◌∷◌, length, refl, arith}
use Rattle.gu_types.specs.declared.types.FieldType.{FieldType}
use Rattle.gu_types.specs.declared.types.TypeList.{TypeList}
use Rattle.gu_rec.specs.Validity.{has_fields, is_sub_field}

pub too_few : (list : TypeList) (xs ys : List FieldType) → length xs < length ys → has_fields list xs ys ≡ false
too_few list xs [] h = absurd (omega arith)
too_few list [] (y ∷ ys) h = refl
too_few list (x ∷ xs) (y ∷ ys) h = by_test (is_sub_field list x y) (too_few list xs ys (omega arith))
  where
    by_test : (b : Bool) → has_fields list xs ys ≡ false → (b && has_fields list xs ys) ≡ false
    by_test true e = e
    by_test false e = refl
