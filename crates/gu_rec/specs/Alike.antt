-- What the derived tests on keys compute.
use Rattle.std.specs.Prelude.{ℕ, Bool, ◌&&◌, false, List, nat_eq}
use Rattle.std.specs.Bool.{beq}
use Rattle.std.specs.Cmp.Lexicographic.{pointwise}
use Rattle.gu_types.specs.declared.types.ValType.{ValType}
use Rattle.gu_types.specs.declared.types.FieldType.{FieldType}
use Rattle.gu_types.specs.declared.types.Comp.{Comp}
use Rattle.gu_types.specs.declared.types.Comp.TheVariants as C
use Rattle.gu_types.specs.declared.types.SubType.{SubType}
use Rattle.gu_types.specs.contracts.types.ValTypePartialEq.TheImpl as val
use Rattle.gu_types.specs.contracts.types.FieldTypePartialEq.TheImpl as field

abbrev pub alike_indices : List ℕ → List ℕ → Bool
alike_indices = pointwise nat_eq

abbrev pub alike_vals : List ValType → List ValType → Bool
alike_vals = pointwise (val.eq-value).it

abbrev pub alike_fields : List FieldType → List FieldType → Bool
alike_fields = pointwise (field.eq-value).it

abbrev pub alike_comps : Comp → Comp → Bool
alike_comps (C.Func p r) (C.Func q s) = alike_vals p q && alike_vals r s
alike_comps (C.Struct f) (C.Struct g) = alike_fields f g
alike_comps (C.Array f) (C.Array g) = (field.eq-value).it f g
alike_comps _ _ = false

abbrev pub alike_types : SubType → SubType → Bool
alike_types a b = beq a.is_final b.is_final && (alike_indices a.supers b.supers && alike_comps a.comp b.comp)

abbrev pub alike_lists : List SubType → List SubType → Bool
alike_lists = pointwise alike_types
