-- The tests that decide whether two types are the same: `same_type` is true exactly where `SameType` holds
-- (`decisions_are_exact`).
use Rattle.std.specs.Prelude.{ℕ, Bool, true, false, ◌&&◌, Option, Some, None, nat_eq}
use Rattle.std.specs.Bool.{beq}
use Rattle.std.specs.Cmp.Lexicographic.{pointwise}
use Rattle.gu_types.specs.declared.types.Abs.{Abs}
use Rattle.gu_types.specs.declared.types.Abs.TheVariants as A
use Rattle.gu_types.specs.declared.types.HeapType.{HeapType}
use Rattle.gu_types.specs.declared.types.HeapType.TheVariants as H
use Rattle.gu_types.specs.declared.types.RefType.{RefType}
use Rattle.gu_types.specs.declared.types.ValType.{ValType}
use Rattle.gu_types.specs.declared.types.ValType.TheVariants as V
use Rattle.gu_types.specs.declared.types.Storage.{Storage}
use Rattle.gu_types.specs.declared.types.Storage.TheVariants as S
use Rattle.gu_types.specs.declared.types.FieldType.{FieldType}
use Rattle.gu_types.specs.declared.types.Comp.{Comp}
use Rattle.gu_types.specs.declared.types.Comp.TheVariants as C
use Rattle.gu_types.specs.declared.types.SubType.{SubType}
use Rattle.gu_types.specs.declared.types.TypeList.{TypeList}
use Rattle.gu_rec.specs.Closed.{ClosedGroup, done, entry, References, none, inside, outside, Closed, closed_type}

-- a number for each abstract heap type, to tell them apart
abbrev pub abs_number : Abs → ℕ
abs_number A.Any = 0
abs_number A.Eq = 1
abs_number A.I31 = 2
abs_number A.AnyStruct = 3
abs_number A.AnyArray = 4
abs_number A.Bot = 5
abs_number A.AnyFunc = 6
abs_number A.NoFunc = 7
abs_number A.Extern = 8
abs_number A.NoExtern = 9
abs_number A.Exn = 10
abs_number A.NoExn = 11

abbrev pub eq_abs : Abs → Abs → Bool
eq_abs a b = nat_eq (abs_number a) (abs_number b)

-- whether two types are written alike
abbrev pub eq_heap : HeapType → HeapType → Bool
eq_heap (H.Abs a) (H.Abs b) = eq_abs a b
eq_heap (H.Idx i) (H.Idx j) = nat_eq i j
eq_heap _ _ = false

abbrev pub eq_ref : RefType → RefType → Bool
eq_ref a b = beq a.null b.null && eq_heap a.heap b.heap

abbrev pub eq_val : ValType → ValType → Bool
eq_val V.I32 V.I32 = true
eq_val V.I64 V.I64 = true
eq_val (V.Ref a) (V.Ref b) = eq_ref a b
eq_val _ _ = false

abbrev pub eq_storage : Storage → Storage → Bool
eq_storage (S.Val a) (S.Val b) = eq_val a b
eq_storage S.I8 S.I8 = true
eq_storage S.I16 S.I16 = true
eq_storage _ _ = false

abbrev pub eq_field : FieldType → FieldType → Bool
eq_field a b = eq_storage a.storage b.storage && beq a.mutable b.mutable

abbrev pub eq_comp : Comp → Comp → Bool
eq_comp (C.Func params results) (C.Func ps rs) = pointwise eq_val params ps && pointwise eq_val results rs
eq_comp (C.Struct fields) (C.Struct fs) = pointwise eq_field fields fs
eq_comp (C.Array field) (C.Array f) = eq_field field f
eq_comp _ _ = false

unfoldable pub eq_sub : SubType → SubType → Bool
eq_sub a b = beq a.is_final b.is_final && (pointwise nat_eq a.supers b.supers && eq_comp a.comp b.comp)

-- whether two closed groups are equal lists
unfoldable mutual
  pub eq_group : ClosedGroup → ClosedGroup → Bool
  eq_group done done = true
  eq_group (entry a refs group) (entry b others rest) = eq_sub a b && (eq_references refs others && eq_group group rest)
  eq_group _ _ = false

  pub eq_references : References → References → Bool
  eq_references none none = true
  eq_references (inside k refs) (inside l others) = nat_eq k l && eq_references refs others
  eq_references (outside g k refs) (outside h l others) = eq_group g h && (nat_eq k l && eq_references refs others)
  eq_references _ _ = false

abbrev pub eq_closed : Closed → Closed → Bool
eq_closed c d = eq_group c.group d.group && nat_eq c.position d.position

abbrev pub eq_found : Option Closed → Option Closed → Bool
eq_found None None = true
eq_found (Some c) (Some d) = eq_closed c d
eq_found _ _ = false

-- whether two indices, perhaps of two modules, denote one type
unfoldable pub same_type : TypeList → ℕ → TypeList → ℕ → Bool
same_type one i other j = eq_found (closed_type one i) (closed_type other j)
