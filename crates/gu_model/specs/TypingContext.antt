-- What code is typed in (core specification 3.0, 3.1 Conventions, contexts), and which types are valid there (3.2
-- Types).
use Rattle.std.specs.Prelude.{ℕ, Bool, true, false, cond, not, ◌&&◌, List, [], ◌∷◌, Option, Some, None, is_some, slice_get}
use Rattle.gu_types.specs.declared.types.Abs.{Abs}
use Rattle.gu_types.specs.declared.types.Abs.TheVariants as A
use Rattle.gu_types.specs.declared.types.Comp.{Comp}
use Rattle.gu_types.specs.declared.types.Comp.TheVariants as C
use Rattle.gu_types.specs.declared.types.HeapType.{HeapType}
use Rattle.gu_types.specs.declared.types.HeapType.TheVariants as H
use Rattle.gu_types.specs.declared.types.RefType.{RefType}
use Rattle.gu_types.specs.declared.types.TypeList.{TypeList}
use Rattle.gu_types.specs.declared.types.ValType.{ValType}
use Rattle.gu_types.specs.declared.types.ValType.TheVariants as V
use Rattle.gu_types.specs.Depth.{types_of}
use Rattle.gu_syntax.specs.declared.instr.BlockType.{BlockType}
use Rattle.gu_syntax.specs.declared.instr.BlockType.TheVariants as B
use Rattle.gu_rec.specs.Sub.{is_sub_val}
use Rattle.gu_model.specs.Index.{FuncType, comp_as, block_type}

-- the types of what a module's indices name
pub record Context : Type 0 where
  pub types : TypeList
  -- the functions, by the indices of their types
  pub funcs : List ℕ
  -- the tables, by the types of their entries
  pub tables : List RefType
  -- how many memories there are
  pub memories : ℕ
  -- the tags, by the indices of their types
  pub tags : List ℕ
  -- the globals, and whether they may be written
  pub globals : List (ValType × Bool)
  -- the element segments, by the types of their items
  pub elems : List RefType
  -- how many data segments there are
  pub segs : ℕ
  -- which functions are declared: code may make references to them
  pub declared : List Bool

-- the labels by the types that a branch to them takes, the innermost first, the results of the function, and the types
-- of its locals
pub record Around : Type 0 where
  pub labels : List (List ValType)
  pub results : List ValType
  pub locals : List ValType

infixl 10 ◌>>=◌
-- what follows where there is something, and else nothing
abbrev pub ◌>>=◌ : {X Y : Type 0} → Option X → (X → Option Y) → Option Y
(Some x) >>= f = f x
None >>= f = None

-- something where a condition holds, and else nothing
abbrev pub given : {X : Type 0} → Bool → Option X → Option X
given holds o = cond holds o None

-- the top of the tree that an abstract heap type belongs to (3.3 Matching, heap types)
abbrev pub top_of_abs : Abs → Abs
top_of_abs A.Any = A.Any
top_of_abs A.Eq = A.Any
top_of_abs A.I31 = A.Any
top_of_abs A.AnyStruct = A.Any
top_of_abs A.AnyArray = A.Any
top_of_abs A.Bot = A.Any
top_of_abs A.AnyFunc = A.AnyFunc
top_of_abs A.NoFunc = A.AnyFunc
top_of_abs A.Extern = A.Extern
top_of_abs A.NoExtern = A.Extern
top_of_abs A.Exn = A.Exn
top_of_abs A.NoExn = A.Exn

abbrev pub top_of_comp : Comp → Option Abs
top_of_comp (C.Func params results) = Some A.AnyFunc
top_of_comp (C.Struct fields) = Some A.Any
top_of_comp (C.Array field) = Some A.Any

-- the top of the tree that a heap type belongs to. None where it is an index of no type
abbrev pub top_of : TypeList → HeapType → Option Abs
top_of list (H.Abs a) = Some (top_of_abs a)
top_of list (H.Idx x) = comp_as top_of_comp (slice_get (types_of list) x)

-- a heap type is valid unless it is an index of no type (3.2 Types, heap types)
abbrev pub is_valid_heap : TypeList → HeapType → Bool
is_valid_heap list heap = is_some (top_of list heap)

abbrev pub is_valid_ref : TypeList → RefType → Bool
is_valid_ref list ref = is_valid_heap list ref.heap

abbrev pub is_valid_val : TypeList → ValType → Bool
is_valid_val list V.I32 = true
is_valid_val list V.I64 = true
is_valid_val list (V.Ref ref) = is_valid_ref list ref

-- the function type of a valid block type (3.2 Types, block types)
abbrev pub type_of_block : TypeList → BlockType → Option FuncType
type_of_block list B.Empty = block_type list B.Empty
type_of_block list (B.Val ty) = given (is_valid_val list ty) (block_type list (B.Val ty))
type_of_block list (B.Idx x) = block_type list (B.Idx x)

-- whether lists are equally long, and each type of the first is below its partner (3.3 Matching, result types)
abbrev pub matches : TypeList → List ValType → List ValType → Bool
matches list [] [] = true
matches list (t ∷ ts) (u ∷ us) = is_sub_val list t u && matches list ts us
matches list _ _ = false

-- whether a type has a value that a local can hold before it is set (3.2 Types, defaultable types)
abbrev pub has_default : ValType → Bool
has_default V.I32 = true
has_default V.I64 = true
has_default (V.Ref ref) = ref.null

-- reference types

-- a reference to an abstract heap type: null is among its values, or not
abbrev pub abs_or_null : Abs → ValType
abs_or_null a = V.Ref (record { null = true; heap = H.Abs a })

abbrev pub abs : Abs → ValType
abs a = V.Ref (record { null = false; heap = H.Abs a })

-- a reference to the type with an index: null is among its values, or not
abbrev pub idx_or_null : ℕ → ValType
idx_or_null x = V.Ref (record { null = true; heap = H.Idx x })

abbrev pub idx : ℕ → ValType
idx x = V.Ref (record { null = false; heap = H.Idx x })

-- a reference type less another: null is no longer among its values where it is among the other's (2.3 Types, reference
-- types, difference)
abbrev pub minus : RefType → RefType → RefType
minus a b = record { null = a.null && not b.null; heap = a.heap }
