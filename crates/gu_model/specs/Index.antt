-- What the indices of a module name: of each kind the imported things come first, in order, and then the defined ones
-- (core specification 3.0, 2.5 Modules, indices).
use Rattle.std.specs.Prelude.{ℕ, suc, Bool, true, false, cond, List, [], ◌∷◌, ◌++◌, map, Option, Some, None, slice_get}
use Rattle.gu_types.specs.declared.types.Comp.{Comp}
use Rattle.gu_types.specs.declared.types.Comp.TheVariants as C
use Rattle.gu_types.specs.declared.types.FieldType.{FieldType}
use Rattle.gu_types.specs.declared.types.RefType.{RefType}
use Rattle.gu_types.specs.declared.types.SubType.{SubType}
use Rattle.gu_types.specs.declared.types.TypeList.{TypeList}
use Rattle.gu_types.specs.declared.types.ValType.{ValType}
use Rattle.gu_types.specs.Depth.{types_of}
use Rattle.gu_syntax.specs.declared.instr.BlockType.{BlockType}
use Rattle.gu_syntax.specs.declared.instr.BlockType.TheVariants as B
use Rattle.gu_syntax.specs.declared.module.Desc.{Desc}
use Rattle.gu_syntax.specs.declared.module.Desc.TheVariants as D
use Rattle.gu_syntax.specs.declared.module.Func.{Func}
use Rattle.gu_syntax.specs.declared.module.Global.{Global}
use Rattle.gu_syntax.specs.declared.module.Import.{Import}
use Rattle.gu_syntax.specs.declared.module.Limits.{Limits}
use Rattle.gu_syntax.specs.declared.module.Module.{Module}
use Rattle.gu_syntax.specs.declared.module.Table.{Table}

-- types

-- a function type: the types of its parameters and results, in order
pub record FuncType : Type 0 where
  pub params : List ValType
  pub results : List ValType

abbrev pub func_of : Comp → Option FuncType
func_of (C.Func params results) = Some (record { params = params; results = results })
func_of _ = None

abbrev pub fields_of : Comp → Option (List FieldType)
fields_of (C.Struct fields) = Some fields
fields_of _ = None

abbrev pub elements_of : Comp → Option FieldType
elements_of (C.Array field) = Some field
elements_of _ = None

-- what a type that is there is, read so
abbrev pub comp_as : {X : Type 0} → (Comp → Option X) → Option SubType → Option X
comp_as read None = None
comp_as read (Some ty) = read ty.comp

-- the function type with an index, where it is one
abbrev pub func_type : TypeList → (type : ℕ) → Option FuncType
func_type list x = comp_as func_of (slice_get (types_of list) x)

-- the fields of the structure type with an index, where it is one
abbrev pub struct_type : TypeList → (type : ℕ) → Option (List FieldType)
struct_type list x = comp_as fields_of (slice_get (types_of list) x)

-- the elements of the array type with an index, where it is one
abbrev pub array_type : TypeList → (type : ℕ) → Option FieldType
array_type list x = comp_as elements_of (slice_get (types_of list) x)

-- the function type that a block type stands for (3.2 Types, block types)
abbrev pub block_type : TypeList → BlockType → Option FuncType
block_type list B.Empty = Some (record { params = []; results = [] })
block_type list (B.Val ty) = Some (record { params = []; results = ty ∷ [] })
block_type list (B.Idx x) = func_type list x

-- imports

-- what the imports of one kind are, in order
abbrev pub imported : {X : Type 0} → (Desc → List X) → List Import → List X
imported read [] = []
imported read (i ∷ is) = read i.desc ++ imported read is

-- the numbers of the imports of one kind, where the first import has the number n
abbrev pub numbers : (Desc → Bool) → ℕ → List Import → List ℕ
numbers is_one n [] = []
numbers is_one n (i ∷ is) = cond (is_one i.desc) (n ∷ numbers is_one (suc n) is) (numbers is_one (suc n) is)

-- functions, by the indices of their types

abbrev pub as_func : Desc → List ℕ
as_func (D.Func ty) = ty ∷ []
as_func _ = []

abbrev pub defined_func : Func → ℕ
defined_func f = f.ty

abbrev pub funcs : Module → List ℕ
funcs m = imported as_func m.imports ++ map defined_func m.funcs

-- the type of the function with an index
abbrev pub func_type_in : TypeList → Option ℕ → Option FuncType
func_type_in list None = None
func_type_in list (Some ty) = func_type list ty

abbrev pub type_at : Module → (func : ℕ) → Option FuncType
type_at m f = func_type_in m.types (slice_get (funcs m) f)

-- how many functions are imported, and which imports they are
abbrev pub is_func : Desc → Bool
is_func (D.Func ty) = true
is_func _ = false

abbrev pub imported_funcs : Module → List ℕ
imported_funcs m = numbers is_func 0 m.imports

-- tables

pub record TableType : Type 0 where
  pub elem : RefType
  pub limits : Limits

abbrev pub as_table : Desc → List TableType
as_table (D.Table elem limits) = record { elem = elem; limits = limits } ∷ []
as_table _ = []

abbrev pub defined_table : Table → TableType
defined_table t = record { elem = t.elem; limits = t.limits }

abbrev pub tables : Module → List TableType
tables m = imported as_table m.imports ++ map defined_table m.tables

abbrev pub is_table : Desc → Bool
is_table (D.Table elem limits) = true
is_table _ = false

-- memories, by their limits in pages

abbrev pub as_memory : Desc → List Limits
as_memory (D.Memory limits) = limits ∷ []
as_memory _ = []

abbrev pub memories : Module → List Limits
memories m = imported as_memory m.imports ++ m.memories

abbrev pub is_memory : Desc → Bool
is_memory (D.Memory limits) = true
is_memory _ = false

-- tags, by the indices of their types

abbrev pub as_tag : Desc → List ℕ
as_tag (D.Tag ty) = ty ∷ []
as_tag _ = []

abbrev pub tags : Module → List ℕ
tags m = imported as_tag m.imports ++ m.tags

abbrev pub is_tag : Desc → Bool
is_tag (D.Tag ty) = true
is_tag _ = false

-- globals, by their types and whether they may be written

abbrev pub as_global : Desc → List (ValType × Bool)
as_global (D.Global ty mutable) = (ty, mutable) ∷ []
as_global _ = []

abbrev pub defined_global : Global → ValType × Bool
defined_global g = (g.ty, g.mutable)

abbrev pub globals : Module → List (ValType × Bool)
globals m = imported as_global m.imports ++ map defined_global m.globals

abbrev pub is_global : Desc → Bool
is_global (D.Global ty mutable) = true
is_global _ = false
