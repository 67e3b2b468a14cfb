-- What code asks of the module round it: all but what is to be run.
use Rattle.std.specs.Prelude.{ℕ, Bool, List, Option, slice_get}
use Rattle.gu_types.specs.declared.types.TypeList.{TypeList}
use Rattle.gu_types.specs.declared.types.ValType.{ValType}
use Rattle.gu_syntax.specs.declared.module.Export.{Export}
use Rattle.gu_syntax.specs.declared.module.Import.{Import}
use Rattle.gu_syntax.specs.declared.module.Limits.{Limits}
use Rattle.gu_syntax.specs.declared.module.Module.{Module}
use Rattle.gu_model.specs.Index.{FuncType, func_type_in, TableType, funcs, tables, memories, tags, globals}

-- the types of a module, what is imported and exported, and the type of each thing in its index space (core
-- specification 3.0, 4.2 Runtime Structure, module instances)
pub record Outline : Type 0 where
  pub types : TypeList
  pub imports : List Import
  pub exports : List Export
  -- functions, by the indices of their types
  pub funcs : List ℕ
  pub tables : List TableType
  -- memories, by their limits in pages
  pub memories : List Limits
  -- tags, by the indices of their types
  pub tags : List ℕ
  -- globals, by their types and whether they may be written
  pub globals : List (ValType × Bool)

abbrev pub outline : Module → Outline
outline m = record {
  types = m.types;
  imports = m.imports;
  exports = m.exports;
  funcs = funcs m;
  tables = tables m;
  memories = memories m;
  tags = tags m;
  globals = globals m;
}

-- the type of the function with an index
abbrev pub type_of_func : Outline → (func : ℕ) → Option FuncType
type_of_func o f = func_type_in o.types (slice_get o.funcs f)

-- the type of the tag with an index
abbrev pub type_of_tag : Outline → (tag : ℕ) → Option FuncType
type_of_tag o t = func_type_in o.types (slice_get o.tags t)
