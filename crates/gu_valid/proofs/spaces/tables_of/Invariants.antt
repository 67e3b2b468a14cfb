use Rattle.std.proofs.Common.{◌≡◌, ◌++◌, map, drop}
use Rattle.gu_model.specs.Index.{imported, as_table, defined_table, tables}
use Rattle.gu_model.specs.ValidContext.{entries_type}
use Rattle.gu_valid.proofs.spaces.tables_of.Given as goal

abbrev pub invariant-loop-import : goal.invariant-loop-import
invariant-loop-import l = l.found.items ++ map entries_type (imported as_table (drop l.import-index l.import-items)) ≡ map entries_type (imported as_table l.m.imports)

abbrev pub invariant-loop-table : goal.invariant-loop-table
invariant-loop-table l = l.found.items ++ map entries_type (map defined_table (drop l.table-index l.table-items)) ≡ map entries_type (tables l.m)
