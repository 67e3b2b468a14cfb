use Rattle.std.proofs.Common.{◌≡◌, ◌++◌, map, drop}
use Rattle.gu_model.specs.ValidContext.{of_tables}
use Rattle.gu_valid.proofs.constants.push_tables.Given as goal

abbrev pub invariant-loop-table : goal.invariant-loop-table
invariant-loop-table l =
    map (λ b. b.now) l.found.items ++ of_tables (drop l.table-index l.tables) ≡ map (λ b. b.now) l.initial.found.items ++ of_tables l.tables
