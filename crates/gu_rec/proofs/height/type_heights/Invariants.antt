use Rattle.std.proofs.Common.{◌≤◌, length}
use Rattle.gu_types.specs.declared.types.TypeList.{TypeList}
use Rattle.gu_rec.specs.Table.{IsTable}
use Rattle.gu_rec.specs.Heights.{HeightsFrom}
use Rattle.gu_rec.proofs.height.type_heights.Given as goal

abbrev pub invariant-types : goal.invariant-types
invariant-types l = record {
  in_range : l.from ≤ length l.least;
  to : (list : TypeList) → IsTable list l.least l.entries → HeightsFrom list l.least l.heights.items l.from;
}

abbrev pub decreases-types : goal.decreases-types
decreases-types l = l.from
