use Rattle.std.proofs.Common.{◌≤◌}
use Rattle.gu_types.specs.declared.types.HeapType.TheVariants as H
use Rattle.gu_types.specs.declared.types.TypeList.{TypeList}
use Rattle.gu_types.specs.Depth.{types_of}
use Rattle.gu_rec.specs.Table.{EntriesAre}
use Rattle.gu_rec.specs.Heights.{HeightTo}
use Rattle.gu_rec.proofs.height.farthest.Given as goal

abbrev pub invariant-loop-i : goal.invariant-loop-i
invariant-loop-i l = record {
  small : l.most ≤ 66;
  to : (list : TypeList) → EntriesAre (types_of list) l.entries → HeightTo list (H.Abs l.top) l.i l.most;
}
