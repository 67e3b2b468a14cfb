use Rattle.std.proofs.Common.{◌≤◌, length, take, []}
use Rattle.gu_rec.specs.Closed.{close_on}
use Rattle.gu_rec.specs.Keys.{Chains}
use Rattle.gu_rec.proofs.Interned.{Kept}
use Rattle.gu_rec.proofs.key.least_indices.Given as goal

abbrev pub invariant-loop-group : goal.invariant-loop-group
invariant-loop-group l = record {
  kept : Kept l.groups (close_on [] (take l.group l.groups)) l.numbers.items l.table.distinct.items;
  chains : Chains l.groups l.numbers.items l.table.distinct.items l.table.lasts.items;
  behind : length l.table.distinct.items ≤ l.group;
}
