use Rattle.std.proofs.Common.{◌≡◌, ◌≤◌, ◌<◌, ℕ, length, vec_capacity}
use Rattle.std.specs.Slots.{slots_items}
use Rattle.gu_cells.specs.Record.{at}
use Rattle.gu_cells.specs.Rule.{now_of}
use Rattle.gu_cells.proofs.cells.take_contents.Given as goal

abbrev pub invariant-loop-cell : goal.invariant-loop-cell
invariant-loop-cell l = record {
  length : length l.contents.items ≡ l.cell;
  room : l.cells ≤ vec_capacity l.contents;
  each : (k : ℕ) → k < l.cell → at l.contents.items k ≡ now_of l.longs (slots_items l.closed.words) k;
}
