use Rattle.std.proofs.Common.{◌≡◌, ℕ, ◌<◌, true, take, length}
use Rattle.gu_types.specs.Depth.{types_in}
use Rattle.gu_rec.specs.Validity.{indices_hold_at}
use Rattle.gu_rec.proofs.names.check_indices.Given as goal

abbrev pub invariant-loop-group : goal.invariant-loop-group
invariant-loop-group l = record {
  start_is : l.start ≡ length (types_in (take l.group-index l.groups));
  before : (i : ℕ) → i < l.start → indices_hold_at l.list i ≡ true;
}
