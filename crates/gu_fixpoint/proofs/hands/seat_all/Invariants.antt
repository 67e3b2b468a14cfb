use Rattle.std.proofs.Common.{◌≡◌, ◌≤◌, true, map, All, length}
use Rattle.std.specs.List.{range_with_len}
use Rattle.gu_fixpoint.proofs.hands.seat_all.Given as goal

abbrev pub invariant-seats : goal.invariant-seats
invariant-seats g l = record {
  seats : map (λ h. h.worker.seat) l.hands.items ≡ l.yielded;
  indices : map (λ h. h.worker.index) l.hands.items ≡ range_with_len 0 (length l.hands.items);
  of : All (λ h. h.worker.of ≡ l.crew.workers) l.hands.items;
  done : All (λ h. h.done ≡ true → l.crew.busy ≤ h.worker.index) l.hands.items;
}
