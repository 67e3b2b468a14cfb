use Rattle.std.proofs.Common.{◌≡◌, map, All, true}
use Rattle.gu_fixpoint.proofs.hands.unseat.Given as goal

abbrev pub invariant-hands : goal.invariant-hands
invariant-hands g l = record {
  seats : map (λ h. h.worker.seat) l.yielded ≡ l.seats.items;
  done : All (λ h. h.done ≡ true) l.yielded;
}
