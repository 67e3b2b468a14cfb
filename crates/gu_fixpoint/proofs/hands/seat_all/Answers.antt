use Rattle.std.proofs.Common.{rules, refl, true, ◌≡◌, ◌≤◌}
use Rattle.gu_fixpoint.proofs.Running.{map_push, index_push, all_push}
use Rattle.gu_fixpoint.proofs.hands.seat_all.Goals as goal

pub seats-preserved : goal.seats-preserved
seats-preserved g c = let inv = c.seats.invariant in let e = c.in_ok-push.ensures.items in record {
  seats = map_push (λ h. h.worker.seat) c.seats.hands.items c.push.new.self.items _ c.seats.yielded e inv.seats;
  indices = index_push (λ h. h.worker.index) c.seats.hands.items c.push.new.self.items _ e inv.indices (search rules);
  of = all_push (λ h. h.worker.of ≡ c.args.crew.workers) c.seats.hands.items c.push.new.self.items _ e inv.of refl;
  done = all_push (λ h. h.done ≡ true → c.args.crew.busy ≤ h.worker.index) c.seats.hands.items c.push.new.self.items _ e inv.done (search rules);
}
