use Rattle.std.proofs.Common.{◌≡◌}
use Rattle.gu_cells.specs.Views.{SeatView}
use Rattle.gu_cells.proofs.Seats.{all_more, all_popped}
use Rattle.gu_cells.proofs.tests.open_meet_close.Goals as goal

pub close-requires-clause-of : goal.close-requires-clause-of
close-requires-clause-of g c =
    let left = all_popped (λ (s : SeatView). s.of ≡ c.in_ok-cells.cells.id) c.pop.new.self c.pop-2.new.self c.pop-2.result c.pop-2.ensures
    (all_popped (λ (s : SeatView). s.of ≡ c.in_ok-cells.cells.id) c.in_ok-cells.seats c.pop.new.self c.pop.result c.pop.ensures c.in_ok-cells.ensures.of) in
    all_more (λ (s : SeatView). s.of ≡ c.in_ok-cells.cells.id) c.push.new.self c.push-2.new.self c.meet.new.one c.in_ok-push-2.ensures.ok
    (all_more (λ (s : SeatView). s.of ≡ c.in_ok-cells.cells.id) c.pop-2.new.self c.push.new.self c.meet.new.zero c.in_ok-push.ensures.ok left c.meet.ensures.zero.1)
    c.meet.ensures.one.1
