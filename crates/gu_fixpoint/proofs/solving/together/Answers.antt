use Rattle.std.proofs.Common.{◌≡◌, ◌∙◌, All, map, length, subst, sym, ap}
use Rattle.std.specs.List.{range_with_len}
use Rattle.std.specs.Prelude.{slice_get}
use Rattle.gu_cells.specs.Views.{SeatView}
use Rattle.gu_fixpoint.proofs.Running.{long_map, long_as, numbers_long, all_ready, numbers_stay, cells_stay, all_worked, unmapped, mapped, is_track, track_is_least}
use Rattle.gu_fixpoint.proofs.Bounding.{are_of}
use Rattle.gu_fixpoint.proofs.solving.together.Goals as goal

pub seat_all-requires : goal.seat_all-requires
seat_all-requires g c = record { few = numbers_long c.args.workers c.in_ok-cells.seats c.in_ok-cells.ensures.numbers }

pub run_list-requires-clause-all : goal.run_list-requires-clause-all
run_list-requires-clause-all g c κs within = long_as (λ w. w.worker.index) c.args.workers c.in_ok-hands.hands.items c.in_ok-hands.ensures.indices

pub run_list-requires-clause-ready : goal.run_list-requires-clause-ready
run_list-requires-clause-ready g c κs within = let h = c.in_ok-hands.ensures in let o = c.in_ok-cells.ensures in
    all_ready (λ w. w.worker.seat) (λ w. w.worker.index) (λ w. w.worker.of) (λ w. w.done) g.N.Ceilings.facts c.args.s.now.links c.args.workers c.in_ok-cells.cells.id c.in_ok-hands.hands.items c.in_ok-cells.seats h.seats h.of o.of o.records

pub close-requires-clause-numbers : goal.close-requires-clause-numbers
close-requires-clause-numbers g c =
    let h = c.in_ok-hands.ensures in let o = c.in_ok-cells.ensures in let r = c.run_list.ensures in let u = c.in_ok-seats.ensures in
    let ws = c.in_ok-hands.hands.items in let vs = c.run_list.new.hands.items in
    let stay = numbers_stay (λ w. w.worker.seat) (λ w. w.worker.index) (λ w. w.worker.of) (λ w. w.done) g.N.Ceilings.facts c.args.s.now.links c.args.workers c.in_ok-cells.cells.id ws vs r in
    ap (map (λ (s : SeatView). s.number)) (sym u.seats) ∙ (stay ∙ (ap (map (λ (s : SeatView). s.number)) h.seats ∙ (o.numbers ∙ ap (range_with_len 0) (sym o.cells.1))))

pub close-requires-clause-of : goal.close-requires-clause-of
close-requires-clause-of g c =
    let h = c.in_ok-hands.ensures in let o = c.in_ok-cells.ensures in let r = c.run_list.ensures in let u = c.in_ok-seats.ensures in
    let ws = c.in_ok-hands.hands.items in let vs = c.run_list.new.hands.items in let id = c.in_ok-cells.cells.id in
    let stay = cells_stay (λ w. w.worker.seat) (λ w. w.worker.index) (λ w. w.worker.of) (λ w. w.done) g.N.Ceilings.facts c.args.s.now.links c.args.workers id ws vs r in
    let same = ap (map (λ (s : SeatView). s.of)) (sym u.seats) ∙ (stay ∙ ap (map (λ (s : SeatView). s.of)) h.seats) in
    unmapped (λ i. i ≡ id) (λ (s : SeatView). s.of) c.in_ok-seats.seats (subst (All (λ i. i ≡ id)) (sym same) (mapped (λ i. i ≡ id) (λ (s : SeatView). s.of) c.in_ok-cells.seats o.of))

pub returns-in-Ok-clause-track : goal.returns-in-Ok-clause-track
returns-in-Ok-clause-track g c =
    let f = g.N.Ceilings.facts in let longs = g.N.Ceilings.longs in let links = c.args.s.now.links in let n = c.args.workers in
    let h = c.in_ok-hands.ensures in let o = c.in_ok-cells.ensures in let r = c.run_list.ensures in let u = c.in_ok-seats.ensures in let e = c.in-Ok.ensures in
    let ws = c.in_ok-hands.hands.items in let vs = c.run_list.new.hands.items in let T = c.in_ok-seats.seats in
    let works = all_worked (λ w. w.worker.seat) (λ w. w.worker.index) (λ w. w.worker.of) (λ w. w.done) f links n c.in_ok-cells.cells.id ws vs T h.indices r u.done u.seats in
    let stay = numbers_stay (λ w. w.worker.seat) (λ w. w.worker.index) (λ w. w.worker.of) (λ w. w.done) f links n c.in_ok-cells.cells.id ws vs r in
    let numbers = ap (map (λ (s : SeatView). s.number)) (sym u.seats) ∙ (stay ∙ (ap (map (λ (s : SeatView). s.number)) h.seats ∙ o.numbers)) in
    let long = ap length e.track ∙ (long_map (λ (s : SeatView). s.entries) T ∙ numbers_long n T numbers) in
    is_track f longs links n c.in-Ok.solved.0 c.in-Ok.solved.1 e.belong long (λ j entries at. works j entries (ap (λ es. slice_get es j) (sym e.track) ∙ at)) e.all e.seen e.settled

pub returns-in-Ok-clause-least : goal.returns-in-Ok-clause-least
returns-in-Ok-clause-least g c =
    let f = g.N.Ceilings.facts in let longs = g.N.Ceilings.longs in let links = c.args.s.now.links in let n = c.args.workers in
    let h = c.in_ok-hands.ensures in let o = c.in_ok-cells.ensures in let r = c.run_list.ensures in let u = c.in_ok-seats.ensures in let e = c.in-Ok.ensures in
    let ws = c.in_ok-hands.hands.items in let vs = c.run_list.new.hands.items in let T = c.in_ok-seats.seats in
    let works = all_worked (λ w. w.worker.seat) (λ w. w.worker.index) (λ w. w.worker.of) (λ w. w.done) f links n c.in_ok-cells.cells.id ws vs T h.indices r u.done u.seats in
    let stay = numbers_stay (λ w. w.worker.seat) (λ w. w.worker.index) (λ w. w.worker.of) (λ w. w.done) f links n c.in_ok-cells.cells.id ws vs r in
    let numbers = ap (map (λ (s : SeatView). s.number)) (sym u.seats) ∙ (stay ∙ (ap (map (λ (s : SeatView). s.number)) h.seats ∙ o.numbers)) in
    let long = ap length e.track ∙ (long_map (λ (s : SeatView). s.entries) T ∙ numbers_long n T numbers) in
    track_is_least f longs links n c.in-Ok.solved.0 c.in-Ok.solved.1 g.N.Ceilings.ceilings c.requires.some c.requires.ceilings e.ceilings e.belong
    (is_track f longs links n c.in-Ok.solved.0 c.in-Ok.solved.1 e.belong long (λ j entries at. works j entries (ap (λ es. slice_get es j) (sym e.track) ∙ at)) e.all e.seen e.settled)

pub returns-in-Ok-clause-are_of : goal.returns-in-Ok-clause-are_of
returns-in-Ok-clause-are_of g c = are_of g.N.Ceilings.facts g.N.Ceilings.longs c.in-Ok.solved.0 c.in-Ok.ensures.belong
