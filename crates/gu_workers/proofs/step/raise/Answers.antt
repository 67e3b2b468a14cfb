use Rattle.std.proofs.Common.{length, ◌≡◌, ◌≢◌}
use Rattle.gu_workers.proofs.Raising.{join_adds, join_makes, join_weighs, raise_weighs, readers_as, when_true, when_false}
use Rattle.gu_workers.proofs.step.raise.Goals as goal

pub returns-in_err-add_readers-clause-are_of : goal.returns-in_err-add_readers-clause-are_of
returns-in_err-add_readers-clause-are_of g c = let j = c.join-joined.result in
    join_adds g.N.Ceilings.facts g.N.Ceilings.longs c.args.s.now.links c.args.cell c.args.content j.before j.after c.args.w.now.seat.entries c.join-joined.new.seat.entries c.join-joined.ensures.record c.join-joined.ensures.after

pub returns-in_ok-add_readers-clause-are_of : goal.returns-in_ok-add_readers-clause-are_of
returns-in_ok-add_readers-clause-are_of g c = let j = c.join-joined.result in
    join_adds g.N.Ceilings.facts g.N.Ceilings.longs c.args.s.now.links c.args.cell c.args.content j.before j.after c.args.w.now.seat.entries c.join-joined.new.seat.entries c.join-joined.ensures.record c.join-joined.ensures.after

pub returns-else-joined-clause-are_of : goal.returns-else-joined-clause-are_of
returns-else-joined-clause-are_of g c = let j = c.join-joined.result in
    join_adds g.N.Ceilings.facts g.N.Ceilings.longs c.args.s.now.links c.args.cell c.args.content j.before j.after c.args.w.now.seat.entries c.join-joined.new.seat.entries c.join-joined.ensures.record c.join-joined.ensures.after

pub returns-in_ok-add_readers-clause-makes : goal.returns-in_ok-add_readers-clause-makes
returns-in_ok-add_readers-clause-makes g c = let j = c.join-joined.result in
    join_makes g.N.Ceilings.facts g.N.Ceilings.longs c.args.s.now.links c.args.cell c.args.content j.before j.after c.args.w.now.seat.entries c.join-joined.new.seat.entries c.join-joined.ensures.record
    c.add_readers.new.left.waiting c.join-joined.ensures.after
    (λ ne. readers_as g.N.Ceilings.facts c.args.s.now.facts.now c.args.s.now.links c.args.cell c.add_readers.new.left.waiting c.requires.facts.0 c.in_ok-add_readers.ensures.readers)

pub returns-else-joined-clause-makes : goal.returns-else-joined-clause-makes
returns-else-joined-clause-makes g c = let j = c.join-joined.result in
    join_makes g.N.Ceilings.facts g.N.Ceilings.longs c.args.s.now.links c.args.cell c.args.content j.before j.after c.args.w.now.seat.entries c.join-joined.new.seat.entries c.join-joined.ensures.record
    c.args.left.now.waiting c.join-joined.ensures.after (λ ne. absurd (ne (when_false (j.before ≢ j.after) (j.before ≡ j.after) j.raised c.join-joined.ensures.raised c.if-joined.false)))

pub returns-in_ok-add_readers-clause-weight : goal.returns-in_ok-add_readers-clause-weight
returns-in_ok-add_readers-clause-weight g c = let j = c.join-joined.result in let h = c.join-joined.ensures in
    raise_weighs g.N.Ceilings.facts g.N.Ceilings.longs c.args.s.now.links c.args.cell c.args.content j.before j.after c.args.w.now.seat.entries c.join-joined.new.seat.entries h.record
    c.args.s.now.cells (length c.args.s.now.links) (length c.args.left.now.waiting) (length c.add_readers.new.left.waiting) c.requires.fitting.cell h.all h.belong.0 c.requires.fitting.belongs h.belong.1
    h.seen h.after (when_true (j.before ≢ j.after) (j.before ≡ j.after) j.raised h.raised c.if-joined.true) c.in_ok-add_readers.ensures.left.few

pub returns-else-joined-clause-weight : goal.returns-else-joined-clause-weight
returns-else-joined-clause-weight g c = let j = c.join-joined.result in
    join_weighs g.N.Ceilings.facts g.N.Ceilings.longs c.args.s.now.links c.args.cell c.args.content j.before j.after c.args.w.now.seat.entries c.join-joined.new.seat.entries c.join-joined.ensures.record
    c.args.s.now.cells (length c.args.s.now.links) (length c.args.left.now.waiting) c.join-joined.ensures.all
