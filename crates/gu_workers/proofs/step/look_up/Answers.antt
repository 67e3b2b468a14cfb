use Rattle.std.proofs.Common.{rules, ◌∷◌, ◌++◌, [], List, subst, sym, Contains, arith}
use Rattle.gu_links.specs.Known.{Item, link_at, cells_of, IsKnown}
use Rattle.gu_links.proofs.Knowing.{nothing_known}
use Rattle.gu_workers.specs.Known.{IsHeld, AreKnown}
use Rattle.gu_workers.specs.Steps.{Adds}
use Rattle.gu_worklist.proofs.Unread.{others_known}
use Rattle.gu_workers.proofs.Reading.{known_none, held_none, known_more, held_more, known_back, is_of_as, reads_of_known, reads_and_one}
use Rattle.gu_workers.proofs.Room.{read_room}
use Rattle.gu_workers.proofs.step.look_up.Goals as goal

pub reads-init : goal.reads-init
reads-init g c = let e = sym c.new-known.ensures.items in let old = c.args.seat.now.entries in let link = link_at c.args.s.now.links c.args.link in record {
  seat = search rules;
  known = subst (λ (known : List Item). Adds (AreKnown g.N.Ceilings.facts known) old old) e (known_none g.N.Ceilings.facts old);
  room = omega arith;
  held = subst (IsHeld g.N.Ceilings.facts g.N.Ceilings.longs g.N.Ceilings.ceilings) e (held_none g.N.Ceilings.facts g.N.Ceilings.longs g.N.Ceilings.ceilings);
  onward = subst (IsKnown g.N.Ceilings.facts g.N.Ceilings.longs c.args.s.now.links link) e (nothing_known g.N.Ceilings.facts g.N.Ceilings.longs c.args.s.now.links link);
}

pub reads-smaller : goal.reads-smaller
reads-smaller g c = others_known c.args.s.now.cells c.reads.known.items c.push.new.self.items c.in-Some.cell c.read-content.result c.in_ok-push.ensures.items c.in-Some.ensures.below
    (λ at. c.in-Some.ensures.new (subst (λ (known : List Item). Contains (cells_of known) c.in-Some.cell) (sym c.as_slice.ensures.value) at))

pub reads-preserved : goal.reads-preserved
reads-preserved g c =
    let inv = c.reads.invariant in
    let known = c.reads.known.items in
    let cell = c.in-Some.cell in
    let a = c.read-content.result in
    let e = sym c.in_ok-push.ensures.items in
    let old = c.args.seat.now.entries in
    let new = c.read-content.new.seat.entries in
    let link = link_at c.args.s.now.links c.args.link in
    let h = c.read-content.ensures in record {
      seat = search rules;
      known = subst (λ (ks : List Item). Adds (AreKnown g.N.Ceilings.facts ks) old new) e (known_more g.N.Ceilings.facts known cell a old c.reads.seat.entries new inv.known h.record);
      room = omega (arith, inv.room, read_room g.N.Ceilings.facts g.N.Ceilings.longs c.args.s.now.cells cell a c.reads.seat.entries new h.record h.all);
      held = subst (IsHeld g.N.Ceilings.facts g.N.Ceilings.longs g.N.Ceilings.ceilings) e (held_more g.N.Ceilings.facts g.N.Ceilings.longs g.N.Ceilings.ceilings known cell a inv.held
          (λ at. c.in-Some.ensures.new (subst (λ (ks : List Item). Contains (cells_of ks) cell) (sym c.as_slice.ensures.value) at)) h.belongs h.ceiling);
      onward = subst (IsKnown g.N.Ceilings.facts g.N.Ceilings.longs c.args.s.now.links link) e
          (known_back g.N.Ceilings.facts c.args.s.now.facts.now g.N.Ceilings.longs c.args.s.now.longs c.args.s.now.links link (known ++ (cell, a) ∷ []) c.requires.facts.0 c.requires.facts.1
          (subst (λ (ks : List Item). IsKnown c.args.s.now.facts.now c.args.s.now.longs c.args.s.now.links link (ks ++ (cell, a) ∷ [])) c.as_slice.ensures.value
          (c.in-Some.ensures.onward a (is_of_as g.N.Ceilings.facts c.args.s.now.facts.now g.N.Ceilings.longs c.args.s.now.longs a c.requires.facts.0 c.requires.facts.1 h.belongs))));
    }

pub returns-in_err-push-clause-reads : goal.returns-in_err-push-clause-reads
returns-in_err-push-clause-reads g c = let inv = c.reads.invariant in
    reads_and_one g.N.Ceilings.facts c.in-Some.cell c.read-content.result c.args.seat.now.entries c.reads.seat.entries c.read-content.new.seat.entries (reads_of_known g.N.Ceilings.facts c.reads.known.items c.args.seat.now.entries c.reads.seat.entries inv.known) c.read-content.ensures.record
