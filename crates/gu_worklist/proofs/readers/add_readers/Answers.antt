use Rattle.std.proofs.Common.{rules, ◌∙◌}
use Rattle.gu_links.proofs.Regained.{is_system}
use Rattle.gu_worklist.proofs.Marks.{readers_more, readers_all, keeps_on}
use Rattle.gu_worklist.proofs.readers.add_readers.Goals as goal

pub ups-preserved : goal.ups-preserved
ups-preserved c = let inv = c.ups.invariant in let h = c.in_ok-add_all.ensures in record {
  left = record { links_are = h.left.links_are ∙ inv.left.links_are; few = let few = h.left.few in search (rules, few) };
  readers = readers_more c.args.s.now.facts.now c.args.s.now.links c.args.cell c.ups.up c.readers.result.now c.ups.left.waiting c.add_all.new.left.waiting h.keeps h.added c.readers.ensures.found inv.readers;
  keeps = keeps_on c.args.left.now.waiting c.ups.left.waiting c.add_all.new.left.waiting inv.keeps h.keeps;
}

pub returns-clause-readers : goal.returns-clause-readers
returns-clause-readers c = readers_all c.args.s.now.facts.now c.args.s.now.longs c.args.s.now.cells c.args.s.now.links (is_system c.args.s.now) c.args.cell c.ups.left.waiting
    (λ u number link lt at r. let inv = c.ups.invariant in inv.readers u number link (search rules) at r)
