use Rattle.std.proofs.Common.{rules, [], length, refl, arith}
use Rattle.gu_contents.specs.declared.content.Content.TheVariants.{Empty}
use Rattle.gu_worklist.proofs.Marks.{keeps_all, keeps_on}
use Rattle.gu_workers.proofs.Room.{weight_on}
use Rattle.gu_workers.proofs.Records.{adds_none, made_more, made_part, makes_none}
use Rattle.gu_workers.specs.Steps.{Makes}
use Rattle.gu_workers.proofs.step.join_all.Goals as goal

pub joins-init : goal.joins-init
joins-init g c = let f = g.N.Ceilings.facts in let links = c.args.s.now.links in let waiting = c.args.left.now.waiting in record {
  worker = (refl, refl, refl);
  left = c.requires.left;
  keeps = keeps_all waiting;
  makes = adds_none (Makes f links waiting []) c.args.w.now.seat.entries (makes_none f links waiting);
  weight = omega arith;
}

pub returns-in_err-raise-clause-are_of : goal.returns-in_err-raise-clause-are_of
returns-in_err-raise-clause-are_of g c = made_part g.N.Ceilings.facts c.args.s.now.links c.joins.left.waiting c.args.asked.now c.joins.cell-index (0, Empty) c.args.w.now.seat.entries c.joins.w.seat.entries c.raise.new.w.seat.entries
    (search rules) c.joins.invariant.makes c.in_err-raise.ensures.are_of

pub joins-preserved : goal.joins-preserved
joins-preserved g c = let inv = c.joins.invariant in let h = c.in_ok-raise.ensures in record {
  worker = search rules;
  left = h.left;
  keeps = keeps_on c.args.left.now.waiting c.joins.left.waiting c.raise.new.left.waiting inv.keeps h.keeps;
  makes = made_more g.N.Ceilings.facts c.args.s.now.links c.joins.left.waiting c.raise.new.left.waiting c.args.asked.now c.joins.cell-index (0, Empty) c.args.w.now.seat.entries c.joins.w.seat.entries c.raise.new.w.seat.entries
      h.keeps (search rules) inv.makes h.makes;
  weight = weight_on g.N.Ceilings.facts c.args.s.now.cells (length c.args.s.now.links) c.args.w.now.seat.entries c.joins.w.seat.entries c.raise.new.w.seat.entries (length c.args.left.now.waiting) (length c.joins.left.waiting) (length c.raise.new.left.waiting) inv.weight h.weight;
}
