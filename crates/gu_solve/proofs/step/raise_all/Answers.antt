use Rattle.std.proofs.Common.{rules, arith}
use Rattle.gu_contents.specs.declared.content.Content.TheVariants.{Empty}
use Rattle.gu_links.specs.Solutions.{at}
use Rattle.gu_worklist.proofs.Marks.{keeps_all, keeps_on}
use Rattle.gu_solve.proofs.Rising.{belong_at, rises_none, rises_more}
use Rattle.gu_solve.proofs.step.raise_all.Goals as goal

pub joins-init : goal.joins-init
joins-init c = record {
  contents = c.requires.contents;
  left = c.requires.left;
  keeps = keeps_all c.args.left.now.waiting;
  rises = rises_none c.args.s.now.facts.now c.args.s.now.links c.args.left.now.waiting (at c.args.contents.now.items);
  weight = omega arith;
}

pub raise-requires-clause-due : goal.raise-requires-clause-due
raise-requires-clause-due c = c.requires.due c.joins.cell-index (0, Empty) c.joins-test.true

pub joins-preserved : goal.joins-preserved
joins-preserved c = let inv = c.joins.invariant in let h = c.in_ok-raise.ensures in let s = c.args.s.now in record {
  contents = h.contents;
  left = h.left;
  keeps = keeps_on c.args.left.now.waiting c.joins.left.waiting c.raise.new.left.waiting inv.keeps h.keeps;
  rises = rises_more s.facts.now s.longs s.cells s.links c.joins.left.waiting c.raise.new.left.waiting c.args.asked.now c.joins.cell-index (0, Empty) (at c.args.contents.now.items) (at c.joins.contents.items) (at c.raise.new.contents.items)
      (belong_at s.facts.now s.longs c.args.contents.now.items c.requires.contents.are_of) (belong_at s.facts.now s.longs c.joins.contents.items inv.contents.are_of) (belong_at s.facts.now s.longs c.raise.new.contents.items h.contents.are_of)
      c.requires.due h.keeps (search rules) inv.rises h.rises;
  weight = let one = h.weight in let two = inv.weight in omega (arith, one, two);
}
