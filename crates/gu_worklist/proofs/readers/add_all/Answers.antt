use Rattle.std.proofs.Common.{rules, ◌+◌, ◌∙◌, subst, All, Contains}
use Rattle.std.proofs.lemmas.List.{take_all}
use Rattle.gu_worklist.proofs.Marks.{added_more, keeps_on, only_more, only_of}
use Rattle.gu_worklist.proofs.readers.add_all.Goals as goal

pub links-preserved : goal.links-preserved
links-preserved c = let inv = c.links.invariant in let h = c.in_ok-add.ensures in record {
  left = record { links_are = h.links ∙ inv.left.links_are; few = let few = h.few in search (rules, few) };
  added = added_more c.args.links.now c.links.link-index _ c.links.left.waiting c.add.new.self.waiting h.keeps inv.added (search rules) h.added;
  keeps = keeps_on c.args.left.now.waiting c.links.left.waiting c.add.new.self.waiting inv.keeps h.keeps;
  only = only_more c.args.links.now c.links.link-index 0 c.args.left.now.waiting c.links.left.waiting c.add.new.self.waiting (search rules) inv.only h.only;
}

pub returns-clause-added : goal.returns-clause-added
returns-clause-added c = let inv = c.links.invariant in subst (All (Contains c.links.left.waiting)) (take_all c.links.link-index c.args.links.now (search rules)) inv.added

pub returns-clause-only : goal.returns-clause-only
returns-clause-only c = let inv = c.links.invariant in only_of c.args.links.now c.links.link-index c.args.left.now.waiting c.links.left.waiting inv.only

pub returns-in_err-add-clause-only : goal.returns-in_err-add-clause-only
returns-in_err-add-clause-only c =
    only_of c.args.links.now (c.links.link-index + 1) c.args.left.now.waiting c.add.new.self.waiting
    (only_more c.args.links.now c.links.link-index 0 c.args.left.now.waiting c.links.left.waiting c.add.new.self.waiting (search rules) c.links.invariant.only c.in_err-add.ensures.only)
