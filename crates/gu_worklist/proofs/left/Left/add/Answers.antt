use Rattle.std.proofs.Common.{rules, refl}
use Rattle.gu_worklist.proofs.Marks.{left_few, is_left_added, only_same, only_added}
use Rattle.gu_worklist.proofs.left.Left.add.Goals as goal

pub returns-then-index-clause-few : goal.returns-then-index-clause-few
returns-then-index-clause-few c = let few = left_few c.self.inside.waiting.items c.self.inside.marked.items c.self.invariant in search (rules, few)

pub returns-in_err-push-clause-few : goal.returns-in_err-push-clause-few
returns-in_err-push-clause-few c = let few = left_few c.self.inside.waiting.items c.self.inside.marked.items c.self.invariant in search (rules, few)

pub invariant_of-self-2 : goal.invariant_of-self-2
invariant_of-self-2 c = is_left_added c.self.inside.waiting.items c.push.new.self.items c.self.inside.marked.items c.args.link c.self.invariant (search rules) (search rules) (search rules)

pub returns-clause-few : goal.returns-clause-few
returns-clause-few c = left_few _ _ (is_left_added c.self.inside.waiting.items c.push.new.self.items c.self.inside.marked.items c.args.link c.self.invariant (search rules) (search rules) (search rules))

pub returns-then-index-clause-only : goal.returns-then-index-clause-only
returns-then-index-clause-only c = only_same _ _ _ refl

pub returns-in_err-push-clause-only : goal.returns-in_err-push-clause-only
returns-in_err-push-clause-only c = only_same _ _ _ (search rules)

pub returns-clause-only : goal.returns-clause-only
returns-clause-only c = only_added _ _ _ (search rules)
