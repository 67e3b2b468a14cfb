use Rattle.std.proofs.Common.{rules}
use Rattle.gu_worklist.proofs.Marks.{is_left_taken}
use Rattle.gu_worklist.proofs.left.Left.take.Goals as goal

pub invariant_of-self-2 : goal.invariant_of-self-2
invariant_of-self-2 c = is_left_taken c.self.inside.waiting.items c.pop.new.self.items c.self.inside.marked.items c.in_ok-link.link c.self.invariant (search rules)
