use Rattle.std.proofs.Common.{◌∙◌, ap, sym}
use Rattle.gu_model.specs.TypingShape.{Shape}
use Rattle.gu_valid_code.proofs.Pops.{none_left}
use Rattle.gu_valid_code.proofs.state.State.could_pop.Goals as goal

pub returns-in_default-split_last : goal.returns-in_default-split_last
returns-in_default-split_last c =
    ap (λ (s : Shape). s.any) c.self.view_is
    ∙ sym (none_left c.args.env.now.types.now c.wants.left.now c.in-Some.before.now c.in-Some.want.now c.args.self.now c.wants.operands.now c.in_default-split_last.ensures.cases c.in-Some.ensures.cases.0)
    ∙ c.wants.invariant
