use Rattle.std.proofs.Common.{◌∙◌, ◌<◌, ap, arith, length, reverse}
use Rattle.gu_model.specs.TypingShape.{Shape}
use Rattle.gu_valid_code.specs.Body.{unset}
use Rattle.gu_valid_code.proofs.Sets.{noted}
use Rattle.gu_valid_code.proofs.state.State.set_local.Goals as goal

pub returns-in_ok-push-clause-back : goal.returns-in_ok-push-clause-back
returns-in_ok-push-clause-back c =
    noted c.args.here.now.items c.push.new.self.items c.self.inside.set.items c.args.local c.index.result.now c.in_ok-push.ensures.items c.index.ensures c.if-not-index.true (let e : c.args.local < length c.self.inside.set.items = omega (arith, c.if-place-len.true, c.len.ensures) in e)
    ∙ ap (λ (s : Shape). unset (reverse c.args.here.now.items) s.set) c.self.view_is
