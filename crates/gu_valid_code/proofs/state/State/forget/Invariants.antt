use Rattle.std.proofs.Common.{◌≡◌, length, map, reverse}
use Rattle.gu_model.specs.TypingShape.{Shape}
use Rattle.gu_valid_code.specs.Body.{before}
use Rattle.gu_valid_code.specs.State.{kind_of}
use Rattle.gu_valid_code.proofs.state.State.forget.Given as goal

abbrev pub invariant-left : goal.invariant-left
invariant-left l =
    let now : Shape = record { types = map kind_of (reverse l.self-inside.operands.items); any = l.self-inside.any; set = l.self-inside.set.items } in
    before l.left.items now ≡ before l.fn.here.items l.fn.self

abbrev pub decreases-left : goal.decreases-left
decreases-left l = length l.left.items
