use Rattle.std.proofs.Common.{◌≡◌, take, Some}
use Rattle.gu_model.specs.TypingShape.{pushes}
use Rattle.gu_valid_code.proofs.state.State.push_all.Given as goal

abbrev pub invariant-loop-ty : goal.invariant-loop-ty
invariant-loop-ty l = pushes (take l.ty-index l.found) l.initial.self ≡ Some l.self
