use Rattle.std.proofs.Common.{◌≡◌, ◌++◌, map, drop}
use Rattle.gu_model.specs.ValidContext.{of_elems}
use Rattle.gu_valid.proofs.constants.push_elems.Given as goal

abbrev pub invariant-loop-elem : goal.invariant-loop-elem
invariant-loop-elem l =
    map (λ b. b.now) l.found.items ++ of_elems (drop l.elem-index l.elems) ≡ map (λ b. b.now) l.initial.found.items ++ of_elems l.elems
