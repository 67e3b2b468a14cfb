use Rattle.std.proofs.Common.{◌≡◌, ◌++◌, map, drop}
use Rattle.gu_model.specs.ValidContext.{of_global}
use Rattle.gu_valid.proofs.constants.push_globals.Given as goal

abbrev pub invariant-loop-global : goal.invariant-loop-global
invariant-loop-global l =
    map (λ b. b.now) l.found.items ++ map of_global (drop l.global-index l.globals) ≡ map (λ b. b.now) l.initial.found.items ++ map of_global l.globals
