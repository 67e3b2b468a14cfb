use Rattle.std.proofs.Common.{◌≡◌, ◌++◌, map, drop}
use Rattle.gu_model.specs.ValidContext.{of_segs}
use Rattle.gu_valid.proofs.constants.push_segs.Given as goal

abbrev pub invariant-loop-seg : goal.invariant-loop-seg
invariant-loop-seg l =
    map (λ b. b.now) l.found.items ++ of_segs (drop l.seg-index l.segs) ≡ map (λ b. b.now) l.initial.found.items ++ of_segs l.segs
