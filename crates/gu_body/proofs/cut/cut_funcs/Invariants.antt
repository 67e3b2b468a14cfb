use Rattle.std.proofs.Common.{map}
use Rattle.gu_model.specs.Cut.{cut_func}
use Rattle.gu_body.proofs.CutStep.{Changed}
use Rattle.gu_body.proofs.cut.cut_funcs.Given as goal

abbrev pub invariant-funcs : goal.invariant-funcs
invariant-funcs l = Changed cut_func l.func-items l.func-index (map cut_func l.fn.funcs)
