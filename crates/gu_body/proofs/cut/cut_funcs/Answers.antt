use Rattle.std.proofs.Common.{arith}
use Rattle.gu_model.specs.Cut.{cut_func}
use Rattle.gu_body.proofs.CutStep.{changes, changed}
use Rattle.gu_body.proofs.cut.cut_funcs.Goals as goal

pub returns : goal.returns
returns c = changed cut_func c.funcs.func-items c.funcs.func-index _ (omega arith) c.funcs.invariant

pub funcs-preserved : goal.funcs-preserved
funcs-preserved c = changes cut_func c.funcs.func-items c.funcs.func-index c.func-item.result c.cut_func.new.func _ (omega arith) c.cut_func.ensures c.funcs.invariant
