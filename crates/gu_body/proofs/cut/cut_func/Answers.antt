use Rattle.std.proofs.Common.{ap}
use Rattle.gu_model.proofs.Trees.{cut_list_is}
use Rattle.gu_body.proofs.cut.cut_func.Goals as goal

pub returns : goal.returns
returns c = ap (λ is. record c.args.func.now { body = record { code = is } }) (cut_list_is _ _ c.cut_tails.ensures)
