use Rattle.std.proofs.Common.{arith}
use Rattle.gu_solve_main.proofs.Layered.{layered_is_shallow}
use Rattle.gu_solve_main.proofs.classes.are_layered.Goals as goal

pub returns : goal.returns
returns c = λ e. layered_is_shallow c.args.classes.now (record { each = λ index class lt at. c.classes.invariant.each index class (omega arith) at })
