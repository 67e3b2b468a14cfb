use Rattle.std.proofs.Common.{ap, arith}
use Rattle.gu_links.specs.Cells.{own_cells}
use Rattle.gu_solve_main.proofs.systems.is_system.Goals as goal

pub returns : goal.returns
returns c = λ e longs. let same = ap own_cells c.in_ok-numbering.ensures in record { room = omega (arith, same, c.own_cells.ensures); fit = c.all_fit.ensures e longs }
