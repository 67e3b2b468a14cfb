use Rattle.std.proofs.Common.{rules, get_or}
use Rattle.std.proofs.lemmas.Option.{slice_get-get_or}
use Rattle.gu_solve_main.proofs.Fitting.{fit_more}
use Rattle.gu_solve_main.proofs.systems.all_fit.Goals as goal

pub links-preserved : goal.links-preserved
links-preserved c =
    fit_more c.args.facts.now c.args.cells c.args.links.now c.links.link-index c.link-item.result c.links.invariant c.link-item.is (c.fits.ensures (search rules))

pub returns : goal.returns
returns c = λ e longs k d lt. c.links.invariant.each k (get_or c.args.links.now k d) longs (search rules) (slice_get-get_or c.args.links.now k d lt)
