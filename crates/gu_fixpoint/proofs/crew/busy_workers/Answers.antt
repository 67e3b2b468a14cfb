use Rattle.std.proofs.Common.{rules}
use Rattle.gu_fixpoint.proofs.Busy.{busy_more, all_busy}
use Rattle.gu_fixpoint.proofs.crew.busy_workers.Goals as goal

pub links-preserved : goal.links-preserved
links-preserved c =
    let links = c.as_slice-links.result.now in
    busy_more links c.args.workers c.links.busy c.needed-busy.result c.links.number _ c.links.invariant c.index-links-number.is c.needed-busy.ensures.few c.needed-busy.ensures.more c.needed-busy.ensures.enough

pub returns-clause-busy : goal.returns-clause-busy
returns-clause-busy c = all_busy c.args.s.now.links c.args.workers c.links.busy c.links.number (search rules) (search rules)
