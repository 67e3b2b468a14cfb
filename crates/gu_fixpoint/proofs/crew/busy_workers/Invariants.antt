use Rattle.gu_fixpoint.proofs.Busy.{FirstBusy}
use Rattle.gu_fixpoint.proofs.crew.busy_workers.Given as goal

abbrev pub invariant-links : goal.invariant-links
invariant-links l = FirstBusy l.links l.workers l.busy l.number
