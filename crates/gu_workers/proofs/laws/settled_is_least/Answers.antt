use Rattle.gu_contents.proofs.Belonging.{answers_belong}
use Rattle.gu_contents.proofs.Law.{lattice}
use Rattle.gu_workers.proofs.Settling.{settled_contents_are_least}
use Rattle.gu_workers.proofs.laws.settled_is_least.Goals as goal

pub returns : goal.returns
returns c f longs links least z records is below settled work = settled_contents_are_least f (lattice f) (answers_belong f) longs links z records settled work least is below
