use Rattle.std.proofs.lemmas.List.FromFn.{length-map-range_with_len}
use Rattle.gu_contents.proofs.Law.{lattice}
use Rattle.gu_contents.proofs.Belonging.{answers_belong}
use Rattle.gu_contents.proofs.Listed.{answers_listed}
use Rattle.gu_links.proofs.Climbing.{least_contents_are}
use Rattle.gu_links.proofs.Regained.{is_system}
use Rattle.gu_fixpoint.proofs.solving.solve.Goals as goal

pub together-requires-clause-length : goal.together-requires-clause-length
together-requires-clause-length g c κs within = length-map-range_with_len _ 0 c.args.s.now.cells

pub together-requires-clause-ceilings : goal.together-requires-clause-ceilings
together-requires-clause-ceilings g c κs within = let f = c.args.s.now.facts.now in let longs = c.args.s.now.longs in
    least_contents_are f (lattice f) (answers_belong f) longs (answers_listed f longs) c.args.s.now.cells c.args.s.now.links (is_system c.args.s.now)
