use Rattle.gu_contents.proofs.Belonging.{answers_belong}
use Rattle.gu_contents.proofs.Listed.{answers_listed}
use Rattle.gu_contents.proofs.Law.{lattice}
use Rattle.gu_links.proofs.Climbing.{some_least, least_is_one}
use Rattle.gu_links.proofs.laws.one_least_solution.Goals as goal

pub returns : goal.returns
returns c = record {
  some = λ f longs count links system. some_least f (lattice f) (answers_belong f) longs (answers_listed f longs) count links system;
  one = λ f links x y p q. least_is_one f (lattice f) (answers_belong f) links x y p q;
}
