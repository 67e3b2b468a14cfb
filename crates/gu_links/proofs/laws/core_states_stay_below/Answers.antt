use Rattle.gu_contents.proofs.Belonging.{answers_belong}
use Rattle.gu_contents.proofs.Law.{lattice}
use Rattle.gu_links.proofs.Reached.{states_below, solved_state, closed_is_not_open}
use Rattle.gu_links.proofs.laws.core_states_stay_below.Goals as goal

pub returns : goal.returns
returns c = record {
  below = λ f longs count links system x s. states_below f (lattice f) (answers_belong f) longs count links system x s;
  least = λ f longs count links system x s solves. solved_state f (lattice f) (answers_belong f) longs count links system x s solves;
  closed = closed_is_not_open;
}
