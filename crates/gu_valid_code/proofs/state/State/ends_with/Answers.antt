use Rattle.gu_valid_code.proofs.Sets.{did_keep}
use Rattle.gu_valid_code.proofs.state.State.ends_with.Goals as goal

pub returns-then-pop_all-clause-set : goal.returns-then-pop_all-clause-set
returns-then-pop_all-clause-set c on = did_keep c.args.env.now.types.now c.args.results.now c.pop_all.result c.args.self.now c.pop_all.new.self c.pop_all.ensures c.if-pop_all.true
