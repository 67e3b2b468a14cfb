use Rattle.std.proofs.Common.{◌+◌, arith}
use Rattle.std.proofs.lemmas.Grind.{common_steps}
use Rattle.gu_outside.proofs.Moves.{TakenAtMost-more}
use Rattle.gu_outside.proofs.read.read_to_limit.Goals as goal

pub returns-in_err-extend_from_slice-clause-taken :
    goal.returns-in_err-extend_from_slice-clause-taken
returns-in_err-extend_from_slice-clause-taken g c =
    TakenAtMost-more (g.R.Source.left c.args.input.now) (g.R.Source.left c.loop-piece.input) (g.R.Source.left c.take.new.self) c.loop-piece.bytes.items c.take.new.into c.in_ok-n.n (c.args.limit + 1) c.loop-piece.invariant.taken c.in_ok-n.ensures.moves (grind (arith, common_steps))
