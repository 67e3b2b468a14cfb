use Rattle.gu_write.proofs.Joined.{Pending}
use Rattle.gu_write.proofs.code.put_pieces.Given as goal

abbrev pub invariant-pieces : goal.invariant-pieces
invariant-pieces l = Pending l.fn.funcs l.fn.out.items l.out.items l.place l.piece-iterator.rest.items
