use Rattle.std.proofs.Common.{length}
use Rattle.gu_rec.specs.Keys.{key, bucket_of}
use Rattle.gu_rec.proofs.Chained.{Searching}
use Rattle.gu_rec.proofs.distinct.Table.find.Given as goal

abbrev pub invariant-loop-up_to : goal.invariant-loop-up_to
invariant-loop-up_to l = Searching l.groups l.numbers l.self.distinct.items (length l.self.lasts.items) (bucket_of (length l.self.lasts.items) l.hash) (key l.numbers l.types) l.up_to

abbrev pub decreases-loop-up_to : goal.decreases-loop-up_to
decreases-loop-up_to l = l.up_to
