use Rattle.std.proofs.Common.{◌≡◌, length, nat_eq}
use Rattle.gu_rec.specs.Keys.{number_of}
use Rattle.gu_rec.proofs.Alike.{from}
use Rattle.gu_rec.proofs.key.same_indices.Given as goal

abbrev pub invariant-loop-k : goal.invariant-loop-k
invariant-loop-k l = record {
  long : length l.one ≡ length l.other;
  rest : from nat_eq (number_of l.earlier l.count) (number_of l.numbers l.count) l.one l.other 0 ≡ from nat_eq (number_of l.earlier l.count) (number_of l.numbers l.count) l.one l.other l.k;
}
