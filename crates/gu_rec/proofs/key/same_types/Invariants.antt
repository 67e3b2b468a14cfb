use Rattle.std.proofs.Common.{◌≡◌, length}
use Rattle.gu_rec.specs.Alike.{alike_types}
use Rattle.gu_rec.specs.Names.{rename}
use Rattle.gu_rec.specs.Keys.{number_of}
use Rattle.gu_rec.proofs.Alike.{from}
use Rattle.gu_rec.proofs.key.same_types.Given as goal

abbrev pub invariant-loop-k : goal.invariant-loop-k
invariant-loop-k l = record {
  long : length l.one ≡ length l.other;
  rest : from alike_types (rename (number_of l.earlier l.count)) (rename (number_of l.numbers l.count)) l.one l.other 0 ≡ from alike_types (rename (number_of l.earlier l.count)) (rename (number_of l.numbers l.count)) l.one l.other l.k;
}
