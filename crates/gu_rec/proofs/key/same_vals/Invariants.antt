use Rattle.std.proofs.Common.{◌≡◌, length}
use Rattle.gu_types.specs.contracts.types.ValTypePartialEq.TheImpl as val
use Rattle.gu_rec.specs.Names.{rename_val}
use Rattle.gu_rec.specs.Keys.{number_of}
use Rattle.gu_rec.proofs.Alike.{from}
use Rattle.gu_rec.proofs.key.same_vals.Given as goal

abbrev pub invariant-loop-k : goal.invariant-loop-k
invariant-loop-k l = record {
  long : length l.one ≡ length l.other;
  rest : from (val.eq-value).it (rename_val (number_of l.earlier l.count)) (rename_val (number_of l.numbers l.count)) l.one l.other 0 ≡ from (val.eq-value).it (rename_val (number_of l.earlier l.count)) (rename_val (number_of l.numbers l.count)) l.one l.other l.k;
}
