-- The contents are a lattice, on which all operations are monotone.
use Rattle.gu_contents.specs.declared.facts.Facts.{Facts}
use Rattle.gu_contents.specs.Laws.{OperationsAreMonotone, ContentsAreALattice}
use Rattle.gu_contents.specs.Meets.{filter, minus, test, is_null, equal}
use Rattle.gu_contents.specs.Numbers.{pack, extend}
use Rattle.gu_contents.proofs.Lattice.{below, holds}
use Rattle.gu_contents.proofs.OrderLaw.{is_order}
use Rattle.gu_contents.proofs.JoinLaw.{join_is_least}
use Rattle.gu_contents.proofs.Ranks.{ranks_rise}
use Rattle.gu_contents.proofs.Monotone.{filter_rises, minus_rises, test_rises}
use Rattle.gu_contents.proofs.MonotoneAnswers.{null_rises, pack_rises, extend_rises}
use Rattle.gu_contents.proofs.MonotoneEqual.{equal_rises}

monotone : (f : Facts) → OperationsAreMonotone f
monotone f = record {
  filter_is = λ to h a b i j k. holds f (filter f a to) (filter f b to) (filter_rises f to h a b i j (below f a b i k));
  minus_is = λ by h a b i j k. holds f (minus f a by) (minus f b by) (minus_rises f by h a b i j (below f a b i k));
  test_is = λ to h a b i j k. holds f (test f a to) (test f b to) (test_rises f to h a b i j (below f a b i k));
  is_null_is = λ a b i j k. holds f (is_null a) (is_null b) (null_rises f a b i (below f a b i k));
  equal_is = λ a b c d i j m n k l. holds f (equal f a c) (equal f b d) (equal_rises f a b c d i j m n (below f a b i k) (below f c d m l));
  pack_is = λ s a b i j k. holds f (pack s a) (pack s b) (pack_rises f s a b (below f a b i k));
  extend_is = λ s sign a b i j k. holds f (extend s sign a) (extend s sign b) (extend_rises f s sign a b (below f a b i k));
}

pub lattice : (f : Facts) → ContentsAreALattice f
lattice f = record { order = is_order f; joins = join_is_least f; monotone = monotone f; ranks = ranks_rise f }
