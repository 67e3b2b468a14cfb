use Rattle.std.proofs.Common.{◌≡◌, ℕ, ◌+◌, ◌<◌, slice_get, true}
use Rattle.gu_rec.specs.Validity.{indices_hold}
use Rattle.gu_rec.proofs.names.first_bad.Given as goal

abbrev pub invariant-loop-ty : goal.invariant-loop-ty
invariant-loop-ty l = record {
  index_is : l.index ≡ l.start + l.ty-index;
  before : (k : ℕ) → k < l.ty-index → indices_hold l.end (l.start + k) (slice_get l.types k) ≡ true;
}
