use Rattle.std.proofs.Common.{◌≡◌, ◌+◌, ◌<◌, ℕ, length}
use Rattle.std.specs.Prelude.{Some}
use Rattle.gu_types.specs.declared.types.HeapType.TheVariants as H
use Rattle.gu_types.specs.Depth.{types_of}
use Rattle.gu_rec.specs.Sub.{distance}
use Rattle.gu_links.proofs.readers.supertype.Given as goal

abbrev pub invariant-line : goal.invariant-line
invariant-line l = record {
  in_range : l.at < length (types_of l.f.types);
  on : (above n : ℕ) → distance l.f.types (H.Idx above) (H.Idx l.ty) ≡ Some (l.counter + n) → distance l.f.types (H.Idx above) (H.Idx l.at) ≡ Some n;
}
