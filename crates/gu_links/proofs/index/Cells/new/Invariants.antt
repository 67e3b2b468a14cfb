use Rattle.std.proofs.Common.{◌≡◌, ◌+◌, ◌++◌, length, map}
use Rattle.gu_types.specs.Depth.{types_of}
use Rattle.gu_rec.specs.Keys.{run}
use Rattle.gu_links.specs.Cells.{own_slots, before_func, params_of}
use Rattle.gu_links.specs.Index.{owned, own_places}
use Rattle.gu_links.proofs.index.Cells.new.Given as goal

abbrev pub invariant-functions : goal.invariant-functions
invariant-functions l = record {
  params : l.params.items ≡ map (before_func l.f) (run 0 l.place);
  results : l.results.items ≡ map (λ g. before_func l.f g + params_of l.f g) (run 0 l.place);
  owners : l.owners.items ≡ owned (own_slots l.f.types) (length (types_of l.f.types)) ++ owned (own_places l.f) l.place;
}
