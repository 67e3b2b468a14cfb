use Rattle.std.proofs.Common.{◌≡◌, map}
use Rattle.std.specs.List.{filter}
use Rattle.gu_rec.specs.Keys.{run}
use Rattle.gu_links.specs.Cells.{is_least}
use Rattle.gu_links.specs.Listing.{itself}
use Rattle.gu_links.proofs.grouped.least_types.Given as goal

abbrev pub invariant-types : goal.invariant-types
invariant-types l = l.items ≡ map itself (filter (is_least l.f.types) (run 0 l.ty))
