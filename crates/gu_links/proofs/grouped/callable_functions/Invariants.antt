use Rattle.std.proofs.Common.{◌≡◌, ℕ, false, map}
use Rattle.std.specs.Prelude.{slice_index_or}
use Rattle.std.specs.List.{filter}
use Rattle.gu_rec.specs.Keys.{run}
use Rattle.gu_links.specs.Listing.{of_type}
use Rattle.gu_links.proofs.grouped.callable_functions.Given as goal

abbrev pub invariant-functions : goal.invariant-functions
invariant-functions l = l.items ≡ map (of_type l.funcs) (filter (λ (g : ℕ). slice_index_or l.callable g false) (run 0 l.place))
