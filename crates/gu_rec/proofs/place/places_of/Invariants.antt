use Rattle.std.proofs.Common.{◌+◌, take, length}
use Rattle.gu_types.specs.Depth.{types_in}
use Rattle.gu_rec.specs.Table.{PlacesTo}
use Rattle.gu_rec.proofs.place.places_of.Given as goal

abbrev pub invariant-loop-group : goal.invariant-loop-group
invariant-loop-group l = PlacesTo l.list (length (types_in (take l.group l.groups))) l.places.items

abbrev pub invariant-loop-position : goal.invariant-loop-position
invariant-loop-position l = PlacesTo l.list (length (types_in (take l.group l.groups)) + l.position) l.places.items
