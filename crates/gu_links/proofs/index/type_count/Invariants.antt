use Rattle.std.proofs.Common.{◌≤◌, ◌-◌, ◌^◌, length}
use Rattle.gu_types.specs.Depth.{types_of}
use Rattle.gu_links.proofs.index.type_count.Given as goal

abbrev pub invariant-types : goal.invariant-types
invariant-types l = l.count ≤ length (types_of l.f.types)

abbrev pub decreases-types : goal.decreases-types
decreases-types l = 2 ^ 32 - l.count
