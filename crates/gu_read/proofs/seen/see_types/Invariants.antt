use Rattle.std.proofs.Common.{◌++◌, take}
use Rattle.gu_types.specs.Depth.{types_in}
use Rattle.gu_read.specs.Seen.{Sees}
use Rattle.gu_read.proofs.seen.see_types.Given as goal

abbrev pub invariant-groups : goal.invariant-groups
invariant-groups l = Sees l.seen (types_in (take l.group-index l.groups))

abbrev pub invariant-types : goal.invariant-types
invariant-types l = Sees l.seen (types_in (take l.group-index l.groups) ++ take l.ty-index l.types)
