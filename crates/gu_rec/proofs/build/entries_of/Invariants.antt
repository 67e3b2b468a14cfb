use Rattle.std.proofs.Common.{◌+◌, take, length}
use Rattle.gu_types.specs.Depth.{types_of, types_in}
use Rattle.gu_rec.specs.Table.{SoFar}
use Rattle.gu_rec.proofs.build.entries_of.Given as goal

abbrev pub invariant-loop-group : goal.invariant-loop-group
invariant-loop-group l = SoFar (types_of l.list) (length (types_in (take l.group-index l.groups))) l.entries.items

abbrev pub invariant-loop-ty : goal.invariant-loop-ty
invariant-loop-ty l = SoFar (types_of l.list) (length (types_in (take l.group-index l.groups)) + l.ty-index) l.entries.items
