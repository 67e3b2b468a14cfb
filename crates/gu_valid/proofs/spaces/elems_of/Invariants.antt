use Rattle.std.proofs.Common.{◌≡◌, ◌++◌, map, drop}
use Rattle.gu_model.specs.ValidContext.{elem_type}
use Rattle.gu_valid.proofs.spaces.elems_of.Given as goal

abbrev pub invariant-loop-elem : goal.invariant-loop-elem
invariant-loop-elem l = l.found.items ++ map elem_type (drop l.elem-index l.elems) ≡ map elem_type l.elems
