use Rattle.std.proofs.Common.{◌≡◌, ◌++◌, map, drop}
use Rattle.gu_model.specs.Index.{imported, as_global, defined_global, globals}
use Rattle.gu_valid.proofs.spaces.globals_of.Given as goal

abbrev pub invariant-loop-import : goal.invariant-loop-import
invariant-loop-import l = l.found.items ++ imported as_global (drop l.import-index l.import-items) ≡ imported as_global l.m.imports

abbrev pub invariant-loop-global : goal.invariant-loop-global
invariant-loop-global l = l.found.items ++ map defined_global (drop l.global-index l.global-items) ≡ globals l.m
