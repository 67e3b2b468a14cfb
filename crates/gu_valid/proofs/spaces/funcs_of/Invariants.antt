use Rattle.std.proofs.Common.{◌≡◌, ◌++◌, map, drop}
use Rattle.gu_model.specs.Index.{imported, as_func, defined_func, funcs}
use Rattle.gu_valid.proofs.spaces.funcs_of.Given as goal

abbrev pub invariant-loop-import : goal.invariant-loop-import
invariant-loop-import l = l.found.items ++ imported as_func (drop l.import-index l.import-items) ≡ imported as_func l.m.imports

abbrev pub invariant-loop-func : goal.invariant-loop-func
invariant-loop-func l = l.found.items ++ map defined_func (drop l.func-index l.func-items) ≡ funcs l.m
