-- A shaped module stays shaped when it is cut.
use Rattle.std.proofs.Common.{List, [], ◌∷◌, map, Bool, true, false, cond, sym, subst}
use Rattle.std.specs.List.{AllByRecursion}
use Rattle.gu_syntax.specs.declared.module.Func.{Func}
use Rattle.gu_syntax.specs.declared.module.Module.{Module}
use Rattle.gu_syntax.specs.Code.{Ins, Code, leaf, block, loop, choice, try_table, done, next, code_of}
use Rattle.gu_syntax.specs.Shape.{IsShaped, IsShapedFunc, IsShapedCode, IsShapedIns}
use Rattle.gu_model.specs.Cut.{leaves_ins, cut, cut_ins, cut_func, cut_module}
use Rattle.gu_model.proofs.Trees.{list_kept}

shaped_rest : (b : Bool) (c : Code) → IsShapedCode c → IsShapedCode (cond b done c)
shaped_rest true c h = tt
shaped_rest false c h = h

mutual
  shaped_code : (c : Code) → IsShapedCode c → IsShapedCode (cut c)
  shaped_code done h = tt
  shaped_code (next i c) h = (shaped_ins i h.0, shaped_rest (leaves_ins i) (cut c) (shaped_code c h.1))

  shaped_ins : (i : Ins) → IsShapedIns i → IsShapedIns (cut_ins i)
  shaped_ins (leaf i) h = h
  shaped_ins (block ty b) h = (h.0, shaped_code b h.1)
  shaped_ins (loop ty b) h = (h.0, shaped_code b h.1)
  shaped_ins (choice ty a b) h = (h.0, shaped_code a h.1, shaped_code b h.2)
  shaped_ins (try_table ty cs b) h = (h.0, h.1, shaped_code b h.2)

shaped_func : (f : Func) → IsShapedFunc f → IsShapedFunc (cut_func f)
shaped_func f h = record { ty = h.ty; merges = h.merges; locals = h.locals; body = subst IsShapedCode (sym (list_kept f.body.code)) (shaped_code (code_of f.body.code) h.body) }

shaped_funcs : (fs : List Func) → AllByRecursion IsShapedFunc fs → AllByRecursion IsShapedFunc (map cut_func fs)
shaped_funcs [] h = tt
shaped_funcs (f ∷ fs) h = (shaped_func f h.0, shaped_funcs fs h.1)

pub cut_shaped : (m : Module) → IsShaped m → IsShaped (cut_module m)
cut_shaped m h = record { types = h.types; imports = h.imports; funcs = shaped_funcs m.funcs h.funcs; tables = h.tables; memories = h.memories; tags = h.tags; globals = h.globals; exports = h.exports; start = h.start; elems = h.elems; segs = h.segs }
