-- Bodies without the code that no run comes to.
use Rattle.std.specs.Prelude.{Bool, true, false, cond, List, map}
use Rattle.gu_syntax.specs.declared.instr.Instr.{Instr}
use Rattle.gu_syntax.specs.declared.instr.Instr.TheVariants as I
use Rattle.gu_syntax.specs.declared.module.Func.{Func}
use Rattle.gu_syntax.specs.declared.module.Module.{Module}
use Rattle.gu_syntax.specs.Code.{Ins, Code, leaf, block, loop, choice, try_table, done, next, code_of, list_of}

-- the unconditional branches: what follows one in its list of instructions is never run, and is typed over a
-- polymorphic stack (core specification 3.0, 3.4 Instructions, instruction sequences)
abbrev pub leaves : Instr → Bool
leaves I.Unreachable = true
leaves (I.Br label) = true
leaves (I.BrTable table) = true
leaves I.Return = true
leaves (I.ReturnCall func) = true
leaves (I.ReturnCallIndirect type table) = true
leaves (I.ReturnCallRef type) = true
leaves (I.Throw tag) = true
leaves I.ThrowRef = true
leaves _ = false

abbrev pub leaves_ins : Ins → Bool
leaves_ins (leaf i) = leaves i
leaves_ins _ = false

-- each list of instructions, the nested ones too, without what follows its first unconditional branch
abbrev mutual
  pub cut : Code → Code
  cut done = done
  cut (next i c) = next (cut_ins i) (cond (leaves_ins i) done (cut c))

  pub cut_ins : Ins → Ins
  cut_ins (block type c) = block type (cut c)
  cut_ins (loop type c) = loop type (cut c)
  cut_ins (choice type c d) = choice type (cut c) (cut d)
  cut_ins (try_table type catches c) = try_table type catches (cut c)
  cut_ins (leaf i) = leaf i

abbrev pub cut_list : List Instr → List Instr
cut_list is = list_of (cut (code_of is))

abbrev pub cut_func : Func → Func
cut_func f = record f { body = record { code = cut_list f.body.code } }

-- the body of each defined function is cut; constant expressions stay
abbrev pub cut_module : Module → Module
cut_module m = record m { funcs = map cut_func m.funcs }
