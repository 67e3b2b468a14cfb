-- The function of the tests is shaped.
use Rattle.std.proofs.Common.{◌≡◌, List, [], ◌∷◌, ap, ◌∙◌, sym, subst, lit<, arith, pos}
use Rattle.std.specs.List.{AllByRecursion}
use Rattle.std.proofs.lemmas.Int.{ints}
use Rattle.gu_syntax.specs.Code.{code_of, ins_of}
use Rattle.gu_syntax.specs.declared.instr.Instr.{Instr}
use Rattle.gu_syntax.specs.declared.instr.Instr.TheVariants.{I32Const}
use Rattle.gu_syntax.specs.declared.module.Func.{Func}
use Rattle.gu_syntax.specs.Expressions.{merged}
use Rattle.gu_syntax.specs.Shape.{IsShapedIns, IsShapedCode, IsShapedRun, IsShapedFunc}

shaped_const : IsShapedIns (ins_of (I32Const (pos 0)))
unfolding ins_of
shaped_const = (omega (arith, ints), omega (arith, ints))

pub shaped_zero : (func : Func) → func.ty ≡ 0 → func.locals ≡ [] → func.body.code ≡ I32Const (pos 0) ∷ [] → IsShapedFunc func
shaped_zero func ty locals code =
    let Q : List Instr → Type 0 = λ is. IsShapedCode (code_of is) in
    record {
      ty = rw ty (lit< tt);
      merges = ap merged locals ∙ sym locals;
      locals = subst (AllByRecursion IsShapedRun) (sym locals) tt;
      body = subst Q (sym code) (shaped_const, tt);
    }
