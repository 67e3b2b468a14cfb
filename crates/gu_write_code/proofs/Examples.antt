-- The functions of the tests are shaped.
use Rattle.std.proofs.Common.{◌≡◌, List, [], ◌∷◌, ap, ◌∙◌, sym, subst, lit<}
use Rattle.std.specs.List.{AllByRecursion}
use Rattle.gu_types.specs.declared.types.ValType.TheVariants as V
use Rattle.gu_syntax.specs.Code.{code_of, ins_of}
use Rattle.gu_syntax.proofs.Shapes.{ins_of-If}
use Rattle.gu_syntax.specs.declared.instr.BlockType.TheVariants as B
use Rattle.gu_syntax.specs.declared.instr.Body.{Body}
use Rattle.gu_syntax.specs.declared.instr.Choice.{Choice}
use Rattle.gu_syntax.specs.declared.instr.Instr.{Instr}
use Rattle.gu_syntax.specs.declared.instr.Instr.TheVariants.{Nop, LocalGet, If}
use Rattle.gu_syntax.specs.declared.module.Func.{Func}
use Rattle.gu_syntax.specs.Expressions.{merged}
use Rattle.gu_syntax.specs.Shape.{IsShapedIns, IsShapedCode, IsShapedRun, IsShapedFunc}

pub shaped_nop : (is : List Instr) → is ≡ Nop ∷ [] → IsShapedCode (code_of is)
unfolding ins_of
shaped_nop is e = rw e (tt, tt)

shaped_get : IsShapedIns (ins_of (LocalGet 0))
unfolding ins_of
shaped_get = lit< tt

pub shaped_choice : (func : Func) (choice' : Choice) (yes' no' : Body) → func.ty ≡ 0 → func.locals ≡ (2, V.I32) ∷ (1, V.I64) ∷ [] → choice' ≡ record { ty = B.Empty; yes = yes'; no = no' } → func.body.code ≡ LocalGet 0 ∷ If choice' ∷ [] → yes'.code ≡ Nop ∷ [] → IsShapedCode (code_of no'.code) → IsShapedFunc func
shaped_choice func choice' yes' no' ty locals made code first second =
    let Q : List Instr → Type 0 = λ is. IsShapedCode (code_of is) in
    let choice = subst IsShapedIns (sym (ap (λ c. ins_of (If c)) made ∙ ins_of-If (record { ty = B.Empty; yes = yes'; no = no' }))) (tt, shaped_nop yes'.code first, second) in
    record {
      ty = rw ty (lit< tt);
      merges = ap merged locals ∙ sym locals;
      locals = subst (AllByRecursion IsShapedRun) (sym locals) ((lit< tt, tt), ((lit< tt, tt), tt));
      body = subst Q (sym code) (shaped_get, (choice, tt));
    }
