use Rattle.std.proofs.Common.{refl, ◌∙◌, sym, subst, List}
use Rattle.gu_syntax.specs.declared.instr.Instr.{Instr}
use Rattle.gu_syntax.specs.Code.{code_of}
use Rattle.gu_syntax.specs.Shape.{IsShapedCode}
use Rattle.gu_write_code.proofs.Examples.{shaped_choice}
use Rattle.gu_write_code.proofs.tests.choice.Goals as goal

pub returns : goal.returns
returns c =
    let Q : List Instr → Type 0 = λ is. IsShapedCode (code_of is) in
    shaped_choice _ _ c.body-yes.result c.body-no.result refl c.in_ok-locals.ensures c.in_ok-choice.ensures (c.body-whole.ensures ∙ c.in_ok-code.ensures) (c.body-yes.ensures ∙ c.in_ok-one.ensures) (subst Q (sym c.body-no.ensures) c.requires)
