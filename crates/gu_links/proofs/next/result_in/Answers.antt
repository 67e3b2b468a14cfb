use Rattle.std.proofs.Common.{◌∙◌, sym}
use Rattle.gu_links.specs.Next.{is_rest}
use Rattle.gu_links.proofs.Firsts.{functions_none, functions_some}
use Rattle.gu_links.proofs.next.result_in.Goals as goal

pub returns-in-Some : goal.returns-in-Some
returns-in-Some c = sym (
    c.functions.invariant
    ∙ functions_some c.args.s.now.facts.now c.args.reach (is_rest c.args.rest.fixed.now c.args.rest.first) c.args.functions.now c.functions.function-index 0 c.in-Some.cell c.functions-test.true (sym c.in-Some.ensures)
    )

pub functions-preserved : goal.functions-preserved
functions-preserved c =
    c.functions.invariant
    ∙ functions_none c.args.s.now.facts.now c.args.reach (is_rest c.args.rest.fixed.now c.args.rest.first) c.args.functions.now c.functions.function-index 0 c.functions-test.true (sym c.in_default.ensures)
