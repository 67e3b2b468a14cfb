use Rattle.std.proofs.Common.{◌++◌, List, map, append_assoc, ap, ◌∙◌}
use Rattle.std.specs.Prelude.{zip}
use Rattle.gu_links.specs.Cells.{param_cells, out_cells}
use Rattle.gu_links.specs.Gives.{Asked}
use Rattle.gu_links.proofs.call.call.Goals as goal

pub returns : goal.returns
returns c x h =
    c.in_ok-give_back.ensures x h
    ∙ ap (λ (xs : List Asked). xs ++ zip c.args.results.now (map x (out_cells c.args.s.now.facts.now c.args.function))) (c.in_ok-pass.ensures x h)
    ∙ append_assoc c.args.asked.now (zip (param_cells c.args.s.now.facts.now c.args.function) (map x c.args.operands.now)) (zip c.args.results.now (map x (out_cells c.args.s.now.facts.now c.args.function)))
