use Rattle.std.proofs.Common.{◌∷◌, [], ◌++◌, ℕ, List, cond, take, get_or, sym, ap, ◌∙◌}
use Rattle.std.proofs.lemmas.List.{take_more}
use Rattle.gu_links.specs.Kept.{has, once_onto}
use Rattle.gu_links.proofs.Once.{once_push}
use Rattle.gu_links.proofs.fixed.with.Goals as goal

pub cells-preserved : goal.cells-preserved
cells-preserved c =
    let cell = get_or c.args.others.now c.cells.cell-index 0 in
    c.in_ok-add.ensures
    ∙ ap (λ (s : List ℕ). cond (has s cell) s (s ++ cell ∷ [])) c.cells.invariant
    ∙ sym (once_push (c.args.first ∷ []) (take c.cells.cell-index c.args.others.now) cell)
    ∙ ap (once_onto (c.args.first ∷ [])) (sym (take_more c.args.others.now c.cells.cell-index 0 c.cells-test.true))
