use Rattle.std.proofs.Common.{ℕ, List, get_or, sym, ap, ◌∙◌}
use Rattle.gu_contents.proofs.Heights.{least_is}
use Rattle.gu_links.proofs.Listed.{deep_place}
use Rattle.gu_links.proofs.readers.fixed_place.Goals as goal

pub returns-then-depth-eq-DEEPEST : goal.returns-then-depth-eq-DEEPEST
returns-then-depth-eq-DEEPEST c =
    let own : ℕ = get_or c.as_slice.result.now c.in-Some.function 0 in
    deep_place c.args.f.now c.args.cells.now c.requires c.args.cell c.in-Some.function own c.canon.result
    (sym c.result_owner.ensures.value ∙ c.in-Some.is) (ap (λ (xs : List ℕ). get_or xs c.in-Some.function 0) c.as_slice.ensures)
    (sym c.depth.ensures.value ∙ c.if-depth-eq-DEEPEST.true)
    (least_is c.args.f.now.types own c.canon.result c.canon.ensures.same c.canon.ensures.least)
