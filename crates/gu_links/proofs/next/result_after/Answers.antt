use Rattle.std.proofs.Common.{◌≡◌, ◌∙◌, ◌-◌, ℕ, Some, map, sym, ap}
use Rattle.std.specs.Prelude.{slice_get}
use Rattle.gu_types.specs.Depth.{types_of}
use Rattle.gu_rec.specs.Keys.{run}
use Rattle.gu_links.specs.Cells.{count_of, comp_results, out_cell, results_of}
use Rattle.gu_links.specs.Next.{first_of, is_rest}
use Rattle.gu_links.proofs.Firsts.{results_skip, result_more, result_found}
use Rattle.gu_links.proofs.next.result_after.Goals as goal

pub places-init : goal.places-init
places-init c =
    let f = c.args.s.now.facts.now in
    let g : ℕ = c.args.function in
    let count : c.results_of-count.result ≡ results_of f g = c.results_of-count.ensures ∙ ap (λ (t : ℕ). count_of comp_results (slice_get (types_of f.types) t)) c.type_of.ensures.value in
    let start : c.saturating_sub-start.result ≡ c.args.rest.first - out_cell f g 0 = c.saturating_sub-start.ensures ∙ ap (λ (n : ℕ). c.args.rest.first - n) c.out_cell.ensures in
    ap (λ (n : ℕ). first_of (is_rest c.args.rest.fixed.now c.args.rest.first) (map (out_cell f g) (run 0 n))) (sym count)
    ∙ results_skip f g c.args.rest.fixed.now c.args.rest.first c.saturating_sub-start.result c.results_of-count.result start

pub returns-then-has : goal.returns-then-has
returns-then-has c =
    let f = c.args.s.now.facts.now in
    let g : ℕ = c.args.function in
    sym (
    c.places.invariant
    ∙ result_found f g c.args.rest.fixed.now c.args.rest.first c.places.place c.results_of-count.result c.places-test.true
    (ap (is_rest c.args.rest.fixed.now c.args.rest.first) (sym c.out_cell-cell.ensures) ∙ sym c.has.ensures ∙ c.if-has.true)
    ∙ ap Some (sym c.out_cell-cell.ensures)
    )

pub places-preserved : goal.places-preserved
places-preserved c =
    let f = c.args.s.now.facts.now in
    let g : ℕ = c.args.function in
    c.places.invariant
    ∙ result_more f g c.args.rest.fixed.now c.args.rest.first c.places.place c.results_of-count.result c.places-test.true
    (ap (is_rest c.args.rest.fixed.now c.args.rest.first) (sym c.out_cell-cell.ensures) ∙ sym c.has.ensures ∙ c.if-has.false)
