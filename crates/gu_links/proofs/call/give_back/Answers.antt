use Rattle.std.proofs.Common.{◌≡◌, ◌<◌, ◌++◌, ◌∷◌, [], ℕ, List, map, get_or, take, append_assoc, subst, ap, ap₂, sym, ◌∙◌, arith}
use Rattle.std.specs.Prelude.{zip, slice_get, Contains}
use Rattle.std.proofs.lemmas.List.{take_all}
use Rattle.gu_types.specs.Depth.{types_of}
use Rattle.gu_contents.specs.declared.content.Content.{Content}
use Rattle.gu_links.specs.Cells.{out_cell, out_cells, results_of, count_of, comp_results}
use Rattle.gu_links.specs.Gives.{Asked}
use Rattle.gu_links.specs.Known.{cells_of}
use Rattle.gu_links.proofs.Walks.{mapped_each}
use Rattle.gu_links.proofs.Zips.{given, all_given}
use Rattle.gu_links.proofs.call.give_back.Goals as goal
use Rattle.gu_links.proofs.call.give_back.Goals.{then-place-count+in_ok-push, else-place-count}

pub results-preserved : goal.results-preserved
results-preserved c =
    let f = c.args.s.now.facts.now in
    let g = c.args.function in
    let count : c.results_of-count.result ≡ results_of f g = c.results_of-count.ensures ∙ ap (λ (t : ℕ). count_of comp_results (slice_get (types_of f.types) t)) c.type_of.ensures.value in
    elim c.if-place-count.branch [
      | then-place-count+in_ok-push w ↦ λ x h.
          let lt : c.results.place < results_of f g = subst (λ (n : ℕ). c.results.place < n) count w.if-place-count.true in
          let there : Contains (cells_of c.args.known.now) w.out_cell-out.result = subst (λ (n : ℕ). Contains (cells_of c.args.known.now) n) (sym w.out_cell-out.ensures) (mapped_each (Contains (cells_of c.args.known.now)) (out_cell f g) (results_of f g) c.requires.known c.results.place lt) in
          w.asked-is ∙ w.in_ok-push.ensures.ok
          ∙ ap₂ (λ (xs : List Asked) (a : Content). xs ++ (get_or c.args.results.now c.results.place 0, a) ∷ []) (c.results.invariant x h) (w.content_at-a.ensures.value x h there ∙ ap x w.out_cell-out.ensures)
          ∙ append_assoc c.args.asked.now (zip (take c.results.place c.args.results.now) (map x (out_cells f g))) ((get_or c.args.results.now c.results.place 0, x (out_cell f g c.results.place)) ∷ [])
          ∙ ap (λ (zs : List Asked). c.args.asked.now ++ zs) (sym (given x (out_cell f g) (results_of f g) c.args.results.now c.results.place c.results-test.true lt))
      | else-place-count w ↦ λ x h.
          w.asked-is ∙ c.results.invariant x h
          ∙ ap (λ (zs : List Asked). c.args.asked.now ++ zs) (sym (all_given x (out_cell f g) (results_of f g) c.args.results.now c.results.place c.results-test.true (let e = w.if-place-count.false in omega arith)))
    ]

pub returns : goal.returns
returns c x h = c.results.invariant x h ∙ ap (λ (rs : List ℕ). c.args.asked.now ++ zip rs (map x (out_cells c.args.s.now.facts.now c.args.function))) (take_all c.results.place c.args.results.now c.results-test.false)
