use Rattle.std.proofs.Common.{◌≡◌, ◌<◌, ◌++◌, ◌∷◌, [], ℕ, List, map, get_or, take, append_assoc, subst, ap, ap₂, sym, ◌∙◌, arith}
use Rattle.std.specs.Prelude.{zip, slice_get}
use Rattle.std.proofs.lemmas.List.{take_all}
use Rattle.gu_types.specs.Depth.{types_of}
use Rattle.gu_contents.specs.declared.content.Content.{Content}
use Rattle.gu_links.specs.Cells.{param_cell, param_cells, params_of, count_of, comp_params}
use Rattle.gu_links.specs.Gives.{Asked}
use Rattle.gu_links.proofs.Zips.{passed, all_passed}
use Rattle.gu_links.proofs.call.pass.Goals as goal
use Rattle.gu_links.proofs.call.pass.Goals.{then-place-count+in_ok-push, else-place-count}

pub operands-preserved : goal.operands-preserved
operands-preserved c =
    let f = c.args.s.now.facts.now in
    let g = c.args.function in
    let count : c.params_of-count.result ≡ params_of f g = c.params_of-count.ensures ∙ ap (λ (t : ℕ). count_of comp_params (slice_get (types_of f.types) t)) c.type_of.ensures.value in
    elim c.if-place-count.branch [
      | then-place-count+in_ok-push w ↦ λ x h.
          w.asked-is ∙ w.in_ok-push.ensures.ok
          ∙ ap₂ (λ (xs : List Asked) (a : Asked). xs ++ a ∷ []) (c.operands.invariant x h) (ap₂ (λ (n : ℕ) (a : Content). (n, a)) w.param_cell.ensures (w.content_at-a.ensures.value x h (c.requires.known c.operands.place 0 c.operands-test.true)))
          ∙ append_assoc c.args.asked.now (zip (param_cells f g) (map x (take c.operands.place c.args.operands.now))) ((param_cell f g c.operands.place, x (get_or c.args.operands.now c.operands.place 0)) ∷ [])
          ∙ ap (λ (zs : List Asked). c.args.asked.now ++ zs) (sym (passed x (param_cell f g) (params_of f g) c.args.operands.now c.operands.place c.operands-test.true (subst (λ (n : ℕ). c.operands.place < n) count w.if-place-count.true)))
      | else-place-count w ↦ λ x h.
          w.asked-is ∙ c.operands.invariant x h
          ∙ ap (λ (zs : List Asked). c.args.asked.now ++ zs) (sym (all_passed x (param_cell f g) (params_of f g) c.args.operands.now c.operands.place c.operands-test.true (let e = w.if-place-count.false in omega arith)))
    ]

pub returns : goal.returns
returns c x h = c.operands.invariant x h ∙ ap (λ (ops : List ℕ). c.args.asked.now ++ zip (param_cells c.args.s.now.facts.now c.args.function) (map x ops)) (take_all c.operands.place c.args.operands.now c.operands-test.false)
