use Rattle.std.proofs.Common.{◌++◌, ℕ, Some, List, get_or, ap, sym, ◌∙◌}
use Rattle.std.specs.Prelude.{flat_map, slice_index, Contains}
use Rattle.gu_links.specs.Cells.{out_cells}
use Rattle.gu_links.specs.Gives.{Asked, call}
use Rattle.gu_links.specs.Known.{cells_of}
use Rattle.gu_links.specs.Kept.{in_reach}
use Rattle.gu_links.proofs.Walks.{function_in, one_called, flat_more, kept_same, called_all}
use Rattle.gu_links.proofs.Regained.{is_named}
use Rattle.gu_links.proofs.call.call_reach.Goals as goal
use Rattle.gu_links.proofs.call.call_reach.Goals.{then-covers+in_ok-call, else-covers}

pub type_of-ty-requires : goal.type_of-ty-requires
type_of-ty-requires c = is_named c.args.s.now (get_or c.functions-function-items.result.now c.functions.function-index 0) (function_in c.args.s.now.facts.now c.args.s.now.links c.args.reach.head c.functions-function-items.result.now c.functions.function-index c.functions-function-items.ensures c.functions-test.true)

pub call-requires-clause-function : goal.call-requires-clause-function
call-requires-clause-function c = is_named c.args.s.now (get_or c.functions-function-items.result.now c.functions.function-index 0) (function_in c.args.s.now.facts.now c.args.s.now.links c.args.reach.head c.functions-function-items.result.now c.functions.function-index c.functions-function-items.ensures c.functions-test.true)

pub call-requires-clause-outs : goal.call-requires-clause-outs
call-requires-clause-outs c =
    let is = is_named c.args.s.now (get_or c.functions-function-items.result.now c.functions.function-index 0) (function_in c.args.s.now.facts.now c.args.s.now.links c.args.reach.head c.functions-function-items.result.now c.functions.function-index c.functions-function-items.ensures c.functions-test.true) in
    one_called c.args.s.now.facts.now (Contains (cells_of c.args.known.now)) (out_cells c.args.s.now.facts.now) c.args.s.now.links c.args.reach (get_or c.functions-function-items.result.now c.functions.function-index 0) c.requires.outs is.is_func
    (function_in c.args.s.now.facts.now c.args.s.now.links c.args.reach.head c.functions-function-items.result.now c.functions.function-index c.functions-function-items.ensures c.functions-test.true)
    (ap (in_reach c.args.s.now.facts.now (Some c.args.reach)) (sym c.type_of-ty.ensures.value) ∙ sym c.covers.ensures ∙ c.if-covers.true)

pub functions-preserved : goal.functions-preserved
functions-preserved c = elim c.if-covers.branch [
  | then-covers+in_ok-call w ↦ λ x h.
      w.asked-is ∙ w.in_ok-call.ensures x h
      ∙ ap (λ (xs : List Asked). xs ++ call c.args.s.now.facts.now c.args.operands.now c.args.results.now x (get_or c.functions-function-items.result.now c.functions.function-index 0)) (c.functions.invariant x h)
      ∙ sym (flat_more (call c.args.s.now.facts.now c.args.operands.now c.args.results.now x) (λ (g : ℕ). in_reach c.args.s.now.facts.now (Some c.args.reach) (slice_index c.args.s.now.facts.now.funcs g)) c.functions-function-items.result.now c.functions.function-index c.functions-test.true
      (ap (in_reach c.args.s.now.facts.now (Some c.args.reach)) (sym c.type_of-ty.ensures.value) ∙ sym c.covers.ensures ∙ w.if-covers.true))
  | else-covers w ↦ λ x h.
      w.asked-is ∙ c.functions.invariant x h
      ∙ sym (ap (flat_map (call c.args.s.now.facts.now c.args.operands.now c.args.results.now x)) (kept_same (λ (g : ℕ). in_reach c.args.s.now.facts.now (Some c.args.reach) (slice_index c.args.s.now.facts.now.funcs g)) c.functions-function-items.result.now c.functions.function-index c.functions-test.true
      (ap (in_reach c.args.s.now.facts.now (Some c.args.reach)) (sym c.type_of-ty.ensures.value) ∙ sym c.covers.ensures ∙ w.if-covers.false)))
]

pub returns : goal.returns
returns c x h = c.functions.invariant x h ∙ ap (flat_map (call c.args.s.now.facts.now c.args.operands.now c.args.results.now x)) (called_all c.args.s.now.facts.now c.args.s.now.links c.args.reach c.functions-function-items.result.now c.functions.function-index c.functions-function-items.ensures c.functions-test.false)
