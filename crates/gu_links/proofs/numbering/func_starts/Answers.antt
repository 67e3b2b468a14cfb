use Rattle.std.proofs.Common.{ℕ, ◌≡◌, ◌∙◌, List, ap, sym, length, get_or, arith, rules}
use Rattle.std.specs.Prelude.{slice_get}
use Rattle.gu_types.specs.declared.types.Comp.{Comp}
use Rattle.gu_types.specs.Depth.{types_of}
use Rattle.gu_links.specs.Cells.{before_func, own_cells, count_of, comp_params, comp_results}
use Rattle.gu_links.proofs.Within.{starts_more, funcs_next, func_first}
use Rattle.gu_links.proofs.numbering.func_starts.Goals as goal

pub loop-func-init : goal.loop-func-init
loop-func-init c = record {
  long = search rules;
  starts = λ k lt. absurd (omega arith);
  end = c.requires.first ∙ sym (func_first c.args.facts.now);
}

pub loop-func-preserved : goal.loop-func-preserved
loop-func-preserved c = record {
  long = search rules;
  starts = starts_more (before_func c.args.facts.now) c.loop-func.starts.items c.push.new.self.items c.loop-func.end c.loop-func.invariant.starts
      (c.loop-func.invariant.end ∙ ap (before_func c.args.facts.now) (sym c.loop-func.invariant.long)) c.in_ok-push.ensures.items;
  end =
      let count = λ (of : Comp → ℕ). λ (types : List ℕ). count_of of (slice_get (types_of c.args.facts.now.types) (get_or types c.loop-func.func 0)) in
      let params = ap (count comp_params) c.as_slice-types.ensures in
      let results = ap (count comp_results) c.as_slice-types.ensures in
      let e = funcs_next c.args.facts.now c.loop-func.func in let a = c.in_ok-params.ensures in let b = c.in_ok-end.ensures in let h = c.loop-func.invariant.end in let p = c.params_of.ensures in let r = c.results_of.ensures in omega arith;
}

pub returns-clause-end : goal.returns-clause-end
unfolding own_cells
returns-clause-end c =
    let all : c.loop-func.func ≡ length c.args.facts.now.funcs = omega (arith, ap length c.as_slice-types.ensures) in
    c.loop-func.invariant.end ∙ ap (before_func c.args.facts.now) all
