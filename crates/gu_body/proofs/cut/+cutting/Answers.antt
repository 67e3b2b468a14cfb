use Rattle.std.proofs.Common.{rules, ap, ◌∙◌, sym, arith}
use Rattle.gu_model.specs.Cut.{cut_ins}
use Rattle.gu_syntax.proofs.Shapes.{ins_of-leaf}
use Rattle.gu_body.proofs.CutStep.{goes_on, stops, ends}
use Rattle.gu_body.proofs.cut.+cutting.Goals as goal

pub cut_instr-returns-in_default : goal.cut_instr-returns-in_default
cut_instr-returns-in_default t c =
    let same = ins_of-leaf _ c.in_default.not-Block c.in_default.not-Loop c.in_default.not-If c.in_default.not-TryTable in
    same ∙ sym (ap cut_ins same)

pub cut_list-returns-then-leaves : goal.cut_list-returns-then-leaves
cut_list-returns-then-leaves t c =
    let l = c.loop-instr in
    stops l.instr-items l.kept l.instr-index c.instr-item.result c.cut_instr.new.instr _ l.invariant.count (omega arith) c.cut_instr.ensures c.if-leaves.ensures l.invariant.so_far

pub cut_list-loop-instr-preserved : goal.cut_list-loop-instr-preserved
cut_list-loop-instr-preserved t c =
    let l = c.loop-instr in
    record {
      unvisited = search rules;
      count = omega arith;
      so_far = goes_on l.instr-items l.kept l.instr-index c.instr-item.result c.cut_instr.new.instr _ l.invariant.count (omega arith) c.cut_instr.ensures c.if-leaves.ensures l.invariant.so_far;
    }

pub cut_list-returns : goal.cut_list-returns
cut_list-returns t c =
    let l = c.loop-instr in ends l.instr-items l.kept _ (omega arith) l.invariant.so_far
