use Rattle.std.proofs.Common.{◌≡◌}
use Rattle.gu_syntax.specs.Code.{code_of}
use Rattle.gu_model.specs.Cut.{cut}
use Rattle.gu_body.proofs.CutStep.{So}
use Rattle.gu_body.proofs.cut.+cutting.Given as goal

abbrev pub invariant-cut_list-loop-instr : goal.invariant-cut_list-loop-instr
invariant-cut_list-loop-instr l =
    record {
      unvisited : goal.unvisited-cut_list-loop-instr l;
      count : l.kept ≡ l.instr-index;
      so_far : So l.instr-items l.kept (cut (code_of l.fn.instrs));
    }
