use Rattle.std.proofs.Common.{◌≡◌, drop}
use Rattle.gu_syntax.specs.Code.{code_of}
use Rattle.gu_model.specs.ValidContext.{marked, named_by_code}
use Rattle.gu_valid.proofs.declared.+marking.Given as goal

abbrev pub invariant-mark_code-loop-instr : goal.invariant-mark_code-loop-instr
invariant-mark_code-loop-instr l = marked (named_by_code (code_of (drop l.instr-index l.code))) l.flags ≡ marked (named_by_code (code_of l.code)) l.initial.flags
