use Rattle.std.proofs.Common.{◌≡◌, drop}
use Rattle.gu_syntax.specs.Code.{code_of}
use Rattle.gu_model.specs.ValidContext.{needs_count_code}
use Rattle.gu_valid.proofs.needs.+needing.Given as goal

abbrev pub invariant-code_needs-loop-instr : goal.invariant-code_needs-loop-instr
invariant-code_needs-loop-instr l = needs_count_code (code_of (drop l.instr-index l.code)) ≡ needs_count_code (code_of l.code)
