use Rattle.std.proofs.Common.{◌≡◌, drop}
use Rattle.gu_syntax.specs.Code.{code_of}
use Rattle.gu_model.specs.ValidConstants.{with_globals, nothing}
use Rattle.gu_valid_code.specs.Env.{context_of}
use Rattle.gu_valid_code.proofs.Constants.{rest_of}
use Rattle.gu_valid_code.proofs.constant.check_constant.Given as goal

abbrev pub invariant-loop-instr : goal.invariant-loop-instr
invariant-loop-instr l =
    let D = with_globals l.globals (context_of l.env) in
    rest_of D l.ty (code_of (drop l.instr-index l.instr-items)) l.state ≡ rest_of D l.ty (code_of l.instr-items) nothing
