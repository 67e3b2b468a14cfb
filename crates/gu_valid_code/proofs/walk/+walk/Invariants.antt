use Rattle.std.proofs.Common.{◌≡◌, drop, reverse}
use Rattle.gu_syntax.specs.Code.{code_of}
use Rattle.gu_model.specs.Typing.{type_code}
use Rattle.gu_valid_code.specs.Body.{unset}
use Rattle.gu_valid_code.specs.Env.{context_of}
use Rattle.gu_valid_code.proofs.walk.+walk.Given as goal

abbrev pub invariant-check_block-loop-instr : goal.invariant-check_block-loop-instr
invariant-check_block-loop-instr l = record {
  typed : type_code (context_of l.env) l.scope (code_of (drop l.instr-index l.code)) l.state ≡ type_code (context_of l.env) l.initial.scope (code_of l.code) l.initial.state;
  back : unset (reverse l.here.items) l.state.set ≡ l.initial.state.set;
  scope : l.scope ≡ l.initial.scope;
}
