use Rattle.std.proofs.Common.{sym, ◌∙◌, ◌≡◌, ap, List, drop, ◌+◌}
use Rattle.gu_syntax.specs.Code.{Code, code_of, ins_of, next}
use Rattle.gu_syntax.specs.declared.instr.Instr.{Instr}
use Rattle.gu_model.specs.ValidConstants.{with_globals, nowhere, nothing}
use Rattle.gu_valid_code.specs.Env.{context_of}
use Rattle.gu_valid_code.proofs.Constants.{sets_no_local, code_at, rest_of, passed, not_constant, not_typed}
use Rattle.gu_valid_code.proofs.constant.check_constant.Goals as goal
use Rattle.gu_valid_code.proofs.constant.check_constant.Goals.{then-not-is_constant-via-then-not-is_constant, then-not-is_constant-via-else-not-is_constant+in_ok-type_leaf+then-not-branch}

pub type_leaf-requires : goal.type_leaf-requires
type_leaf-requires c =
    sets_no_local (with_globals c.args.globals (context_of c.args.env.now)) c.instr-item.result (sym c.is_constant.ensures ∙ c.if-not-is_constant.false)

pub returns-then-not-is_constant : goal.returns-then-not-is_constant
returns-then-not-is_constant c =
    let n = c.args.globals in
    let C = context_of c.args.env.now in
    let D = with_globals n C in
    let is = c.as_slice-instr-items.result.now in
    let k = c.loop-instr.instr-index in
    let i = c.instr-item.result in
    let s = c.loop-instr.state in
    let rest : Code = code_of (drop (k + 1) is) in
    let here : code_of (drop k is) ≡ next (ins_of i) rest = code_at is k i c.loop-instr-test.true c.instr-item.is in
    let whole : rest_of D c.args.ty (next (ins_of i) rest) s ≡ rest_of D c.args.ty (code_of c.args.body.now.code) nothing =
    sym (ap (λ (d : Code). rest_of D c.args.ty d s) here) ∙ c.loop-instr.invariant ∙ ap (λ (js : List Instr). rest_of D c.args.ty (code_of js) nothing) c.as_slice-instr-items.ensures
    in
    let alone : c.new-scope.result ≡ nowhere = c.new-scope.ensures in
    elim c.then-not-is_constant.branch [
      | then-not-is_constant-via-then-not-is_constant w ↦ sym (not_constant D c.args.ty i rest s (sym c.is_constant.ensures ∙ w.if-not-is_constant.true)) ∙ whole
      | then-not-is_constant-via-else-not-is_constant+in_ok-type_leaf+then-not-branch w ↦ sym (not_typed n C c.args.ty i rest s w.type_leaf.new.state w.in_ok-type_leaf.field-0 c.new-scope.result alone (sym c.is_constant.ensures ∙ w.if-not-is_constant.false) w.in_ok-type_leaf.ensures w.if-not-branch.true) ∙ whole
    ]

pub loop-instr-preserved : goal.loop-instr-preserved
loop-instr-preserved c =
    let n = c.args.globals in
    let C = context_of c.args.env.now in
    let D = with_globals n C in
    let is = c.as_slice-instr-items.result.now in
    let k = c.loop-instr.instr-index in
    let i = c.instr-item.result in
    let s = c.loop-instr.state in
    let rest : Code = code_of (drop (k + 1) is) in
    let here : code_of (drop k is) ≡ next (ins_of i) rest = code_at is k i c.loop-instr-test.true c.instr-item.is in
    let alone : c.new-scope.result ≡ nowhere = c.new-scope.ensures in
    sym (passed n C c.args.ty i rest s c.type_leaf.new.state c.in_ok-type_leaf.field-0 c.new-scope.result alone (sym c.is_constant.ensures ∙ c.if-not-is_constant.false) c.in_ok-type_leaf.ensures c.if-not-branch.false)
    ∙ sym (ap (λ (d : Code). rest_of D c.args.ty d s) here)
    ∙ c.loop-instr.invariant
