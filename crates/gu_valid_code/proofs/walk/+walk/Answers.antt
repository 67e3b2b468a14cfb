use Rattle.std.proofs.Common.{◌∙◌, ap, sym, subst, IfOk}
use Rattle.gu_syntax.specs.Code.{code_of}
use Rattle.gu_syntax.specs.declared.instr.Instr.TheVariants.{Block, Loop, If, TryTable}
use Rattle.gu_model.specs.TypingContext.{Around}
use Rattle.gu_valid_code.specs.Body.{second_of}
use Rattle.gu_valid_code.specs.State.{Did}
use Rattle.gu_valid_code.specs.Env.{context_of}
use Rattle.gu_valid_code.proofs.Pops.{did_none, did_some}
use Rattle.gu_valid_code.proofs.Walks.{set_is, tee_is, leaf_is, block_is, loop_is, choice_fails, choice_goes, try_fails, try_goes, kept, sets_none, stays}
use Rattle.gu_valid_code.proofs.walk.+walk.Goals as goal

pub check_instr-returns-in-LocalSet-clause-typed : goal.check_instr-returns-in-LocalSet-clause-typed
check_instr-returns-in-LocalSet-clause-typed t c = rw (set_is (context_of c.args.env.now) c.args.scope.now c.args.state.now c.args.instr.now c.in-LocalSet.local c.in-LocalSet.is) c.local_set.ensures.typed

pub check_instr-returns-in-LocalTee-clause-typed : goal.check_instr-returns-in-LocalTee-clause-typed
check_instr-returns-in-LocalTee-clause-typed t c = rw (tee_is (context_of c.args.env.now) c.args.scope.now c.args.state.now c.args.instr.now c.in-LocalTee.local c.in-LocalTee.is) c.local_tee.ensures.typed

pub check_instr-returns-in_default : goal.check_instr-returns-in_default
check_instr-returns-in_default t c = record {
  typed = c.check_other.ensures.typed;
  back = kept (context_of c.args.env.now) c.args.scope.now c.args.instr.now c.args.state.now _ c.args.here.now.items c.check_other.result (sets_none c.args.instr.now c.in_default.not-LocalSet c.in_default.not-LocalTee) c.check_other.ensures.typed;
  scope = c.check_other.ensures.scope;
}

pub check_other-returns-in-Block-clause-typed : goal.check_other-returns-in-Block-clause-typed
check_other-returns-in-Block-clause-typed t c = rw (block_is (context_of c.args.env.now) c.args.scope.now c.args.state.now c.args.instr.now c.get.result.now c.as_slice.result.now (c.in-Block.is ∙ ap Block (sym c.get.ensures)) c.as_slice.ensures) c.check_nested.ensures.typed

pub check_other-returns-in-Loop-clause-typed : goal.check_other-returns-in-Loop-clause-typed
check_other-returns-in-Loop-clause-typed t c = rw (loop_is (context_of c.args.env.now) c.args.scope.now c.args.state.now c.args.instr.now c.get-in-Loop.result.now c.as_slice-in-Loop.result.now (c.in-Loop.is ∙ ap Loop (sym c.get-in-Loop.ensures)) c.as_slice-in-Loop.ensures) c.check_nested-in-Loop.ensures.typed

pub check_other-returns-then-not-branch-clause-typed : goal.check_other-returns-then-not-branch-clause-typed
check_other-returns-then-not-branch-clause-typed t c =
    choice_fails (context_of c.args.env.now) c.args.scope.now c.args.state.now c.args.instr.now c.get-in-If.result.now c.as_slice-in-If.result.now (c.in-If.is ∙ ap If (sym c.get-in-If.ensures)) c.as_slice-in-If.ensures (did_none c.in_ok-check_first-in-If.field-0 _ _ c.if-not-branch.true c.in_ok-check_first-in-If.ensures.typed)

pub check_other-returns-else-not-branch-clause-typed : goal.check_other-returns-else-not-branch-clause-typed
check_other-returns-else-not-branch-clause-typed t c =
    rw (choice_goes (context_of c.args.env.now) c.args.scope.now c.args.state.now c.args.instr.now c.get-in-If.result.now c.as_slice-in-If.result.now c.as_slice-in-If-2.result.now c.check_first.new.state (c.in-If.is ∙ ap If (sym c.get-in-If.ensures)) c.as_slice-in-If.ensures c.as_slice-in-If-2.ensures (did_some c.in_ok-check_first-in-If.field-0 _ _ c.if-not-branch.false c.in_ok-check_first-in-If.ensures.typed))
    (subst (λ (a : Around). IfOk c.check_second.result (λ typed. Did typed (second_of (context_of c.args.env.now) a c.get-in-If.result.now.ty (code_of c.as_slice-in-If-2.result.now) c.check_first.new.state) c.check_second.new.state)) c.in_ok-check_first-in-If.ensures.scope c.check_second.ensures.typed)

pub check_other-returns-then-not-branch-2-clause-typed : goal.check_other-returns-then-not-branch-2-clause-typed
check_other-returns-then-not-branch-2-clause-typed t c =
    try_fails (context_of c.args.env.now) c.args.scope.now c.args.state.now c.args.instr.now c.get-in-TryTable.result.now c.as_slice-in-TryTable.result.now (c.in-TryTable.is ∙ ap TryTable (sym c.get-in-TryTable.ensures)) c.as_slice-in-TryTable.ensures (sym c.in_ok-all_reach-in-TryTable.ensures ∙ c.if-not-branch-2.true)

pub check_other-returns-else-not-branch-2-clause-typed : goal.check_other-returns-else-not-branch-2-clause-typed
check_other-returns-else-not-branch-2-clause-typed t c =
    rw (try_goes (context_of c.args.env.now) c.args.scope.now c.args.state.now c.args.instr.now c.get-in-TryTable.result.now c.as_slice-in-TryTable.result.now c.as_slice-in-TryTable-2.result.now (c.in-TryTable.is ∙ ap TryTable (sym c.get-in-TryTable.ensures)) c.as_slice-in-TryTable.ensures c.as_slice-in-TryTable-2.ensures (sym c.in_ok-all_reach-in-TryTable.ensures ∙ c.if-not-branch-2.false)) c.check_nested-in-TryTable.ensures.typed

pub check_other-returns-in_default : goal.check_other-returns-in_default
check_other-returns-in_default t c = record {
  typed = rw (leaf_is (context_of c.args.env.now) c.args.scope.now c.args.state.now c.args.instr.now c.in_default.not-Block c.in_default.not-Loop c.in_default.not-If c.in_default.not-TryTable) c.type_leaf.ensures;
  scope = stays c.args.scope.now c.type_leaf.result;
}
