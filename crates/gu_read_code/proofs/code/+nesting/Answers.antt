use Rattle.std.proofs.Common.{◌<◌, ◌≡◌, ◌++◌, ◌∷◌, [], ◌∙◌, List, suc, sym, ap, length, drop, arith, rules}
use Rattle.std.proofs.lemmas.Result.{err_from_is_err_and}
use Rattle.gu_syntax.specs.Code.{Ins, block, loop, choice, code_of, ins_of}
use Rattle.gu_syntax.specs.declared.instr.Structured.{Structured}
use Rattle.gu_syntax.specs.declared.instr.Choice.{Choice}
use Rattle.gu_syntax.specs.declared.instr.Guarded.{Guarded}
use Rattle.gu_syntax.specs.declared.instr.Instr.{Instr}
use Rattle.gu_syntax.specs.declared.instr.Instr.TheVariants.{Block, Loop, If, TryTable}
use Rattle.gu_syntax.specs.Reading.{got, until_at}
use Rattle.gu_syntax.proofs.Shapes.{ins_of-Block, ins_of-Loop, ins_of-If, ins_of-TryTable}
use Rattle.gu_read_code.specs.Nested.{branch_of}
use Rattle.gu_read_code.proofs.Opening.{block_got, block_fails, first_fails, if_alone, if_got, second_fails, catches_fail, try_got, try_fails, flat_gives, flat_goes, short_got}
use Rattle.gu_read_code.proofs.Turns.{begins_onto, goes_onto, code_ends, code_splits, code_fails, code_missing, GoesOn, goes_on}
use Rattle.std.proofs.lemmas.Bool.{false≢true}
use Rattle.gu_read_code.proofs.code.+nesting.Goals as goal
use Rattle.gu_read_code.proofs.code.+nesting.Goals.{read_until-else-may_split-via-then-may_split+else-op-eq-ELSE, read_until-else-may_split-via-else-may_split}

pub read_block-returns-in_err-inner-clause-value : goal.read_block-returns-in_err-inner-clause-value
read_block-returns-in_err-inner-clause-value t c = λ fuel enough.
    let low : 0 < c.args.room = omega arith in
    let p = err_from_is_err_and c.from_residual-in_err-inner.result c.from_residual-in_err-inner.ensures.1 in
    rw (p.1, p.2) (block_fails c.in_err-inner.field-0.0 block (until_at fuel) c.args.room (suc (length c.args.bytes.now)) c.args.bytes.now c.in_ok-ty.rest.now c.in_ok-ty.ty low c.in_ok-ty.ensures.value (c.in_err-inner.ensures.value fuel (omega (arith, enough, c.in_ok-ty.ensures.inside))))

pub read_block-returns-clause-value : goal.read_block-returns-clause-value
read_block-returns-clause-value t c = λ fuel enough.
    let low : 0 < c.args.room = omega arith in
    block_got block (until_at fuel) c.args.room (suc (length c.args.bytes.now)) c.args.bytes.now c.in_ok-ty.rest.now c.in_ok-inner.rest.now c.in_ok-ty.ty (branch_of c.in_ok-inner.inner) low c.in_ok-ty.ensures.value (c.in_ok-inner.ensures.value fuel (omega (arith, enough, c.in_ok-ty.ensures.inside)))
    ∙ ap (λ (i : Ins). got i c.in_ok-inner.rest.now) (sym (ap (λ (b : Structured). ins_of (Block b)) c.in_ok-block.ensures ∙ ins_of-Block (record { ty = c.in_ok-ty.ty; body = c.in_ok-inner.inner.code })))

pub read_loop-returns-in_err-inner-clause-value : goal.read_loop-returns-in_err-inner-clause-value
read_loop-returns-in_err-inner-clause-value t c = λ fuel enough.
    let low : 0 < c.args.room = omega arith in
    let p = err_from_is_err_and c.from_residual-in_err-inner.result c.from_residual-in_err-inner.ensures.1 in
    rw (p.1, p.2) (block_fails c.in_err-inner.field-0.0 loop (until_at fuel) c.args.room (suc (length c.args.bytes.now)) c.args.bytes.now c.in_ok-ty.rest.now c.in_ok-ty.ty low c.in_ok-ty.ensures.value (c.in_err-inner.ensures.value fuel (omega (arith, enough, c.in_ok-ty.ensures.inside))))

pub read_loop-returns-clause-value : goal.read_loop-returns-clause-value
read_loop-returns-clause-value t c = λ fuel enough.
    let low : 0 < c.args.room = omega arith in
    block_got loop (until_at fuel) c.args.room (suc (length c.args.bytes.now)) c.args.bytes.now c.in_ok-ty.rest.now c.in_ok-inner.rest.now c.in_ok-ty.ty (branch_of c.in_ok-inner.inner) low c.in_ok-ty.ensures.value (c.in_ok-inner.ensures.value fuel (omega (arith, enough, c.in_ok-ty.ensures.inside)))
    ∙ ap (λ (i : Ins). got i c.in_ok-inner.rest.now) (sym (ap (λ (b : Structured). ins_of (Loop b)) c.in_ok-block.ensures ∙ ins_of-Loop (record { ty = c.in_ok-ty.ty; body = c.in_ok-inner.inner.code })))

pub read_if-returns-in_err-first-clause-value : goal.read_if-returns-in_err-first-clause-value
read_if-returns-in_err-first-clause-value t c = λ fuel enough.
    let low : 0 < c.args.room = omega arith in
    let p = err_from_is_err_and c.from_residual-in_err-first.result c.from_residual-in_err-first.ensures.1 in
    rw (p.1, p.2) (first_fails c.in_err-first.field-0.0 (until_at fuel) c.args.room (suc (length c.args.bytes.now)) c.args.bytes.now c.in_ok-ty.rest.now c.in_ok-ty.ty low c.in_ok-ty.ensures.value (c.in_err-first.ensures.value fuel (omega (arith, enough, c.in_ok-ty.ensures.inside))))

pub read_if-returns-clause-value : goal.read_if-returns-clause-value
read_if-returns-clause-value t c = λ fuel enough.
    let low : 0 < c.args.room = omega arith in
    if_alone (until_at fuel) c.args.room (suc (length c.args.bytes.now)) c.args.bytes.now c.in_ok-ty.rest.now c.in_ok-first.rest.now c.in_ok-ty.ty (code_of c.in_ok-first.first.code.code) c.in_ok-first.first.at_else low c.in_ok-ty.ensures.value (c.in_ok-first.ensures.value fuel (omega (arith, enough, c.in_ok-ty.ensures.inside))) c.if-first.false
    ∙ ap (λ (i : Ins). got i c.in_ok-first.rest.now) (sym (ap (λ (b : Choice). ins_of (If b)) c.in_ok-choice-2.ensures ∙ ins_of-If (record { ty = c.in_ok-ty.ty; yes = c.in_ok-first.first.code; no = record { code = c.new-code.result } }) ∙ ap (λ is. choice c.in_ok-ty.ty (code_of c.in_ok-first.first.code.code) (code_of is)) c.new-code.ensures))

pub read_if-returns-in_err-second-clause-value : goal.read_if-returns-in_err-second-clause-value
read_if-returns-in_err-second-clause-value t c = λ fuel enough.
    let low : 0 < c.args.room = omega arith in
    let p = err_from_is_err_and c.from_residual-in_err-second.result c.from_residual-in_err-second.ensures.1 in
    rw (p.1, p.2) (second_fails c.in_err-second.field-0.0 (until_at fuel) c.args.room (suc (length c.args.bytes.now)) c.args.bytes.now c.in_ok-ty.rest.now c.in_ok-first.rest.now c.in_ok-ty.ty (code_of c.in_ok-first.first.code.code) c.in_ok-first.first.at_else low c.in_ok-ty.ensures.value (c.in_ok-first.ensures.value fuel (omega (arith, enough, c.in_ok-ty.ensures.inside))) c.if-first.true (c.in_err-second.ensures.value fuel (omega (arith, enough, c.in_ok-ty.ensures.inside, c.in_ok-first.ensures.inside))))

pub read_if-returns-then-first-clause-value : goal.read_if-returns-then-first-clause-value
read_if-returns-then-first-clause-value t c = λ fuel enough.
    let low : 0 < c.args.room = omega arith in
    if_got (until_at fuel) c.args.room (suc (length c.args.bytes.now)) c.args.bytes.now c.in_ok-ty.rest.now c.in_ok-first.rest.now c.in_ok-second.rest.now c.in_ok-ty.ty (code_of c.in_ok-first.first.code.code) c.in_ok-first.first.at_else (branch_of c.in_ok-second.second) low c.in_ok-ty.ensures.value (c.in_ok-first.ensures.value fuel (omega (arith, enough, c.in_ok-ty.ensures.inside))) c.if-first.true (c.in_ok-second.ensures.value fuel (omega (arith, enough, c.in_ok-ty.ensures.inside, c.in_ok-first.ensures.inside)))
    ∙ ap (λ (i : Ins). got i c.in_ok-second.rest.now) (sym (ap (λ (b : Choice). ins_of (If b)) c.in_ok-choice.ensures ∙ ins_of-If (record { ty = c.in_ok-ty.ty; yes = c.in_ok-first.first.code; no = c.in_ok-second.second.code })))

pub read_try_table-returns-in_err-catches-clause-value : goal.read_try_table-returns-in_err-catches-clause-value
read_try_table-returns-in_err-catches-clause-value t c = λ fuel enough.
    let low : 0 < c.args.room = omega arith in
    let p = err_from_is_err_and c.from_residual-in_err-catches.result c.from_residual-in_err-catches.ensures.1 in
    rw (p.1, p.2) (catches_fail c.in_err-catches.field-0.0 (until_at fuel) c.args.room (suc (length c.args.bytes.now)) c.args.bytes.now c.in_ok-ty.rest.now c.in_ok-ty.ty low c.in_ok-ty.ensures.value c.in_err-catches.ensures.value)

pub read_try_table-returns-in_err-inner-clause-value : goal.read_try_table-returns-in_err-inner-clause-value
read_try_table-returns-in_err-inner-clause-value t c = λ fuel enough.
    let low : 0 < c.args.room = omega arith in
    let p = err_from_is_err_and c.from_residual-in_err-inner.result c.from_residual-in_err-inner.ensures.1 in
    rw (p.1, p.2) (try_fails c.in_err-inner.field-0.0 (until_at fuel) c.args.room (suc (length c.args.bytes.now)) c.args.bytes.now c.in_ok-ty.rest.now c.in_ok-catches.rest.now c.in_ok-ty.ty c.in_ok-catches.catches low c.in_ok-ty.ensures.value c.in_ok-catches.ensures.value (c.in_err-inner.ensures.value fuel (omega (arith, enough, c.in_ok-ty.ensures.inside, c.in_ok-catches.ensures.inside))))

pub read_try_table-returns-clause-value : goal.read_try_table-returns-clause-value
read_try_table-returns-clause-value t c = λ fuel enough.
    let low : 0 < c.args.room = omega arith in
    try_got (until_at fuel) c.args.room (suc (length c.args.bytes.now)) c.args.bytes.now c.in_ok-ty.rest.now c.in_ok-catches.rest.now c.in_ok-inner.rest.now c.in_ok-ty.ty c.in_ok-catches.catches (branch_of c.in_ok-inner.inner) low c.in_ok-ty.ensures.value c.in_ok-catches.ensures.value (c.in_ok-inner.ensures.value fuel (omega (arith, enough, c.in_ok-ty.ensures.inside, c.in_ok-catches.ensures.inside)))
    ∙ ap (λ (i : Ins). got i c.in_ok-inner.rest.now) (sym (ap (λ (b : Guarded). ins_of (TryTable b)) c.in_ok-guarded.ensures ∙ ins_of-TryTable (record { ty = c.in_ok-ty.ty; catches = c.in_ok-catches.catches; body = c.in_ok-inner.inner.code })))

pub read_instr-returns-in_default-clause-value : goal.read_instr-returns-in_default-clause-value
read_instr-returns-in_default-clause-value t c = λ fuel enough. flat_gives c.read_variable.result (until_at fuel) c.args.room (suc (length c.args.bytes.now)) c.args.op c.args.bytes.now (search rules) c.read_variable.ensures.value

pub read_until-code-init : goal.read_until-code-init
read_until-code-init t c = record {
  onto = begins_onto c.args.room c.args.may_split c.args.bytes.now c.args.pending.now.items c.len-from.result (omega arith);
  inside = omega arith;
}

pub read_until-returns-then-op-eq-END-clause-value : goal.read_until-returns-then-op-eq-END-clause-value
read_until-returns-then-op-eq-END-clause-value t c = λ fuel enough. rw (c.in_ok-close_branch.ensures.code, c.in_ok-close_branch.ensures.at_else) (code_ends c.args.room c.args.may_split c.args.bytes.now (drop c.len-from.result c.code.pending.items) c.in-Some.op.now c.code.rest.now c.in-Some.more.now c.in-Some.ensures.cases.0 c.if-op-eq-END.true c.code.invariant.onto.reads fuel enough)

pub read_until-returns-then-op-eq-ELSE-clause-value : goal.read_until-returns-then-op-eq-ELSE-clause-value
read_until-returns-then-op-eq-ELSE-clause-value t c = λ fuel enough. rw (c.in_ok-close_branch-2.ensures.code, c.in_ok-close_branch-2.ensures.at_else) (code_splits c.args.room c.args.may_split c.args.bytes.now (drop c.len-from.result c.code.pending.items) c.in-Some.op.now c.code.rest.now c.in-Some.more.now c.in-Some.ensures.cases.0 c.if-op-eq-ELSE.true c.if-may_split.true c.code.invariant.onto.reads fuel enough)

pub read_until-returns-in_err-instr-clause-value : goal.read_until-returns-in_err-instr-clause-value
read_until-returns-in_err-instr-clause-value t c = λ fuel enough.
    let goes : GoesOn c.args.may_split c.in-Some.op.now = goes_on c.args.may_split c.in-Some.op.now c.if-op-eq-END.false (elim c.else-may_split.branch [
      | read_until-else-may_split-via-then-may_split+else-op-eq-ELSE w ↦ λ is. w.if-op-eq-ELSE.false
      | read_until-else-may_split-via-else-may_split w ↦ λ is. absurd (false≢true (sym w.if-may_split.false ∙ is))
    ]) in
    let p = err_from_is_err_and c.from_residual-in_err-instr.result c.from_residual-in_err-instr.ensures.1 in
    rw (p.1, p.2) (code_fails c.in_err-instr.field-0.0 c.args.room c.args.may_split c.args.bytes.now (drop c.len-from.result c.code.pending.items) c.in-Some.op.now c.code.rest.now c.in-Some.more.now c.in-Some.ensures.cases.0 goes c.in_err-instr.ensures.value c.code.invariant.onto.reads fuel enough)

pub read_until-code-preserved-in-Some-read_short : goal.read_until-code-preserved-in-Some-read_short
read_until-code-preserved-in-Some-read_short t c =
    let op = c.in-Some.op.now in
    let more = c.in-Some.more.now in
    record {
      onto = goes_onto c.args.room c.args.may_split c.args.bytes.now c.args.pending.now.items c.len-from.result c.code.pending.items c.put.new.pending.items c.in-Some-read_short.instr op c.code.rest.now more c.in-Some-read_short.behind.now c.in_ok-put.ensures c.in-Some.ensures.cases.0 (flat_goes c.args.may_split op c.in-Some-read_short.ensures.flat) (short_got c.args.room op more c.in-Some-read_short.behind.now c.in-Some-read_short.instr c.in-Some-read_short.ensures.flat c.in-Some-read_short.ensures.value) c.in-Some-read_short.ensures.behind c.code.invariant.onto;
      inside = grind (arith, c.in-Some-read_short.ensures.behind, c.in-Some.ensures.cases.0, c.code.invariant.inside);
    }

pub read_until-code-preserved : goal.read_until-code-preserved
read_until-code-preserved t c =
    let goes : GoesOn c.args.may_split c.in-Some.op.now = goes_on c.args.may_split c.in-Some.op.now c.if-op-eq-END.false (elim c.else-may_split.branch [
      | read_until-else-may_split-via-then-may_split+else-op-eq-ELSE w ↦ λ is. w.if-op-eq-ELSE.false
      | read_until-else-may_split-via-else-may_split w ↦ λ is. absurd (false≢true (sym w.if-may_split.false ∙ is))
    ]) in
    let last : List Instr = c.in_ok-instr.instr ∷ [] in
    let added : c.put-in-Some.new.pending.items ≡ c.code.pending.items ++ last = c.in_ok-put-2.ensures ∙ ap (λ is. is ++ last) c.in_ok-instr.ensures.kept in
    record {
      onto = goes_onto c.args.room c.args.may_split c.args.bytes.now c.args.pending.now.items c.len-from.result c.code.pending.items c.put-in-Some.new.pending.items c.in_ok-instr.instr c.in-Some.op.now c.code.rest.now c.in-Some.more.now c.in_ok-instr.behind.now added c.in-Some.ensures.cases.0 goes c.in_ok-instr.ensures.value c.in_ok-instr.ensures.behind c.code.invariant.onto;
      inside = grind (arith, c.in_ok-instr.ensures.behind, c.in-Some.ensures.cases.0, c.code.invariant.inside);
    }

pub read_until-returns-clause-value : goal.read_until-returns-clause-value
read_until-returns-clause-value t c = λ fuel enough. rw c.at.ensures (code_missing c.args.room c.args.may_split c.args.bytes.now (drop c.len-from.result c.code.pending.items) c.code.rest.now c.in_default.ensures.cases c.code.invariant.onto.reads fuel enough)
