use Rattle.std.proofs.Common.{sym, ◌∙◌}
use Rattle.gu_read.proofs.Rowing.{local_numbers, local_sum, locals_row, many_locals, few_locals}
use Rattle.gu_read.proofs.limits.local_limit.Goals as goal

pub returns-in-Some : goal.returns-in-Some
returns-in-Some c = locals_row c.args.funcs.now c.in-Some.index (sym (local_numbers c.args.funcs.now c.as_slice.result.now c.funcs.func-index (c.as_slice.ensures.value ∙ c.funcs.invariant.counts) c.funcs-test.false) ∙ sym c.in-Some.ensures)

pub returns-then-total-gt4000000 : goal.returns-then-total-gt4000000
returns-then-total-gt4000000 c =
    let none = rw c.in_default.is at c.first_above_in.ensures in
    let l = sym (local_numbers c.args.funcs.now c.as_slice.result.now c.funcs.func-index (c.as_slice.ensures.value ∙ c.funcs.invariant.counts) c.funcs-test.false) ∙ sym none in
    many_locals c.args.funcs.now c.funcs.total c.if-total-gt4000000.true l (local_sum c.args.funcs.now c.funcs.total c.funcs.func-index c.funcs.invariant.total c.funcs-test.false l)

pub returns : goal.returns
returns c =
    let none = rw c.in_default.is at c.first_above_in.ensures in
    let l = sym (local_numbers c.args.funcs.now c.as_slice.result.now c.funcs.func-index (c.as_slice.ensures.value ∙ c.funcs.invariant.counts) c.funcs-test.false) ∙ sym none in
    few_locals c.args.funcs.now c.funcs.total c.if-total-gt4000000.false l (local_sum c.args.funcs.now c.funcs.total c.funcs.func-index c.funcs.invariant.total c.funcs-test.false l)
