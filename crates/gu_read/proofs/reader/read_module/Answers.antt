use Rattle.std.proofs.Common.{arith, sym, ◌∙◌}
use Rattle.gu_read.proofs.Answered.{reads_of, limit_of, limit_unread, stop_unread}
use Rattle.gu_read.proofs.reader.read_module.Goals as goal

pub returns-in-Err-clause-complete : goal.returns-in-Err-clause-complete
returns-in-Err-clause-complete g c = λ m r. stop_unread c.args.bytes.now c.in-Err.stop c.refusal.result m c.in-Err.ensures.value c.refusal.ensures.answers r

pub returns-in-Some-clause-refused : goal.returns-in-Some-clause-refused
returns-in-Some-clause-refused g c =
    let v = c.in-Ok.ensures.value in
    limit_of c.args.bytes.now c.in-Ok.weighed v.0 c.in-Some.which c.in-Some.at (omega (arith, c.if-bytes-gt-MOST.false)) v.1 v.2 (sym c.in-Ok-first_exceeded.ensures ∙ c.in-Some.is)

pub returns-in-Some-clause-complete : goal.returns-in-Some-clause-complete
returns-in-Some-clause-complete g c = λ m r.
    let v = c.in-Ok.ensures.value in
    absurd (limit_unread c.args.bytes.now c.in-Ok.weighed v.0 m (c.in-Some.which, c.in-Some.at) v.1 v.2 (sym c.in-Ok-first_exceeded.ensures ∙ c.in-Some.is) r)

pub returns-in-None-clause-ok : goal.returns-in-None-clause-ok
returns-in-None-clause-ok g c =
    let v = c.in-Ok.ensures.value in
    rw c.into_module.ensures (reads_of c.args.bytes.now c.in-Ok.weighed v.0 (omega (arith, c.if-bytes-gt-MOST.false)) v.1 v.2 (sym c.in-Ok-first_exceeded.ensures ∙ c.in-None.is))
