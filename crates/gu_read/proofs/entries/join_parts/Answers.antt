use Rattle.std.proofs.lemmas.Result.{err_from_is_err_and}
use Rattle.gu_syntax.specs.Reading.{entries_at}
use Rattle.gu_read.proofs.Sharing.{parts_left, part_on, part_fails, last_read, fails_within}
use Rattle.gu_read.proofs.entries.join_parts.Goals as goal

pub returns-in_err-part-clause-value : goal.returns-in_err-part-clause-value
returns-in_err-part-clause-value c =
    let p = err_from_is_err_and c.from_residual.result c.from_residual.ensures.1 in
    rw (p.1, p.2) (part_fails (entries_at 1000 c.args.entries.now.tys.now c.args.entries.now.bytes.now) c.args.entries.now.tys.now c.args.entries.now.bytes.now c.parts.funcs c.in_err-part.field-0.0 c.parts.place c.parts.part-iterator.rest.items c.in-Some.part c.next.new.self.rest.items c.in-Some.ensures.steps.0 c.in_err-part.was c.parts.invariant.shared c.parts.invariant.runs)

pub returns-in_err-part-clause-inside : goal.returns-in_err-part-clause-inside
returns-in_err-part-clause-inside c =
    let p = err_from_is_err_and c.from_residual.result c.from_residual.ensures.1 in
    rw (p.1, p.2) (fails_within c.args.entries.now.tys.now c.args.entries.now.bytes.now c.in_err-part.field-0.0 (part_fails (entries_at 1000 c.args.entries.now.tys.now c.args.entries.now.bytes.now) c.args.entries.now.tys.now c.args.entries.now.bytes.now c.parts.funcs c.in_err-part.field-0.0 c.parts.place c.parts.part-iterator.rest.items c.in-Some.part c.next.new.self.rest.items c.in-Some.ensures.steps.0 c.in_err-part.was c.parts.invariant.shared c.parts.invariant.runs))

pub parts-preserved : goal.parts-preserved
parts-preserved c = record {
  runs = part_on (entries_at 1000 c.args.entries.now.tys.now c.args.entries.now.bytes.now) c.args.entries.now.tys.now c.args.entries.now.bytes.now c.parts.funcs c.in_ok-part.field-0 c.append.new.self c.parts.place c.parts.part-iterator.rest.items c.in-Some.part c.next.new.self.rest.items c.in-Some.ensures.steps.0 c.in_ok-part.was c.in_ok-append.ensures c.parts.invariant.shared c.parts.invariant.runs;
  shared = parts_left c.args.entries.now.tys.now c.args.entries.now.bytes.now c.parts.place c.parts.part-iterator.rest.items c.in-Some.part c.next.new.self.rest.items c.in-Some.ensures.steps.0 c.parts.invariant.shared;
}

pub returns-clause-value : goal.returns-clause-value
returns-clause-value c = rw c.in_ok-append-2.ensures (last_read (entries_at 1000 c.args.entries.now.tys.now c.args.entries.now.bytes.now) c.parts.funcs c.in_ok-more.more c.tys_from-tys.result.now c.rest_from.result.now c.in_ok-more.rest.now c.in_ok-more.ensures.value (rw (c.tys_from-tys.ensures, c.rest_from.ensures) c.parts.invariant.runs))
