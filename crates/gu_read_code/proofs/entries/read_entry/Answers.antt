use Rattle.std.proofs.Common.{refl, inl}
use Rattle.gu_read_parts.specs.declared.answer.ReadErr.TheVariants as E
use Rattle.gu_read_parts.specs.declared.answer.Which.TheVariants as W
use Rattle.gu_read_code.proofs.Passing.{entry_passed, entry_many, entry_fails, many_complete, whole_counted, fails_complete, fails_counted}
use Rattle.gu_read_code.proofs.entries.read_entry.Goals as goal

pub returns-in-Err-clause-refused : goal.returns-in-Err-clause-refused
returns-in-Err-clause-refused c = entry_fails c.args.at.now c.rest-bytes.result.now c.in-Err.stop c.refusal_ahead.result c.rest-bytes.ensures.rest c.in-Err.ensures.value c.refusal_ahead.ensures

pub returns-in-Err-clause-complete : goal.returns-in-Err-clause-complete
returns-in-Err-clause-complete c = fails_complete c.args.at.now c.rest-bytes.result.now c.in-Err.stop c.refusal_ahead.result c.rest-bytes.ensures.rest c.in-Err.ensures.value c.refusal_ahead.ensures

pub returns-in-Err-clause-counted : goal.returns-in-Err-clause-counted
returns-in-Err-clause-counted c = fails_counted c.args.at.now c.rest-bytes.result.now c.in-Err.stop c.refusal_ahead.result c.rest-bytes.ensures.rest c.in-Err.ensures.value c.refusal_ahead.ensures

pub returns-in-Whole-clause-ok : goal.returns-in-Whole-clause-ok
returns-in-Whole-clause-ok c =
    let read = c.in-Ok.ensures.value in
    entry_passed c.args.at.now c.bytes.new.self c.rest-bytes.result.now c.in-Ok.found.1.now c.in-Ok.found.0 c.in-Whole.locals c.in-Whole.body read.0 c.bytes.result c.rest-bytes.ensures.rest read.1 read.2 c.in-Whole.is c.bytes.ensures.bytes c.bytes.ensures.count c.bytes.ensures.fewer_left

pub returns-in-Whole-clause-counted : goal.returns-in-Whole-clause-counted
returns-in-Whole-clause-counted c =
    let read = c.in-Ok.ensures.value in
    whole_counted c.args.at.now c.rest-bytes.result.now c.in-Ok.found.1.now c.in-Ok.found.0 c.in-Whole.locals c.in-Whole.body read.0 c.rest-bytes.ensures.rest read.1 read.2 c.in-Whole.is

pub returns-in-TooMany-clause-refused : goal.returns-in-TooMany-clause-refused
returns-in-TooMany-clause-refused c =
    let read = c.in-Ok.ensures.value in
    entry_many c.args.at.now c.rest-bytes.result.now c.in-Ok.found.1.now c.in-Ok.found.0 read.0 c.rest-bytes.ensures.rest read.1 read.2 c.in-TooMany.is

pub returns-in-TooMany-clause-complete : goal.returns-in-TooMany-clause-complete
returns-in-TooMany-clause-complete c =
    let read = c.in-Ok.ensures.value in
    many_complete c.args.at.now c.rest-bytes.result.now c.in-Ok.found.1.now c.in-Ok.found.0 read.0 (E.Limit W.Locals 0) c.rest-bytes.ensures.rest read.1 read.2 c.in-TooMany.is

pub returns-in-TooMany-clause-counted : goal.returns-in-TooMany-clause-counted
returns-in-TooMany-clause-counted c has = inl refl
