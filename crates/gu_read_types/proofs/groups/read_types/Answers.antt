use Rattle.gu_read_types.proofs.Typed.{types_passed, types_refused}
use Rattle.gu_read_types.proofs.groups.read_types.Goals as goal

pub returns-in-Ok-clause-ok : goal.returns-in-Ok-clause-ok
returns-in-Ok-clause-ok c = types_passed c.args.at.now c.bytes.new.self c.rest-rest.result.now c.in-Ok.groups c.in-Ok.behind.now c.bytes.result c.rest-rest.ensures.rest c.in-Ok.ensures.value c.bytes.ensures.bytes c.bytes.ensures.count c.bytes.ensures.fewer_left

pub returns-in-Err-clause-refused : goal.returns-in-Err-clause-refused
returns-in-Err-clause-refused c = types_refused c.args.at.now c.rest-rest.result.now c.in-Err.stop c.refusal_ahead.result c.rest-rest.ensures.rest c.in-Err.ensures.value c.refusal_ahead.ensures
