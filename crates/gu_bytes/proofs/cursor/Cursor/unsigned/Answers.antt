use Rattle.std.proofs.Common.{rules, arith}
use Rattle.gu_bytes.proofs.Passing.{passed_unsigned}
use Rattle.gu_bytes.proofs.Unsigned.{unsigned_refused}
use Rattle.gu_bytes.proofs.cursor.Cursor.unsigned.Goals as goal

pub returns-in-None-clause-none : goal.returns-in-None-clause-none
returns-in-None-clause-none c = unsigned_refused c.args.bits c.args.self.now.rest (grind (arith, c.self.view_is, c.in-None.ensures.value))

pub returns-in-Some-clause-integer : goal.returns-in-Some-clause-integer
returns-in-Some-clause-integer c = passed_unsigned c.args.bits c.in-Some.value c.in-Some.more.now c.args.self.now c.pass_to.new.self (grind (arith, c.self.view_is, c.in-Some.ensures.value)) c.pass_to.ensures.rest (search (rules, c.pass_to.ensures.at))
