use Rattle.std.proofs.Common.{rules, arith}
use Rattle.std.proofs.lemmas.Int.{to_z-of_z}
use Rattle.gu_bytes.proofs.Passing.{passed_signed}
use Rattle.gu_bytes.proofs.Signed.{signed_refused}
use Rattle.gu_bytes.proofs.cursor.Cursor.signed.Goals as goal

pub returns-in-None-clause-none : goal.returns-in-None-clause-none
returns-in-None-clause-none c = signed_refused c.args.bits c.args.self.now.rest (grind (arith, c.self.view_is, c.in-None.ensures.value))

pub returns-in-Some-clause-integer : goal.returns-in-Some-clause-integer
returns-in-Some-clause-integer c = passed_signed c.args.bits _ c.in-Some.more.now c.args.self.now c.pass_to.new.self (grind (arith, to_z-of_z, c.self.view_is, c.in-Some.ensures.value)) c.pass_to.ensures.rest (search (rules, c.pass_to.ensures.at))
