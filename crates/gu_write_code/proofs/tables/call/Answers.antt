use Rattle.gu_write_code.proofs.Kinded.{not_call}
use Rattle.gu_write_code.proofs.tables.call.Goals as goal

pub returns-in_default-clause-other : goal.returns-in_default-clause-other
returns-in_default-clause-other c = not_call c.args.instr.now c.in_default.not-Call c.in_default.not-CallIndirect c.in_default.not-ReturnCall c.in_default.not-ReturnCallIndirect c.in_default.not-CallRef c.in_default.not-ReturnCallRef
