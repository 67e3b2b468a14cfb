use Rattle.gu_write_code.proofs.Kinded.{not_control}
use Rattle.gu_write_code.proofs.tables.control.Goals as goal

pub returns-in_default-clause-other : goal.returns-in_default-clause-other
returns-in_default-clause-other c = not_control c.args.instr.now c.in_default.not-Unreachable c.in_default.not-Nop c.in_default.not-Throw c.in_default.not-ThrowRef c.in_default.not-Br c.in_default.not-BrIf c.in_default.not-Return c.in_default.not-Drop c.in_default.not-Select c.in_default.not-BrOnNull c.in_default.not-BrOnNonNull c.in_default.not-BrOnCast c.in_default.not-BrOnCastFail
