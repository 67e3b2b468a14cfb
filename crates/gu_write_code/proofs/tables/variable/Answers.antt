use Rattle.gu_write_code.proofs.Kinded.{not_variable}
use Rattle.gu_write_code.proofs.tables.variable.Goals as goal

pub returns-in_default-clause-other : goal.returns-in_default-clause-other
returns-in_default-clause-other c = not_variable c.args.instr.now c.in_default.not-LocalGet c.in_default.not-LocalSet c.in_default.not-LocalTee c.in_default.not-GlobalGet c.in_default.not-GlobalSet c.in_default.not-TableGet c.in_default.not-TableSet c.in_default.not-I32Const c.in_default.not-I64Const c.in_default.not-Num
