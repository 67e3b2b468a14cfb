use Rattle.gu_write_code.proofs.Kinded.{not_load}
use Rattle.gu_write_code.proofs.tables.load.Goals as goal

pub returns-in_default-clause-other : goal.returns-in_default-clause-other
returns-in_default-clause-other c = not_load c.args.instr.now c.in_default.not-I32Load c.in_default.not-I64Load c.in_default.not-I32Load8S c.in_default.not-I32Load8U c.in_default.not-I32Load16S c.in_default.not-I32Load16U c.in_default.not-I64Load8S c.in_default.not-I64Load8U c.in_default.not-I64Load16S c.in_default.not-I64Load16U c.in_default.not-I64Load32S c.in_default.not-I64Load32U
