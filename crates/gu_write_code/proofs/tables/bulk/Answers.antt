use Rattle.gu_write_code.proofs.Kinded.{not_bulk}
use Rattle.gu_write_code.proofs.tables.bulk.Goals as goal

pub returns-in_default-clause-other : goal.returns-in_default-clause-other
returns-in_default-clause-other c = not_bulk c.args.instr.now c.in_default.not-MemoryInit c.in_default.not-DataDrop c.in_default.not-MemoryCopy c.in_default.not-MemoryFill c.in_default.not-TableInit c.in_default.not-ElemDrop c.in_default.not-TableCopy c.in_default.not-TableGrow c.in_default.not-TableSize c.in_default.not-TableFill
