use Rattle.gu_write_code.proofs.Kinded.{not_store}
use Rattle.gu_write_code.proofs.tables.store.Goals as goal

pub returns-in_default-clause-other : goal.returns-in_default-clause-other
returns-in_default-clause-other c = not_store c.args.instr.now c.in_default.not-I32Store c.in_default.not-I64Store c.in_default.not-I32Store8 c.in_default.not-I32Store16 c.in_default.not-I64Store8 c.in_default.not-I64Store16 c.in_default.not-I64Store32 c.in_default.not-MemorySize c.in_default.not-MemoryGrow
