use Rattle.gu_write_code.proofs.Kinded.{not_array}
use Rattle.gu_write_code.proofs.tables.array.Goals as goal

pub returns-in_default-clause-other : goal.returns-in_default-clause-other
returns-in_default-clause-other c = not_array c.args.instr.now c.in_default.not-ArrayGet c.in_default.not-ArrayGetS c.in_default.not-ArrayGetU c.in_default.not-ArraySet c.in_default.not-ArrayLen c.in_default.not-ArrayFill c.in_default.not-ArrayCopy c.in_default.not-ArrayInitData c.in_default.not-ArrayInitElem
