use Rattle.gu_write_code.proofs.Kinded.{not_structure}
use Rattle.gu_write_code.proofs.tables.structure.Goals as goal

pub returns-in_default-clause-other : goal.returns-in_default-clause-other
returns-in_default-clause-other c = not_structure c.args.instr.now c.in_default.not-StructNew c.in_default.not-StructNewDefault c.in_default.not-StructGet c.in_default.not-StructGetS c.in_default.not-StructGetU c.in_default.not-StructSet c.in_default.not-ArrayNew c.in_default.not-ArrayNewDefault c.in_default.not-ArrayNewFixed c.in_default.not-ArrayNewData c.in_default.not-ArrayNewElem
