use Rattle.gu_syntax.proofs.Shapes.{ins_of-leaf}
use Rattle.gu_valid.proofs.Lists.{needs_none}
use Rattle.gu_valid.proofs.needs.+needing.Goals as goal

pub instr_needs-returns-in_default : goal.instr_needs-returns-in_default
instr_needs-returns-in_default t c =
    let d = c.in_default in
    needs_none c.args.instr.now (ins_of-leaf c.args.instr.now d.not-Block d.not-Loop d.not-If d.not-TryTable) d.not-MemoryInit d.not-DataDrop d.not-ArrayNewData d.not-ArrayInitData
