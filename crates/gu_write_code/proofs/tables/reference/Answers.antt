use Rattle.gu_write_code.proofs.Kinded.{not_reference}
use Rattle.gu_write_code.proofs.tables.reference.Goals as goal

pub returns-in_default-clause-other : goal.returns-in_default-clause-other
returns-in_default-clause-other c = not_reference c.args.instr.now c.in_default.not-RefNull c.in_default.not-RefIsNull c.in_default.not-RefFunc c.in_default.not-RefEq c.in_default.not-RefAsNonNull c.in_default.not-RefTest c.in_default.not-RefCast c.in_default.not-AnyConvertExtern c.in_default.not-ExternConvertAny c.in_default.not-RefI31 c.in_default.not-I31GetS c.in_default.not-I31GetU
