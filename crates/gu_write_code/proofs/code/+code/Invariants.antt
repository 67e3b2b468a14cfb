use Rattle.std.proofs.Common.{◌≡◌, ◌++◌, drop}
use Rattle.gu_syntax.specs.Code.{code_of}
use Rattle.gu_syntax.specs.Encoding.{encode_until}
use Rattle.gu_write_code.proofs.code.+code.Given as goal

abbrev pub invariant-put_until-instrs : goal.invariant-put_until-instrs
invariant-put_until-instrs l = l.out.items ++ encode_until l.end (code_of (drop l.instr-index l.instrs)) ≡ l.fn.out.items ++ encode_until l.end (code_of l.fn.instrs)
