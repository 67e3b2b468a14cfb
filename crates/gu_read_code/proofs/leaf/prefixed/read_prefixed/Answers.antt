use Rattle.std.proofs.Common.{◌≡◌, ◌+◌, suc, length, subst, arith}
use Rattle.gu_syntax.specs.declared.instr.Instr.{Instr}
use Rattle.gu_syntax.specs.Reading.{Read}
use Rattle.gu_read_parts.specs.Gives.{Gives}
use Rattle.gu_read_code.proofs.Rows.{aggregate_leaf}
use Rattle.gu_read_code.proofs.leaf.prefixed.read_prefixed.Goals as goal

pub returns-then-op-eq251-clause-value : goal.returns-then-op-eq251-clause-value
returns-then-op-eq251-clause-value c =
    let bytes = c.args.bytes.now in
    let there : length bytes + 1 ≡ suc (length bytes) = omega arith in
    let P : Read Instr → Type 0 = λ read. Gives c.read_structure.result read in
    subst P (aggregate_leaf c.args.op (suc (length bytes)) (length bytes + 1) c.in-Some.code bytes c.in-Some.rest.now c.if-op-eq251.true there c.in-Some.ensures.value) c.read_structure.ensures.value
