use Rattle.std.proofs.Common.{arith}
use Rattle.std.proofs.lemmas.Grind.{common_steps}
use Rattle.gu_num.proofs.binary.combined_32.Goals as goal
use Rattle.gu_num.proofs.binary.combined_32.Goals.{then-b-eq0, else-b-eq0+then-a, else-b-eq0+else-a}

-- which part of the test for a trap was the last to be read
pub returns-else-b-eq4294967295 : goal.returns-else-b-eq4294967295
returns-else-b-eq4294967295 c = elim c.if-b-eq0.branch [
  | then-b-eq0 w ↦ grind (arith, common_steps)
  | else-b-eq0+then-a w ↦ grind (arith, common_steps)
  | else-b-eq0+else-a w ↦ grind (arith, common_steps)
]
