use Rattle.std.proofs.Common.{All}
use Rattle.gu_parallel.specs.Parts.{IsPartOf}
use Rattle.gu_parallel.proofs.parts.take_parts.Given as goal

abbrev pub invariant-turns : goal.invariant-turns
invariant-turns g l = All (IsPartOf (g.W.Work.ends l.work) (g.W.Work.makes l.work) l.until) l.parts.items
