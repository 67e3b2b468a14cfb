use Rattle.std.proofs.Common.{take}
use Rattle.gu_parallel.proofs.Chains.{ChainedTo}
use Rattle.gu_parallel.proofs.parts.joined_len.Given as goal

abbrev pub invariant-parts : goal.invariant-parts
invariant-parts g l = ChainedTo 0 l.place (take l.index l.parts)
