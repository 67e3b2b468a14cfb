use Rattle.std.proofs.Common.{subst}
use Rattle.std.specs.Prelude.{All, Contains}
use Rattle.std.proofs.lemmas.List.Elements.{All-head}
use Rattle.gu_links.specs.declared.link.Link.{Link}
use Rattle.gu_links.specs.Known.{cells_of}
use Rattle.gu_links.specs.Kept.{fixed_reads}
use Rattle.gu_links.proofs.next.further_next.Goals as goal

pub called-requires-clause-callee : goal.called-requires-clause-callee
called-requires-clause-callee c = All-head (Contains (cells_of c.args.known.now)) c.in-CallBy.callee c.in-CallBy.operands (subst (λ (l : Link). All (Contains (cells_of c.args.known.now)) (fixed_reads l)) c.in-CallBy.is c.requires.fixed)
