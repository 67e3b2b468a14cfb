use Rattle.std.proofs.Common.{sym, ◌∙◌, subst, ap, ◌≤◌, unwrap_or}
use Rattle.gu_contents.proofs.Cones.{edges_small}
use Rattle.gu_contents.proofs.facts.Facts.edges.Goals as goal

pub returns-clause-small : goal.returns-clause-small
returns-clause-small c = subst (λ n. n ≤ 66) (sym (c.unwrap_or.ensures ∙ ap (λ o. unwrap_or o 0) c.distance.ensures)) (edges_small c.args.self.now c.args.above c.args.below)
