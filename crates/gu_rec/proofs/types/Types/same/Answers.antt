use Rattle.std.proofs.Common.{subst}
use Rattle.gu_rec.specs.Table.{IsTable}
use Rattle.gu_rec.proofs.Queries.{same_read, same_means}
use Rattle.gu_rec.proofs.types.Types.same.Goals as goal

pub returns-clause-value : goal.returns-clause-value
returns-clause-value c =
    let t : IsTable c.args.self.now c.self.inside.least.items c.self.inside.entries.items = subst (λ l. IsTable l c.self.inside.least.items c.self.inside.entries.items) c.self.view_is c.self.invariant.table in
    same_read t c.args.i c.args.j c.index.result.now c.index-2.result.now c.requires.first c.requires.second c.index.ensures c.index-2.ensures

pub returns-clause-means : goal.returns-clause-means
returns-clause-means c =
    let t : IsTable c.args.self.now c.self.inside.least.items c.self.inside.entries.items = subst (λ l. IsTable l c.self.inside.least.items c.self.inside.entries.items) c.self.view_is c.self.invariant.table in
    same_means t c.args.i c.args.j _ (same_read t c.args.i c.args.j c.index.result.now c.index-2.result.now c.requires.first c.requires.second c.index.ensures c.index-2.ensures)
