use Rattle.std.proofs.Common.{IsTrue, ◌↔◌, sym, subst}
use Rattle.gu_rec.specs.Sub.{IsSub}
use Rattle.gu_rec.specs.Table.{IsTable}
use Rattle.gu_rec.proofs.Decided.{is_sub_decides}
use Rattle.gu_rec.proofs.types.Types.is_sub.Goals as goal

pub returns-clause-means : goal.returns-clause-means
returns-clause-means c =
    let t : IsTable c.args.self.now c.self.inside.least.items c.self.inside.entries.items = subst (λ l. IsTable l c.self.inside.least.items c.self.inside.entries.items) c.self.view_is c.self.invariant.table in
    subst (λ b. IsTrue b ↔ IsSub c.args.self.now c.args.a c.args.b) (sym c.stands_below.ensures) (is_sub_decides c.args.self.now t.hold c.args.a c.args.b)
