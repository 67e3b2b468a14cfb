use Rattle.std.proofs.Common.{Some, ap, sym, ◌∙◌, subst}
use Rattle.gu_rec.specs.Sub.{IsHeapOf}
use Rattle.gu_rec.specs.Table.{IsTable, above_type, next_above}
use Rattle.gu_rec.proofs.Queries.{above_read}
use Rattle.gu_rec.proofs.types.Types.above.Goals as goal

pub returns-in-None-parent : goal.returns-in-None-parent
returns-in-None-parent c =
    let t : IsTable c.args.self.now c.self.inside.least.items c.self.inside.entries.items = subst (λ l. IsTable l c.self.inside.least.items c.self.inside.entries.items) c.self.view_is c.self.invariant.table in
    ap (λ o. Some (above_type c.index-entry.result.now.kind o)) (sym c.in-None-parent.is)
    ∙ (above_read t c.in-Idx.i c.index-entry.result.now (subst (IsHeapOf c.args.self.now) c.in-Idx.is c.requires) c.index-entry.ensures ∙ ap (next_above c.args.self.now) (sym c.in-Idx.is))

pub returns-in-Some-parent : goal.returns-in-Some-parent
returns-in-Some-parent c =
    let t : IsTable c.args.self.now c.self.inside.least.items c.self.inside.entries.items = subst (λ l. IsTable l c.self.inside.least.items c.self.inside.entries.items) c.self.view_is c.self.invariant.table in
    ap (λ o. Some (above_type c.index-entry.result.now.kind o)) (sym c.in-Some-parent.is)
    ∙ (above_read t c.in-Idx.i c.index-entry.result.now (subst (IsHeapOf c.args.self.now) c.in-Idx.is c.requires) c.index-entry.ensures ∙ ap (next_above c.args.self.now) (sym c.in-Idx.is))
