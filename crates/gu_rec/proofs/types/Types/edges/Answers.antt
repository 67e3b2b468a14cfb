use Rattle.std.proofs.Common.{sym, ◌∙◌, ap₂, subst}
use Rattle.gu_types.specs.declared.types.HeapType.{HeapType}
use Rattle.gu_rec.specs.Sub.{line, same_heap, IsHeapOf}
use Rattle.gu_rec.specs.Table.{place, IsTable}
use Rattle.gu_rec.proofs.Queries.{idx_nowhere, abs_there, far_read}
use Rattle.gu_rec.proofs.types.Types.edges.Goals as goal

pub returns-in-Abs-above : goal.returns-in-Abs-above
returns-in-Abs-above c =
    c.abs_distance.ensures ∙ (sym (abs_there c.args.self.now c.in-Abs-above.top c.in-Abs.kind)
    ∙ ap₂ (λ (a b : HeapType). place (same_heap c.args.self.now a) (line c.args.self.now b)) (sym c.in-Abs-above.is) (sym c.in-Abs.is))

pub returns-in-Idx-above : goal.returns-in-Idx-above
returns-in-Idx-above c =
    sym (idx_nowhere c.args.self.now c.in-Idx-above.field-0 c.in-Abs.kind)
    ∙ ap₂ (λ (a b : HeapType). place (same_heap c.args.self.now a) (line c.args.self.now b)) (sym c.in-Idx-above.is) (sym c.in-Abs.is)

pub returns-in-Abs-above-2 : goal.returns-in-Abs-above-2
returns-in-Abs-above-2 c =
    let t : IsTable c.args.self.now c.self.inside.least.items c.self.inside.entries.items = subst (λ l. IsTable l c.self.inside.least.items c.self.inside.entries.items) c.self.view_is c.self.invariant.table in
    c.edges_from.ensures.far ∙ (sym (far_read t c.in-Abs-above-2.top c.in-Idx.i c.index.result.now (subst (IsHeapOf c.args.self.now) c.in-Idx.is c.requires.second) c.index.ensures)
    ∙ ap₂ (λ (a b : HeapType). place (same_heap c.args.self.now a) (line c.args.self.now b)) (sym c.in-Abs-above-2.is) (sym c.in-Idx.is))
