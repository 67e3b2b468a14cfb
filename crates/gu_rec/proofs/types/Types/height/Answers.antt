use Rattle.std.proofs.Common.{◌<◌, length, get_or, ap, sym, ◌∙◌, subst, arith}
use Rattle.std.proofs.lemmas.List.{get_or_read}
use Rattle.gu_types.specs.Depth.{types_of}
use Rattle.gu_rec.specs.Sub.{IsHeapOf, IsNoBottom, height}
use Rattle.gu_rec.specs.Table.{IsTable}
use Rattle.gu_rec.specs.Heights.{HeightsAre, TopsAre}
use Rattle.gu_rec.proofs.Heights.{top_is}
use Rattle.gu_rec.proofs.Raising.{own_below, canon_is}
use Rattle.gu_rec.proofs.types.Types.height.Goals as goal

pub returns-in-Abs : goal.returns-in-Abs
returns-in-Abs c =
    let t : TopsAre c.args.self.now c.self.inside.tops = subst (λ l. TopsAre l c.self.inside.tops) c.self.view_is c.self.invariant.tops_are in
    c.height.ensures ∙ (top_is c.args.self.now c.self.inside.tops t c.in-Abs.kind (subst IsNoBottom c.in-Abs.is c.requires.no_bottom) ∙ ap (height c.args.self.now) (sym c.in-Abs.is))

pub index-requires : goal.index-requires
index-requires c =
    let t : IsTable c.args.self.now c.self.inside.least.items c.self.inside.entries.items = subst (λ l. IsTable l c.self.inside.least.items c.self.inside.entries.items) c.self.view_is c.self.invariant.table in
    let l = t.least_are.long in
    let r : c.in-Idx.i < length (types_of c.args.self.now) = subst (IsHeapOf c.args.self.now) c.in-Idx.is c.requires.in_range in
    let e = canon_is t c.in-Idx.i c.canon.result (omega arith) c.canon.ensures.same c.canon.ensures.least in
    let b = own_below t c.in-Idx.i (omega arith) in
    let k = c.self.invariant.heights_are.long in
    let v = c.self.inside.heights.ok.0 in
    omega arith

pub returns-in-Idx : goal.returns-in-Idx
returns-in-Idx c =
    let t : IsTable c.args.self.now c.self.inside.least.items c.self.inside.entries.items = subst (λ l. IsTable l c.self.inside.least.items c.self.inside.entries.items) c.self.view_is c.self.invariant.table in
    let a : HeightsAre c.args.self.now c.self.inside.least.items c.self.inside.heights.items = subst (λ l. HeightsAre l c.self.inside.least.items c.self.inside.heights.items) c.self.view_is c.self.invariant.heights_are in
    let l = t.least_are.long in
    let r : c.in-Idx.i < length (types_of c.args.self.now) = subst (IsHeapOf c.args.self.now) c.in-Idx.is c.requires.in_range in
    let e = canon_is t c.in-Idx.i c.canon.result (omega arith) c.canon.ensures.same c.canon.ensures.least in
    let b = own_below t c.in-Idx.i (omega arith) in
    let k = a.long in
    get_or_read c.self.inside.heights.items c.canon.result c.index.result.now (omega arith) c.index.ensures 0
    ∙ (ap (λ n. get_or c.self.inside.heights.items n 0) e ∙ (a.at c.in-Idx.i r ∙ ap (height c.args.self.now) (sym c.in-Idx.is)))
