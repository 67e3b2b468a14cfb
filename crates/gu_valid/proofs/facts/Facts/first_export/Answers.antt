use Rattle.std.proofs.Common.{◌≡◌, ◌∙◌, ap, sym, get_or, slice_get, List, Some, true, false, refl}
use Rattle.std.proofs.lemmas.Option.{slice_get_within}
use Rattle.gu_syntax.specs.declared.module.Export.{Export}
use Rattle.gu_model.specs.Valid.{ExportHolds}
use Rattle.gu_valid.proofs.Holding.{at_place, each_more}
use Rattle.gu_valid.proofs.Names.{named_more, export_holds, name_taken, not_there}
use Rattle.gu_valid.proofs.facts.Facts.first_export.Goals as goal
use Rattle.gu_valid.proofs.facts.Facts.first_export.Goals.{then-not-is_new-via-then-not-is_new, then-not-is_new-via-else-not-is_new+then-not-is_there}

pub returns-then-not-is_new : goal.returns-then-not-is_new
returns-then-not-is_new c =
    let m = c.args.self.now.module.now in
    let i = c.loop-number.number in
    let e = c.export-item.result in
    let at : slice_get m.exports i ≡ Some e = at_place c.as_slice-export-items.result.now m.exports i e c.as_slice-export-items.ensures c.loop-number-test.true c.export-item.is in
    let fails : ExportHolds m i → ⊥ =
    elim c.then-not-is_new.branch [
      | then-not-is_new-via-then-not-is_new w ↦ name_taken m i e c.as_slice.result c.loop-number.names c.loop-number.invariant.named (sym w.if-not-is_new.true ∙ c.in_ok-is_new.ensures.added) c.as_slice.ensures at
      | then-not-is_new-via-else-not-is_new+then-not-is_there w ↦ not_there m i e at (λ there. let never : false ≡ true = w.if-not-is_there.ensures.1 there in cc)
    ]
    in
    (slice_get_within m.exports i e at, fails, c.loop-number.invariant.hold)

pub loop-number-preserved : goal.loop-number-preserved
loop-number-preserved c =
    let m = c.args.self.now.module.now in
    let i = c.loop-number.number in
    let e = c.export-item.result in
    let exports : c.as_slice-export-items.result.now ≡ m.exports = c.as_slice-export-items.ensures in
    let at : slice_get m.exports i ≡ Some e = at_place c.as_slice-export-items.result.now m.exports i e exports c.loop-number-test.true c.export-item.is in
    let holds : ExportHolds m i = export_holds m i e c.as_slice.result c.loop-number.names c.loop-number.invariant.named (sym c.if-not-is_new.false ∙ c.in_ok-is_new.ensures.added) c.as_slice.ensures at (c.if-not-is_there.ensures.0 refl) in
    record {
      hold = each_more (ExportHolds m) i c.loop-number.invariant.hold holds;
      named = named_more m.exports i e c.as_slice.result c.loop-number.names c.insert.new.self c.loop-number.invariant.named c.in_ok-is_new.ensures.updates (slice_get_within m.exports i e at) (c.export-item.is ∙ ap (λ (es : List Export). get_or es i e) exports) c.as_slice.ensures;
    }
