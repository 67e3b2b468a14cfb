use Rattle.std.proofs.Common.{◌≡◌, slice_get, Some}
use Rattle.gu_model.specs.Valid.{CodeHolds}
use Rattle.gu_valid.specs.Facts.{bodies_lack_count}
use Rattle.gu_valid.proofs.Holding.{at_place, each_more, code_holds}
use Rattle.gu_valid.proofs.Lacks.{lacks_at}
use Rattle.gu_valid.proofs.Unnamed.{lacks_typed}
use Rattle.gu_valid.proofs.facts.Facts.first_code.Goals as goal

pub loop-number-preserved : goal.loop-number-preserved
loop-number-preserved c =
    let m = c.args.self.now.module.now in
    let i = c.loop-number.number in
    let x = c.func-item.result in
    let at : slice_get m.funcs i ≡ Some x = at_place c.as_slice-func-items.result.now m.funcs i x c.as_slice-func-items.ensures c.loop-number-test.true c.func-item.is in
    record {
      lack = (lacks_at m.has_count m.funcs i x c.lacks_count-lacks.result (bodies_lack_count m) at (lacks_typed m x c.lacks_count-lacks.result c.in_ok-holds.holds c.lacks_count-lacks.ensures c.in_ok-holds.ensures c.if-not-holds.false) c.loop-number.invariant.lack).1 c.if-lacks.false;
      holds = each_more (CodeHolds m) i c.loop-number.invariant.holds (code_holds m i x c.in_ok-holds.holds at c.in_ok-holds.ensures c.if-not-holds.false);
    }
