use Rattle.std.proofs.Common.{◌-◌, rules, arith, sym, subst, slice_set, ◌/◌}
use Rattle.gu_report.proofs.Digits.{IsWritten, begins, goes_on}
use Rattle.gu_report.proofs.hex.HexBuffer.write.Goals as goal

pub digits-init : goal.digits-init
digits-init c = record {
  within = omega arith;
  written = begins c.args.number c.args.self.now.digits c.ranges.number.fits (search rules);
}

pub digits-preserved : goal.digits-preserved
digits-preserved c = record {
  within = omega arith;
  written =
      subst (λ glyph. IsWritten c.args.number (c.digits.rest / 16) (c.digits.start - 1) (slice_set c.digits.self.digits (c.digits.start - 1) glyph)) (sym c.digit.ensures)
      (goes_on c.args.number c.digits.rest c.digits.start c.digits.self.digits (search rules) c.digits.invariant.written c.if-rest-eq0.false);
}
