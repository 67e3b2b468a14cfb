use Rattle.std.proofs.Common.{◌≤◌}
use Rattle.gu_report.proofs.Digits.{IsWritten}
use Rattle.gu_report.proofs.hex.HexBuffer.write.Given as goal

abbrev pub invariant-digits : goal.invariant-digits
invariant-digits l = record {
  within : l.start ≤ 8;
  written : IsWritten l.fn.number l.rest l.start l.self.digits;
}

abbrev pub decreases-digits : goal.decreases-digits
decreases-digits l = l.start
