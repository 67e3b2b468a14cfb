-- Counts of faults over several calls.
use Rattle.std.proofs.Common.{ℕ, ◌≤◌, arith}
use Rattle.gu_outside.specs.Outside.{Rose}

-- a count that rose has risen too where it grew further
pub Rose-later : (before mid after : ℕ) → Rose before mid → mid ≤ after → Rose before after
Rose-later before mid after rose grows = omega arith

-- a count that rose has risen too since an earlier call
pub Rose-earlier : (before mid after : ℕ) → before ≤ mid → Rose mid after → Rose before after
Rose-earlier before mid after grows rose = omega arith
