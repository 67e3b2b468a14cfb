use Rattle.std.proofs.Common.{ℕ, ◌≡◌, ◌<◌, length, get_or}
use Rattle.gu_links.specs.Cells.{before_func}
use Rattle.gu_links.proofs.numbering.func_starts.Given as goal

abbrev pub invariant-loop-func : goal.invariant-loop-func
invariant-loop-func l = record {
  long : length l.starts.items ≡ l.func;
  starts : (k : ℕ) → k < length l.starts.items → get_or l.starts.items k 0 ≡ before_func l.facts k;
  end : l.end ≡ before_func l.facts l.func;
}
