use Rattle.std.proofs.Common.{ℕ, ◌≡◌, ◌<◌, length, get_or}
use Rattle.gu_links.specs.Cells.{slots_before}
use Rattle.gu_links.proofs.numbering.slot_starts.Given as goal

abbrev pub invariant-types : goal.invariant-types
invariant-types l = record {
  long : length l.starts.items ≡ l.ty;
  starts : (k : ℕ) → k < length l.starts.items → get_or l.starts.items k 0 ≡ slots_before l.facts k;
  end : l.end ≡ slots_before l.facts l.ty;
}
