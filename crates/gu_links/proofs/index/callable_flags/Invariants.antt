use Rattle.std.proofs.Common.{◌≡◌, ◌<◌, ℕ, false, length, get_or, take}
use Rattle.std.specs.List.{list_any}
use Rattle.gu_links.specs.Over.{names}
use Rattle.gu_links.proofs.index.callable_flags.Given as goal

abbrev pub invariant-links : goal.invariant-links
invariant-links l = record {
  long : length l.callable.items ≡ l.count;
  named : (g : ℕ) → g < l.count → get_or l.callable.items g false ≡ list_any (names g) (take l.link-index l.links);
}
