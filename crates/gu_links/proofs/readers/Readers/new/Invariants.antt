use Rattle.std.proofs.Common.{◌<◌, ℕ, length}
use Rattle.std.specs.Prelude.{All}
use Rattle.gu_links.specs.declared.readers.Place.{Place}
use Rattle.gu_links.specs.Known.{link_at}
use Rattle.gu_links.specs.Listed.{listed_at, HasLists, IsListedAt}
use Rattle.gu_links.proofs.readers.Readers.new.Given as goal

abbrev pub invariant-links : goal.invariant-links
invariant-links l = record {
  lists : HasLists l.f l.cells l.readers;
  at : (k : ℕ) → k < l.number → IsListedAt l.f l.index.cells l.readers (link_at l.links k) k;
  only : (place : Place) → All (λ k. k < length l.links) (listed_at l.readers place);
}
