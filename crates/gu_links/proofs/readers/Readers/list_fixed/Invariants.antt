use Rattle.std.proofs.Common.{◌≡◌, true, take}
use Rattle.std.specs.Prelude.{All}
use Rattle.gu_links.specs.Kept.{has}
use Rattle.gu_links.specs.Listed.{listed_at, fixed_place, Adds}
use Rattle.gu_links.proofs.readers.Readers.list_fixed.Given as goal

abbrev pub invariant-cells : goal.invariant-cells
invariant-cells l = record {
  adds : Adds l.number l.initial.self l.self;
  listed : All (λ c. has (listed_at l.self (fixed_place l.f l.cells c)) l.number ≡ true) (take l.cell-index l.fixed);
}
