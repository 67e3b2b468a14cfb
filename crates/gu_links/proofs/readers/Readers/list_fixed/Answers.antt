use Rattle.std.proofs.Common.{◌≡◌, ℕ, List, true, length, get_or, take, sym, subst}
use Rattle.std.specs.Prelude.{All}
use Rattle.std.proofs.lemmas.List.{take_all}
use Rattle.gu_links.specs.declared.readers.Place.{Place}
use Rattle.gu_links.specs.Kept.{has}
use Rattle.gu_links.specs.Listed.{listed_at, fixed_place, IsPlace}
use Rattle.gu_links.proofs.Listed.{fixed_within}
use Rattle.gu_links.proofs.Adding.{adds_more, adds_lists, place_listed, all_more}
use Rattle.gu_links.proofs.readers.Readers.list_fixed.Goals as goal

pub list-requires : goal.list-requires
list-requires c =
    let f = c.args.f.now in
    let cells = c.args.cells.now in
    let count : ℕ = length c.args.self.now.at_cells.items in
    let cell : ℕ = get_or c.args.fixed.now c.cells.cell-index 0 in
    let lt = c.requires.fixed c.cells.cell-index 0 c.cells-test.true in
    place_listed f count c.cells.self (adds_lists f c.args.number count c.args.self.now c.cells.self c.cells.invariant.adds c.requires.lists) c.fixed_place.result
    (subst (IsPlace f count) (sym c.fixed_place.ensures) (fixed_within f cells c.requires.cells count cell lt))

pub cells-preserved : goal.cells-preserved
cells-preserved c =
    let f = c.args.f.now in
    let cells = c.args.cells.now in
    let fixed : List ℕ = c.args.fixed.now in
    let i : ℕ = c.cells.cell-index in
    record {
      adds = adds_more c.args.number c.args.self.now c.cells.self c.list.new.self c.cells.invariant.adds c.in_ok-list.ensures.adds;
      listed = all_more (λ d. has (listed_at c.list.new.self (fixed_place f cells d)) c.args.number ≡ true) fixed i 0 c.cells-test.true
          (λ k d lt. c.in_ok-list.ensures.adds.kept (fixed_place f cells (get_or (take i fixed) k d)) c.args.number (c.cells.invariant.listed k d lt))
          (subst (λ (p : Place). has (listed_at c.list.new.self p) c.args.number ≡ true) c.fixed_place.ensures c.in_ok-list.ensures.listed);
    }

pub returns-clause-listed : goal.returns-clause-listed
returns-clause-listed c =
    subst (λ (ds : List ℕ). All (λ d. has (listed_at c.cells.self (fixed_place c.args.f.now c.args.cells.now d)) c.args.number ≡ true) ds)
    (take_all c.cells.cell-index c.args.fixed.now c.cells-test.false) c.cells.invariant.listed
