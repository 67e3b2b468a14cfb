use Rattle.std.proofs.Common.{◌≡◌, ℕ, ◌<◌, Some, None, List, sym, ap, ◌∙◌, subst, arith}
use Rattle.std.specs.Prelude.{Contains}
use Rattle.gu_links.specs.Listed.{listed_at}
use Rattle.gu_links.proofs.Adding.{place_listed}
use Rattle.gu_links.proofs.Distinct.{from_has}
use Rattle.gu_links.proofs.Regained.{is_system}
use Rattle.gu_links.proofs.Ways.{read_low, found_at}
use Rattle.gu_links.proofs.system.System.readers.Goals as goal

pub returns-then-self-cell-clause-found : goal.returns-then-self-cell-clause-found
returns-then-self-cell-clause-found c k lt r =
    let s = c.args.self.now in
    let low = read_low s.facts.now s.longs s.cells s.links (is_system s) s.index.cells s.readers s.listed c.args.cell c.args.up k lt r in
    let past = c.if-self-cell.true in absurd (omega arith)

pub at-requires : goal.at-requires
at-requires c =
    let s = c.args.self.now in
    let low : c.args.cell < s.cells = let past = c.if-self-cell.false in omega arith in
    place_listed s.facts.now s.cells s.readers s.listed.lists c.in-Some.place (c.in-Some.ensures.in_range s.cells (is_system s).room low)

pub returns-in-None-clause-found : goal.returns-in-None-clause-found
returns-in-None-clause-found c k lt r =
    let s = c.args.self.now in
    let at = found_at s.facts.now s.longs s.cells s.links (is_system s) s.index.cells s.readers s.listed c.args.cell c.args.up c.place_of.result
    c.place_of.ensures.fixed c.place_of.ensures.slots c.place_of.ensures.results k lt r in
    let none : Some at.place ≡ None = sym at.is ∙ c.in-None.is in absurd cc

pub returns-in-Some-clause-found : goal.returns-in-Some-clause-found
returns-in-Some-clause-found c k lt r =
    let s = c.args.self.now in
    let at = found_at s.facts.now s.longs s.cells s.links (is_system s) s.index.cells s.readers s.listed c.args.cell c.args.up c.place_of.result
    c.place_of.ensures.fixed c.place_of.ensures.slots c.place_of.ensures.results k lt r in
    let same : at.place ≡ c.in-Some.place = let some = sym at.is ∙ c.in-Some.is in cc in
    subst (λ (xs : List ℕ). Contains xs k) (sym (c.at.ensures ∙ ap (listed_at s.readers) (sym same))) (from_has (listed_at s.readers at.place) k at.has)
