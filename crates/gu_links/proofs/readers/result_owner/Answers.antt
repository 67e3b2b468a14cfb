use Rattle.std.proofs.Common.{◌≡◌, ◌<◌, ◌≤◌, length, sym, ◌∙◌, arith, rules}
use Rattle.std.specs.Prelude.{slice_index}
use Rattle.std.proofs.lemmas.List.{get_or_default}
use Rattle.gu_links.proofs.Listed.{owned_by, owner_none, owner_some, owner_typed}
use Rattle.gu_links.proofs.readers.result_owner.Goals as goal

pub index-requires : goal.index-requires
index-requires c =
    let cells = c.args.cells.now in
    let long : c.args.cell < length cells.owners.items = let l = c.if-len-cell.false in let e : c.len.result ≡ length cells.owners.items = search rules in omega arith in
    let o = owned_by c.args.f.now cells c.requires c.args.cell c.if-cell-cells.false long in
    let own : c.index-function.result.now ≡ o.function = c.index-function.ensures ∙ get_or_default cells.owners.items c.args.cell c.index-function.result.now 0 long ∙ o.is in
    let n = c.requires.results_long in
    let b = o.below in
    let h : c.index-function.result.now < length cells.results.items = omega arith in search (rules, h)

pub returns-then-cell-index-clause-value : goal.returns-then-cell-index-clause-value
returns-then-cell-index-clause-value c =
    let cells = c.args.cells.now in
    let long : c.args.cell < length cells.owners.items = let l = c.if-len-cell.false in let e : c.len.result ≡ length cells.owners.items = search rules in omega arith in
    let own = c.index-function.ensures ∙ get_or_default cells.owners.items c.args.cell c.index-function.result.now 0 long in
    let o = owned_by c.args.f.now cells c.requires c.args.cell c.if-cell-cells.false long in
    let n = c.requires.results_long in
    let b = o.below in
    let at = own ∙ o.is in
    let there : c.index-function.result.now < length cells.results.items = omega arith in
    let begin = c.index.ensures ∙ get_or_default cells.results.items c.index-function.result.now c.index.result.now 0 there in
    let lt = c.if-cell-index.true in
    let before : c.args.cell < slice_index cells.results.items c.index-function.result.now = omega arith in
    sym (owner_none c.args.f.now cells c.requires c.args.cell c.index-function.result.now c.if-cell-cells.false long own before)

pub returns-else-cell-index-clause-in_range : goal.returns-else-cell-index-clause-in_range
returns-else-cell-index-clause-in_range c =
    let cells = c.args.cells.now in
    let long : c.args.cell < length cells.owners.items = let l = c.if-len-cell.false in let e : c.len.result ≡ length cells.owners.items = search rules in omega arith in
    let o = owned_by c.args.f.now cells c.requires c.args.cell c.if-cell-cells.false long in
    let own : c.index-function.result.now ≡ o.function = c.index-function.ensures ∙ get_or_default cells.owners.items c.args.cell c.index-function.result.now 0 long ∙ o.is in
    let b = o.below in omega arith

pub returns-else-cell-index-clause-type_in_range : goal.returns-else-cell-index-clause-type_in_range
returns-else-cell-index-clause-type_in_range c =
    let cells = c.args.cells.now in
    let long : c.args.cell < length cells.owners.items = let l = c.if-len-cell.false in let e : c.len.result ≡ length cells.owners.items = search rules in omega arith in
    let own = c.index-function.ensures ∙ get_or_default cells.owners.items c.args.cell c.index-function.result.now 0 long in
    let o = owned_by c.args.f.now cells c.requires c.args.cell c.if-cell-cells.false long in
    let n = c.requires.results_long in
    let b = o.below in
    let at = own ∙ o.is in
    let there : c.index-function.result.now < length cells.results.items = omega arith in
    let begin = c.index.ensures ∙ get_or_default cells.results.items c.index-function.result.now c.index.result.now 0 there in
    let le = c.if-cell-index.false in
    let behind : slice_index cells.results.items c.index-function.result.now ≤ c.args.cell = omega arith in
    (owner_typed c.args.f.now cells c.requires c.args.cell c.index-function.result.now (owner_some c.args.f.now cells c.requires c.args.cell c.index-function.result.now c.if-cell-cells.false long own behind)).typed
