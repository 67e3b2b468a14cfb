use Rattle.std.proofs.Common.{◌≡◌, ◌<◌, ◌≤◌, length, arith, rules}
use Rattle.gu_links.proofs.Owning.{function_found, functions_end}
use Rattle.gu_links.proofs.system.System.function_from.Goals as goal

pub returns-then-cell-len : goal.returns-then-cell-len
returns-then-cell-len c =
    let s = c.args.self.now in
    let long : c.len.result ≡ length s.index.cells.owners.items = search rules in
    let lt = c.if-cell-len.true in
    let h : c.args.cell < length s.index.cells.owners.items = omega arith in
    function_found s.facts.now s.index.cells s.indexed.cells c.args.cell c.index.result.now c.if-cell-self.false h c.index.ensures

pub returns-else-cell-len : goal.returns-else-cell-len
returns-else-cell-len c =
    let s = c.args.self.now in
    let long : c.len.result ≡ length s.index.cells.owners.items = search rules in
    let past = c.if-cell-len.false in
    let h : length s.index.cells.owners.items ≤ c.args.cell = omega arith in
    functions_end s.facts.now s.index.cells s.indexed.cells c.args.cell h
