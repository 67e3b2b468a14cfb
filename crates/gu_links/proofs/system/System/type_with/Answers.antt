use Rattle.std.proofs.Common.{◌<◌, length, arith, rules}
use Rattle.gu_links.proofs.Owning.{slots_long, type_found, types_end}
use Rattle.gu_links.proofs.system.System.type_with.Goals as goal

pub index-requires : goal.index-requires
index-requires c =
    let s = c.args.self.now in
    let all = slots_long s.facts.now s.index.cells s.indexed.cells in
    let lt = c.if-cell-self.true in
    let h : c.args.cell < length s.index.cells.owners.items = omega arith in search (rules, h)

pub returns-then-cell-self : goal.returns-then-cell-self
returns-then-cell-self c =
    let s = c.args.self.now in
    let all = slots_long s.facts.now s.index.cells s.indexed.cells in
    let lt = c.if-cell-self.true in
    let h : c.args.cell < length s.index.cells.owners.items = omega arith in
    type_found s.facts.now s.index.cells s.indexed.cells c.args.cell c.index.result.now lt c.index.ensures h

pub returns-else-cell-self : goal.returns-else-cell-self
returns-else-cell-self c = let s = c.args.self.now in types_end s.facts.now s.index.cells s.indexed.cells c.args.cell c.if-cell-self.false
