use Rattle.std.proofs.Common.{rules, ◌≡◌, ◌+◌, ◌<◌, length, arith}
use Rattle.gu_links.specs.Cells.{before_func, param_cell}
use Rattle.gu_links.proofs.Within.{read_is, param_is, param_within}
use Rattle.gu_links.proofs.numbering.Numbering.param.Goals as goal
use Rattle.gu_links.proofs.numbering.Numbering.param.Goals.{After-index}

cell_is : (c : After-index) → c.index.result.now + c.args.index ≡ param_cell c.args.self.now.facts.now c.args.func c.args.index
cell_is c =
    let s = c.args.self.now in
    let lt : c.args.func < length s.funcs.items = let a = s.funcs_long in let b = c.requires.in_range in omega arith in
    let a = read_is s.funcs.items (before_func s.facts.now) c.args.func c.index.result.now lt c.index.ensures s.funcs_are in
    let e = param_is s.facts.now c.args.func c.args.index in omega arith

within : (c : After-index) → c.index.result.now + c.args.index < c.args.self.now.own
within c = let a = cell_is c in let o = c.args.self.now.own_is in let w = param_within c.args.self.now.facts.now c.args.func c.args.index c.requires.in_range c.requires.has_param in omega arith

pub overflow_add-result : goal.overflow_add-result
overflow_add-result c = let w = within ((goal.at.overflow_add-result c).After-index) in search rules

pub returns-clause-cell : goal.returns-clause-cell
returns-clause-cell c = cell_is ((goal.at.returns-clause-cell c).After-index)

pub returns-clause-within : goal.returns-clause-within
returns-clause-within c = let o = c.args.self.now.own_is in let w = within ((goal.at.returns-clause-within c).After-index) in omega arith
