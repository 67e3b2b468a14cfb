use Rattle.std.proofs.Common.{rules, ℕ, ◌≡◌, ◌+◌, ◌<◌, List, length, get_or, ap, arith}
use Rattle.std.specs.Prelude.{slice_get}
use Rattle.gu_types.specs.Depth.{types_of}
use Rattle.gu_links.specs.Cells.{before_func, out_cell, count_of, comp_params}
use Rattle.gu_links.proofs.Within.{read_is, out_is, out_within}
use Rattle.gu_links.proofs.numbering.Numbering.out.Goals as goal
use Rattle.gu_links.proofs.numbering.Numbering.out.Goals.{After-index}

start_is : (c : After-index) → c.index.result.now ≡ before_func c.args.self.now.facts.now c.args.func
start_is c =
    let s = c.args.self.now in
    let lt : c.args.func < length s.funcs.items = let a = s.funcs_long in let b = c.requires.in_range in omega arith in
    read_is s.funcs.items (before_func s.facts.now) c.args.func c.index.result.now lt c.index.ensures s.funcs_are

cell_is : (c : After-index) → c.index.result.now + (c.params_of-params.result + c.args.index) ≡ out_cell c.args.self.now.facts.now c.args.func c.args.index
cell_is c =
    let f = c.args.self.now.facts.now in
    let same = ap (λ (types : List ℕ). count_of comp_params (slice_get (types_of f.types) (get_or types c.args.func 0))) c.as_slice-types.ensures in
    let a = start_is c in
    let b = c.params_of-params.ensures in
    let e = out_is c.args.self.now.facts.now c.args.func c.args.index in omega arith

within : (c : After-index) → c.index.result.now + (c.params_of-params.result + c.args.index) < c.args.self.now.own
within c = let a = cell_is c in let o = c.args.self.now.own_is in let w = out_within c.args.self.now.facts.now c.args.func c.args.index c.requires.in_range c.requires.has_result in omega arith

pub overflow_add-result : goal.overflow_add-result
overflow_add-result c = let w = within ((goal.at.overflow_add-result c).After-index) in search rules

pub overflow_add-result-2 : goal.overflow_add-result-2
overflow_add-result-2 c = let w = within ((goal.at.overflow_add-result-2 c).After-index) in search rules

pub returns-clause-cell : goal.returns-clause-cell
returns-clause-cell c = cell_is ((goal.at.returns-clause-cell c).After-index)

pub returns-clause-within : goal.returns-clause-within
returns-clause-within c = let o = c.args.self.now.own_is in let w = within ((goal.at.returns-clause-within c).After-index) in omega arith
