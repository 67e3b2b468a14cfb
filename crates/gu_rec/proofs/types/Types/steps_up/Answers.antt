use Rattle.std.proofs.Common.{subst, arith}
use Rattle.gu_types.specs.Depth.{types_of}
use Rattle.gu_rec.specs.Table.{IsTable}
use Rattle.gu_rec.proofs.Lines.{parent_below, depth_step}
use Rattle.gu_rec.proofs.Queries.{found_here, found_nowhere, parent_read, one_up}
use Rattle.gu_rec.proofs.types.Types.steps_up.Goals as goal
use Rattle.gu_rec.proofs.types.Types.steps_up.Goals.{Then-index-target, In_default, In-Some}

pub returns-then-index-target : goal.returns-then-index-target
returns-then-index-target c =
    let t : IsTable c.args.self.now c.self.inside.least.items c.self.inside.entries.items = subst (λ l. IsTable l c.self.inside.least.items c.self.inside.entries.items) c.self.view_is c.self.invariant.table in
    found_here t c.args.to c.args.from c.line.at c.line.steps c.index.result.now c.index-target.result.now c.requires.second c.line.invariant.in_range c.index.ensures c.index-target.ensures c.if-index-target.true c.line.invariant.rest

pub returns-in_default : goal.returns-in_default
returns-in_default c =
    let t : IsTable c.args.self.now c.self.inside.least.items c.self.inside.entries.items = subst (λ l. IsTable l c.self.inside.least.items c.self.inside.entries.items) c.self.view_is c.self.invariant.table in
    found_nowhere t c.args.to c.args.from c.line.at c.line.steps c.index.result.now c.index-target.result.now c.index-entry.result.now c.requires.second c.line.invariant.in_range c.index.ensures c.index-target.ensures c.if-index-target.false c.index-entry.ensures c.in_default.is c.line.invariant.rest

pub line-smaller : goal.line-smaller
line-smaller c =
    let t : IsTable c.args.self.now c.self.inside.least.items c.self.inside.entries.items = subst (λ l. IsTable l c.self.inside.least.items c.self.inside.entries.items) c.self.view_is c.self.invariant.table in
    parent_below (types_of c.args.self.now) c.line.at c.in-Some.above (parent_read t c.line.at c.in-Some.above c.index-entry.result.now c.line.invariant.in_range c.index-entry.ensures c.in-Some.is)

pub line-preserved : goal.line-preserved
line-preserved c =
    let t : IsTable c.args.self.now c.self.inside.least.items c.self.inside.entries.items = subst (λ l. IsTable l c.self.inside.least.items c.self.inside.entries.items) c.self.view_is c.self.invariant.table in
    let p = parent_read t c.line.at c.in-Some.above c.index-entry.result.now c.line.invariant.in_range c.index-entry.ensures c.in-Some.is in
    let b = parent_below (types_of c.args.self.now) c.line.at c.in-Some.above p in
    let d = depth_step (types_of c.args.self.now) c.line.at c.in-Some.above p in
    record {
      in_range = let h = c.line.invariant.in_range in omega arith;
      deep = let h = c.line.invariant.deep in omega arith;
      rest = one_up t c.args.to c.args.from c.line.at c.in-Some.above c.line.steps c.index.result.now c.index-target.result.now c.index-entry.result.now c.requires.second c.line.invariant.in_range c.index.ensures c.index-target.ensures c.if-index-target.false c.index-entry.ensures c.in-Some.is c.line.invariant.rest;
    }
