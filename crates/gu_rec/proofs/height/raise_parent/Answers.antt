use Rattle.std.proofs.Common.{rules, ◌+◌, ◌<◌, ◌^◌, ◌*◌, Some, get_or, refl, subst, arith}
use Rattle.std.proofs.lemmas.List.{get_or_read}
use Rattle.gu_types.specs.Depth.{types_of}
use Rattle.gu_rec.specs.Table.{IsTable}
use Rattle.gu_rec.specs.Heights.{Raise}
use Rattle.gu_rec.proofs.Lines.{parent_below}
use Rattle.gu_rec.proofs.Raising.{own_below, parent_at, low_height, handed_on}
use Rattle.gu_rec.proofs.height.raise_parent.Goals as goal

pub overflow_add-steps : goal.overflow_add-steps
overflow_add-steps c =
    let t : IsTable c.requires.known.0 c.args.least.now c.args.entries.now = c.requires.known.1 in
    let r = c.requires.there in
    let l = t.least_are.long in
    let n = c.requires.known.2.long in
    let e = get_or_read c.args.heights.now.items _ _ (omega arith) c.index.ensures 0 in
    let m = low_height t c.requires.known.2 c.args.from (omega arith) c.if-least-from.false in
    let h : c.index.result.now + 1 < 2 ^ 32 = omega arith in
    search (rules, h)

pub overflow_cast-above : goal.overflow_cast-above
overflow_cast-above c =
    let t : IsTable c.requires.known.0 c.args.least.now c.args.entries.now = c.requires.known.1 in
    let b = parent_below (types_of c.requires.known.0) c.args.from c.in-Some.above (parent_at t c.args.from _ (Some c.in-Some.above) c.requires.there c.in-Some.is) in
    let r = c.requires.there in
    let l = t.least_are.long in
    let f = t.few in
    let h : c.in-Some.above < 2 ^ 64 = omega arith in
    search (rules, h)

pub offset_bounds-least-above : goal.offset_bounds-least-above
offset_bounds-least-above c =
    let t : IsTable c.requires.known.0 c.args.least.now c.args.entries.now = c.requires.known.1 in
    let b = parent_below (types_of c.requires.known.0) c.args.from c.in-Some.above (parent_at t c.args.from _ (Some c.in-Some.above) c.requires.there c.in-Some.is) in
    let r = c.requires.there in
    let l = t.least_are.long in
    let f = t.few in
    let h : c.in-Some.above * 4 < 2 ^ 64 = omega arith in
    search (rules, h)

pub bounds-least-above : goal.bounds-least-above
bounds-least-above c =
    let t : IsTable c.requires.known.0 c.args.least.now c.args.entries.now = c.requires.known.1 in
    let b = parent_below (types_of c.requires.known.0) c.args.from c.in-Some.above (parent_at t c.args.from _ (Some c.in-Some.above) c.requires.there c.in-Some.is) in
    let r = c.requires.there in
    omega arith

pub raise-requires : goal.raise-requires
raise-requires c =
    let t : IsTable c.requires.known.0 c.args.least.now c.args.entries.now = c.requires.known.1 in
    let b = parent_below (types_of c.requires.known.0) c.args.from c.in-Some.above (parent_at t c.args.from _ (Some c.in-Some.above) c.requires.there c.in-Some.is) in
    let r = c.requires.there in
    let l = c.requires.known.2.long in
    let o = own_below t c.in-Some.above (omega arith) in
    omega arith

pub returns : goal.returns
returns c list t to =
    let r = c.requires.there in
    let l = t.least_are.long in
    let n = to.long in
    let e = get_or_read c.args.heights.now.items _ _ (omega arith) c.index.ensures 0 in
    let p = parent_at t c.args.from _ (Some c.in-Some.above) c.requires.there c.in-Some.is in
    let w : Raise c.args.heights.now.items c.raise.new.heights.items (get_or c.args.least.now c.in-Some.above 0) (get_or c.args.heights.now.items c.args.from 0 + 1) =
    subst (λ m. Raise c.args.heights.now.items c.raise.new.heights.items (get_or c.args.least.now c.in-Some.above 0) (m + 1)) e c.raise.ensures in
    handed_on t to w refl (omega arith) c.if-least-from.false p
