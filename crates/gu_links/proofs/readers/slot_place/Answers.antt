use Rattle.std.proofs.Common.{◌+◌, ◌<◌, ◌^◌, length, refl, arith, rules}
use Rattle.gu_types.specs.Depth.{types_of}
use Rattle.gu_contents.proofs.Heights.{least_is}
use Rattle.gu_links.proofs.Within.{least_below, slot_least_within}
use Rattle.gu_links.proofs.Sized.{least_slots}
use Rattle.gu_links.proofs.Listed.{slot_table}
use Rattle.gu_links.proofs.readers.slot_place.Goals as goal

pub index-requires : goal.index-requires
index-requires c =
    let f = c.args.f.now in
    let b = least_below f c.args.ty c.canon.result (length (types_of f.types)) c.requires.ty refl c.canon.ensures.same c.canon.ensures.least in
    let n = c.requires.cells.slots_long in
    let h : c.canon.result < length c.args.cells.now.slots.items = omega arith in search (rules, h)

pub overflow_add-result : goal.overflow_add-result
overflow_add-result c =
    let f = c.args.f.now in
    let e = slot_table f c.args.cells.now c.requires.cells c.args.ty c.canon.result c.args.slot c.index.result.now c.requires.ty (least_is f.types c.args.ty c.canon.result c.canon.ensures.same c.canon.ensures.least) c.index.ensures in
    let n = least_slots f.types c.args.ty in
    let s = c.requires.has in
    let w = slot_least_within f c.args.ty c.args.slot c.requires.ty (omega arith) in
    let few = c.requires.few in
    let h : c.index.result.now + c.args.slot < 2 ^ 64 = omega arith in search (rules, h)

pub returns : goal.returns
returns c =
    let f = c.args.f.now in
    slot_table f c.args.cells.now c.requires.cells c.args.ty c.canon.result c.args.slot c.index.result.now c.requires.ty (least_is f.types c.args.ty c.canon.result c.canon.ensures.same c.canon.ensures.least) c.index.ensures
