use Rattle.std.proofs.Common.{◌≡◌, Some, slice_get, ap, sym, ◌∙◌, arith}
use Rattle.gu_types.specs.Depth.{types_of}
use Rattle.gu_rec.proofs.Entries.{super_before}
use Rattle.gu_valid_types.proofs.Supers.{flat_read, comp_below, holds_alone, holds_below}
use Rattle.gu_valid_types.proofs.check.super_holds.Goals as goal

pub bounds-flat-above : goal.bounds-flat-above
bounds-flat-above c =
    let ty = flat_read (types_of c.args.types.now) c.args.flat.now c.args.i c.index-flat-i.result c.requires.flat_is c.requires.within c.index-flat-i.is in
    let s : slice_get c.index-flat-i.result.now.supers 0 ≡ Some c.in-Some.above.now = ap (λ l. slice_get l 0) (sym c.as_slice.ensures) ∙ sym c.in-Some.ensures.value in
    let b = super_before c.args.types.now c.requires.hold c.args.i c.index-flat-i.result.now ty c.in-Some.above.now s in
    let w = c.requires.within in
    omega arith

pub may_declare-requires-clause-first : goal.may_declare-requires-clause-first
may_declare-requires-clause-first c =
    let ty = flat_read (types_of c.args.types.now) c.args.flat.now c.args.i c.index-flat-i.result c.requires.flat_is c.requires.within c.index-flat-i.is in
    comp_below c.args.types.now c.requires.hold c.args.i c.index-flat-i.result.now ty

pub may_declare-requires-clause-second : goal.may_declare-requires-clause-second
may_declare-requires-clause-second c =
    let ty = flat_read (types_of c.args.types.now) c.args.flat.now c.args.i c.index-flat-i.result c.requires.flat_is c.requires.within c.index-flat-i.is in
    let s : slice_get c.index-flat-i.result.now.supers 0 ≡ Some c.in-Some.above.now = ap (λ l. slice_get l 0) (sym c.as_slice.ensures) ∙ sym c.in-Some.ensures.value in
    let b = super_before c.args.types.now c.requires.hold c.args.i c.index-flat-i.result.now ty c.in-Some.above.now s in
    let w = c.requires.within in
    comp_below c.args.types.now c.requires.hold c.in-Some.above.now c.index-flat-above.result.now
    (flat_read (types_of c.args.types.now) c.args.flat.now c.in-Some.above.now c.index-flat-above.result c.requires.flat_is (omega arith) c.index-flat-above.is)

pub returns-in-None : goal.returns-in-None
returns-in-None c =
    let ty = flat_read (types_of c.args.types.now) c.args.flat.now c.args.i c.index-flat-i.result c.requires.flat_is c.requires.within c.index-flat-i.is in
    sym (holds_alone c.args.types.now c.args.i c.index-flat-i.result.now ty (ap (λ l. slice_get l 0) (sym c.as_slice.ensures) ∙ sym c.in-None.ensures.value))

pub returns-in-Some : goal.returns-in-Some
returns-in-Some c =
    let ty = flat_read (types_of c.args.types.now) c.args.flat.now c.args.i c.index-flat-i.result c.requires.flat_is c.requires.within c.index-flat-i.is in
    let s : slice_get c.index-flat-i.result.now.supers 0 ≡ Some c.in-Some.above.now = ap (λ l. slice_get l 0) (sym c.as_slice.ensures) ∙ sym c.in-Some.ensures.value in
    let b = super_before c.args.types.now c.requires.hold c.args.i c.index-flat-i.result.now ty c.in-Some.above.now s in
    let w = c.requires.within in
    c.may_declare.ensures
    ∙ sym (holds_below c.args.types.now c.requires.hold c.args.i c.in-Some.above.now c.index-flat-i.result.now c.index-flat-above.result.now ty s
    (flat_read (types_of c.args.types.now) c.args.flat.now c.in-Some.above.now c.index-flat-above.result c.requires.flat_is (omega arith) c.index-flat-above.is))
