use Rattle.std.proofs.Common.{◌≡◌, slice_get, Some, None, get_or}
use Rattle.std.proofs.lemmas.Option.{slice_get_within}
use Rattle.gu_syntax.specs.declared.module.Limits.{Limits}
use Rattle.gu_model.specs.Valid.{MemoryHolds}
use Rattle.gu_valid.proofs.Holding.{at_default, each_more, memory_holds, memory_fails}
use Rattle.gu_valid.proofs.facts.Facts.first_memory.Goals as goal

pub returns-then-not-holds : goal.returns-then-not-holds
returns-then-not-holds c =
    let m = c.args.self.now.module.now in
    let i = c.loop-number.number in
    let d : Limits = record { least = 0; most = None } in
    let x : Limits = get_or c.as_slice-memory-items.result.now i d in
    let at : slice_get m.memories i ≡ Some x = at_default c.as_slice-memory-items.result.now m.memories i d c.as_slice-memory-items.ensures c.loop-number-test.true in
    (slice_get_within m.memories i x at, memory_fails m i x c.memory_holds-holds.result at c.memory_holds-holds.ensures c.if-not-holds.true, c.loop-number.invariant)

pub loop-number-preserved : goal.loop-number-preserved
loop-number-preserved c =
    let m = c.args.self.now.module.now in
    let i = c.loop-number.number in
    let d : Limits = record { least = 0; most = None } in
    let x : Limits = get_or c.as_slice-memory-items.result.now i d in
    let at : slice_get m.memories i ≡ Some x = at_default c.as_slice-memory-items.result.now m.memories i d c.as_slice-memory-items.ensures c.loop-number-test.true in
    each_more (MemoryHolds m) i c.loop-number.invariant (memory_holds m i x c.memory_holds-holds.result at c.memory_holds-holds.ensures c.if-not-holds.false)
