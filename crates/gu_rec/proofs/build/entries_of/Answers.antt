use Rattle.std.proofs.Common.{◌≡◌, ◌+◌, ◌++◌, ◌∷◌, [], ℕ, length, take, slice_get, refl, ap, sym, subst, arith}
use Rattle.gu_types.specs.Depth.{types_in, types_of}
use Rattle.gu_rec.specs.Table.{SoFar, EntryFrom}
use Rattle.gu_rec.proofs.Groups.{Step, step_length}
use Rattle.gu_rec.proofs.Entries.{super_before, entry_next, type_read}
use Rattle.gu_rec.proofs.build.entries_of.Goals as goal
use Rattle.gu_rec.proofs.build.entries_of.Goals.{After-as_slice-types}

-- the walk stands at a group
step_of : (c : After-as_slice-types) → Step c.args.list.now c.as_slice-groups.result.now c.loop-group.group-index c.group-item.result c.as_slice-types.result.now (length (types_in (take c.loop-group.group-index c.as_slice-groups.result.now)))
step_of c = record {
  groups_are = c.as_slice-groups.ensures;
  at = c.loop-group-test.true;
  is = c.group-item.is;
  types_are = c.as_slice-types.ensures;
  start_is = refl;
}

pub entry_of-entry-requires-clause-there : goal.entry_of-entry-requires-clause-there
entry_of-entry-requires-clause-there c s h =
    let p = (goal.at.entry_of-entry-requires-clause-there c).After-as_slice-types in
    let start : ℕ = length (types_in (take c.loop-group.group-index c.as_slice-groups.result.now)) in
    let r = type_read (step_of p) c.loop-ty.ty-index c.ty-item.result c.loop-ty-test.true c.ty-item.is in
    let b = super_before c.args.list.now c.requires.hold (start + c.loop-ty.ty-index) c.ty-item.result r s h in
    let l = c.loop-ty.invariant.long in
    let e = ap length c.as_slice.ensures.value in
    omega arith

pub loop-ty-preserved : goal.loop-ty-preserved
loop-ty-preserved c =
    let p = (goal.at.loop-ty-preserved c).After-as_slice-types in
    let start : ℕ = length (types_in (take c.loop-group.group-index c.as_slice-groups.result.now)) in
    let r = type_read (step_of p) c.loop-ty.ty-index c.ty-item.result c.loop-ty-test.true c.ty-item.is in
    let from : EntryFrom c.ty-item.result c.loop-ty.entries.items (slice_get c.ty-item.result.supers 0) c.entry_of-entry.result =
    subst (λ xs. EntryFrom c.ty-item.result xs (slice_get c.ty-item.result.supers 0) c.entry_of-entry.result) c.as_slice.ensures.value c.entry_of-entry.ensures in
    let n : start + c.loop-ty.ty-index + 1 ≡ start + (c.loop-ty.ty-index + 1) = omega arith in
    subst (λ xs. SoFar (types_of c.args.list.now) (start + (c.loop-ty.ty-index + 1)) xs) (sym c.in_ok-push.ensures.items)
    (subst (λ m. SoFar (types_of c.args.list.now) m (c.loop-ty.entries.items ++ c.entry_of-entry.result ∷ [])) n
    (entry_next c.args.list.now c.requires.hold (start + c.loop-ty.ty-index) c.ty-item.result c.loop-ty.entries.items c.entry_of-entry.result r c.loop-ty.invariant from))

pub loop-group-preserved : goal.loop-group-preserved
loop-group-preserved c =
    let p = (goal.at.loop-group-preserved c).After-as_slice-types in
    let start : ℕ = length (types_in (take c.loop-group.group-index c.as_slice-groups.result.now)) in
    let l = step_length (step_of p) in
    let a = c.loop-ty.auto.ty-index-end in
    let b = c.loop-ty-test.false in
    let n : start + c.loop-ty.ty-index ≡ length (types_in (take (c.loop-group.group-index + 1) c.as_slice-groups.result.now)) = omega arith in
    subst (λ m. SoFar (types_of c.args.list.now) m c.loop-ty.entries.items) n c.loop-ty.invariant
