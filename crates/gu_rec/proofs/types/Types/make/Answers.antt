use Rattle.std.proofs.Common.{ℕ, sym, subst, List}
use Rattle.gu_types.specs.Depth.{types_of}
use Rattle.gu_rec.specs.declared.types.Entry.{Entry}
use Rattle.gu_rec.specs.Table.{IsTable, EntriesAre}
use Rattle.gu_rec.specs.Heights.{HeightsAre}
use Rattle.gu_rec.proofs.Heights.{Shallow, entries_shallow}
use Rattle.gu_rec.proofs.types.Types.make.Goals as goal

pub type_heights-requires : goal.type_heights-requires
type_heights-requires c =
    let t : IsTable c.args.list.now c.in_ok-least.least.items c.in_ok-entries.entries.items = record { hold = c.requires.hold; few = c.requires.few; shallow = c.requires.shallow; least_are = c.in_ok-least.ensures; entries_are = c.in_ok-entries.ensures } in
    let u : IsTable c.args.list.now c.as_slice.result.now c.in_ok-entries.entries.items = subst (λ (l : List ℕ). IsTable c.args.list.now l c.in_ok-entries.entries.items) (sym c.as_slice.ensures.value) t in
    (c.args.list.now, subst (λ (e : List Entry). IsTable c.args.list.now c.as_slice.result.now e) (sym c.as_slice-2.ensures.value) u)

pub tops_of-tops-requires : goal.tops_of-tops-requires
tops_of-tops-requires c =
    subst (λ (e : List Entry). Shallow e) (sym c.as_slice-3.ensures.value) (entries_shallow c.args.list.now c.in_ok-entries.entries.items c.in_ok-entries.ensures c.requires.shallow)

pub invariant_of-result : goal.invariant_of-result
invariant_of-result c =
    let t : IsTable c.args.list.now c.in_ok-least.least.items c.in_ok-entries.entries.items = record { hold = c.requires.hold; few = c.requires.few; shallow = c.requires.shallow; least_are = c.in_ok-least.ensures; entries_are = c.in_ok-entries.ensures } in
    let u : IsTable c.args.list.now c.as_slice.result.now c.in_ok-entries.entries.items = subst (λ (l : List ℕ). IsTable c.args.list.now l c.in_ok-entries.entries.items) (sym c.as_slice.ensures.value) t in
    let v : IsTable c.args.list.now c.as_slice.result.now c.as_slice-2.result.now = subst (λ (e : List Entry). IsTable c.args.list.now c.as_slice.result.now e) (sym c.as_slice-2.ensures.value) u in
    record {
      table = t;
      places_are = c.in_ok-places.ensures;
      heights_are = subst (λ (l : List ℕ). HeightsAre c.args.list.now l c.in_ok-heights.heights.items) c.as_slice.ensures.value (c.in_ok-heights.ensures c.args.list.now v);
      tops_are = c.tops_of-tops.ensures c.args.list.now (subst (λ (e : List Entry). EntriesAre (types_of c.args.list.now) e) (sym c.as_slice-3.ensures.value) c.in_ok-entries.ensures);
    }
