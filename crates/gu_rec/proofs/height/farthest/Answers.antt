use Rattle.std.proofs.Common.{◌≡◌, ◌+◌, ◌<◌, ◌≤◌, Some, None, length, sym, ◌∙◌, subst, arith}
use Rattle.gu_types.specs.Depth.{types_of}
use Rattle.gu_types.specs.declared.types.HeapType.TheVariants as H
use Rattle.gu_rec.specs.Heights.{HeightTo}
use Rattle.gu_rec.proofs.Heights.{read_some, entry_place, small_start, height_starts, none_more, some_more}
use Rattle.gu_rec.proofs.height.farthest.Goals as goal
use Rattle.gu_rec.proofs.height.farthest.Goals.{in-Some+then-most-edges, in-Some+else-most-edges, in_default}

pub loop-i-init : goal.loop-i-init
loop-i-init c = record {
  small = small_start _ c.args.top c.abs_height-most.ensures;
  to = λ list are. subst (HeightTo list (H.Abs c.args.top) 0) (sym c.abs_height-most.ensures) (height_starts list (H.Abs c.args.top));
}

pub edges_from-requires : goal.edges_from-requires
edges_from-requires c = c.requires c.loop-i.i _ (read_some c.args.entries.now c.loop-i.i _ (omega arith))

pub loop-i-preserved : goal.loop-i-preserved
loop-i-preserved c = record {
  small =
      let s = c.loop-i.invariant.small in
      elim c.match-edges_from.branch as (λ _. c.match-edges_from.most ≤ 66) [
        | in-Some+then-most-edges w ↦ let n = w.most-is in let e = c.edges_from.ensures.small w.in-Some.edges w.in-Some.is in omega arith
        | in-Some+else-most-edges w ↦ let n = w.most-is in omega arith
        | in_default w ↦ let n = w.most-is in omega arith
      ];
  to = λ list are.
      let n = are.long in
      let t = c.loop-i-test.true in
      let l : c.loop-i.i < length (types_of list) = omega arith in
      let k : c.loop-i.i < length c.args.entries.now = omega arith in
      elim c.match-edges_from.branch as (λ _. HeightTo list (H.Abs c.args.top) (c.loop-i.i + 1) c.match-edges_from.most) [
        | in-Some+then-most-edges w ↦ subst (HeightTo list (H.Abs c.args.top) (c.loop-i.i + 1)) (sym w.most-is) (some_more list (H.Abs c.args.top) c.loop-i.i c.loop-i.most w.in-Some.edges (c.loop-i.invariant.to list are) l (entry_place list c.args.entries.now c.args.top are c.loop-i.i _ (Some w.in-Some.edges) k (sym w.in-Some.is ∙ c.edges_from.ensures.far)) w.if-most-edges.true)
        | in-Some+else-most-edges w ↦ subst (HeightTo list (H.Abs c.args.top) (c.loop-i.i + 1)) (sym w.most-is) (none_more list (H.Abs c.args.top) c.loop-i.i c.loop-i.most (Some w.in-Some.edges) (c.loop-i.invariant.to list are) l (entry_place list c.args.entries.now c.args.top are c.loop-i.i _ (Some w.in-Some.edges) k (sym w.in-Some.is ∙ c.edges_from.ensures.far)) w.if-most-edges.false)
        | in_default w ↦ subst (HeightTo list (H.Abs c.args.top) (c.loop-i.i + 1)) (sym w.most-is) (none_more list (H.Abs c.args.top) c.loop-i.i c.loop-i.most None (c.loop-i.invariant.to list are) l (entry_place list c.args.entries.now c.args.top are c.loop-i.i _ None k (sym w.in_default.is ∙ c.edges_from.ensures.far)) (omega arith))
      ];
}

pub returns-clause-to : goal.returns-clause-to
returns-clause-to c list are =
    let t = c.loop-i-test.false in
    let e : c.loop-i.i ≡ length c.args.entries.now = omega arith in
    subst (λ n. HeightTo list (H.Abs c.args.top) n c.loop-i.most) e (c.loop-i.invariant.to list are)
