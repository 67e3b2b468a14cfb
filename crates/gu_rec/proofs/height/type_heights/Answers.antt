use Rattle.std.proofs.Common.{◌≡◌, ℕ, List, length, sym, subst, refl, arith}
use Rattle.gu_rec.specs.Heights.{HeightsFrom}
use Rattle.gu_rec.proofs.Raising.{heights_start, heights_end}
use Rattle.gu_rec.proofs.height.type_heights.Goals as goal

pub types-init : goal.types-init
types-init c = record {
  in_range = omega arith;
  to = λ list t. subst (λ (xs : List ℕ). HeightsFrom list c.args.least.now xs (length c.args.least.now)) (sym (c.in_ok-heights.ensures.items_if_clones_equal (λ y e. e))) (heights_start t (length c.args.least.now) refl);
}

pub returns : goal.returns
returns c list t =
    let f = c.types-test.false in
    let n : c.types.from ≡ 0 = omega arith in
    heights_end t (subst (HeightsFrom list c.args.least.now c.types.heights.items) n (c.types.invariant.to list t))
