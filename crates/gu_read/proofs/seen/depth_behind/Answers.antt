use Rattle.std.proofs.Common.{ℕ, suc, arith, ap, sym, ◌∙◌, ◌+◌, ◌<◌, ◌≤◌, ◌≡◌, ◌++◌, ◌∷◌, [], List, length, get_or}
use Rattle.gu_types.specs.declared.types.SubType.{SubType}
use Rattle.gu_types.specs.Depth.{depth}
use Rattle.gu_read.specs.Seen.{kept_depth}
use Rattle.gu_read.proofs.Depths.{parent_last, depth_below, depth_first, depth_root, depth_before, depths_length, depths_at, kept_more}
use Rattle.gu_read.proofs.seen.depth_behind.Goals as goal

pub returns-in-Some : goal.returns-in-Some
returns-in-Some c = λ types h.
    let above : ℕ = c.in-Some.above.now in
    let all : List SubType = types ++ c.args.ty.now ∷ [] in
    let long : length c.args.depths.now ≡ length types = depths_length types c.args.depths.now h in
    let below : above < length types = omega (arith, long, c.if-above-depths.true) in
    let there : get_or c.args.depths.now above 0 ≡ kept_depth (depth types above) = depths_at types c.args.depths.now above 0 h below in
    let p = parent_last types c.args.ty.now c.as_slice.result.now _ c.as_slice.ensures c.in-Some.ensures.value in
    let deep : depth all (length types) ≡ suc (depth types above) = depth_below all (length types) above p below ∙ ap suc (depth_before types (c.args.ty.now ∷ []) above below) in
    ap (λ x. x + 1) c.min.ensures ∙ kept_more (depth types above) (get_or c.args.depths.now above 0) there ∙ ap kept_depth (sym deep)

pub returns-in_default : goal.returns-in_default
returns-in_default c = λ types h.
    let all : List SubType = types ++ c.args.ty.now ∷ [] in
    let long : length c.args.depths.now ≡ length types = depths_length types c.args.depths.now h in
    let past : length types ≤ c.in-Some.above.now = omega (arith, long, c.if-above-depths.false) in
    let p = parent_last types c.args.ty.now c.as_slice.result.now _ c.as_slice.ensures c.in-Some.ensures.value in
    ap kept_depth (sym (depth_first all (length types) c.in-Some.above.now p past))

pub returns-in_default-2 : goal.returns-in_default-2
returns-in_default-2 c = λ types h.
    let v = rw c.in_default.is at c.first.ensures.value in
    let p = parent_last types c.args.ty.now c.as_slice.result.now _ c.as_slice.ensures v in
    ap kept_depth (sym (depth_root (types ++ c.args.ty.now ∷ []) (length types) p))
