use Rattle.std.proofs.Common.{ap, refl, subst, length}
use Rattle.gu_read.specs.Limits.{params_of, results_of, fields_of}
use Rattle.gu_read.specs.Seen.{IsDepthBehind}
use Rattle.gu_read.proofs.Seeing.{or_with, sees_more}
use Rattle.gu_read.proofs.seen.Seen.add.Goals as goal

pub returns : goal.returns
returns c = λ types sees.
    let before = c.args.self.now in
    let ty = c.args.ty.now in
    let d = c.depth_behind-depth.result in
    let long = ap length c.as_slice-depths.ensures.value in
    let is = subst (λ l. IsDepthBehind l ty d) c.as_slice-depths.ensures.value c.depth_behind-depth.ensures in
    sees_more before _ types ty d is (record {
      depths = c.in_ok-push.ensures.items;
      params = or_with 1000 c.sizes-params.result.0 (params_of ty.comp) _ _ before.params c.keep_above.new.found c.keep_above.ensures c.sizes-params.ensures.params long;
      results = or_with 1000 c.sizes-params.result.1 (results_of ty.comp) _ _ before.results c.keep_above-2.new.found c.keep_above-2.ensures c.sizes-params.ensures.results long;
      fields = or_with 10000 c.sizes-params.result.2 (fields_of ty.comp) _ _ before.fields c.keep_above-3.new.found c.keep_above-3.ensures c.sizes-params.ensures.fields long;
      deeper = or_with 63 d d _ _ before.deeper c.keep_above-4.new.found c.keep_above-4.ensures refl long;
    }) sees
