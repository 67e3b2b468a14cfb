use Rattle.gu_rec.proofs.Groups.{Step, step_length, step_before, step_bad, all_hold}
use Rattle.gu_rec.proofs.names.check_indices.Goals as goal
use Rattle.gu_rec.proofs.names.check_indices.Goals.{In-Some, In_default}

pub returns-in-Some-clause-cause : goal.returns-in-Some-clause-cause
returns-in-Some-clause-cause c =
    let step : Step c.args.list.now c.as_slice-groups.result.now c.loop-group.group-index c.group-item.result c.as_slice-types.result.now c.loop-group.start =
    record { groups_are = c.as_slice-groups.ensures; at = c.loop-group-test.true; is = c.group-item.is; types_are = c.as_slice-types.ensures; start_is = c.loop-group.invariant.start_is } in
    step_bad step c.in-Some.ty c.in-Some.ensures c.loop-group.invariant.before

pub loop-group-preserved : goal.loop-group-preserved
loop-group-preserved c =
    let step : Step c.args.list.now c.as_slice-groups.result.now c.loop-group.group-index c.group-item.result c.as_slice-types.result.now c.loop-group.start =
    record { groups_are = c.as_slice-groups.ensures; at = c.loop-group-test.true; is = c.group-item.is; types_are = c.as_slice-types.ensures; start_is = c.loop-group.invariant.start_is } in
    record {
      start_is = step_length step;
      before = step_before step c.in_default.ensures c.loop-group.invariant.before;
    }

pub returns-clause-hold : goal.returns-clause-hold
returns-clause-hold c = all_hold c.args.list.now c.as_slice-groups.result.now c.loop-group.group-index c.loop-group.start c.as_slice-groups.ensures c.loop-group-test.false c.loop-group.invariant.start_is c.loop-group.invariant.before
