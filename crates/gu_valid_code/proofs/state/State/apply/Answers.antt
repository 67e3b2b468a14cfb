use Rattle.gu_valid_code.proofs.Pops.{did_none, did_some, no_top, no_below, applied}
use Rattle.gu_valid_code.proofs.state.State.apply.Goals as goal
use Rattle.gu_valid_code.proofs.state.State.apply.Goals.{then-not-pop_few-via-then-not-pop_few, then-not-pop_few-via-else-not-pop_few+then-not-pop_below}

pub returns-then-not-pop_few : goal.returns-then-not-pop_few
returns-then-not-pop_few c =
    let list = c.args.env.now.types.now in
    elim c.then-not-pop_few.branch [
      | then-not-pop_few-via-then-not-pop_few w ↦ no_top list c.args.row.now c.args.self.now (did_none c.pop_few.result _ c.pop_few.new.self w.if-not-pop_few.true c.pop_few.ensures)
      | then-not-pop_few-via-else-not-pop_few+then-not-pop_below w ↦ no_below list c.args.row.now c.args.self.now c.pop_few.new.self (did_some c.pop_few.result _ c.pop_few.new.self w.if-not-pop_few.false c.pop_few.ensures) (did_none w.pop_below.result _ w.pop_below.new.self w.if-not-pop_below.true w.pop_below.ensures)
    ]

pub returns : goal.returns
returns c =
    let list = c.args.env.now.types.now in
    applied list c.args.row.now c.args.self.now c.pop_few.new.self c.pop_below.new.self c.follow.new.self (did_some c.pop_few.result _ c.pop_few.new.self c.if-not-pop_few.false c.pop_few.ensures) (did_some c.pop_below.result _ c.pop_below.new.self c.if-not-pop_below.false c.pop_below.ensures) c.in_ok-follow.ensures
