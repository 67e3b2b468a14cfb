use Rattle.std.proofs.Common.{◌≤◌, length}
use Rattle.std.proofs.lemmas.Result.{IfOk-weaker}
use Rattle.gu_links.specs.Known.{link_at}
use Rattle.gu_workers.specs.Steps.{Adds, Makes, Serves, weight}
use Rattle.gu_workers.proofs.Serving.{step_asks, step_serves, step_weighs, reads_ask}
use Rattle.gu_workers.proofs.step.step.Goals as goal

pub returns-clause-asks : goal.returns-clause-asks
returns-clause-asks g c = step_asks g.N.Ceilings.facts c.args.s.now.links c.args.link c.requires.link c.in_ok-asked.asked c.as_slice.result.now c.as_slice.ensures c.args.w.now.seat.entries c.ask.new.seat.entries c.join_all.new.w.seat.entries
    c.in_ok-asked.ensures.asks c.join_all.ensures.are_of

pub returns-clause-serves : goal.returns-clause-serves
returns-clause-serves g c =
    let f = g.N.Ceilings.facts in
    let links = c.args.s.now.links in
    let Q = c.join_all.new.left.waiting in
    let shown = c.as_slice.result.now in
    let old = c.args.w.now.seat.entries in
    let mid = c.ask.new.seat.entries in
    let new = c.join_all.new.w.seat.entries in
    IfOk-weaker c.join_all.result (λ _. Adds (Makes f links Q shown) mid new) (λ _. Adds (Serves f links Q (link_at links c.args.link)) old new)
    (λ u m. step_serves f links c.args.link c.requires.link c.in_ok-asked.asked shown c.as_slice.ensures old mid new Q c.in_ok-asked.ensures.asks m)
    c.join_all.ensures.makes

pub returns-clause-weight : goal.returns-clause-weight
returns-clause-weight g c =
    let f = g.N.Ceilings.facts in
    let n = length c.args.s.now.links in
    let cells = c.args.s.now.cells in
    let p = length c.args.left.now.waiting in
    let q = length c.join_all.new.left.waiting in
    let old = c.args.w.now.seat.entries in
    let mid = c.ask.new.seat.entries in
    let new = c.join_all.new.w.seat.entries in
    IfOk-weaker c.join_all.result (λ _. weight f cells n new q ≤ weight f cells n mid p) (λ _. weight f cells n new q ≤ weight f cells n old p)
    (λ u h. step_weighs f cells n old mid new p q c.in_ok-asked.ensures.room h)
    c.join_all.ensures.weight

pub returns-in_err-asked-clause-asks : goal.returns-in_err-asked-clause-asks
returns-in_err-asked-clause-asks g c = reads_ask g.N.Ceilings.facts c.args.s.now.links c.args.w.now.seat.entries c.ask.new.seat.entries c.in_err-asked.ensures.reads
