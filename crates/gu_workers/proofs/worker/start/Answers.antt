use Rattle.std.proofs.Common.{[]}
use Rattle.gu_links.specs.Known.{link_at}
use Rattle.gu_workers.specs.Work.{AsksGiven}
use Rattle.gu_workers.specs.Steps.{Serves, Starts}
use Rattle.gu_worklist.proofs.Marks.{off_on}
use Rattle.gu_workers.proofs.Splits.{are_of_none}
use Rattle.gu_workers.proofs.Records.{adds_as, adds_none, asks_reads, starts, starts_none}
use Rattle.gu_workers.proofs.worker.start.Goals as goal

pub returns-in_ok-step-clause-starts : goal.returns-in_ok-step-clause-starts
returns-in_ok-step-clause-starts g c =
    let f = g.N.Ceilings.facts in
    let links = c.args.s.now.links in
    let Q = c.step.new.left.waiting in
    let k = c.args.link in
    let index = c.args.w.now.index in
    let of = c.args.w.now.of in
    adds_as (Serves f links Q (link_at links k)) (Starts f links Q index of k) c.args.w.now.seat.entries c.step.new.w.seat.entries (λ xs s. starts f links Q index of k xs s) c.in_ok-step.ensures.serves

pub returns-else-is_share-clause-asks : goal.returns-else-is_share-clause-asks
returns-else-is_share-clause-asks g c =
    let f = g.N.Ceilings.facts in
    let links = c.args.s.now.links in
    adds_none (AsksGiven f links) c.args.w.now.seat.entries (asks_reads f links [] (are_of_none f []))

pub returns-else-is_share-clause-starts : goal.returns-else-is_share-clause-starts
returns-else-is_share-clause-starts g c =
    let f = g.N.Ceilings.facts in
    let links = c.args.s.now.links in
    let Q = c.args.left.now.waiting in
    let k = c.args.link in
    let index = c.args.w.now.index in
    let of = c.args.w.now.of in
    adds_none (Starts f links Q index of k) c.args.w.now.seat.entries (starts_none f links Q index of k (λ give to at is. off_on c.is_share.result c.if-is_share.false (c.is_share.ensures give to at is)))
