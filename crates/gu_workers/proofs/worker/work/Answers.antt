use Rattle.std.proofs.Common.{rules, ℕ, ◌+◌, ◌≤◌, List, length, refl, sym, subst, arith}
use Rattle.gu_links.specs.Known.{link_at}
use Rattle.gu_workers.specs.Work.{AsksGiven, IsWork}
use Rattle.gu_workers.specs.Steps.{Adds, Serves, Starts}
use Rattle.gu_workers.proofs.Records.{adds_as, adds_none, adds_twice, asks_both, IsGoing, going_none, going_start, going_step, going_end}
use Rattle.gu_workers.proofs.worker.work.Goals as goal

pub roots-init : goal.roots-init
roots-init g c =
    let f = g.N.Ceilings.facts in
    let links = c.args.s.now.links in
    let Q = c.in_ok-left.left.waiting in
    let index = c.args.w.now.index in
    let of = c.args.w.now.of in record {
      worker = search rules;
      left = record { links_are = search rules; few = subst (λ (xs : List ℕ). length xs ≤ length links) (sym c.in_ok-left.ensures.none) (omega arith) };
      going = adds_none (IsGoing f links index of 0 Q) c.args.w.now.seat.entries (going_none f links index of Q);
    }

pub returns-in_err-start-clause-asks : goal.returns-in_err-start-clause-asks
returns-in_err-start-clause-asks g c =
    let f = g.N.Ceilings.facts in
    let links = c.args.s.now.links in
    adds_twice (IsGoing f links c.args.w.now.index c.args.w.now.of c.roots.link c.roots.left.waiting) (AsksGiven f links) (AsksGiven f links) c.args.w.now.seat.entries c.roots.w.seat.entries c.start.new.w.seat.entries
    (λ xs ys p h. asks_both f links xs ys p h.asks) c.roots.invariant.going c.in_err-start.ensures.asks

pub roots-preserved : goal.roots-preserved
roots-preserved g c =
    let f = g.N.Ceilings.facts in
    let links = c.args.s.now.links in
    let k = c.roots.link in
    let P = c.roots.left.waiting in
    let Q = c.start.new.left.waiting in
    let index = c.args.w.now.index in
    let of = c.args.w.now.of in
    let inv = c.roots.invariant in
    let h = c.in_ok-start.ensures in
    let old = c.args.w.now.seat.entries in
    let mid = c.roots.w.seat.entries in
    let new = c.start.new.w.seat.entries in
    let s : Adds (Starts f links Q index of k) mid new = subst (λ (i : ℕ). Adds (Starts f links Q i of k) mid new) inv.worker.0 (subst (λ (n : ℕ). Adds (Starts f links Q c.roots.w.index n k) mid new) inv.worker.1 h.starts) in record {
      worker = search rules;
      left = h.left;
      going = adds_twice (IsGoing f links index of k P) (Starts f links Q index of k) (IsGoing f links index of (k + 1) Q) old mid new (λ xs ys p q. going_start f links index of k P Q xs ys h.keeps p q) inv.going s;
    }

pub left-preserved : goal.left-preserved
left-preserved g c =
    let f = g.N.Ceilings.facts in
    let links = c.args.s.now.links in
    let k = c.in-Some.link in
    let P = c.left.left.waiting in
    let R = c.take.new.self.waiting in
    let Q = c.step.new.left.waiting in
    let index = c.args.w.now.index in
    let of = c.args.w.now.of in
    let n = length links in
    let inv = c.left.invariant in
    let h = c.in_ok-step.ensures in
    let old = c.args.w.now.seat.entries in
    let mid = c.left.w.seat.entries in
    let new = c.step.new.w.seat.entries in record {
      worker = search rules;
      left = h.left;
      going = adds_twice (IsGoing f links index of n P) (Serves f links Q (link_at links k)) (IsGoing f links index of n Q) old mid new (λ xs ys p q. going_step f links index of n k P R Q xs ys c.in-Some.ensures.taken h.keeps p q) inv.going h.serves;
    }

pub returns-in_err-step-clause-asks : goal.returns-in_err-step-clause-asks
returns-in_err-step-clause-asks g c =
    let f = g.N.Ceilings.facts in
    let links = c.args.s.now.links in
    adds_twice (IsGoing f links c.args.w.now.index c.args.w.now.of (length links) c.left.left.waiting) (AsksGiven f links) (AsksGiven f links) c.args.w.now.seat.entries c.left.w.seat.entries c.step.new.w.seat.entries
    (λ xs ys p h. asks_both f links xs ys p h.asks) c.left.invariant.going c.in_err-step.ensures.asks

pub returns-clause-work : goal.returns-clause-work
returns-clause-work g c =
    let f = g.N.Ceilings.facts in
    let links = c.args.s.now.links in
    let index = c.args.w.now.index in
    let of = c.args.w.now.of in
    adds_as (IsGoing f links index of (length links) c.left.left.waiting) (IsWork f links index of) c.args.w.now.seat.entries c.left.w.seat.entries
    (λ xs h. going_end f links index of (length links) c.left.left.waiting xs refl (search rules) h) c.left.invariant.going
