use Rattle.std.proofs.Common.{rules, ◌∙◌, ◌≡◌, ◌++◌, subst, sym}
use Rattle.gu_fixpoint.specs.Hands.{HasRun, Pairs}
use Rattle.gu_fixpoint.proofs.Busy.{first_written}
use Rattle.gu_fixpoint.proofs.Running.{first_ran}
use Rattle.gu_fixpoint.proofs.hands.run_list.Goals as goal

pub returns : goal.returns
returns g c =
    let n = c.args.crew.workers in
    let old = c.args.hands.now.items in
    let firsts = c.split_at_mut-first.result.0.now in
    let others = c.split_at_mut-first.result.1.now in
    let vs = c.run_all.new.hands in
    let is : old ≡ firsts ++ others = sym c.as_mut_slice.ensures.value ∙ c.split_at_mut-first.ensures.value in
    subst (Pairs (λ w v. HasRun g.N.Ceilings.facts c.args.s.now.links n w.worker.index w.worker.seat v.worker.index v.done v.worker.seat) old)
    (sym (first_written c.args.hands.now.len old firsts others vs is c.run_all.ensures.long (search rules)))
    (first_ran (λ w. w.worker.seat) (λ w. w.worker.index) (λ w. w.worker.of) (λ w. w.done) g.N.Ceilings.facts c.args.s.now.links n c.args.cells.now.id c.args.crew.busy old firsts vs others
    c.requires.busy is c.requires.ready c.requires.done c.run_all.ensures)
