use Rattle.std.proofs.Common.{◌≡◌, All, List, subst, sym}
use Rattle.std.proofs.lemmas.Result.{IfOk-weaker}
use Rattle.gu_links.specs.Gives.{Contents, gives}
use Rattle.gu_links.specs.Known.{Item, Has, link_at}
use Rattle.gu_links.specs.Solutions.{at}
use Rattle.gu_solve.specs.Steps.{IsDue}
use Rattle.gu_solve.proofs.Rising.{given_due}
use Rattle.gu_links.proofs.Regained.{is_system}
use Rattle.gu_solve.proofs.step.ask.Goals as goal

pub returns-clause-due : goal.returns-clause-due
returns-clause-due c =
    let f = c.args.s.now.facts.now in
    let links = c.args.s.now.links in
    let link = link_at links c.args.link in
    let xs = c.args.contents.now in
    IfOk-weaker c.apply.result (λ asked. (y : Contents) → Has c.as_slice.result.now y → asked ≡ gives f links link y) (λ asked. All (IsDue f c.args.s.now.longs c.args.s.now.cells links) asked)
    (λ asked is. given_due f c.args.s.now.longs c.args.s.now.cells links xs c.requires.contents c.args.link asked c.requires.link (is_system c.args.s.now)
    (is (at xs) (subst (λ (ks : List Item). Has ks (at xs)) (sym c.as_slice.ensures.value) c.in_ok-known.ensures.has)))
    c.apply.ensures
