use Rattle.std.proofs.Common.{◌≡◌, All, List, subst, sym}
use Rattle.std.proofs.lemmas.Result.{IfOk-weaker}
use Rattle.gu_links.specs.Gives.{Contents, gives}
use Rattle.gu_links.specs.Known.{Item, Has, link_at}
use Rattle.gu_links.proofs.Regained.{is_system}
use Rattle.gu_workers.specs.Steps.{Adds, Asks, IsFitting}
use Rattle.gu_workers.proofs.Reading.{system_as, gives_back, asks_of, fitting_of}
use Rattle.gu_workers.proofs.step.ask.Goals as goal

pub returns-clause-asks : goal.returns-clause-asks
returns-clause-asks g c =
    let f = g.N.Ceilings.facts in
    let links = c.args.s.now.links in
    let link = link_at links c.args.link in
    let known = c.in_ok-known.known.items in
    let h = c.in_ok-known.ensures in
    let x = h.held.contents in
    let old = c.args.seat.now.entries in
    let new = c.look_up.new.seat.entries in
    IfOk-weaker c.apply.result (λ asked. (y : Contents) → Has c.as_slice.result.now y → asked ≡ gives c.args.s.now.facts.now links link y) (λ asked. Adds (Asks f links link asked) old new)
    (λ asked is. asks_of f g.N.Ceilings.longs g.N.Ceilings.ceilings c.args.s.now.cells links c.args.link known h.held old new asked h.enough h.known
    (gives_back f c.args.s.now.facts.now links link x asked c.requires.facts.0 (is x (subst (λ (ks : List Item). Has ks x) (sym c.as_slice.ensures.value) h.held.has))))
    c.apply.ensures

pub returns-clause-fitting : goal.returns-clause-fitting
returns-clause-fitting g c =
    let f = g.N.Ceilings.facts in
    let links = c.args.s.now.links in
    let link = link_at links c.args.link in
    let known = c.in_ok-known.known.items in
    let h = c.in_ok-known.ensures in
    let x = h.held.contents in
    IfOk-weaker c.apply.result (λ asked. (y : Contents) → Has c.as_slice.result.now y → asked ≡ gives c.args.s.now.facts.now links link y)
    (λ asked. All (IsFitting f g.N.Ceilings.longs c.args.s.now.cells g.N.Ceilings.ceilings) asked)
    (λ asked is. fitting_of f g.N.Ceilings.longs g.N.Ceilings.ceilings c.args.s.now.cells links c.args.link known h.held asked c.requires.link (system_as c.args.s.now.facts.now f c.args.s.now.longs g.N.Ceilings.longs c.args.s.now.cells links (sym c.requires.facts.0) (sym c.requires.facts.1) (is_system c.args.s.now)) c.requires.belong c.requires.ceilings
    (gives_back f c.args.s.now.facts.now links link x asked c.requires.facts.0 (is x (subst (λ (ks : List Item). Has ks x) (sym c.as_slice.ensures.value) h.held.has))))
    c.apply.ensures
