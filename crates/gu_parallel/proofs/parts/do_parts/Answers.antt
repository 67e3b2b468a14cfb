use Rattle.std.proofs.Common.{sym, subst, All, Ok}
use Rattle.std.proofs.lemmas.List.Elements.{All-nil}
use Rattle.gu_parallel.specs.Parts.{IsPartOf}
use Rattle.gu_parallel.proofs.Chains.{followed}
use Rattle.gu_parallel.proofs.parts.do_parts.Goals as goal

pub returns-then-others-eq0-clause-parts : goal.returns-then-others-eq0-clause-parts
returns-then-others-eq0-clause-parts g c =
    let work = c.args.work.now in
    let part = IsPartOf (g.W.Work.ends work) (g.W.Work.makes work) c.args.until in
    let none = subst (All part) (sym c.new.ensures.items) (All-nil part) in
    followed (g.W.Work.ends work) (g.W.Work.makes work) c.args.until c.take_parts-own.result (Ok c.new.result) c.both_in_order.result c.take_parts-own.ensures none c.both_in_order.ensures

pub returns-clause-parts : goal.returns-clause-parts
returns-clause-parts g c =
    let work = c.args.work.now in
    let theirs = c.join-theirs.result.0 in
    let own = c.join-theirs.result.1.1 in
    followed (g.W.Work.ends work) (g.W.Work.makes work) c.args.until own theirs c.both_in_order-2.result c.join-theirs.ensures.second.1 c.join-theirs.ensures.first c.both_in_order-2.ensures
