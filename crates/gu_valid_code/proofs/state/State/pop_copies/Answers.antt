use Rattle.std.proofs.Common.{◌∙◌, sym}
use Rattle.gu_valid_code.proofs.Pops.{copies_are, copy_refused, no_copies, endless, did_none}
use Rattle.std.proofs.Common.{replicate}
use Rattle.gu_valid_code.proofs.state.State.pop_copies.Goals as goal

pub returns-then-gives_all : goal.returns-then-gives_all
returns-then-gives_all c =
    let list = c.args.env.now.types.now in
    copies_are list c.args.count c.args.want c.args.self.now ∙ sym c.copies.invariant ∙ endless list (replicate c.copies.left c.args.want) c.copies.self (sym c.gives_all.ensures ∙ c.if-gives_all.true)

pub returns-then-not-pop : goal.returns-then-not-pop
returns-then-not-pop c =
    let list = c.args.env.now.types.now in
    copies_are list c.args.count c.args.want c.args.self.now ∙ sym c.copies.invariant ∙ copy_refused list c.copies.left c.args.want c.copies.self c.copies-test.true (did_none c.pop.result _ c.pop.new.self c.if-not-pop.true c.pop.ensures.typed)

pub returns : goal.returns
returns c =
    let list = c.args.env.now.types.now in
    copies_are list c.args.count c.args.want c.args.self.now ∙ sym c.copies.invariant ∙ no_copies list c.copies.left c.args.want c.copies.self c.copies-test.false
