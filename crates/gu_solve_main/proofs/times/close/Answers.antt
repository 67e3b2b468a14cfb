use Rattle.std.proofs.Common.{rules, ◌∙◌}
use Rattle.gu_solve.proofs.Nothing.{empty_is_under_all}
use Rattle.gu_solve_main.proofs.times.close.Goals as goal

pub close_from-requires-clause-below : goal.close_from-requires-clause-below
close_from-requires-clause-below c =
    empty_is_under_all c.args.s.now.facts.now c.args.s.now.links c.args.s.now.cells c.from_vec.result (c.from_vec.ensures ∙ c.in_ok-start.ensures.items_if_clones_equal (λ y e. search rules))
