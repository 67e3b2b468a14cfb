use Rattle.std.proofs.Common.{rules, ◌∙◌, List, subst, sym}
use Rattle.std.specs.Prelude.{All}
use Rattle.gu_links.specs.declared.link.Link.{Link}
use Rattle.gu_links.specs.Solutions.{Fits}
use Rattle.gu_solve.proofs.Nothing.{system_of_nothing, empty_is_under_all}
use Rattle.gu_solve.proofs.tests.solved.Goals as goal

pub new-requires-2 : goal.new-requires-2
new-requires-2 c =
    let f = c.in_ok-facts.facts in
    let longs = c.in_ok-longs.longs in
    system_of_nothing f longs 5 c.from_vec.result c.in_ok-facts.ensures.types c.in_ok-facts.ensures.funcs
    (subst (λ (links : List Link). All (Fits f longs 5) links) (sym c.from_vec.ensures) (c.requires f longs))

pub close_from-requires-clause-below : goal.close_from-requires-clause-below
close_from-requires-clause-below c = empty_is_under_all c.in_ok-s.s.facts.now c.in_ok-s.s.links 5 c.from_vec-2.result (c.from_vec-2.ensures ∙ c.in_ok-start.ensures.items_if_clones_equal (λ y e. search rules))
