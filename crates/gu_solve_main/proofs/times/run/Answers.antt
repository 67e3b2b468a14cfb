use Rattle.std.proofs.Common.{rules, ◌≡◌, true, refl, sym, ◌∙◌}
use Rattle.gu_solve.proofs.Nothing.{same_system}
use Rattle.gu_solve_main.proofs.times.run.Goals as goal

pub new-requires-2 : goal.new-requires-2
new-requires-2 g c =
    let f = c.in_ok-facts.facts in
    let longs = c.in_ok-longs.longs in
    let cells = c.in_ok-links.field-0.cells in
    let fit : c.in_ok-fit.fit ≡ true = search rules in
    same_system f f longs longs cells cells c.as_slice.result.now c.from_vec.result refl refl refl (c.from_vec.ensures ∙ sym c.as_slice.ensures.value) (c.in_ok-fit.ensures fit longs)
