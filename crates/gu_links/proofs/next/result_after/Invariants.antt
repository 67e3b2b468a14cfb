use Rattle.std.proofs.Common.{◌≡◌}
use Rattle.gu_links.specs.Next.{first_of, is_rest}
use Rattle.gu_links.specs.Cells.{out_cells}
use Rattle.gu_links.proofs.Firsts.{result_from}
use Rattle.gu_links.proofs.next.result_after.Given as goal

abbrev pub invariant-places : goal.invariant-places
invariant-places l = first_of (is_rest l.rest.fixed.now l.rest.first) (out_cells l.s.facts.now l.function) ≡ result_from l.s.facts.now l.function l.rest.fixed.now l.rest.first l.place l.count
