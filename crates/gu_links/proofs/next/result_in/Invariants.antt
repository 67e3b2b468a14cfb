use Rattle.std.proofs.Common.{◌≡◌, drop}
use Rattle.gu_links.specs.Next.{first_result, is_rest}
use Rattle.gu_links.proofs.next.result_in.Given as goal

abbrev pub invariant-functions : goal.invariant-functions
invariant-functions l = first_result l.s.facts.now l.reach (is_rest l.rest.fixed.now l.rest.first) l.functions ≡ first_result l.s.facts.now l.reach (is_rest l.rest.fixed.now l.rest.first) (drop l.function-index l.functions)
