use Rattle.std.proofs.Common.{◌≡◌, drop}
use Rattle.gu_links.specs.Next.{first_slot, is_rest}
use Rattle.gu_links.proofs.next.slot_in.Given as goal

abbrev pub invariant-types : goal.invariant-types
invariant-types l = first_slot l.s.facts.now l.reach l.slot (is_rest l.rest.fixed.now l.rest.first) l.types ≡ first_slot l.s.facts.now l.reach l.slot (is_rest l.rest.fixed.now l.rest.first) (drop l.ty-index l.types)
