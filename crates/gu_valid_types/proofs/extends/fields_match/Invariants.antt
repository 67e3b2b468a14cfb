use Rattle.std.proofs.Common.{◌≡◌, drop}
use Rattle.gu_rec.specs.Validity.{has_fields}
use Rattle.gu_valid_types.proofs.extends.fields_match.Given as goal

abbrev pub invariant-loop-i : goal.invariant-loop-i
invariant-loop-i l = has_fields l.types l.a l.b ≡ has_fields l.types (drop l.i l.a) (drop l.i l.b)
