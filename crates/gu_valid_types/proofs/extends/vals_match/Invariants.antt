use Rattle.std.proofs.Common.{◌≡◌, drop}
use Rattle.std.specs.Cmp.Lexicographic.{pointwise}
use Rattle.gu_rec.specs.Sub.{is_sub_val}
use Rattle.gu_valid_types.proofs.extends.vals_match.Given as goal

abbrev pub invariant-loop-i : goal.invariant-loop-i
invariant-loop-i l = pointwise (is_sub_val l.types) l.a l.b ≡ pointwise (is_sub_val l.types) (drop l.i l.a) (drop l.i l.b)
