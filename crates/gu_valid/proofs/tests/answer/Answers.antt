use Rattle.std.proofs.Common.{◌≡◌, List, length, ap, arith}
use Rattle.gu_types.specs.declared.types.RecGroup.{RecGroup}
use Rattle.gu_types.specs.Depth.{types_in, types_of}
use Rattle.gu_rec.proofs.Lines.{few_are_shallow}
use Rattle.gu_valid.proofs.tests.answer.Goals as goal

pub check_module-requires-clause-shallow : goal.check_module-requires-clause-shallow
check_module-requires-clause-shallow c i =
    let none : length (types_of c.in_ok-m.m.types) ≡ 0 = ap (λ (gs : List RecGroup). length (types_in gs)) c.in_ok-m.ensures.types in
    few_are_shallow (types_of c.in_ok-m.m.types) i (omega arith)
