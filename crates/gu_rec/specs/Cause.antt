-- When an error comes.
use Rattle.gu_types.specs.declared.types.TypeList.{TypeList}
use Rattle.gu_rec.specs.declared.error.RecErr.{RecErr}
use Rattle.gu_rec.specs.declared.error.RecErr.TheVariants.{BadRef, NoMemory}
use Rattle.gu_rec.specs.Validity.{IsFirstBadRef}

-- a type is named only where it is the first whose indices do not hold
abbrev pub IsCause : TypeList → RecErr → Type 0
IsCause list (BadRef ty) = IsFirstBadRef list ty
IsCause list NoMemory = Unit {0}
