-- When an error comes.
use Rattle.gu_types.specs.declared.types.TypeList.{TypeList}
use Rattle.gu_valid_types.specs.declared.error.TypesErr.{TypesErr}
use Rattle.gu_valid_types.specs.declared.error.TypesErr.TheVariants.{BadRef, BadSuper, NoMemory}
use Rattle.gu_rec.specs.Validity.{IsFirstBadRef, IsFirstBadSuper}

-- a type is named only where it is the first at fault
abbrev pub IsCause : TypeList → TypesErr → Type 0
IsCause list (BadRef ty) = IsFirstBadRef list ty
IsCause list (BadSuper ty) = IsFirstBadSuper list ty
IsCause list NoMemory = Unit {0}
