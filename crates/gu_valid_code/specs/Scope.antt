-- What stands round a place in a body, as the code has it.
use Rattle.std.specs.Prelude.{List, [], ◌∷◌}
use Rattle.std.specs.Borrow.{Bor}
use Rattle.gu_types.specs.declared.types.ValType.{ValType}
use Rattle.gu_model.specs.TypingContext.{Around}

abbrev pub parts_of : Bor (List ValType) × ValType → List ValType × ValType
parts_of parts = (parts.0.now, parts.1)

abbrev pub outer : List (List ValType) → List (List ValType)
outer [] = []
outer (label ∷ labels) = labels

-- without the innermost label
abbrev pub left : Around → Around
left a = record a { labels = outer a.labels }
