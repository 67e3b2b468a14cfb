-- What stands behind the number of an element segment's form (core specification 3.0, 5.5.12 Element Section).
use Rattle.std.specs.Prelude.{ℕ, List}
use Rattle.gu_syntax.specs.declared.module.Elem.{Elem}
use Rattle.gu_syntax.specs.Reading.{Read, Fixed, rows_at, elem_rows}

-- what is read for a form, where the number is given
abbrev pub form_at : (form : ℕ) → List ℕ → Read Elem
form_at form text = rows_at Fixed (elem_rows 1000) 0 form text
