-- What the reader of types answers (core specification 3.0, 5.5.4 Type Section).
use Rattle.std.specs.Prelude.{ℕ, ◌≡◌, List, ◌++◌}
use Rattle.gu_bytes.specs.Place.{Place}
use Rattle.gu_bytes.specs.Reads.{Passes}
use Rattle.gu_types.specs.declared.types.RecGroup.{RecGroup}
use Rattle.gu_syntax.specs.Parts.{SpellsVector}
use Rattle.gu_syntax.specs.Types.{SpellsGroup}
use Rattle.gu_syntax.specs.Reading.{Read, group_at, vector_at}
use Rattle.gu_read_parts.specs.declared.answer.ReadErr.{ReadErr}
use Rattle.gu_read_parts.specs.declared.answer.ReadErr.TheVariants as E
use Rattle.gu_read_parts.specs.Due.{RefusesAhead}

-- these groups, as a vector, are spelled by the text
abbrev pub SpellsTypes : List RecGroup → List ℕ → Type 0
SpellsTypes groups text = SpellsVector SpellsGroup groups text

-- the cursor passed bytes that spell these groups
pub record PassesTypes (groups : List RecGroup) (old new : Place) : Type 0 where
  pub front : List ℕ
  pub spells : SpellsTypes groups front
  pub passes : Passes front old new

-- no front of the text spells types
abbrev pub HoldsNoTypes : List ℕ → Type 0
HoldsNoTypes text = (front rest : List ℕ) (groups : List RecGroup) → text ≡ front ++ rest → SpellsTypes groups front → ⊥

-- where the grammar of types is read at the cursor, no types stand there, and the answer says why. No limit is answered,
-- and of want of memory nothing is said
abbrev pub RefusesTypes : Place → ReadErr → Type 0
RefusesTypes cursor (E.Limit which place) = ⊥
RefusesTypes cursor E.NoMemory = Unit {0}
RefusesTypes cursor err = HoldsNoTypes cursor.rest × RefusesAhead (vector_at group_at) cursor err
