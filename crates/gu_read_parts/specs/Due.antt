-- Why a text is refused: what a part of the grammar, read from the left, asks at a place where that does not stand
-- (core specification 3.0, chapter 5 Binary Format).
use Rattle.std.specs.Prelude.{ℕ, ◌+◌, ◌≡◌, ◌≢◌, List, length, drop, Some, None}
use Rattle.gu_bytes.specs.Place.{Place}
use Rattle.gu_syntax.specs.Reading.{Item, Read, FlatOpcode, refused}
use Rattle.gu_syntax.specs.Due.{outside}
use Rattle.gu_read_parts.specs.declared.answer.ReadErr.{ReadErr}
use Rattle.gu_read_parts.specs.declared.answer.ReadErr.TheVariants as E
use Rattle.gu_read_parts.specs.declared.answer.Which.TheVariants as W
use Rattle.gu_read_parts.specs.declared.stop.Stop.{Stop}
use Rattle.gu_read_parts.specs.declared.stop.Stop.TheVariants as S
use Rattle.gu_read_parts.specs.Gives.{item_of}

-- where this part of the grammar is read at the front of the text, all that is asked before this place stands, and at
-- this place an item is asked that does not
pub record DueIn {X : Type 0} (part : List ℕ → Read X) (text : List ℕ) (place : ℕ) (item : Item) : Type 0 where
  pub left : ℕ
  pub here : place + left ≡ length text
  pub stopped : part text ≡ refused item left

-- what is asked there is missing, and no code of the standard stands in its place
pub record IsMalformedIn {X : Type 0} (part : List ℕ → Read X) (text : List ℕ) (place : ℕ) : Type 0 where
  pub item : Item
  pub due : DueIn part text place item
  pub shallow : item ≢ FlatOpcode
  pub unnamed : outside item (drop place text) ≡ None

-- a code of the standard stands there that is left out of the profile
pub record IsOutsideIn {X : Type 0} (part : List ℕ → Read X) (text : List ℕ) (place code : ℕ) : Type 0 where
  pub item : Item
  pub due : DueIn part text place item
  pub named : outside item (drop place text) ≡ Some code

-- what is answered where this part of the grammar does not stand at the front of the text: of the limits only that on
-- nesting, at a block that is opened where as many are open as may be. Of want of memory nothing is said
abbrev pub Refuses : {X : Type 0} → (List ℕ → Read X) → List ℕ → ReadErr → Type 0
Refuses part text (E.Malformed place) = IsMalformedIn part text place
Refuses part text (E.OutOfProfile place code) = IsOutsideIn part text place code
Refuses part text (E.Limit which place) = (which ≡ W.Nesting) × DueIn part text place FlatOpcode
Refuses part text E.NoMemory = Unit {0}

-- the same of what stands at a cursor: places are counted from the start of its text
abbrev pub RefusesAhead : {X : Type 0} → (List ℕ → Read X) → Place → ReadErr → Type 0
RefusesAhead part cursor (E.Malformed place) = (ahead : ℕ) × (place ≡ cursor.at + ahead) × IsMalformedIn part cursor.rest ahead
RefusesAhead part cursor (E.OutOfProfile place code) = (ahead : ℕ) × (place ≡ cursor.at + ahead) × IsOutsideIn part cursor.rest ahead code
RefusesAhead part cursor (E.Limit which place) = (which ≡ W.Nesting) × ((ahead : ℕ) × (place ≡ cursor.at + ahead) × DueIn part cursor.rest ahead FlatOpcode)
RefusesAhead part cursor E.NoMemory = Unit {0}

-- what an item that does not stand with so many bytes left is answered as
abbrev pub AnswersItem : (text : List ℕ) → Item → (left : ℕ) → ReadErr → Type 0
AnswersItem text item left (E.Malformed place) = (place + left ≡ length text) × (item ≢ FlatOpcode) × (outside item (drop place text) ≡ None)
AnswersItem text item left (E.OutOfProfile place code) = (place + left ≡ length text) × (outside item (drop place text) ≡ Some code)
AnswersItem text item left (E.Limit which place) = (which ≡ W.Nesting) × (place + left ≡ length text) × (item ≡ FlatOpcode)
AnswersItem text item left E.NoMemory = ⊥

-- what a stop is answered as
abbrev pub Answers : (text : List ℕ) → Stop → ReadErr → Type 0
Answers text S.NoMemory err = err ≡ E.NoMemory
Answers text (S.Refused asked left) err = AnswersItem text (item_of asked) left err

-- an answer whose places are counted from further ahead
abbrev pub later : (passed : ℕ) → ReadErr → ReadErr
later passed (E.Malformed place) = E.Malformed (passed + place)
later passed (E.OutOfProfile place code) = E.OutOfProfile (passed + place) code
later passed (E.Limit which place) = E.Limit which (passed + place)
later passed E.NoMemory = E.NoMemory

-- what a stop at a cursor is answered as
abbrev pub AnswersAhead : Place → Stop → ReadErr → Type 0
AnswersAhead cursor stop err = (ahead : ReadErr) × (err ≡ later cursor.at ahead) × Answers cursor.rest stop ahead

-- the place that an answer names
abbrev pub place_of : ReadErr → ℕ
place_of (E.Malformed place) = place
place_of (E.OutOfProfile place code) = place
place_of (E.Limit which place) = place
place_of E.NoMemory = 0
