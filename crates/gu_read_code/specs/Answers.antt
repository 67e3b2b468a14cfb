-- What the reader of one code entry answers, where the entry begins at a place in a text (core specification 3.0, 5.5.13
-- Code Section).
use Rattle.std.specs.Prelude.{ℕ, ◌^◌, ◌<◌, ◌≤◌, ◌≡◌, ◌⊎◌, List, ◌++◌, Result, Ok, Err}
use Rattle.gu_bytes.specs.Place.{Place}
use Rattle.gu_bytes.specs.Reads.{Passes}
use Rattle.gu_types.specs.declared.types.ValType.{ValType}
use Rattle.gu_syntax.specs.declared.instr.Body.{Body}
use Rattle.gu_syntax.specs.Expressions.{Entry, SpellsEntry}
use Rattle.gu_syntax.specs.Nesting.{NestsBody}
use Rattle.gu_syntax.specs.Reading.{entry_at}
use Rattle.gu_read_parts.specs.declared.answer.ReadErr.{ReadErr}
use Rattle.gu_read_parts.specs.declared.answer.ReadErr.TheVariants as E
use Rattle.gu_read_parts.specs.declared.answer.Which.TheVariants as W
use Rattle.gu_read_parts.specs.Due.{RefusesAhead}
use Rattle.gu_read_code.specs.Entries.{total}

-- the cursor passed bytes that spell a code entry with these locals and this body. No more than 1,000 blocks are open at
-- once in the body, and the locals are so few that a tree can count them
pub record PassesEntry (locals : List (ℕ × ValType)) (body : Body) (old new : Place) : Type 0 where
  pub front : List ℕ
  pub spells : SpellsEntry (locals, body) front
  pub passes : Passes front old new
  pub nests : NestsBody 1000 body
  pub counted : total locals < 2 ^ 32

-- the text begins with bytes that spell a code entry
pub record HoldsEntry (text : List ℕ) : Type 0 where
  pub locals : List (ℕ × ValType)
  pub body : Body
  pub front : List ℕ
  pub rest : List ℕ
  pub whole : text ≡ front ++ rest
  pub spells : SpellsEntry (locals, body) front

-- no code entry that the text begins with has so few blocks open at once
abbrev pub HoldsNoShallow : List ℕ → Type 0
HoldsNoShallow text = (entry : HoldsEntry text) → NestsBody 1000 entry.body → ⊥

-- the text begins with an entry that a tree can hold
abbrev pub HasEntry : List ℕ → Type 0
HasEntry text = (entry : HoldsEntry text) × NestsBody 1000 entry.body × (total entry.locals < 2 ^ 32)

-- the text begins with an entry that has so many locals that a tree can't count them
abbrev pub HasTooMany : List ℕ → Type 0
HasTooMany text = (entry : HoldsEntry text) × NestsBody 1000 entry.body × (2 ^ 32 ≤ total entry.locals)

-- why no entry was read. The limit on locals names no place. Else none stands at the cursor, or none that nests no deeper,
-- and the answer says why where the grammar is read. No other limit is answered, and of want of memory nothing is said
abbrev pub RefusesEntry : Place → ReadErr → Type 0
RefusesEntry cursor (E.Limit W.Locals place) = (place ≡ 0) × HasTooMany cursor.rest
RefusesEntry cursor (E.Limit W.Nesting place) = HoldsNoShallow cursor.rest × RefusesAhead (entry_at 1000) cursor (E.Limit W.Nesting place)
RefusesEntry cursor (E.Limit which place) = ⊥
RefusesEntry cursor E.NoMemory = Unit {0}
RefusesEntry cursor err = (HoldsEntry cursor.rest → ⊥) × RefusesAhead (entry_at 1000) cursor err

-- the limit on locals is answered, or want of memory
abbrev pub IsCounted : Result Entry ReadErr → Type 0
IsCounted (Ok entry) = ⊥
IsCounted (Err err) = (err ≡ E.Limit W.Locals 0) ⊎ (err ≡ E.NoMemory)
