-- What a code entry is read as (core specification 3.0, 5.5.13 Code Section).
use Rattle.std.specs.Prelude.{ℕ, ◌+◌, ◌^◌, ◌<◌, ◌≤◌, ◌≡◌, List, [], ◌∷◌, Option, Some, None, Result, Ok, Err, nat_lt, if◌then◌else◌}
use Rattle.std.specs.Borrow.{Bor}
use Rattle.gu_types.specs.declared.types.ValType.{ValType}
use Rattle.gu_syntax.specs.declared.instr.Body.{Body}
use Rattle.gu_syntax.specs.Expressions.{merged}
use Rattle.gu_syntax.specs.Reading.{Read, got, made_at, both_at, vector_at, run_at, body_at}
use Rattle.gu_read_parts.specs.declared.stop.Stop.{Stop}
use Rattle.gu_read_parts.specs.Gives.{Fails}
use Rattle.gu_read_code.specs.declared.entries.Entry.{Entry}
use Rattle.gu_read_code.specs.declared.entries.Entry.TheVariants as N

-- how many locals runs have
abbrev pub total : List (ℕ × ValType) → ℕ
total [] = 0
total (run ∷ runs) = run.0 + total runs

-- these locals and this body are held as they are, or are locals that a tree can't count
abbrev pub IsEntry : Entry → List (ℕ × ValType) × Body → Type 0
IsEntry (N.Whole locals body) pair = (pair ≡ (locals, body)) × (total pair.0 < 2 ^ 32)
IsEntry N.TooMany pair = 2 ^ 32 ≤ total pair.0

-- the reader gave what the grammar reads, and the bytes behind it; or it stopped where reading stops
abbrev pub GivesEntry : Result (Entry × Bor (List ℕ)) Stop → Read (List (ℕ × ValType) × Body) → Type 0
GivesEntry (Ok x) read = (pair : List (ℕ × ValType) × Body) × (read ≡ got pair x.1.now) × IsEntry x.0 pair
GivesEntry (Err stop) read = Fails stop read

-- runs as they are spelled, merged where a tree can count their locals
abbrev pub held_runs : List (ℕ × ValType) → Option (List (ℕ × ValType))
held_runs runs = if nat_lt (total runs) (2 ^ 32) then Some (merged runs) else None

-- runs as they are spelled and a body, as an entry is held
abbrev pub held_of : Option (List (ℕ × ValType)) → Body → Entry
held_of (Some locals) body = N.Whole locals body
held_of None body = N.TooMany

abbrev pub held : List (ℕ × ValType) × Body → Entry
held x = held_of (held_runs x.0) x.1

-- what is inside the size of an entry
abbrev pub inside_at : (room : ℕ) → List ℕ → Read Entry
inside_at room text = made_at held (both_at (vector_at run_at) (body_at room)) text
