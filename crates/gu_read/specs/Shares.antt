-- Batches of code entries, which are read apart and joined in order.
use Rattle.std.specs.Prelude.{ℕ, ◌≡◌, ◌-◌, ◌/◌, ◌%◌, ◌^◌, ◌≤◌, List, ◌++◌, take, drop, Result}
use Rattle.gu_syntax.specs.declared.module.Func.{Func}
use Rattle.gu_syntax.specs.Reading.{got, entries_at}
use Rattle.gu_read_parts.specs.declared.stop.Stop.{Stop}
use Rattle.gu_read.specs.Standing.{AllStandFor, GivesFront}

-- where entries of these types are read at the front of the text, they end where the text goes on like this
pub record EndsAt (tys text rest : List ℕ) : Type 0 where
  pub ends : (funcs : List Func) (behind : List ℕ) → entries_at 1000 tys text ≡ got funcs behind → behind ≡ rest

-- these are the last bytes of a text
abbrev pub IsBehind : (rest text : List ℕ) → Type 0
IsBehind rest text = (front : List ℕ) × (text ≡ front ++ rest)

-- a place is the number of an entry, 2 ^ 32 times, and how many bytes are before the entry
abbrev pub number_of : ℕ → ℕ
number_of place = place / 2 ^ 32

abbrev pub offset_of : ℕ → ℕ
offset_of place = place % 2 ^ 32

-- the types and the bytes from a place on, and the types between two places
abbrev pub types_from : List ℕ → ℕ → List ℕ
types_from tys place = drop (number_of place) tys

abbrev pub bytes_from : List ℕ → ℕ → List ℕ
bytes_from bytes place = drop (offset_of place) bytes

abbrev pub types_between : List ℕ → (start end : ℕ) → List ℕ
types_between tys start end = take (number_of end - number_of start) (types_from tys start)

-- the entries that start at the first place end at the second
pub record Ends (tys bytes : List ℕ) (start end : ℕ) : Type 0 where
  pub forward : number_of start ≤ number_of end
  pub ends : EndsAt (types_between tys start end) (bytes_from bytes start) (bytes_from bytes end)

-- the functions between two places are what the grammar reads there
abbrev pub Makes : (tys bytes : List ℕ) (start end : ℕ) → Result (List Func) Stop → Type 0
Makes tys bytes start end made = GivesFront AllStandFor made (entries_at 1000 (types_between tys start end) (bytes_from bytes start))
