-- What a reader answers, against what the grammar reads at the front of the bytes (core specification 3.0, chapter 5
-- Binary Format).
use Rattle.std.specs.Prelude.{ℕ, ◌+◌, ◌≡◌, List, [], length, take, drop, nat_lt, if◌then◌else◌, Result, Ok, Err}
use Rattle.std.specs.Borrow.{Bor}
use Rattle.gu_bytes.specs.Reading.{signed_at}
use Rattle.gu_syntax.specs.Reading as G
use Rattle.gu_syntax.specs.Reading.{Item, Read, got, refused, ◌>>=◌, u32_as, number, not_negative}
use Rattle.gu_read_parts.specs.declared.stop.Asked.{Asked}
use Rattle.gu_read_parts.specs.declared.stop.Asked.TheVariants as A
use Rattle.gu_read_parts.specs.declared.stop.Stop.{Stop}
use Rattle.gu_read_parts.specs.declared.stop.Stop.TheVariants as S

-- what is asked, in the grammar's word
abbrev pub item_of : Asked → Item
item_of A.HeaderByte = G.HeaderByte
item_of A.SectionId = G.SectionId
item_of A.Size = G.Size
item_of A.Number = G.Number
item_of A.Bytes = G.Bytes
item_of A.Fixed = G.Fixed
item_of A.LimitsFlag = G.LimitsFlag
item_of A.TypeStart = G.TypeStart
item_of A.Opcode = G.Opcode
item_of A.FlatOpcode = G.FlatOpcode
item_of A.End = G.End

-- reading stops where the reader stopped, and asks the same there. Of want of memory nothing is said
abbrev pub Fails : {Y : Type 0} → Stop → Read Y → Type 0
Fails S.NoMemory read = Unit {0}
Fails (S.Refused asked left) read = read ≡ refused (item_of asked) left

-- the reader gave what the grammar reads, and the bytes behind it; or it stopped where reading stops
abbrev pub Gives : {X : Type 0} → Result (X × Bor (List ℕ)) Stop → Read X → Type 0
Gives (Ok x) read = read ≡ got x.0 x.1.now
Gives (Err stop) read = Fails stop read

-- the same of a value that the grammar sees through a view
abbrev pub GivesAs : {X Y : Type 0} → (X → Y) → Result (X × Bor (List ℕ)) Stop → Read Y → Type 0
GivesAs view (Ok x) read = read ≡ got (view x.0) x.1.now
GivesAs view (Err stop) read = Fails stop read

-- the same where nothing may be behind the value
abbrev pub GivesAll : {X : Type 0} → Result X Stop → Read X → Type 0
GivesAll (Ok x) read = read ≡ got x []
GivesAll (Err stop) read = Fails stop read

-- the same of bytes that are only passed
abbrev pub GivesRest : Result (Bor (List ℕ)) Stop → Read (Unit {0}) → Type 0
GivesRest (Ok rest) read = read ≡ got tt rest.now
GivesRest (Err stop) read = Fails stop read

-- how many bytes are left at the place of a stop
abbrev pub left_at : Stop → ℕ
left_at (S.Refused asked left) = left
left_at S.NoMemory = 0

-- how many bytes are left behind what was read, or where the reader stopped
abbrev pub left_of : {X : Type 0} → Result (X × Bor (List ℕ)) Stop → ℕ
left_of (Ok x) = length x.1.now
left_of (Err stop) = left_at stop

abbrev pub left_behind : Result (Bor (List ℕ)) Stop → ℕ
left_behind (Ok rest) = length rest.now
left_behind (Err stop) = left_at stop

-- how many bytes follow, and so many bytes. A count of more than there are is refused at its own place
abbrev pub front_of : Item → (left size : ℕ) → List ℕ → Read (List ℕ)
front_of item left size rest = if nat_lt (length rest) size then refused item left else got (take size rest) (drop size rest)

abbrev pub front_as : Item → List ℕ → Read (List ℕ)
front_as item text = u32_as item text >>= λ size rest. front_of item (length text) size rest

-- a type index where a type may stand
abbrev pub type_index_at : List ℕ → Read ℕ
type_index_at text = number G.TypeStart (length text) (not_negative (signed_at 33 text))

-- a stop inside a content, before what is behind the content
abbrev pub stop_before : (behind : List ℕ) → Stop → Stop
stop_before behind (S.Refused asked left) = S.Refused asked (left + length behind)
stop_before behind S.NoMemory = S.NoMemory
