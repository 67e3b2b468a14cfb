-- What holds of every text and every module of the whole format.
use Rattle.std.specs.Prelude.{ℕ, suc, ◌≤◌, ◌<◌, ◌≡◌, List, [], ◌++◌, length}
use Rattle.std.specs.List.{AllByRecursion}
use Rattle.gu_syntax.specs.Shape.{FitsU32, IsShaped, IsPlain}
use Rattle.gu_syntax.specs.Parts.{Parts, SpellsVector}
use Rattle.gu_syntax.specs.Types.{SpellsGroup}
use Rattle.gu_syntax.specs.Expressions.{Entry, SpellsEntry}
use Rattle.gu_syntax.specs.Module.{Spells}
use Rattle.gu_syntax.specs.Encoding.{encoding}
use Rattle.gu_syntax.specs.Reading.{Fault, FlatOpcode, vector_at, group_at, entry_at, module_at, got, stops}
use Rattle.gu_syntax.specs.Due.{IsMalformed, IsOutside, NestsTooDeep}
use Rattle.gu_syntax.specs.Nesting.{NestsBody, IsShallow}
use Rattle.gu_types.specs.declared.types.RecGroup.{RecGroup}
use Rattle.gu_syntax.specs.declared.module.Func.{Func}
use Rattle.gu_syntax.specs.declared.module.Module.{Module}

-- a text spells at most one module
abbrev pub OneModule : Type 0
OneModule = (text : List ℕ) (m n : Module) → Spells text m → Spells text n → m ≡ n

-- the encoding of every module that is short enough to be written spells it
abbrev pub EncodingSpells : Type 0
EncodingSpells = (m : Module) → IsPlain m → Spells (encoding m) m

-- the merged runs of a function's locals have lengths that the tree can hold
abbrev pub RunsFit : Func → Type 0
RunsFit func = AllByRecursion (λ run. FitsU32 run.0) func.locals

-- what is spelled is shaped, where the tree can hold its numbers: only runs of locals can grow past what is spelled
abbrev pub SpelledIsShaped : Type 0
SpelledIsShaped = (text : List ℕ) (m : Module) → Spells text m → AllByRecursion RunsFit m.funcs → IsShaped m

-- a module is read from a text that spells it, where as many blocks may be open as the text has bytes
abbrev pub ModuleAgain : Type 0
ModuleAgain = (text : List ℕ) (m : Module) → Spells text m → module_at (suc (length text)) text ≡ got m []

-- what is read is spelled by the whole text, however many blocks may be open
abbrev pub ModuleTaken : Type 0
ModuleTaken = (room : ℕ) (text rest : List ℕ) (m : Module) → module_at room text ≡ got m rest → Spells text m

-- where reading stops lies in the text
abbrev pub StopsInside : Type 0
StopsInside = (room : ℕ) (text : List ℕ) (fault : Fault) → module_at room text ≡ stops fault → fault.left ≤ length text

-- where a text is refused it spells no module, but that its blocks may be too deep
abbrev pub RefusedIsUnspelled : Type 0
RefusedIsUnspelled = (room : ℕ) (text : List ℕ) (m : Module) (fault : Fault) → module_at room text ≡ stops fault → Spells text m → fault.item ≡ FlatOpcode

-- where a text is malformed or has a code that is left out it spells no module
abbrev pub MalformedIsUnspelled : Type 0
MalformedIsUnspelled = (text : List ℕ) (place : ℕ) (m : Module) → IsMalformed text place → Spells text m → ⊥

abbrev pub OutsideIsUnspelled : Type 0
OutsideIsUnspelled = (text : List ℕ) (place code : ℕ) (m : Module) → IsOutside text place code → Spells text m → ⊥

-- a module that is spelled is read where as many blocks may be open as it needs
abbrev pub ShallowIsRead : Type 0
ShallowIsRead = (room : ℕ) (text : List ℕ) (m : Module) → Spells text m → IsShallow room m → module_at room text ≡ got m []

-- a module that is read needs no more blocks open than may be
abbrev pub ReadIsShallow : Type 0
ReadIsShallow = (room : ℕ) (text rest : List ℕ) (m : Module) → module_at room text ≡ got m rest → IsShallow room m

-- where a block is opened too deep the text spells no module that nests at most 1,000 deep
abbrev pub DeepIsUnspelled : Type 0
DeepIsUnspelled = (text : List ℕ) (place : ℕ) (m : Module) → NestsTooDeep text place → Spells text m → IsShallow 1000 m → ⊥

-- parts that are read by themselves: the content of a type section, and a code entry

-- the text begins with what P takes, and the rest stands behind that
abbrev pub BeginsWith : (P : List ℕ → Type 0) → (text rest : List ℕ) → Type 0
BeginsWith P text rest = Parts P (λ back. back ≡ rest) text

-- the groups that are spelled are read, whatever follows them
abbrev pub GroupsAgain : Type 0
GroupsAgain = (groups : List RecGroup) (front rest : List ℕ) → SpellsVector SpellsGroup groups front → vector_at group_at (front ++ rest) ≡ got groups rest

-- the groups that are read are spelled by the bytes that reading passes
abbrev pub GroupsTaken : Type 0
GroupsTaken = (text rest : List ℕ) (groups : List RecGroup) → vector_at group_at text ≡ got groups rest → BeginsWith (SpellsVector SpellsGroup groups) text rest

-- where reading stops, the text begins with no groups, and the place lies in the text
abbrev pub GroupsRefused : Type 0
GroupsRefused = (text rest : List ℕ) (groups : List RecGroup) (fault : Fault) → vector_at group_at text ≡ stops fault → BeginsWith (SpellsVector SpellsGroup groups) text rest → ⊥

abbrev pub GroupsStopInside : Type 0
GroupsStopInside = (text : List ℕ) (fault : Fault) → vector_at group_at text ≡ stops fault → fault.left ≤ length text

-- the entry that is spelled is read, whatever follows it, where as many blocks may be open as there are bytes
abbrev pub EntryAgain : Type 0
EntryAgain = (room : ℕ) (entry : Entry) (front rest : List ℕ) → SpellsEntry entry front → length (front ++ rest) < room → entry_at room (front ++ rest) ≡ got entry rest

-- or where as many may be open as its body needs
abbrev pub ShallowEntryAgain : Type 0
ShallowEntryAgain = (room : ℕ) (entry : Entry) (front rest : List ℕ) → SpellsEntry entry front → NestsBody room entry.1 → entry_at room (front ++ rest) ≡ got entry rest

-- the entry that is read is spelled by the bytes that reading passes
abbrev pub EntryTaken : Type 0
EntryTaken = (room : ℕ) (text rest : List ℕ) (entry : Entry) → entry_at room text ≡ got entry rest → BeginsWith (SpellsEntry entry) text rest

-- and its body needs no more blocks open than may be
abbrev pub ReadEntryNests : Type 0
ReadEntryNests = (room : ℕ) (text rest : List ℕ) (entry : Entry) → entry_at room text ≡ got entry rest → NestsBody room entry.1

-- where reading stops, the text begins with no entry, but one that opens a block too deep
abbrev pub EntryRefused : Type 0
EntryRefused = (room : ℕ) (text rest : List ℕ) (entry : Entry) (fault : Fault) → entry_at room text ≡ stops fault → BeginsWith (SpellsEntry entry) text rest → (fault.item ≡ FlatOpcode) × (NestsBody room entry.1 → ⊥)

abbrev pub EntryStopsInside : Type 0
EntryStopsInside = (room : ℕ) (text : List ℕ) (fault : Fault) → entry_at room text ≡ stops fault → fault.left ≤ length text
