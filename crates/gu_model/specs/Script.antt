-- What an embedder does to a module, and what it is shown (core specification 3.0, appendix, Embedding).
use Rattle.std.specs.Prelude.{ℕ, Bool, List, ◌++◌, ◌≡◌, Option}

-- a reference by a name: a function by the number of its import or of its export, what the embedder made by its
-- number, or the reference that was shown so many others before
pub data Token : Type 0 where
  Import : (number : ℕ) → Token
  Export : (number : ℕ) → Token
  Host : (number : ℕ) → Token
  Shown : (number : ℕ) → Token

-- a value as it is given or shown. A value and its external form are one reference with one token: the type of the
-- place picks the form
pub data Given : Type 0 where
  I32 : ℕ → Given
  I64 : ℕ → Given
  Null : Given
  I31 : ℕ → Given
  Ref : Token → Given

-- a tag by the number of its import, of its export, or by the embedder's number
pub data TagName : Type 0 where
  Import : (number : ℕ) → TagName
  Export : (number : ℕ) → TagName
  Host : (number : ℕ) → TagName

-- what is given for the imports of each kind, in order: values, entries, bytes, and the embedder's numbers of tags
-- (module_instantiate)
pub record Opening : Type 0 where
  pub globals : List Given
  pub tables : List (List Given)
  pub memories : List (List ℕ)
  pub tags : List ℕ

pub data Act : Type 0 where
  -- calls the export with a number, with arguments in order (func_invoke)
  Call : (number : ℕ) → (arguments : List Given) → Act
  -- ends the call of an import: with results in order, by a trap, by a new exception, or by one that is known
  Return : (results : List Given) → Act
  Trap : Act
  Throw : TagName → (arguments : List Given) → Act
  Again : Token → Act
  -- answers the question whether a memory or a table may grow
  Answer : (yes' : Bool) → Act

-- a write to an item of the open state, which is counted in the order in which events show it: to a byte of a memory,
-- an entry of a table, or a global (mem_write, table_write, global_write)
pub data Write : Type 0 where
  Byte : (item address byte : ℕ) → Write
  Entry : (item place : ℕ) → Given → Write
  Global : (item : ℕ) → Given → Write

-- the writes are made in order, before the rest
pub record Move : Type 0 where
  pub act : Act
  pub writes : List Write

pub record Script : Type 0 where
  pub opening : Opening
  pub moves : List Move

-- an exception that is shown: with its tag, where that has a name, and then with its arguments in order
pub record Exception : Type 0 where
  pub token : Token
  pub tag : Option TagName
  pub arguments : List Given

pub data What : Type 0 where
  -- the module was instantiated: with the values of its exported immutable globals, in the order of the exports. Or
  -- that ended by a trap or an exception; nothing follows
  Instance : (globals : List Given) → What
  InstanceTrap : What
  InstanceThrown : Exception → What
  -- the import with a number is called, with arguments in order
  CallOut : (number : ℕ) → (arguments : List Given) → What
  -- the innermost call of an export ended
  Result : (results : List Given) → What
  Trap : What
  Thrown : Exception → What
  -- may a memory or a table grow by so many pages or entries?
  AskMemory : (pages : ℕ) → What
  AskTable : (entries : ℕ) → What
  -- the opening or a move was none that the module allows; nothing follows
  Foul : What

-- what is seen of a global, a table or a memory
pub data Item : Type 0 where
  Global : Given → Item
  Table : List Given → Item
  Memory : List ℕ → Item

-- what is shown, with the open state: every memory, table and mutable global that is imported or exported, in the order
-- of the imports and then of the exports, each once
pub record Event : Type 0 where
  pub what : What
  pub state : List Item

-- the second list begins with the first
pub record Begins (a b : List Event) : Type 0 where
  pub rest : List Event
  pub is : b ≡ a ++ rest
