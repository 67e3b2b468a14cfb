-- What the tree holds for a function whose locals are more than it can hold. Such a function is refused by its limit once
-- the whole module is read.
use Rattle.std.specs.Prelude.{ℕ, ◌≡◌, ◌<◌, ◌⊎◌, List, [], Result, Ok, Err}
use Rattle.std.specs.List.{AllZip}
use Rattle.std.specs.Borrow.{Bor}
use Rattle.gu_syntax.specs.declared.module.Func.{Func}
use Rattle.gu_syntax.specs.declared.module.Module.{Module}
use Rattle.gu_syntax.specs.Reading.{Read, got}
use Rattle.gu_read_parts.specs.declared.stop.Stop.{Stop}
use Rattle.gu_read_parts.specs.Gives.{Fails}
use Rattle.gu_read.specs.Limits.{locals_of}

-- the function itself, or one that exceeds the limit on locals as it does
abbrev pub StandsFor : Func → Func → Type 0
StandsFor held func = (held ≡ func) ⊎ ((50000 < locals_of held) × (50000 < locals_of func))

-- the same of each function of a list, and of the functions of a module that is else the same
abbrev pub AllStandFor : List Func → List Func → Type 0
AllStandFor held funcs = AllZip StandsFor held funcs

pub record StandsForModule (held m : Module) : Type 0 where
  pub funcs : AllStandFor held.funcs m.funcs
  pub others : record held { funcs = m.funcs } ≡ m

-- the reader gave what stands for what the grammar reads, and the bytes behind it; or it stopped where reading stops
abbrev pub GivesBy : {X Y : Type 0} → (X → Y → Type 0) → Result (X × Bor (List ℕ)) Stop → Read Y → Type 0
GivesBy {X} {Y} R (Ok x) read = (y : Y) × R x.0 y × (read ≡ got y x.1.now)
GivesBy R (Err stop) read = Fails stop read

-- the same whatever is behind it
abbrev pub GivesFront : {X Y : Type 0} → (X → Y → Type 0) → Result X Stop → Read Y → Type 0
GivesFront {X} {Y} R (Ok x) read = (y : Y) × (rest : List ℕ) × R x y × (read ≡ got y rest)
GivesFront R (Err stop) read = Fails stop read

-- the same where nothing may be behind it
abbrev pub GivesAllBy : {X Y : Type 0} → (X → Y → Type 0) → Result X Stop → Read Y → Type 0
GivesAllBy {X} {Y} R (Ok x) read = (y : Y) × R x y × (read ≡ got y [])
GivesAllBy R (Err stop) read = Fails stop read

-- bytes are passed that the grammar reads, whatever it gives for them
abbrev pub GivesPast : {Y : Type 0} → Result (Bor (List ℕ)) Stop → Read Y → Type 0
GivesPast {Y} (Ok rest) read = (y : Y) × (read ≡ got y rest.now)
GivesPast (Err stop) read = Fails stop read
