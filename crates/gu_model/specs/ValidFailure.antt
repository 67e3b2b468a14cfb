-- Which part of a module is the first that fails (core specification 3.0, 3.5 Modules). The order is that of the parts
-- of `Valid`; among the types the references come first, over all groups.
use Rattle.std.specs.Prelude.{ℕ, ◌<◌, ◌⊎◌, length}
use Rattle.gu_rec.specs.Validity.{IsFirstBadRef, IsFirstBadSuper}
use Rattle.gu_syntax.specs.declared.module.Module.{Module}
use Rattle.gu_model.specs.declared.part.Part.{Part}
use Rattle.gu_model.specs.declared.part.Part.TheVariants as P
use Rattle.gu_model.specs.Valid.{EachBelow, ImportHolds, FuncHolds, TableHolds, MemoryHolds, TagHolds, GlobalHolds, ExportHolds, ElementHolds, CodeHolds, DataHolds, ValidTypes, ValidImports, ValidFuncs, ValidTables, ValidMemories, ValidTags, ValidGlobals, ValidExports, ValidStart, ValidElements, ValidCount, ValidCode}

-- the first number below a bound that lacks a property
abbrev pub IsFirstWithout : ℕ → (ℕ → Type 0) → ℕ → Type 0
IsFirstWithout n P i = (i < n) × (P i → ⊥) × EachBelow i P

-- the first type that fails: the first whose indices do not hold, or, where all indices hold, the first that may not
-- declare the supertype that it declares
abbrev pub IsFirstType : Module → ℕ → Type 0
IsFirstType m i = IsFirstBadRef m.types i ⊎ IsFirstBadSuper m.types i

-- a part fails, and all parts of its kind before it hold
abbrev pub Fails : Module → Part → Type 0
Fails m (P.Ty i) = IsFirstType m i
Fails m (P.Import i) = IsFirstWithout (length m.imports) (ImportHolds m) i
Fails m (P.Func i) = IsFirstWithout (length m.funcs) (FuncHolds m) i
Fails m (P.Table i) = IsFirstWithout (length m.tables) (TableHolds m) i
Fails m (P.Memory i) = IsFirstWithout (length m.memories) (MemoryHolds m) i
Fails m (P.Tag i) = IsFirstWithout (length m.tags) (TagHolds m) i
Fails m (P.Global i) = IsFirstWithout (length m.globals) (GlobalHolds m) i
Fails m (P.Export i) = IsFirstWithout (length m.exports) (ExportHolds m) i
Fails m P.Start = ValidStart m → ⊥
Fails m (P.Element i) = IsFirstWithout (length m.elems) (ElementHolds m) i
Fails m P.Count = ValidCount m → ⊥
Fails m (P.Code i) = IsFirstWithout (length m.funcs) (CodeHolds m) i
Fails m (P.DataSeg i) = IsFirstWithout (length m.segs) (DataHolds m) i

-- the place of a kind of parts in the order
abbrev pub place : Part → ℕ
place (P.Ty i) = 0
place (P.Import i) = 1
place (P.Func i) = 2
place (P.Table i) = 3
place (P.Memory i) = 4
place (P.Tag i) = 5
place (P.Global i) = 6
place (P.Export i) = 7
place P.Start = 8
place (P.Element i) = 9
place P.Count = 10
place (P.Code i) = 11
place (P.DataSeg i) = 12

-- all parts of the kinds before a place hold
pub record HoldBefore (m : Module) (n : ℕ) : Type 0 where
  pub types : 0 < n → ValidTypes m
  pub imports : 1 < n → ValidImports m
  pub funcs : 2 < n → ValidFuncs m
  pub tables : 3 < n → ValidTables m
  pub memories : 4 < n → ValidMemories m
  pub tags : 5 < n → ValidTags m
  pub globals : 6 < n → ValidGlobals m
  pub exports : 7 < n → ValidExports m
  pub start : 8 < n → ValidStart m
  pub elements : 9 < n → ValidElements m
  pub count : 10 < n → ValidCount m
  pub code : 11 < n → ValidCode m

-- a part fails, and all parts before it hold
abbrev pub IsFirstFailure : Module → Part → Type 0
IsFirstFailure m p = HoldBefore m (place p) × Fails m p
