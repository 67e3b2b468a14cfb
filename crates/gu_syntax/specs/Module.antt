-- How modules are spelled (core specification 3.0, 5.5 Modules). A text is whole: nothing stands before what it
-- spells, and nothing behind.
use Rattle.std.specs.Prelude.{ℕ, ◌≡◌, ◌⊎◌, List, [], ◌∷◌, Bool, true, false, Option, Some, None, length}
use Rattle.gu_syntax.specs.declared.module.Module.{Module}
use Rattle.gu_syntax.specs.Parts.{Parts, Begins, Sized, SpellsItems, SpellsVector, SpellsName, SpellsSome}
use Rattle.gu_syntax.specs.Types.{SpellsGroup, SpellsLimits}
use Rattle.gu_syntax.specs.Expressions.{SpellsFunc}
use Rattle.gu_syntax.specs.Sections.{SpellsImport, SpellsTypeIndex, SpellsTable, SpellsTag, SpellsGlobal, SpellsExport, SpellsElem, SpellsSeg}

-- a custom section, which says nothing of the module: a name, and bytes (5.5.3 Custom Section)
pub record Custom : Type 0 where
  pub name : List ℕ
  pub bytes : List ℕ

abbrev pub SpellsCustom : Custom → List ℕ → Type 0
SpellsCustom custom text = Begins 0 (Sized (Parts (SpellsName custom.name) (λ back. back ≡ custom.bytes))) text

-- any custom sections
pub record SpellsCustoms (text : List ℕ) : Type 0 where
  pub customs : List Custom
  pub items : SpellsItems SpellsCustom customs text

-- a section, and the custom sections behind it. It may be absent where it has nothing to say (5.5.2 Sections)
abbrev pub SpellsSection : {X : Type 0} → (id : ℕ) → (nothing : X) → (X → List ℕ → Type 0) → X → List ℕ → Type 0
SpellsSection id nothing P x text = ((x ≡ nothing) × (text ≡ [])) ⊎ Begins id (Parts (Sized (P x)) SpellsCustoms) text

-- a section of items
abbrev pub SpellsList : {X : Type 0} → ℕ → (X → List ℕ → Type 0) → List X → List ℕ → Type 0
SpellsList id P xs text = SpellsSection id [] (SpellsVector P) xs text

-- how many data segments there are, where the module says so before its code (5.5.15 Data Count Section)
abbrev pub counted : Bool → ℕ → Option ℕ
counted false n = None
counted true n = Some n

-- the sections from the last to the first: each with those behind it
abbrev pub SpellsSegs : Module → List ℕ → Type 0
SpellsSegs m text = SpellsList 11 SpellsSeg m.segs text

abbrev pub SpellsBodies : Module → List ℕ → Type 0
SpellsBodies m text = Parts (SpellsList 10 SpellsFunc m.funcs) (SpellsSegs m) text

abbrev pub SpellsCount : Module → List ℕ → Type 0
SpellsCount m text = Parts (SpellsSection 12 None SpellsSome (counted m.has_count (length m.segs))) (SpellsBodies m) text

abbrev pub SpellsElems : Module → List ℕ → Type 0
SpellsElems m text = Parts (SpellsList 9 SpellsElem m.elems) (SpellsCount m) text

abbrev pub SpellsStarts : Module → List ℕ → Type 0
SpellsStarts m text = Parts (SpellsSection 8 None SpellsSome m.start) (SpellsElems m) text

abbrev pub SpellsExports : Module → List ℕ → Type 0
SpellsExports m text = Parts (SpellsList 7 SpellsExport m.exports) (SpellsStarts m) text

abbrev pub SpellsGlobals : Module → List ℕ → Type 0
SpellsGlobals m text = Parts (SpellsList 6 SpellsGlobal m.globals) (SpellsExports m) text

abbrev pub SpellsTags : Module → List ℕ → Type 0
SpellsTags m text = Parts (SpellsList 13 SpellsTag m.tags) (SpellsGlobals m) text

abbrev pub SpellsMemories : Module → List ℕ → Type 0
SpellsMemories m text = Parts (SpellsList 5 SpellsLimits m.memories) (SpellsTags m) text

abbrev pub SpellsTables : Module → List ℕ → Type 0
SpellsTables m text = Parts (SpellsList 4 SpellsTable m.tables) (SpellsMemories m) text

abbrev pub SpellsFuncs : Module → List ℕ → Type 0
SpellsFuncs m text = Parts (SpellsList 3 SpellsTypeIndex m.funcs) (SpellsTables m) text

abbrev pub SpellsImports : Module → List ℕ → Type 0
SpellsImports m text = Parts (SpellsList 2 SpellsImport m.imports) (SpellsFuncs m) text

abbrev pub SpellsSections : Module → List ℕ → Type 0
SpellsSections m text = Parts (SpellsList 1 SpellsGroup m.types.groups) (SpellsImports m) text

-- the magic number and the version (5.5.17 Modules)
abbrev pub header : List ℕ
header = 0x00 ∷ 0x61 ∷ 0x73 ∷ 0x6D ∷ 0x01 ∷ 0x00 ∷ 0x00 ∷ 0x00 ∷ []

-- the text spells the module: the magic number and the version, custom sections, and the other sections, each with
-- custom sections behind it (5.5.17 Modules)
pub record Spells (text : List ℕ) (m : Module) : Type 0 where
  pub whole : Parts (λ front. front ≡ header) (Parts SpellsCustoms (SpellsSections m)) text
